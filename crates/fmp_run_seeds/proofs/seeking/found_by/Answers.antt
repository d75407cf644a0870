use Rattle.std.proofs.Common.{◌≡◌, ◌∙◌, List, Option, length, ap, refl, subst}
use Rattle.std.specs.Global.{Vec}
use Rattle.fmp_codes.specs.declared.records.Event.{Event}
use Rattle.fmp_names.specs.Names.{AreValid}
use Rattle.fmp_rules.specs.Arrivals.{numbered}
use Rattle.fmp_rules.specs.Boot.{booted}
use Rattle.fmp_rules.specs.Step.{answers}
use Rattle.fmp_trace.specs.Lines.{lines_from}
use Rattle.fmp_run_seeds.specs.Found.{Reaches, waiting_after}
use Rattle.fmp_run_seeds.proofs.Trying.{front_few, front_found, front_on}
use Rattle.fmp_run_seeds.proofs.seeking.found_by.Goals as goal

pub returns : goal.returns
returns c =
    let a = c.args in
    let config = a.config.now in
    let reaches = subst (Reaches a.runs config a.scripts.now a.question.now a.seed) c.in-Some.is c.in_ok-front.ensures in
    let events = c.as_slice-events.ensures.value in (
      front_found a.runs config a.scripts.now a.question.now a.seed c.in-Some.front reaches c.in_ok-text.text.items c.in_ok-waiting.waiting.items
          (length c.as_slice-events.result.now) (ap (λ (l : List Event). length l) events) c.names-names.ensures.valid (subst AreValid c.names-names.ensures.value c.validity.ensures)
          c.requires.in_bits (c.in_ok-text.ensures ∙ ap (λ (l : List Event). lines_from config.names 1 (answers numbered (booted config) l)) events)
          (c.in_ok-waiting.ensures ∙ ap (waiting_after config) events),
      refl,
    )

pub traced-requires-clause-on : goal.traced-requires-clause-on
traced-requires-clause-on c =
    let a = c.args in
    let reaches = subst (Reaches a.runs a.config.now a.scripts.now a.question.now a.seed) c.in-Some.is c.in_ok-front.ensures in
    rw c.as_slice-events.ensures.value (front_on a.runs a.config.now a.scripts.now a.question.now a.seed c.in-Some.front reaches)

pub traced-requires-clause-few : goal.traced-requires-clause-few
traced-requires-clause-few c =
    let a = c.args in
    let reaches = subst (Reaches a.runs a.config.now a.scripts.now a.question.now a.seed) c.in-Some.is c.in_ok-front.ensures in
    rw c.as_slice-events.ensures.value (front_few a.runs a.config.now a.scripts.now a.question.now a.seed c.in-Some.front reaches)

pub waiting_after-requires : goal.waiting_after-requires
waiting_after-requires c =
    let a = c.args in
    let reaches = subst (Reaches a.runs a.config.now a.scripts.now a.question.now a.seed) c.in-Some.is c.in_ok-front.ensures in
    rw c.as_slice-events.ensures.value (front_on a.runs a.config.now a.scripts.now a.question.now a.seed c.in-Some.front reaches)
