use Rattle.std.proofs.Common.{◌≡◌, ◌∙◌, ◌++◌, ◌∷◌, [], ◌+◌, ℕ, List, length, take, ap, sym, subst, arith}
use Rattle.std.proofs.lemmas.List.{take_all, take_more, length-take-le}
use Rattle.fmp_codes.specs.declared.records.Event.{Event}
use Rattle.fmp_codes.specs.declared.records.Record.{Record}
use Rattle.fmp_names.specs.Names.{NameLists}
use Rattle.fmp_rules.specs.Arrivals.{State, numbered}
use Rattle.fmp_rules.specs.Boot.{booted}
use Rattle.fmp_rules.specs.Step.{answers, replay, step}
use Rattle.fmp_rules.proofs.Replays.{answers_more, length-answers, replay_more}
use Rattle.fmp_law_lists.specs.Stands.{Stands}
use Rattle.fmp_trace.specs.Lines.{line_text, lines_from}
use Rattle.fmp_run_seeds.proofs.Printed.{line_more}
use Rattle.fmp_run_seeds.proofs.seeking.traced.Goals as goal

pub loop-event-preserved : goal.loop-event-preserved
loop-event-preserved c =
    let config = c.args.config.now in
    let names = c.names-names.result.now in
    let events = c.args.events.now in
    let index = c.loop-event.event-index in
    let given = take index events in
    let e = c.event-item.result in
    let here = c.loop-event-test.true in
    let so_far = c.loop-event.invariant in
    let m = replay numbered (booted config) given in
    let longer : take (index + 1) events ≡ given ++ e ∷ [] = take_more events index e here ∙ ap (λ (x : Event). given ++ x ∷ []) (sym c.event-item.is) in
    let report : Record = (step numbered m e).1 in
    let is = c.step_into.ensures.record m so_far.stands in
    let count = so_far.count in
    let long = length-answers (booted config) given ∙ length-take-le index events (omega (arith, here)) in
    let number : c.loop-event.n + 1 ≡ 1 + length (answers numbered (booted config) given) = omega (arith, count, long) in
    record {
      stands =
          subst (λ (x : State). Stands c.step_into.new.self x) (sym (ap (replay numbered (booted config)) longer ∙ replay_more (booted config) given e))
          (c.step_into.ensures.stands m so_far.stands);
      processors = c.step_into.ensures.processors ∙ so_far.processors;
      made =
          c.in_ok-put_line.ensures.ok ∙ ap (λ (x : List ℕ). x ++ line_text names (c.loop-event.n + 1) c.step_into.new.report) so_far.made
          ∙ ap (λ (r : Record). lines_from names 1 (answers numbered (booted config) given) ++ line_text names (c.loop-event.n + 1) r) is
          ∙ ap (λ (k : ℕ). lines_from names 1 (answers numbered (booted config) given) ++ line_text names k report) number
          ∙ sym (line_more names 1 (answers numbered (booted config) given) report)
          ∙ ap (lines_from names 1) (sym (ap (answers numbered (booted config)) longer ∙ answers_more (booted config) given e));
      count = ap (λ (n : ℕ). n + 1) count;
    }

pub returns : goal.returns
returns c =
    let config = c.args.config.now in
    let events = c.args.events.now in
    let all : take c.loop-event.event-index events ≡ events = take_all c.loop-event.event-index events (omega (arith, c.loop-event-test.false)) in
    c.loop-event.invariant.made ∙ ap (λ (es : List Event). lines_from c.names-names.result.now 1 (answers numbered (booted config) es)) all
    ∙ ap (λ (lists : NameLists). lines_from lists 1 (answers numbered (booted config) events)) c.names-names.ensures.value
