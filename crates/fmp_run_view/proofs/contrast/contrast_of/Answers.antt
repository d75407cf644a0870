use Rattle.std.proofs.Common.{sym, ap, ◌∙◌, arith}
use Rattle.fmp_bytes.proofs.Cutting.{shorter}
use Rattle.fmp_run_view.specs.Given.{given_text}
use Rattle.fmp_run_view.proofs.NoDifference.{none_differs}
use Rattle.fmp_run_view.proofs.SoFarBeside.{goes_on_beside, is_reported_beside, whole_beside}
use Rattle.fmp_run_view.proofs.contrast.contrast_of.Goals as goal

pub loop-line-smaller : goal.loop-line-smaller
loop-line-smaller c = shorter 10 c.loop-line.rest.now c.in-Some.after.now c.in-Some.ensures.rest

-- each line of a text that prints records tells an event
pub returns-in_default-event_of-clause-own : goal.returns-in_default-event_of-clause-own
returns-in_default-event_of-clause-own c = λ records prints.
    absurd (is_reported_beside c.names-names.result.now c.validity.ensures c.loop-line.number c.loop-line.plain.state c.loop-line.rest.now _ _ _ _ (c.loop-line.invariant.so_far records prints)
    c.in-Some.line.now c.in-Some.after.now c.in-Some.ensures.line c.in-Some.ensures.rest (sym c.event_of.ensures ∙ c.in_default-event_of.is))

pub returns-in_default-event_of-clause-given : goal.returns-in_default-event_of-clause-given
returns-in_default-event_of-clause-given c = λ records prints.
    absurd (is_reported_beside c.names-names.result.now c.validity.ensures c.loop-line.number c.loop-line.plain.state c.loop-line.rest.now _ _ _ _ (c.loop-line.invariant.so_far records prints)
    c.in-Some.line.now c.in-Some.after.now c.in-Some.ensures.line c.in-Some.ensures.rest (sym c.event_of.ensures ∙ c.in_default-event_of.is))

pub returns-in_default-event_of-clause-same : goal.returns-in_default-event_of-clause-same
returns-in_default-event_of-clause-same c = λ records prints own.
    absurd (is_reported_beside c.names-names.result.now c.validity.ensures c.loop-line.number c.loop-line.plain.state c.loop-line.rest.now _ _ _ _ (c.loop-line.invariant.so_far records prints)
    c.in-Some.line.now c.in-Some.after.now c.in-Some.ensures.line c.in-Some.ensures.rest (sym c.event_of.ensures ∙ c.in_default-event_of.is))

pub loop-line-preserved : goal.loop-line-preserved
loop-line-preserved c = record {
  so_far = λ records prints.
      goes_on_beside c.names-names.result.now c.validity.ensures c.loop-line.number c.loop-line.plain.state c.loop-line.rest.now _ _ _ _ (c.loop-line.invariant.so_far records prints)
      c.in-Some.line.now c.in-Some.after.now c.in-Some.ensures.line c.in-Some.ensures.rest c.in-Some-event_of.event c.step_into.new.self.state c.step_into.new.report _ _
      (sym c.event_of.ensures ∙ c.in-Some-event_of.is) c.step_into.ensures.step c.in_ok-add.ensures.own c.in_ok-add.ensures.given;
  steps = omega (arith, c.loop-line.invariant.steps, c.step_into.ensures.steps);
  left = omega (arith, c.loop-line.invariant.left, shorter 10 c.loop-line.rest.now c.in-Some.after.now c.in-Some.ensures.rest);
}

pub returns-clause-own : goal.returns-clause-own
returns-clause-own c = λ records prints.
    (whole_beside c.names-names.result.now c.validity.ensures c.loop-line.number c.loop-line.plain.state c.loop-line.rest.now _ _ _ _ (c.loop-line.invariant.so_far records prints) c.in_default.ensures.none).0

pub returns-clause-given : goal.returns-clause-given
returns-clause-given c = λ records prints.
    (whole_beside c.names-names.result.now c.validity.ensures c.loop-line.number c.loop-line.plain.state c.loop-line.rest.now _ _ _ _ (c.loop-line.invariant.so_far records prints) c.in_default.ensures.none).1

pub returns-clause-same : goal.returns-clause-same
returns-clause-same c = λ records prints own.
    let whole = whole_beside c.names-names.result.now c.validity.ensures c.loop-line.number c.loop-line.plain.state c.loop-line.rest.now _ _ _ _ (c.loop-line.invariant.so_far records prints) c.in_default.ensures.none in
    let none = none_differs c.args.config.now c.args.text.now records (rw c.names-names.ensures.value at c.validity.ensures) prints own in
    (whole.0 ∙ sym own, whole.1 ∙ ap given_text none)
