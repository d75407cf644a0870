use Rattle.std.proofs.Common.{◌≡◌, false, sym, ap, ◌∙◌}
use Rattle.std.proofs.lemmas.Result.{err_from_is_err_and}
use Rattle.fmp_text.specs.Lines.{is_skipped, without_return}
use Rattle.fmp_text.specs.Places.{event_in, place_of}
use Rattle.fmp_text.proofs.PlacedFaults.{line_read, line_refused}
use Rattle.fmp_text.proofs.line.event_or_misfit.Goals as goal
use Rattle.fmp_text.proofs.line.event_or_misfit.Goals.{After-event_in}

not_skipped : (c : After-event_in) → is_skipped (without_return c.args.line.now) ≡ false
not_skipped c = ap is_skipped (sym c.without_return-line.ensures) ∙ sym c.is_skipped.ensures ∙ c.if-is_skipped.false

pub returns-in_err-event_in-clause-kind : goal.returns-in_err-event_in-clause-kind
returns-in_err-event_in-clause-kind c =
    let p = err_from_is_err_and c.from_residual.result c.from_residual.ensures.1 in
    let is = ap (event_in c.args.names.now) (sym c.without_return-line.ensures) ∙ c.in_err-event_in.ensures in
    rw (p.1, p.2) (sym (line_refused c.args.names.now c.args.line.now (place_of c.in_err-event_in.field-0.0) (not_skipped (goal.at.returns-in_err-event_in-clause-kind c).After-event_in) is))

pub returns-clause-kind : goal.returns-clause-kind
returns-clause-kind c =
    let is = ap (event_in c.args.names.now) (sym c.without_return-line.ensures) ∙ c.in_ok-event_in.ensures in
    sym (line_read c.args.names.now c.args.line.now c.in_ok-event_in.field-0 (not_skipped (goal.at.returns-clause-kind c).After-event_in) is)
