use Rattle.std.proofs.Common.{Ok, Err, sym, ◌∙◌}
use Rattle.fmp_text_scripts.specs.Places.{place_of}
use Rattle.fmp_text_scripts.proofs.Placed.{line_misplaced, line_read}
use Rattle.fmp_text_scripts.proofs.line.said_in.Goals as goal

pub returns-then-is_misplaced : goal.returns-then-is_misplaced
returns-then-is_misplaced c =
    sym (line_misplaced c.args.names.now c.args.inside c.args.line.now c.without_return-line.result.now c.without_return-line.ensures (sym c.is_skipped.ensures ∙ c.if-is_skipped.false) (sym c.are_line.ensures ∙ c.if-not-are_line.false)
    (sym c.is_misplaced.ensures ∙ c.if-is_misplaced.true))

pub returns-in-Ok : goal.returns-in-Ok
returns-in-Ok c =
    line_read c.args.names.now c.args.inside c.args.line.now c.without_return-line.result.now (Ok c.in-Ok.said) c.without_return-line.ensures (sym c.is_skipped.ensures ∙ c.if-is_skipped.false) (sym c.are_line.ensures ∙ c.if-not-are_line.false)
    (sym c.is_misplaced.ensures ∙ c.if-is_misplaced.false) c.in-Ok.ensures

pub returns-in-Err : goal.returns-in-Err
returns-in-Err c =
    line_read c.args.names.now c.args.inside c.args.line.now c.without_return-line.result.now (Err (place_of c.in-Err.misfit)) c.without_return-line.ensures (sym c.is_skipped.ensures ∙ c.if-is_skipped.false) (sym c.are_line.ensures ∙ c.if-not-are_line.false)
    (sym c.is_misplaced.ensures ∙ c.if-is_misplaced.false) c.in-Err.ensures
