use Rattle.std.proofs.Common.{◌≡◌, Some, None, ap, sym, ◌∙◌}
use Rattle.std.specs.Option.{option_copied}
use Rattle.fmp_bytes.specs.Bytes.{cut_at, pieces_of}
use Rattle.fmp_bytes.proofs.Cutting.{fewer_left}
use Rattle.fmp_trace_partial.specs.Marks.{with_mark, with_marks, marks_in}
use Rattle.fmp_trace_partial.proofs.FilledLoops.{one_mark, no_mark}
use Rattle.fmp_trace_partial.proofs.marks.marks_in.Goals as goal
use Rattle.fmp_trace_partial.proofs.marks.marks_in.Goals.{In-Some}

so_far : (c : In-Some) → with_marks c.loop-rest.marks (pieces_of 32 c.in-Some.text.now) ≡ marks_in c.args.line.now
so_far c = rw c.in-Some.is at c.loop-rest.invariant

pub returns-in_err-marks : goal.returns-in_err-marks
returns-in_err-marks c =
    let none : with_mark c.loop-rest.marks (cut_at 32 c.in-Some.text.now).0 ≡ None =
    ap (with_mark c.loop-rest.marks) (sym c.cut.ensures.prefix) ∙ sym c.with_mark.ensures ∙ c.in_err-marks.was in
    rw c.from_residual.ensures (no_mark c.loop-rest.marks c.in-Some.text.now _ (so_far (goal.at.returns-in_err-marks c).In-Some) none)

pub loop-rest-smaller : goal.loop-rest-smaller
loop-rest-smaller c = fewer_left 32 (option_copied c.loop-rest.rest) (option_copied c.cut.result.1) c.in-Some.text.now (ap option_copied c.in-Some.is) c.cut.ensures.rest

pub loop-rest-preserved : goal.loop-rest-preserved
loop-rest-preserved c =
    let here : with_mark c.loop-rest.marks (cut_at 32 c.in-Some.text.now).0 ≡ Some c.in_ok-marks.marks =
    ap (with_mark c.loop-rest.marks) (sym c.cut.ensures.prefix) ∙ sym c.with_mark.ensures ∙ c.in_ok-marks.was in
    rw c.cut.ensures.rest (one_mark c.loop-rest.marks c.in-Some.text.now _ (so_far (goal.at.loop-rest-preserved c).In-Some) _ here)
