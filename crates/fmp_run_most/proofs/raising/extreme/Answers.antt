use Rattle.std.proofs.Common.{◌∙◌, ◌+◌, sym, subst, arith}
use Rattle.std.proofs.lemmas.Bool.{false≢true}
use Rattle.fmp_run_most.specs.Raised.{IsExtremeOf}
use Rattle.fmp_run_most.proofs.Bounds.{extreme_more, extreme_kept}
use Rattle.fmp_run_most.proofs.raising.extreme.Goals as goal
use Rattle.fmp_run_most.proofs.raising.extreme.Goals.{then-is_marked+then-is_beyond, else-is_marked, else-is_marked-via-then-is_marked+else-is_beyond, else-is_marked-via-else-is_marked}

pub loop-number-preserved : goal.loop-number-preserved
loop-number-preserved c =
    let m = c.args.measure in
    let bound = c.args.bound in
    let marks = c.args.marks.now in
    let n = c.loop-number.number in
    let e = c.loop-number.extreme in
    let so = c.loop-number.invariant in
    let less = c.loop-number-test.true in
    elim c.if-is_marked.branch [
      | then-is_marked+then-is_beyond w ↦
          subst (λ x. IsExtremeOf m bound marks c.args.at (n + 1) x) (sym w.extreme-is)
          (extreme_more m bound marks c.args.at n e so (omega (arith, less)) (c.is_marked.ensures.0 w.if-is_marked.true) (sym w.is_beyond.ensures ∙ w.if-is_beyond.true))
      | else-is_marked w ↦
          subst (λ x. IsExtremeOf m bound marks c.args.at (n + 1) x) (sym w.extreme-is)
          (extreme_kept m bound marks c.args.at n e so (elim w.else-is_marked.branch [
            | else-is_marked-via-then-is_marked+else-is_beyond w' ↦ λ mark. sym w'.is_beyond.ensures ∙ w'.if-is_beyond.false
            | else-is_marked-via-else-is_marked w' ↦ λ mark. absurd (false≢true (sym w'.if-is_marked.false ∙ c.is_marked.ensures.1 mark))
          ]))
    ]
