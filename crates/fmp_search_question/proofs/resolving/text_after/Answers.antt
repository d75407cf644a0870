use Rattle.std.proofs.Common.{◌≤◌, ◌∙◌, ◌++◌, length, sym, ap, arith}
use Rattle.std.proofs.Math.ListN.{drop_of_length-le}
use Rattle.std.proofs.lemmas.List.{append-nil}
use Rattle.fmp_search_question.proofs.Filled.{joined-first, starred}
use Rattle.fmp_search_question.proofs.resolving.text_after.Goals as goal

pub returns : goal.returns
returns c =
    let so_far = c.loop-piece.text.items in
    let others = c.args.others.now in
    let over = c.loop-piece-test.false in
    let past : length others ≤ c.loop-piece.piece-index = omega (arith, over) in
    sym (append-nil so_far) ∙ ap (λ ps. so_far ++ starred ps) (sym (drop_of_length-le others past)) ∙ c.loop-piece.invariant ∙ sym (joined-first c.args.first.now others)
