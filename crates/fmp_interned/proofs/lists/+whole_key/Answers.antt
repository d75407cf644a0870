use Rattle.std.proofs.Common.{rules, ◌≡◌, ◌/◌, [], ◌∷◌, length, refl, arith}
use Rattle.std.specs.Prelude.{Some, slice_get, slice_index}
use Rattle.std.proofs.lemmas.Result.{IfOk-weaker}
use Rattle.fmp_interned.specs.Trees.{IsTree, leaf}
use Rattle.fmp_interned.proofs.Trees.{tree_more}
use Rattle.fmp_interned.proofs.lists.+whole_key.Goals as goal

pub returns-then-numbers-lt2-clause-is : goal.returns-then-numbers-lt2-clause-is
returns-then-numbers-lt2-clause-is t c =
    let is : c.unwrap_or.result ≡ slice_index c.args.numbers.now 0 = search rules in
    leaf c.args.numbers.now c.unwrap_or.result c.if-numbers-lt2.true is

pub returns-clause-is : goal.returns-clause-is
returns-clause-is t c =
    let all = c.number_of.new.self in
    let numbers = c.args.numbers.now in
    let left = c.in_ok-left.left in
    let right = c.in_ok-right.right in
    let parts = c.split_at.ensures in
    IfOk-weaker c.number_of.result (λ k. slice_get all k ≡ Some (left ∷ right ∷ [])) (IsTree all numbers)
    (λ key at.
    tree_more c.whole_key.new.pairs c.whole_key-2.new.pairs all numbers c.split_at.result.0.now c.split_at.result.1.now left right key (length numbers / 2) (omega arith) refl parts.front parts.back
    c.whole_key-2.ensures.kept c.number_of.ensures.kept c.in_ok-left.ensures.is c.in_ok-right.ensures.is at)
    c.number_of.ensures.is
