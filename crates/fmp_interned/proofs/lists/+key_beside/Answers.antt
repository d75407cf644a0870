use Rattle.std.proofs.Common.{rules, ◌≡◌, ◌≤◌, ◌/◌, [], ◌∷◌, length, refl, ap, arith}
use Rattle.std.specs.Prelude.{Some, slice_get}
use Rattle.std.proofs.lemmas.Result.{IfOk-weaker}
use Rattle.fmp_interned.specs.Trees.{IsTree}
use Rattle.fmp_interned.proofs.Trees.{tree_apart, tree_more, tree_pair, tree_stays}
use Rattle.fmp_interned.proofs.lists.+key_beside.Goals as goal

pub get-requires : goal.get-requires
get-requires t c =
    let many : 2 ≤ length c.args.last.now = omega arith in
    tree_pair c.args.pairs.now (length c.args.last.now) c.args.key many (c.args.last.now, refl, c.requires)

pub key_beside-requires : goal.key_beside-requires
key_beside-requires t c =
    let many : 2 ≤ length c.args.last.now = omega arith in
    let parts = c.split_at-2.ensures in (
      search rules,
      (tree_apart c.args.pairs.now c.args.last.now c.split_at-2.result.0.now c.split_at-2.result.1.now c.get.result.now c.args.key (length c.args.numbers.now / 2) many
          (ap (λ n. n / 2) (omega arith)) parts.front parts.back c.get.ensures c.requires).0,
    )

pub key_beside-requires-2 : goal.key_beside-requires-2
key_beside-requires-2 t c =
    let many : 2 ≤ length c.args.last.now = omega arith in
    let parts = c.split_at-2.ensures in (
      search rules,
      tree_stays c.args.pairs.now c.key_beside.new.pairs c.split_at-2.result.1.now _ c.key_beside.ensures.kept
          (tree_apart c.args.pairs.now c.args.last.now c.split_at-2.result.0.now c.split_at-2.result.1.now c.get.result.now c.args.key (length c.args.numbers.now / 2) many
          (ap (λ n. n / 2) (omega arith)) parts.front parts.back c.get.ensures c.requires).1,
    )

pub returns-clause-is : goal.returns-clause-is
returns-clause-is t c =
    let all = c.number_of.new.self in
    let numbers = c.args.numbers.now in
    let left = c.in_ok-left.left in
    let right = c.in_ok-right.right in
    let parts = c.split_at.ensures in
    IfOk-weaker c.number_of.result (λ k. slice_get all k ≡ Some (left ∷ right ∷ [])) (IsTree all numbers)
    (λ key at.
    tree_more c.key_beside.new.pairs c.key_beside-2.new.pairs all numbers c.split_at.result.0.now c.split_at.result.1.now left right key (length numbers / 2) (omega arith) refl parts.front
    parts.back c.key_beside-2.ensures.kept c.number_of.ensures.kept c.in_ok-left.ensures.is c.in_ok-right.ensures.is at)
    c.number_of.ensures.is
