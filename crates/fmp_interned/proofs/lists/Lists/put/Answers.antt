use Rattle.std.proofs.Common.{◌≡◌, ◌∙◌, ℕ, [], List, refl, sym, subst, arith}
use Rattle.fmp_interned.specs.Trees.{IsTree, leaf}
use Rattle.fmp_interned.proofs.lists.Lists.put.Goals as goal
use Rattle.fmp_interned.proofs.lists.Lists.put.Goals.{in-Ok, in-Err}

-- this list has this key
kept : (pairs : List (List ℕ)) (xs ys : List ℕ) (k m : ℕ) → xs ≡ ys → k ≡ m → IsTree pairs ys m → IsTree pairs xs k
kept pairs xs ys k m same key is = subst (λ (zs : List ℕ). IsTree pairs zs k) (sym same) (subst (λ n. IsTree pairs ys n) (sym key) is)

pub invariant_of-self : goal.invariant_of-self
invariant_of-self c =
    let pairs = c.self.inside.pairs in
    let last = c.become_slice.new.self in
    let numbers = c.put_numbers.new.numbers in
    let key = c.match-become_slice.self in
    elim c.match-become_slice.branch [
      | in-Ok w ↦
          let tree = subst (λ (ps : List (List ℕ)). (xs : List ℕ) × (xs ≡ numbers) × IsTree ps xs c.args.key) (sym c.self.view_is)
          (c.requires.0, sym (c.put_numbers.ensures c.requires.0 c.requires.1 (subst (λ (ps : List (List ℕ)). IsTree ps c.requires.0 c.args.key) (sym c.self.view_is) c.requires.2)), c.requires.2) in
          kept pairs last tree.0 key c.args.key ((rw w.in-Ok.is at c.become_slice.ensures.is) ∙ sym tree.1) w.self-is tree.2
      | in-Err w ↦ kept pairs last [] key 0 (rw w.in-Err.is at c.become_slice.ensures.none) w.self-is (leaf [] 0 (omega arith) refl)
    ]
