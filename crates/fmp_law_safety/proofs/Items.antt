-- Numbers and the items that they name, after a change of one.
use Rattle.std.proofs.Common.{◌≡◌, ℕ, ◌<◌, ◌≤◌, ◌-◌, List, length, set, subst, sym, ap, ◌∙◌, arith, ⊎_elim}
use Rattle.std.specs.Prelude.{All, slice_index_or}
use Rattle.std.proofs.lemmas.Bool.{cases_eq, cases_lt}
use Rattle.std.proofs.lemmas.List.{get_or-set_same, get_or-set_other, length-set, get_or_past}
use Rattle.fmp_codes.specs.declared.numbers.Task.{Task}
use Rattle.fmp_codes.specs.declared.numbers.Object.{Object}
use Rattle.fmp_codes.proofs.Same.{tasks_same, objects_same}
use Rattle.fmp_rules.specs.World.{item, with_item}

-- the place of a number from 1 on tells it
pub place_same : (m n : ℕ) → 1 ≤ m → 1 ≤ n → m - 1 ≡ n - 1 → m ≡ n
place_same m n a b e = omega (arith, a, b, e)

pub task_at : (t u : Task) → t.number - 1 ≡ u.number - 1 → t ≡ u
task_at t u e = tasks_same t u (place_same t.number u.number t.least u.least e)

pub object_at : (m n : Object) → m.number - 1 ≡ n.number - 1 → m ≡ n
object_at m n e = objects_same m n (place_same m.number n.number m.least n.least e)

-- what holds of all items and of the blank holds of each that is looked up
pub item_holds : {X : Type 0} (P : X → Type 0) (blank : X) (xs : List X) (n : ℕ) → P blank → All P xs → P (item blank xs n)
item_holds P blank xs n none all =
    ⊎_elim (λ (h : n - 1 < length xs). all (n - 1) blank h) (λ (h : length xs ≤ n - 1). subst P (sym (get_or_past xs (n - 1) blank h)) none) (cases_lt (n - 1) (length xs))

module _ {X : Type 0} (blank : X) (xs : List X) (n : ℕ) (x : X) where
  -- what holds of the item of a number after another one was put in the place of n
  pub item_after : (P : X → Type 0) (m : ℕ) → (m - 1 ≡ n - 1 → P x) → P (item blank xs m) → P (item blank (with_item xs n x) m)
  item_after P m here else = ⊎_elim at_place (λ (d : m - 1 ≡ n - 1 → ⊥). subst P (sym (get_or-set_other xs (n - 1) (m - 1) x blank d)) else) (cases_eq (m - 1) (n - 1))
    where
      at_place : m - 1 ≡ n - 1 → P (item blank (with_item xs n x) m)
      at_place e =
          ⊎_elim
          (λ (h : n - 1 < length xs). subst P (sym (ap (λ i. slice_index_or (set xs (n - 1) x) i blank) e ∙ get_or-set_same xs (n - 1) x blank h)) (here e))
          (λ (h : length xs ≤ n - 1).
          let past : length (set xs (n - 1) x) ≤ m - 1 = rw (length-set xs (n - 1) x, e) h in
          let past_old : length xs ≤ m - 1 = rw e h in
          subst P (get_or_past xs (m - 1) blank past_old ∙ sym (get_or_past (set xs (n - 1) x) (m - 1) blank past)) else)
          (cases_lt (n - 1) (length xs))

  -- what holds of the new item and of the blank holds of what stands there
  pub item_put : (P : X → Type 0) → P x → P blank → P (item blank (with_item xs n x) n)
  item_put P new none =
      ⊎_elim (λ (h : n - 1 < length xs). subst P (sym (get_or-set_same xs (n - 1) x blank h)) new)
      (λ (h : length xs ≤ n - 1). let past : length (set xs (n - 1) x) ≤ n - 1 = rw (length-set xs (n - 1) x) h in subst P (sym (get_or_past (set xs (n - 1) x) (n - 1) blank past)) none)
      (cases_lt (n - 1) (length xs))

  pub item_same : 1 ≤ n → n ≤ length xs → item blank (with_item xs n x) n ≡ x
  item_same a b = get_or-set_same xs (n - 1) x blank (omega (arith, a, b))

  pub item_other : (m : ℕ) → 1 ≤ m → 1 ≤ n → (m ≡ n → ⊥) → item blank (with_item xs n x) m ≡ item blank xs m
  item_other m a b d = get_or-set_other xs (n - 1) (m - 1) x blank (λ (e : m - 1 ≡ n - 1). d (place_same m n a b e))

  -- what holds of all holds of all afterwards, if it holds of the new item where it held of the old one
  pub all_after : (P : X → Type 0) → (P (item blank xs n) → P x) → All P xs → All P (with_item xs n x)
  all_after P new old i d below =
      let within : i < length xs = rw (length-set xs (n - 1) x) at below in
      ⊎_elim
      (λ (e : i ≡ n - 1).
      let in_place : n - 1 < length xs = rw e at within in
      let there : P x = new (old (n - 1) blank in_place) in
      subst P (sym (ap (λ j. slice_index_or (set xs (n - 1) x) j d) e ∙ get_or-set_same xs (n - 1) x d in_place)) there)
      (λ (h : i ≡ n - 1 → ⊥). subst P (sym (get_or-set_other xs (n - 1) i x d h)) (old i d within))
      (cases_eq i (n - 1))
