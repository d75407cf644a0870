-- Records and numbers after a change of one task.
use Rattle.std.proofs.Common.{◌≡◌, ℕ, ◌<◌, ◌≤◌, Bool, true, false, List, length, refl, sym, ◌∙◌, arith, ⊎_elim}
use Rattle.std.proofs.lemmas.Bool.{cases_Bool, eqb-true, eqb-false, eq-eqb, or_left, or_right, and_from, lt-ltb, cases_lt, false≢true}
use Rattle.fmp_codes.specs.declared.numbers.Task.{Task}
use Rattle.fmp_rules.specs.World.{item, with_item}
use Rattle.fmp_rules.specs.Arrivals.{comes_before}
use Rattle.fmp_law_safety.proofs.Items.{item_same, item_other}
use Rattle.fmp_law_lists.specs.Listing.{is_task, all_but, IsTotal}
use Rattle.fmp_law_lists.specs.Stands.{AreNumbered}
use Rattle.fmp_law_lists.proofs.Listings.{at_same, but_other}

-- An item after a change of that of u.

pub other_item : {X : Type 0} (blank : X) (xs : List X) (x : X) (u t : Task) → is_task t u ≡ false → item blank (with_item xs u.number x) t.number ≡ item blank xs t.number
other_item blank xs x u t d = item_other blank xs u.number x t.number t.least u.least (eqb-false t.number u.number d)

pub own_item : {X : Type 0} (blank : X) (xs : List X) (x : X) (u : Task) → u.number ≤ length xs → item blank (with_item xs u.number x) u.number ≡ x
own_item blank xs x u h = item_same blank xs u.number x u.least h

-- what is said of records but that of u
pub but_agree : (u : Task) (p q : Task → Bool) → ((t : Task) → is_task t u ≡ false → p t ≡ q t) → (t : Task) → all_but u p t ≡ all_but u q t
but_agree u p q same t = ⊎_elim (λ (e : is_task t u ≡ true). rw e refl) (λ (e : is_task t u ≡ false). rw e (same t e)) (cases_Bool (is_task t u))

-- The order by rank and number.

pub before_agree : (rank other : Task → ℕ) (ns ms : List ℕ) (t u : Task) → rank t ≡ other t → rank u ≡ other u →
    item 0 ns t.number ≡ item 0 ms t.number → item 0 ns u.number ≡ item 0 ms u.number → comes_before rank ns t u ≡ comes_before other ms t u
before_agree rank other ns ms t u a b c d = rw (a, b, c, d) refl

pub later_comes_after : (rank : Task → ℕ) (ns : List ℕ) (t u : Task) → rank t ≡ rank u → item 0 ns t.number < item 0 ns u.number → comes_before rank ns t u ≡ true
later_comes_after rank ns t u e l = or_right _ _ (and_from _ _ (eq-eqb (rank t) (rank u) e) (lt-ltb _ _ l))

pub lower_comes_before : (rank : Task → ℕ) (ns : List ℕ) (t u : Task) → rank t < rank u → comes_before rank ns t u ≡ true
lower_comes_before rank ns t u l = or_left _ _ (lt-ltb _ _ l)

-- numbered tasks are totally ordered
pub numbers_total : (rank : Task → ℕ) (q : Task → Bool) (ns : List ℕ) (next : ℕ) → AreNumbered q ns next → IsTotal q (comes_before rank ns)
numbers_total rank q ns next a t u p r d late =
    ⊎_elim (λ (l : rank u < rank t). lower_comes_before rank ns u t l)
    (λ (g : rank t ≤ rank u). ⊎_elim (λ (l : rank t < rank u). absurd (contra (lower_comes_before rank ns t u l)))
    (λ (h : rank u ≤ rank t).
    let same : rank t ≡ rank u = omega (arith, g, h) in
    ⊎_elim (λ (l : item 0 ns u.number < item 0 ns t.number). later_comes_after rank ns u t (sym same) l)
    (λ (i : item 0 ns t.number ≤ item 0 ns u.number). ⊎_elim
    (λ (l : item 0 ns t.number < item 0 ns u.number). absurd (contra (later_comes_after rank ns t u same l)))
    (λ (j : item 0 ns u.number ≤ item 0 ns t.number). absurd (eqb-false t.number u.number d (a.distinct t u p r (omega (arith, i, j)))))
    (cases_lt (item 0 ns t.number) (item 0 ns u.number))) (cases_lt (item 0 ns u.number) (item 0 ns t.number)))
    (cases_lt (rank t) (rank u))) (cases_lt (rank u) (rank t))
  where
    contra : comes_before rank ns t u ≡ true → ⊥
    contra e = false≢true (sym late ∙ e)

-- Numbers after a change.

pub numbered_fewer : {p q : Task → Bool} {ns : List ℕ} {next : ℕ} → ((t : Task) → p t ≡ true → q t ≡ true) → AreNumbered q ns next → AreNumbered p ns next
numbered_fewer h a = record { distinct = λ t u e f. a.distinct t u (h t e) (h u f); below = λ t e. a.below t (h t e) }

pub numbered_same : {p q : Task → Bool} {ns : List ℕ} {next : ℕ} → ((t : Task) → p t ≡ q t) → AreNumbered p ns next → AreNumbered q ns next
numbered_same same a = numbered_fewer (λ t e. same t ∙ e) a

pub numbered_but : (u : Task) (q : Task → Bool) {ns : List ℕ} {next : ℕ} → AreNumbered q ns next → AreNumbered (all_but u q) ns next
numbered_but u q a = numbered_fewer (λ t e. (but_other u q t e).1) a

pub numbered_change : {q : Task → Bool} {ns ms : List ℕ} {next more : ℕ} → ((t : Task) → q t ≡ true → item 0 ns t.number ≡ item 0 ms t.number) → next ≤ more →
    AreNumbered q ns next → AreNumbered q ms more
numbered_change same l a = record {
  distinct = λ t u e f g. a.distinct t u e f (same t e ∙ g ∙ sym (same u f));
  below = λ t e. let b = a.below t e in let s = same t e in omega (arith, l, b, s);
}

-- a task takes a number above all others
pub numbered_in : (u : Task) (q : Task → Bool) (ns : List ℕ) (next : ℕ) →
    ((t : Task) → is_task t u ≡ false → q t ≡ true → item 0 ns t.number < item 0 ns u.number) → item 0 ns u.number < next →
    AreNumbered (all_but u q) ns next → AreNumbered q ns next
numbered_in u q ns next last low a = record { distinct = apart; below = under }
  where
    among : (t : Task) → is_task t u ≡ false → q t ≡ true → all_but u q t ≡ true
    among t d e = rw d e

    same : (t : Task) → is_task t u ≡ true → item 0 ns t.number ≡ item 0 ns u.number
    same t e = at_same (λ x. item 0 ns x.number ≡ item 0 ns u.number) t u e refl

    apart : (t v : Task) → q t ≡ true → q v ≡ true → item 0 ns t.number ≡ item 0 ns v.number → t.number ≡ v.number
    apart t v e f g = ⊎_elim
        (λ (b : is_task t u ≡ true). ⊎_elim
        (λ (c : is_task v u ≡ true). eqb-true t.number u.number b ∙ sym (eqb-true v.number u.number c))
        (λ (c : is_task v u ≡ false). let l = last v c f in let s = same t b in absurd (omega (arith, l, s, g)))
        (cases_Bool (is_task v u)))
        (λ (b : is_task t u ≡ false). ⊎_elim
        (λ (c : is_task v u ≡ true). let l = last t b e in let s = same v c in absurd (omega (arith, l, s, g)))
        (λ (c : is_task v u ≡ false). a.distinct t v (among t b e) (among v c f) g)
        (cases_Bool (is_task v u)))
        (cases_Bool (is_task t u))

    under : (t : Task) → q t ≡ true → item 0 ns t.number < next
    under t e = ⊎_elim
        (λ (b : is_task t u ≡ true). at_same (λ x. item 0 ns x.number < next) t u b low)
        (λ (b : is_task t u ≡ false). a.below t (among t b e)) (cases_Bool (is_task t u))
