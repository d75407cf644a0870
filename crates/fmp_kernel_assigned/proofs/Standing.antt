-- Items stay on the processors to which these are assigned.
use Rattle.std.proofs.Common.{◌≡◌, ℕ, ◌+◌, ◌<◌, ◌≤◌, Option, Some, None, List, length, set, get_or, map, refl, sym, ap, ◌∙◌, subst, arith, ⊎_elim}
use Rattle.std.proofs.lemmas.Bool.{cases_eq, cases_lt}
use Rattle.std.proofs.lemmas.List.{get_or-set_same, get_or-set_other, get_or_past, length-set, get_or-map}
use Rattle.fmp_codes.specs.declared.numbers.Proc.{Proc}
use Rattle.fmp_time.specs.Left.{Left}
use Rattle.fmp_time.specs.Times.{moved}
use Rattle.fmp_kernel_assigned.specs.Counting.{IsAt, AreAt, NoneCounts, IsUnseen, AreUnseen}

pub at_same : (p q : Proc) (l : Option Left) → p.number ≡ q.number → IsAt q l → IsAt p l
at_same p q None e h = tt
at_same p q (Some l) e h = h ∙ sym e

pub at_moved : (p : Proc) (l : Option Left) → IsAt p (moved p l)
at_moved p None = tt
at_moved p (Some l) = refl

module _ {X : Type 0} (assigned : X → Proc) (blank : X) (xs : List X) (left : List (Option Left)) (place : ℕ) (h : AreAt assigned blank xs left place) where
  -- another value for another item
  pub at-past : (k : ℕ) (l : Option Left) → ((i : ℕ) → i < length xs → place + i ≡ k → ⊥) → AreAt assigned blank xs (set left k l) place
  at-past k l apart = λ i low. subst (IsAt (assigned (get_or xs i blank))) (sym (get_or-set_other left k (place + i) l None (apart i low))) (h i low)

  -- another value for one of these
  pub at-set : (k j : ℕ) (l : Option Left) → k < length left → k ≡ place + j → (j < length xs → IsAt (assigned (get_or xs j blank)) l) → AreAt assigned blank xs (set left k l) place
  at-set k j l in_left e new = λ i low. ⊎_elim
      (λ (f : i ≡ j).
      let at : place + i ≡ k = omega (arith, e, f) in
      subst (IsAt (assigned (get_or xs i blank))) (sym (ap (λ (u : ℕ). get_or (set left k l) u None) at ∙ get_or-set_same left k l None in_left))
      (subst (λ (u : ℕ). IsAt (assigned (get_or xs u blank)) l) (sym f) (new (omega (arith, low, f)))))
      (λ (f : i ≡ j → ⊥). subst (IsAt (assigned (get_or xs i blank))) (sym (get_or-set_other left k (place + i) l None (λ (g : place + i ≡ k). f (omega (arith, g, e))))) (h i low))
      (cases_eq i j)

  -- another record
  pub at-write : (j : ℕ) (x : X) → (j < length xs → IsAt (assigned x) (get_or left (place + j) None)) → AreAt assigned blank (set xs j x) left place
  at-write j x new = λ i low.
      let within : i < length xs = omega (arith, low, length-set xs j x) in
      ⊎_elim (λ (f : i ≡ j).
      subst (λ (y : X). IsAt (assigned y) (get_or left (place + i) None)) (sym (ap (λ (u : ℕ). get_or (set xs j x) u blank) f ∙ get_or-set_same xs j x blank (omega (arith, within, f))))
      (subst (λ (u : ℕ). IsAt (assigned x) (get_or left (place + u) None)) (sym f) (new (omega (arith, within, f)))))
      (λ (f : i ≡ j → ⊥). subst (λ (y : X). IsAt (assigned y) (get_or left (place + i) None)) (sym (get_or-set_other xs j i x blank f)) (h i within))
      (cases_eq i j)

  -- another record, and another value for its item
  pub at-both : (k j : ℕ) (x : X) (l : Option Left) → k < length left → k ≡ place + j → IsAt (assigned x) l → AreAt assigned blank (set xs j x) (set left k l) place
  at-both k j x l in_left e new = λ i low.
      let within : i < length xs = omega (arith, low, length-set xs j x) in
      ⊎_elim (λ (f : i ≡ j).
      let at : place + i ≡ k = omega (arith, e, f) in
      subst (λ (y : X). IsAt (assigned y) (get_or (set left k l) (place + i) None)) (sym (ap (λ (u : ℕ). get_or (set xs j x) u blank) f ∙ get_or-set_same xs j x blank (omega (arith, within, f))))
      (subst (IsAt (assigned x)) (sym (ap (λ (u : ℕ). get_or (set left k l) u None) at ∙ get_or-set_same left k l None in_left)) new))
      (λ (f : i ≡ j → ⊥).
      subst (λ (y : X). IsAt (assigned y) (get_or (set left k l) (place + i) None)) (sym (get_or-set_other xs j i x blank f))
      (subst (IsAt (assigned (get_or xs i blank))) (sym (get_or-set_other left k (place + i) l None (λ (g : place + i ≡ k). f (omega (arith, g, e))))) (h i within)))
      (cases_eq i j)

  -- what changes on its processor
  pub at-map : (f : Option Left → Option Left) → ((p : Proc) (l : Option Left) → IsAt p l → IsAt p (f l)) → place + length xs ≤ length left → AreAt assigned blank xs (map f left) place
  at-map f stays few = λ i low.
      subst (IsAt (assigned (get_or xs i blank))) (sym (get_or-map f left (place + i) None None (omega (arith, low, few)))) (stays (assigned (get_or xs i blank)) (get_or left (place + i) None) (h i low))

-- another value, which is none where it is one of those that do not count
pub none-set : (left : List (Option Left)) (from to k : ℕ) (l : Option Left) → NoneCounts left from to → (from ≤ k → k < to → l ≡ None) → NoneCounts (set left k l) from to
none-set left from to k l h none = λ j low high. ⊎_elim
    (λ (f : j ≡ k). ⊎_elim
    (λ (g : k < length left). ap (λ (u : ℕ). get_or (set left k l) u None) f ∙ get_or-set_same left k l None g ∙ none (omega (arith, low, f)) (omega (arith, high, f)))
    (λ (g : length left ≤ k). get_or_past (set left k l) j None (omega (arith, f, g, length-set left k l)))
    (cases_lt k (length left)))
    (λ (f : j ≡ k → ⊥). get_or-set_other left k j l None f ∙ h j low high)
    (cases_eq j k)

-- what changes nothing where there is nothing
pub none-map : (left : List (Option Left)) (from to : ℕ) (f : Option Left → Option Left) → to ≤ length left → f None ≡ None → NoneCounts left from to → NoneCounts (map f left) from to
none-map left from to f few e h = λ j low high. get_or-map f left j None None (omega (arith, high, few)) ∙ ap f (h j low high) ∙ e

-- another value, which is unseen where it is one of those that do not show
pub unseen-set : (left : List (Option Left)) (from to k : ℕ) (l : Option Left) → AreUnseen left from to → (from ≤ k → k < to → IsUnseen l) → AreUnseen (set left k l) from to
unseen-set left from to k l h unseen = λ j low high. ⊎_elim
    (λ (f : j ≡ k). ⊎_elim
    (λ (g : k < length left). subst IsUnseen (sym (ap (λ (u : ℕ). get_or (set left k l) u None) f ∙ get_or-set_same left k l None g)) (unseen (omega (arith, low, f)) (omega (arith, high, f))))
    (λ (g : length left ≤ k). subst IsUnseen (sym (get_or_past (set left k l) j None (omega (arith, f, g, length-set left k l)))) tt)
    (cases_lt k (length left)))
    (λ (f : j ≡ k → ⊥). subst IsUnseen (sym (get_or-set_other left k j l None f)) (h j low high))
    (cases_eq j k)

-- what leaves it unseen
pub unseen-map : (left : List (Option Left)) (from to : ℕ) (f : Option Left → Option Left) → to ≤ length left → ((l : Option Left) → IsUnseen l → IsUnseen (f l)) → AreUnseen left from to →
    AreUnseen (map f left) from to
unseen-map left from to f few stays h = λ j low high. subst IsUnseen (sym (get_or-map f left j None None (omega (arith, high, few)))) (stays (get_or left j None) (h j low high))
