-- The other words.
use Rattle.std.proofs.Common.{◌≡◌, ◌∙◌, ℕ, zero, suc, ◌+◌, ◌-◌, ◌<◌, ◌==◌, ◌||◌, ℤ, pos, negsuc, Bool, true, false, List, [], ◌∷◌, refl, sym, ap, arith, ⊎_elim}
use Rattle.std.specs.Prelude.{slice_get, slice_index_or, if◌then◌else◌}
use Rattle.std.specs.List.{list_any}
use Rattle.std.proofs.lemmas.Bool.{eq-eqb, eqb-true, false_from_ne_true, cases_eq}
use Rattle.fmp_codes.specs.declared.numbers.Proc.{Proc}
use Rattle.fmp_setup.specs.declared.setup.Class.{Class}
use Rattle.fmp_setup.specs.declared.setup.Timer.{Timer}
use Rattle.fmp_setup.specs.declared.setup.Timer.TheVariants as timer
use Rattle.fmp_setup.specs.Setup.{has_time, counts_for, has_member}
use Rattle.fmp_rules.specs.World.{first}
use Rattle.fmp_rules.specs.Arguments.{number_within, is_zero}
use Rattle.fmp_law_balance.specs.Words.{is_clock, is_clocked_by, is_member, marked_from, one_up_to, says_nothing}

pub head_same : {X : Type 0} (xs : List X) → slice_get xs 0 ≡ first xs
head_same [] = refl
head_same (x ∷ xs) = refl

eqb_turn : (m n : ℕ) → (m == n) ≡ (n == m)
eqb_turn m n =
    ⊎_elim (λ (e : m ≡ n). eq-eqb m n e ∙ sym (eq-eqb n m (sym e)))
    (λ (d : m ≡ n → ⊥). false_from_ne_true _ (λ t. d (eqb-true m n t)) ∙ sym (false_from_ne_true _ (λ t. d (sym (eqb-true n m t))))) (cases_eq m n)

pub clock_counts : (timer : Timer) (p q : Proc) → is_clocked_by timer p q ≡ counts_for timer p q
clock_counts timer.Local p q = refl
clock_counts (timer.Global master) p q = eqb_turn master.number p.number

pub clock_has_time : (timer : Timer) (p : Proc) → is_clock timer p ≡ has_time timer p
clock_has_time timer.Local p = eq-eqb p.number p.number refl
clock_has_time (timer.Global master) p = eqb_turn master.number p.number

-- whether a number is that of one that is marked
abbrev is_marked : ℕ → ℕ → List Bool → Bool
is_marked m n bs = list_any (λ k. k == m) (marked_from n bs)

none_before : (m n : ℕ) (bs : List Bool) → m < n → is_marked m n bs ≡ false
none_before m n [] less = refl
none_before m n (b ∷ bs) less =
    let other : (n == m) ≡ false = false_from_ne_true _ (λ t. omega (arith, less, eqb-true n m t)) in
    let rest = none_before m (n + 1) bs (omega (arith, less)) in
    elim b as (λ c. list_any (λ k. k == m) (if c then n ∷ marked_from (n + 1) bs else marked_from (n + 1) bs) ≡ false)
    [ true ↦ ap (λ c. c || is_marked m (n + 1) bs) other ∙ rest | false ↦ rest ]

marked_at : (n k : ℕ) (bs : List Bool) → is_marked (n + k) n bs ≡ slice_index_or bs k false
marked_at n k [] = refl
marked_at n zero (b ∷ bs) =
    let at : (n + 0) ≡ n = omega arith in
    elim b as (λ c. list_any (λ j. j == n + 0) (if c then n ∷ marked_from (n + 1) bs else marked_from (n + 1) bs) ≡ c)
    [ true ↦ ap (λ c. c || is_marked (n + 0) (n + 1) bs) (eq-eqb n (n + 0) (sym at)) | false ↦ none_before (n + 0) (n + 1) bs (omega arith) ]
marked_at n (suc k) (b ∷ bs) =
    let other : (n == n + suc k) ≡ false = false_from_ne_true _ (λ t. omega (arith, eqb-true n (n + suc k) t)) in
    let same : n + suc k ≡ (n + 1) + k = omega arith in
    let rest : is_marked (n + suc k) (n + 1) bs ≡ slice_index_or bs k false = ap (λ m. is_marked m (n + 1) bs) same ∙ marked_at (n + 1) k bs in
    elim b as (λ c. list_any (λ j. j == n + suc k) (if c then n ∷ marked_from (n + 1) bs else marked_from (n + 1) bs) ≡ slice_index_or bs k false)
    [ true ↦ ap (λ c. c || is_marked (n + suc k) (n + 1) bs) other ∙ rest | false ↦ rest ]

pub member_same : (class : Class) (p : Proc) → is_member class p ≡ has_member class p
member_same class p =
    let at : p.number ≡ 1 + (p.number - 1) = omega (arith, p.least) in
    ap (λ m. is_marked m 1 class.members) at ∙ marked_at 1 (p.number - 1) class.members

pub number_same : (count : ℕ) (id : ℤ) → one_up_to count id ≡ number_within count id
number_same count (pos n) = refl
number_same count (negsuc n) = refl

pub nothing_same : (id : ℤ) → says_nothing id ≡ is_zero id
nothing_same (pos n) = refl
nothing_same (negsuc n) = refl
