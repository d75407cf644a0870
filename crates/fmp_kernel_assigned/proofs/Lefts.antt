-- The ticks left of the items from a place on, after a change of the timers.
use Rattle.std.proofs.Common.{◌≡◌, ℕ, ◌+◌, ◌<◌, ◌≤◌, Option, Some, None, List, length, set, get_or, refl, sym, ap, ◌∙◌, arith, ⊎_elim}
use Rattle.std.specs.Prelude.{slice_index_or, option_map}
use Rattle.std.proofs.lemmas.Bool.{cases_eq}
use Rattle.std.proofs.lemmas.List.{get_or-set_same, get_or-set_other, length-set, ext_get_or}
use Rattle.std.proofs.lemmas.List.FromFn.{get_or-map-range_with_len, length-map-range_with_len}
use Rattle.fmp_codes.specs.declared.numbers.Proc.{Proc}
use Rattle.fmp_time.specs.Left.{Left, ticks_of}
use Rattle.fmp_time.specs.Times.{moved}
use Rattle.fmp_kernel_assigned.specs.Assignments.{lefts}

pub length-lefts : (left : List (Option Left)) (place n : ℕ) → length (lefts left place n) ≡ n
unfolding lefts
length-lefts left place n = length-map-range_with_len (λ k. option_map ticks_of (slice_index_or left k None)) place n

pub lefts-at : (left : List (Option Left)) (place n i : ℕ) → i < n → get_or (lefts left place n) i None ≡ option_map ticks_of (get_or left (place + i) None)
unfolding lefts
lefts-at left place n i h = get_or-map-range_with_len (λ k. option_map ticks_of (slice_index_or left k None)) place n i (place + i) None h refl

-- two timers that say the same of each item
pub lefts-same : (left other : List (Option Left)) (place n : ℕ) → ((i : ℕ) → i < n → option_map ticks_of (get_or other (place + i) None) ≡ option_map ticks_of (get_or left (place + i) None)) →
    lefts other place n ≡ lefts left place n
lefts-same left other place n h =
    ext_get_or None (lefts other place n) (lefts left place n) (length-lefts other place n ∙ sym (length-lefts left place n))
    (λ i l. let low : i < n = omega (arith, l, length-lefts other place n) in lefts-at other place n i low ∙ h i low ∙ sym (lefts-at left place n i low))

-- another value for one of these items
pub lefts-set : (left : List (Option Left)) (place n i k : ℕ) (l : Option Left) → length left ≡ 128 → place + n ≤ 128 → k ≡ place + i →
    lefts (set left k l) place n ≡ set (lefts left place n) i (option_map ticks_of l)
lefts-set left place n i k l all few e =
    ext_get_or None (lefts (set left k l) place n) (set (lefts left place n) i (option_map ticks_of l))
    (length-lefts (set left k l) place n ∙ sym (length-set (lefts left place n) i (option_map ticks_of l) ∙ length-lefts left place n))
    (λ j h.
    let low : j < n = omega (arith, h, length-lefts (set left k l) place n) in
    lefts-at (set left k l) place n j low
    ∙ ⊎_elim (λ (f : j ≡ i).
    let at : place + j ≡ k = omega (arith, e, f) in
    ap (λ (u : ℕ). option_map ticks_of (get_or (set left k l) u None)) at ∙ ap (option_map ticks_of) (get_or-set_same left k l None (omega (arith, at, low, few, all)))
    ∙ sym (ap (λ (u : ℕ). get_or (set (lefts left place n) i (option_map ticks_of l)) u None) f
    ∙ get_or-set_same (lefts left place n) i (option_map ticks_of l) None (omega (arith, f, low, length-lefts left place n))))
    (λ (f : j ≡ i → ⊥).
    ap (option_map ticks_of) (get_or-set_other left k (place + j) l None (λ (g : place + j ≡ k). f (omega (arith, g, e))))
    ∙ sym (get_or-set_other (lefts left place n) i j (option_map ticks_of l) None f ∙ lefts-at left place n j low))
    (cases_eq j i))

-- another value for another item
pub lefts-past : (left : List (Option Left)) (place n k : ℕ) (l : Option Left) → ((i : ℕ) → i < n → place + i ≡ k → ⊥) → lefts (set left k l) place n ≡ lefts left place n
lefts-past left place n k l apart =
    lefts-same left (set left k l) place n (λ i h. ap (option_map ticks_of) (get_or-set_other left k (place + i) l None (apart i h)))

same_ticks : (p : Proc) (l : Option Left) → option_map ticks_of (moved p l) ≡ option_map ticks_of l
same_ticks p None = refl
same_ticks p (Some l) = refl

-- an item goes on on another processor
pub lefts-moved : (left : List (Option Left)) (place n k : ℕ) (p : Proc) → k < length left → lefts (set left k (moved p (get_or left k None))) place n ≡ lefts left place n
lefts-moved left place n k p low =
    lefts-same left (set left k (moved p (get_or left k None))) place n
    (λ i h. ⊎_elim (λ (f : place + i ≡ k).
    ap (λ (u : ℕ). option_map ticks_of (get_or (set left k (moved p (get_or left k None))) u None)) f
    ∙ ap (option_map ticks_of) (get_or-set_same left k (moved p (get_or left k None)) None low) ∙ same_ticks p (get_or left k None)
    ∙ ap (λ (u : ℕ). option_map ticks_of (get_or left u None)) (sym f))
    (λ (f : place + i ≡ k → ⊥). ap (option_map ticks_of) (get_or-set_other left k (place + i) (moved p (get_or left k None)) None f))
    (cases_eq (place + i) k))
