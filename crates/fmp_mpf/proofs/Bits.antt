-- The marks as a list against the bits of the word.
use Rattle.std.proofs.Common.{◌≡◌, ℕ, zero, suc, ◌+◌, ◌/◌, ◌-◌, ◌*◌, ◌%◌, ◌^◌, ◌<◌, ◌≤◌, Bool, true, false, not, Some, None, List, [], ◌∷◌, cond, subst, length, take, set, get_or, nat_eq, refl, sym, ap, ◌∙◌, arith, ⊎_elim, w64, bit_and, bit_or}
use Rattle.std.specs.Prelude.{min, replicate}
use Rattle.std.specs.Int.{bit_at, trailing_ones, bit_not}
use Rattle.std.specs.Int.Count.{trailing_of_zero, count_trailing_zeros}
use Rattle.std.specs.List.{position, position_or_len}
use Rattle.std.proofs.lemmas.Bool.{cases_eq, cases_lt, eq-eqb, ne_eqb, eqb-true, lt-ltb, le-ltb}
use Rattle.std.proofs.lemmas.Nat.{trailing_le}
use Rattle.std.proofs.lemmas.Nat.Bits.{bit_at_ones, bit_at-trailing_ones, bit_at-zero, bit_at_set_same, bit_at_set_other, bit_at_clear_same, bit_at_clear_other, bit_at-lt, bit_at-suc, bit_at_lowest, same_from_bits_below}
use Rattle.std.proofs.lemmas.List.{get_or-set_same, get_or-set_other, get_or_past, set_past, get_or-take, get_or-replicate, length-set, length-take, length-replicate, ext_get_or}
use Rattle.std.proofs.lemmas.List.FromFn.{get_or-map-range_with_len, length-map-range_with_len}
use Rattle.std.proofs.lemmas.List.Sums.{position_or_len_is}
use Rattle.std.proofs.Math.Nat.{pow-succ'}
use Rattle.fmp_mpf.specs.Marks.{is_set, word_of, marks}

pub length-marks : (n : ℕ) → length (marks n) ≡ 64
unfolding marks
length-marks n = length-map-range_with_len (is_set n) 0 64

pub mark_at : (n i : ℕ) (d : Bool) → i < 64 → get_or (marks n) i d ≡ is_set n i
unfolding marks
mark_at n i d h = get_or-map-range_with_len (is_set n) 0 64 i i d h (omega arith)

pub mark_past : (n i : ℕ) (d : Bool) → 64 ≤ i → get_or (marks n) i d ≡ d
mark_past n i d h = get_or_past (marks n) i d (let l = length-marks n in omega (arith, l, h))

-- no mark in 0
pub marks-zero : marks 0 ≡ replicate 64 false
marks-zero =
    ext_get_or false (marks 0) (replicate 64 false) (length-marks 0 ∙ sym (length-replicate 64 false))
    (λ i h. let l = length-marks 0 in let low : i < 64 = omega (arith, h, l) in mark_at 0 i false low ∙ ap (λ (b : ℕ). nat_eq b 1) (bit_at-zero i) ∙ sym (get_or-replicate 64 i false false low))

-- the lowest bit that is not set
ones_before : (n k : ℕ) → n < 2 ^ 64 → k < trailing_ones w64 n → bit_at n k ≡ 1
ones_before n k h l =
    ⊎_elim (λ (m : n + 1 < 2 ^ 64). (bit_at-trailing_ones w64 n m).2 k l)
    (λ (m : 2 ^ 64 ≤ n + 1).
    let e : n ≡ 2 ^ 64 - 1 = omega (arith, h, m) in
    let within = trailing_le 64 (bit_not w64 n) in ap (λ (x : ℕ). bit_at x k) e ∙ bit_at_ones 64 k (omega (arith, within, l)))
    (cases_lt (n + 1) (2 ^ 64))

zero_at : (n : ℕ) → n < 2 ^ 64 → trailing_ones w64 n < 64 → bit_at n (trailing_ones w64 n) ≡ 0
zero_at n h l =
    ⊎_elim (λ (m : n + 1 < 2 ^ 64). (bit_at-trailing_ones w64 n m).1)
    (λ (m : 2 ^ 64 ≤ n + 1).
    let e : bit_not w64 n ≡ 0 = omega (arith, h, m) in
    let all : trailing_ones w64 n ≡ 64 = ap (count_trailing_zeros 64) e ∙ trailing_of_zero 64 in absurd (omega (arith, all, l)))
    (cases_lt (n + 1) (2 ^ 64))

first_place : (n b : ℕ) → n < 2 ^ 64 → position_or_len not (take b (marks n)) ≡ min (trailing_ones w64 n) (min b 64)
first_place n b h =
    let z = trailing_ones w64 n in
    let l : length (take b (marks n)) ≡ min b 64 = length-take b (marks n) ∙ ap (min b) (length-marks n) in
    position_or_len_is not (take b (marks n)) (min z (min b 64)) false (omega (arith, l))
    (λ k m. rw (get_or-take b (marks n) k false (omega (arith, m)), mark_at n k false (omega (arith, m)), ones_before n k h (omega (arith, m))) refl)
    (λ m.
    let here : min z (min b 64) ≡ z = omega (arith, m, l) in
    rw here (rw (get_or-take b (marks n) z false (omega (arith, m, l)), mark_at n z false (omega (arith, m, l)), zero_at n h (omega (arith, m, l))) refl))

pub first_some : (n b k : ℕ) → n < 2 ^ 64 → k ≡ trailing_ones w64 n → k < min b 64 → Some k ≡ position not (take b (marks n))
first_some n b k h e l =
    let z = trailing_ones w64 n in
    let count : length (take b (marks n)) ≡ min b 64 = length-take b (marks n) ∙ ap (min b) (length-marks n) in
    let place : position_or_len not (take b (marks n)) ≡ k = first_place n b h ∙ omega (arith, e, l) in
    rw (place, count, lt-ltb k (min b 64) l) refl

pub first_none : (n b k : ℕ) → n < 2 ^ 64 → k ≡ trailing_ones w64 n → min b 64 ≤ k → None ≡ position not (take b (marks n))
first_none n b k h e l =
    let z = trailing_ones w64 n in
    let count : length (take b (marks n)) ≡ min b 64 = length-take b (marks n) ∙ ap (min b) (length-marks n) in
    let place : position_or_len not (take b (marks n)) ≡ min b 64 = first_place n b h ∙ omega (arith, e, l) in
    rw (place, count, le-ltb (min b 64) (min b 64) (omega arith)) refl

-- a bit is set, or cleared
pub mark_set : (n b : ℕ) → b < 64 → marks (bit_or n (1 * 2 ^ b % 2 ^ 64)) ≡ set (marks n) b true
mark_set n b h =
    let w = bit_or n (1 * 2 ^ b % 2 ^ 64) in
    let l = length-marks n in
    let m = length-marks w in
    ext_get_or false (marks w) (set (marks n) b true) (m ∙ sym l ∙ sym (length-set (marks n) b true))
    (λ i g. let low : i < 64 = omega (arith, g, m) in
    mark_at w i false low
    ∙ ⊎_elim (λ (e : i ≡ b). rw e (ap (λ (x : ℕ). nat_eq x 1) (bit_at_set_same w64 n b h) ∙ sym (get_or-set_same (marks n) b true false (omega (arith, l, h)))))
    (λ (e : i ≡ b → ⊥). ap (λ (x : ℕ). nat_eq x 1) (bit_at_set_other w64 n b h i e) ∙ sym (mark_at n i false low) ∙ sym (get_or-set_other (marks n) b i true false e))
    (cases_eq i b))

pub mark_cleared : (n b : ℕ) → b < 64 → marks (bit_and n (2 ^ 64 - 1 - 1 * 2 ^ b % 2 ^ 64)) ≡ set (marks n) b false
mark_cleared n b h =
    let w = bit_and n (2 ^ 64 - 1 - 1 * 2 ^ b % 2 ^ 64) in
    let l = length-marks n in
    let m = length-marks w in
    ext_get_or false (marks w) (set (marks n) b false) (m ∙ sym l ∙ sym (length-set (marks n) b false))
    (λ i g. let low : i < 64 = omega (arith, g, m) in
    mark_at w i false low
    ∙ ⊎_elim (λ (e : i ≡ b). rw e (ap (λ (x : ℕ). nat_eq x 1) (bit_at_clear_same w64 n b h) ∙ sym (get_or-set_same (marks n) b false false (omega (arith, l, h)))))
    (λ (e : i ≡ b → ⊥). ap (λ (x : ℕ). nat_eq x 1) (bit_at_clear_other w64 n b h i low e) ∙ sym (mark_at n i false low) ∙ sym (get_or-set_other (marks n) b i false false e))
    (cases_eq i b))

-- a change past the marks is none
pub marks_past : (n b : ℕ) (v : Bool) → 64 ≤ b → marks n ≡ set (marks n) b v
marks_past n b v h = let l = length-marks n in sym (set_past (marks n) b v (omega (arith, l, h)))

-- words with the same marks are the same
pub marks_same : (n m : ℕ) → n < 2 ^ 64 → m < 2 ^ 64 → marks n ≡ marks m → n ≡ m
marks_same n m h l e =
    same_from_bits_below 64 n m h l (λ i low.
    bit (bit_at n i) (bit_at m i) (bit_at-lt n i) (bit_at-lt m i) (sym (mark_at n i false low) ∙ ap (λ (marks : List Bool). get_or marks i false) e ∙ mark_at m i false low))
  where
    bit : (b c : ℕ) → b < 2 → c < 2 → nat_eq b 1 ≡ nat_eq c 1 → b ≡ c
    bit b c h l e =
        ⊎_elim (λ (f : b ≡ 1). f ∙ sym (eqb-true c 1 (sym e ∙ eq-eqb b 1 f)))
        (λ (f : b ≡ 1 → ⊥). let other : c ≡ 1 → ⊥ = λ g. f (eqb-true b 1 (e ∙ eq-eqb c 1 g)) in omega (arith, h, l, f, other)) (cases_eq b 1)

-- the word of some marks
word_bits : (bs : List Bool) (i : ℕ) → bit_at (word_of bs) i ≡ cond (get_or bs i false) 1 0
word_bits [] i = bit_at-zero i
word_bits (b ∷ bs) zero = bit_at_lowest (word_of (b ∷ bs)) ∙ elim b as (λ (c : Bool). (cond c 1 0 + 2 * word_of bs) % 2 ≡ cond c 1 0) [ true ↦ omega arith | false ↦ omega arith ]
word_bits (b ∷ bs) (suc i) =
    bit_at-suc (word_of (b ∷ bs)) i
    ∙ ap (λ (n : ℕ). bit_at n i) (elim b as (λ (c : Bool). (cond c 1 0 + 2 * word_of bs) / 2 ≡ word_of bs) [ true ↦ omega arith | false ↦ omega arith ])
    ∙ word_bits bs i

word_fits : (bs : List Bool) → word_of bs < 2 ^ length bs
word_fits [] = omega arith
word_fits (b ∷ bs) =
    let rest = word_fits bs in
    let double : 2 ^ suc (length bs) ≡ 2 * 2 ^ length bs = pow-succ' 2 (length bs) in
    elim b as (λ (c : Bool). cond c 1 0 + 2 * word_of bs < 2 ^ suc (length bs)) [ true ↦ omega (arith, rest, double) | false ↦ omega (arith, rest, double) ]

-- the marks of a word tell it
pub word_told : (n : ℕ) → n < 2 ^ 64 → word_of (marks n) ≡ n
word_told n h =
    let l = length-marks n in
    same_from_bits_below 64 (word_of (marks n)) n (subst (λ (k : ℕ). word_of (marks n) < 2 ^ k) l (word_fits (marks n))) h (λ i low.
    word_bits (marks n) i ∙ ap (λ (b : Bool). cond b 1 0) (mark_at n i false low) ∙ bit (bit_at n i) (bit_at-lt n i))
  where
    bit : (b : ℕ) → b < 2 → cond (nat_eq b 1) 1 0 ≡ b
    bit b h = ⊎_elim (λ (f : b ≡ 1). rw (eq-eqb b 1 f) (sym f)) (λ (f : b ≡ 1 → ⊥). rw (ne_eqb b 1 f) (omega (arith, h, f))) (cases_eq b 1)
