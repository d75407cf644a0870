-- Lists of which all but the first numbers are 0.
use Rattle.std.proofs.Common.{◌≡◌, ◌∙◌, ℕ, suc, ◌+◌, ◌-◌, ◌<◌, ◌≤◌, List, [], ◌∷◌, ◌++◌, drop, length, take, refl, ap, ap₂, sym, arith, slice_index, min, ◌*◌, append_assoc}
use Rattle.std.specs.Prelude.{replicate, slice_range}
use Rattle.std.proofs.Math.Seq.{get_or-append_seam}
use Rattle.std.proofs.lemmas.Grind.{common_steps}
use Rattle.std.proofs.lemmas.List.{take-append-drop, length-drop, get_or-drop, length-take, length-take-le, take_at, drop_at}
use Rattle.fmp_search_kernel.specs.Keys.{IsPadded}

zeros : (ns : List ℕ) → ((i : ℕ) → i < length ns → slice_index ns i ≡ 0) → ns ≡ replicate (length ns) 0
zeros [] all = refl
zeros (n ∷ ns) all = ap₂ (λ (x : ℕ) (xs : List ℕ). x ∷ xs) (all 0 (omega arith)) (zeros ns (λ i small. all (suc i) (omega (arith, small))))

-- where from a place on each number is 0, there are only so many others
pub padded_by : (count : ℕ) (ns : List ℕ) → ((i : ℕ) → count ≤ i → i < length ns → slice_index ns i ≡ 0) → IsPadded count ns
padded_by count ns all =
    let left = length-drop count ns in
    zeros (drop count ns) (λ i small. get_or-drop count ns i 0 ∙ all (count + i) (omega arith) (omega (arith, small, left)))

-- such a list is told by its first numbers
pub padded_is : (count : ℕ) (ns : List ℕ) → IsPadded count ns → ns ≡ take count ns ++ replicate (length ns - count) 0
padded_is count ns padded = sym (take-append-drop count ns) ∙ ap (λ (rest : List ℕ). take count ns ++ rest) (padded ∙ ap (λ (k : ℕ). replicate k 0) (length-drop count ns))

pub padded_same : (count : ℕ) (ns ms : List ℕ) → length ns ≡ length ms → IsPadded count ns → IsPadded count ms → take count ns ≡ take count ms → ns ≡ ms
padded_same count ns ms long one other same =
    padded_is count ns one ∙ ap₂ (λ (xs : List ℕ) (k : ℕ). xs ++ replicate (k - count) 0) same long ∙ sym (padded_is count ms other)

same_items : (x y : ℕ) (xs ys : List ℕ) → x ∷ xs ≡ y ∷ ys → (x ≡ y) × (xs ≡ ys)
same_items x y xs ys is = (cc, cc)

same_parts : (xs ys us vs : List ℕ) → length xs ≡ length ys → xs ++ us ≡ ys ++ vs → (xs ≡ ys) × (us ≡ vs)
same_parts [] [] us vs long is = (refl, is)
same_parts [] (y ∷ ys) us vs long is = absurd (grind (arith, common_steps, long))
same_parts (x ∷ xs) [] us vs long is = absurd (grind (arith, common_steps, long))
same_parts (x ∷ xs) (y ∷ ys) us vs long is =
    let first = same_items x y (xs ++ us) (ys ++ vs) is in
    let rest = same_parts xs ys us vs (grind (arith, common_steps, long)) first.1 in
    (ap (λ z. z ∷ xs) first.0 ∙ ap (λ zs. y ∷ zs) rest.0, rest.1)

-- as many first numbers of lists that are as long
same_long : (n : ℕ) (xs ys : List ℕ) → length xs ≡ length ys → length (take n xs) ≡ length (take n ys)
same_long n xs ys long = length-take n xs ∙ ap (λ (k : ℕ). min n k) long ∙ sym (length-take n ys)

all_long : (s k : ℕ) (us vs ws xs : List ℕ) → length (s ∷ (us ++ (vs ++ (ws ++ (xs ++ k ∷ []))))) ≡ 2 + length us + length vs + length ws + length xs
all_long s k us vs ws xs = grind (arith, common_steps)

-- a number, the first numbers of four lists, and one number more
abbrev pub told : ℕ → ℕ → ℕ → List ℕ → List ℕ → List ℕ → List ℕ → ℕ → List ℕ
told n t seen us vs ws xs counting = seen ∷ (take n us ++ (take n vs ++ (take n ws ++ (take t xs ++ counting ∷ []))))

-- numbers that are told alike are the same
pub record AreTold (n t s s' : ℕ) (us us' vs vs' ws ws' xs xs' : List ℕ) (k k' : ℕ) : Type 0 where
  pub seen : s ≡ s'
  pub us_same : take n us ≡ take n us'
  pub vs_same : take n vs ≡ take n vs'
  pub ws_same : take n ws ≡ take n ws'
  pub xs_same : take t xs ≡ take t xs'
  pub counting : k ≡ k'

pub told_same : (n t s s' : ℕ) (us us' vs vs' ws ws' xs xs' : List ℕ) (k k' : ℕ) → length us ≡ length us' → length vs ≡ length vs' → length ws ≡ length ws' → length xs ≡ length xs' →
    told n t s us vs ws xs k ≡ told n t s' us' vs' ws' xs' k' → AreTold n t s s' us us' vs vs' ws ws' xs xs' k k'
told_same n t s s' us us' vs vs' ws ws' xs xs' k k' al bl cl dl is =
    let first = same_items _ _ _ _ is in
    let of_us = same_parts (take n us) (take n us') _ _ (same_long n us us' al) first.1 in
    let of_vs = same_parts (take n vs) (take n vs') _ _ (same_long n vs vs' bl) of_us.1 in
    let of_ws = same_parts (take n ws) (take n ws') _ _ (same_long n ws ws' cl) of_vs.1 in
    let of_xs = same_parts (take t xs) (take t xs') _ _ (same_long t xs xs' dl) of_ws.1 in
    let last = same_items _ _ _ _ of_xs.1 in
    record { seen = first.0; us_same = of_us.0; vs_same = of_vs.0; ws_same = of_ws.0; xs_same = of_xs.0; counting = last.0 }

-- lists that are told so are as long
pub told_long : (n t s s' : ℕ) (us us' vs vs' ws ws' xs xs' : List ℕ) (k k' : ℕ) → length us ≡ length us' → length vs ≡ length vs' → length ws ≡ length ws' → length xs ≡ length xs' →
    length (told n t s us vs ws xs k) ≡ length (told n t s' us' vs' ws' xs' k')
told_long n t s s' us us' vs vs' ws ws' xs xs' k k' ul vl wl xl =
    let one = all_long s k (take n us) (take n vs) (take n ws) (take t xs) in
    let other = all_long s' k' (take n us') (take n vs') (take n ws') (take t xs') in
    let u = same_long n us us' ul in
    let v = same_long n vs vs' vl in
    let w = same_long n ws ws' wl in
    let x = same_long t xs xs' xl in
    omega (arith, one, other, u, v, w, x)

-- and there are so many of them
pub told_count : (n t s k : ℕ) (us vs ws xs : List ℕ) → n ≤ length us → n ≤ length vs → n ≤ length ws → t ≤ length xs → length (told n t s us vs ws xs k) ≡ 2 + 3 * n + t
told_count n t s k us vs ws xs ul vl wl xl =
    let all = all_long s k (take n us) (take n vs) (take n ws) (take t xs) in
    let u = length-take-le n us ul in
    let v = length-take-le n vs vl in
    let w = length-take-le n ws wl in
    let x = length-take-le t xs xl in
    omega (arith, all, u, v, w, x)

-- a part of a list between two others
part_at : (numbers first part rest : List ℕ) (from to : ℕ) → numbers ≡ first ++ (part ++ rest) → length first ≡ from → from + length part ≡ to → slice_range numbers from to ≡ part
part_at numbers first part rest from to is begins ends =
    let many : to - from ≡ length part = omega (arith, ends) in
    ap (λ (l : List ℕ). slice_range l from to) is ∙ ap (λ (l : List ℕ). take (to - from) l) (drop_at first (part ++ rest) from begins) ∙ take_at part rest (to - from) (sym many)

-- the parts of a list that begins with one number and ends with another
pub record AreParts (numbers us vs ws xs : List ℕ) (n : ℕ) (k : ℕ) : Type 0 where
  pub us_part : slice_range numbers 1 (1 + n) ≡ us
  pub vs_part : slice_range numbers (1 + n) (1 + 2 * n) ≡ vs
  pub ws_part : slice_range numbers (1 + 2 * n) (1 + 3 * n) ≡ ws
  pub xs_part : slice_range numbers (1 + 3 * n) (length numbers - 1) ≡ xs
  pub last : slice_index numbers (length numbers - 1) ≡ k

pub parts_are : (numbers us vs ws xs : List ℕ) (s k n : ℕ) → length us ≡ n → length vs ≡ n → length ws ≡ n → numbers ≡ s ∷ (us ++ (vs ++ (ws ++ (xs ++ k ∷ [])))) → AreParts numbers us vs ws xs n k
parts_are numbers us vs ws xs s k n ul vl wl is =
    let long = ap length is ∙ all_long s k us vs ws xs in
    let two : length (s ∷ us) ≡ 1 + n = grind (arith, common_steps, ul) in
    let three : length (s ∷ (us ++ vs)) ≡ 1 + 2 * n = grind (arith, common_steps, ul, vl) in
    let four : length (s ∷ (us ++ (vs ++ ws))) ≡ 1 + 3 * n = grind (arith, common_steps, ul, vl, wl) in
    let five : length (s ∷ ((us ++ (vs ++ ws)) ++ xs)) ≡ length numbers - 1 = grind (arith, common_steps, ul, vl, wl, long) in
    record {
      us_part = part_at numbers (s ∷ []) us _ 1 (1 + n) is refl (omega (arith, ul));
      vs_part = part_at numbers (s ∷ us) vs _ (1 + n) (1 + 2 * n) is two (omega (arith, vl));
      ws_part = part_at numbers (s ∷ (us ++ vs)) ws (xs ++ k ∷ []) (1 + 2 * n) (1 + 3 * n) (is ∙ ap (λ (l : List ℕ). s ∷ l) (sym (append_assoc us vs _))) three (omega (arith, wl));
      xs_part = part_at numbers (s ∷ (us ++ (vs ++ ws))) xs (k ∷ []) (1 + 3 * n) (length numbers - 1) (is ∙ ap (λ (l : List ℕ). s ∷ l) (joined us vs ws (xs ++ k ∷ []))) four (omega (arith, long, ul, vl, wl));
      last =
          ap (λ (l : List ℕ). slice_index l (length numbers - 1)) (is ∙ ap (λ (l : List ℕ). s ∷ l) (joined us vs ws (xs ++ k ∷ []) ∙ sym (append_assoc (us ++ (vs ++ ws)) xs (k ∷ []))))
          ∙ ap (slice_index (s ∷ ((us ++ (vs ++ ws)) ++ xs ++ k ∷ []))) (sym five)
          ∙ get_or-append_seam (s ∷ ((us ++ (vs ++ ws)) ++ xs)) k [] 0;
    }
  where
    joined : (us vs ws rest : List ℕ) → us ++ (vs ++ (ws ++ rest)) ≡ (us ++ (vs ++ ws)) ++ rest
    joined us vs ws rest = sym (append_assoc us (vs ++ ws) rest ∙ ap (λ (l : List ℕ). us ++ l) (append_assoc vs ws rest))

-- a list that becomes the first numbers of another, and 0 after them, becomes the other
pub filled : (n : ℕ) (us part new : List ℕ) (long : ℕ) → part ≡ take n us → n ≤ length us → long ≡ length us → IsPadded n us → new ≡ part ++ replicate (long - length part) 0 → new ≡ us
filled n us part new long is within same padded filled_is =
    let many : length part ≡ n = ap length is ∙ length-take-le n us within in
    filled_is ∙ ap₂ (λ (l : List ℕ) (k : ℕ). l ++ replicate k 0) is (ap₂ (λ (a b : ℕ). a - b) same many) ∙ sym (padded_is n us padded)
