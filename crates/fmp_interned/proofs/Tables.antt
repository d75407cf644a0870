-- A table in which each number stands before the first free slot from the one that its hash names.
use Rattle.std.proofs.Common.{◌≡◌, inl, inr, ℕ, ◌+◌, ◌-◌, ◌%◌, ◌<◌, false, List, [], ◌∷◌, ◌++◌, length, get_or, set, take, eqb, cond, refl, ap, sym, subst, ◌∙◌, arith}
use Rattle.std.proofs.Math.Nat.{eq-or-lt_of_le}
use Rattle.std.proofs.Math.Nat.{mod-lt}
use Rattle.std.proofs.lemmas.Bool.{cases_lt}
use Rattle.std.proofs.lemmas.Bool.Decides.{eqb_tells}
use Rattle.std.proofs.lemmas.List.{get_or-set_other, get_or-set_same, length-set, length-take, take_more}
use Rattle.std.proofs.lemmas.List.Sums.{sum_by-cons, sum_by-set}
use Rattle.std.proofs.lemmas.Grind.{common_steps}
use Rattle.fmp_interned.proofs.Numbers.{slice_get-pushed}
use Rattle.fmp_interned.specs.Tables.{slot_at, tried, free_in, AreMet, Holds, IsMet, IsPut}

slot_low : (first turn slots : ℕ) → first < slots → turn < slots → slot_at first turn slots < slots
unfolding slot_at
slot_low first turn slots f t = grind (arith, f, t)

-- every slot is tried at some turn
pub turn_of : (first slots k : ℕ) → first < slots → k < slots → (t : ℕ) × (t < slots) × (slot_at first t slots ≡ k)
unfolding slot_at
turn_of first slots k f lt = elim (cases_lt k first) [
  | inl below ↦ (k + (slots - first), omega (arith, below, f), grind (arith, f, lt, below))
  | inr above ↦ (k - first, omega (arith, above, lt), grind (arith, f, lt, above))
]

-- where nothing is free nothing is counted
none_free : (xs : List ℕ) → ((k : ℕ) → k < length xs → get_or xs k 0 ≡ 0 → ⊥) → free_in xs ≡ 0
none_free [] not_here = refl
none_free (x ∷ xs) not_here =
    let rest = none_free xs (λ k lt is. not_here (k + 1) (grind (arith, common_steps, lt)) (grind (arith, common_steps, is))) in
    let here : eqb x 0 ≡ false = elim (eqb_tells x 0) [
      | inl is ↦ absurd (not_here 0 (grind (arith, common_steps)) is.1)
      | inr not ↦ not.0
    ] in
    let head : ◌≡◌ {A = ℕ} (cond (eqb x 0) 1 0) 0 = rw here refl in
    let total : free_in (x ∷ xs) ≡ cond (eqb x 0) 1 0 + free_in xs = sum_by-cons (λ y. cond (eqb y 0) 1 0) x xs in
    omega (arith, head, total, rest)

-- where each slot was tried and none was free there is none
pub all_tried : (table : List ℕ) (hash : ℕ) → 0 < length table → ((t : ℕ) → t < length table → tried table hash t ≡ 0 → ⊥) → free_in table ≡ 0
all_tried table hash some not_here = none_free table (λ k lt is.
    let got = turn_of (hash % length table) (length table) k (mod-lt hash some) lt in
    not_here got.0 got.1 (ap (λ s. get_or table s 0) got.2 ∙ is))

pub some_slots : (table : List ℕ) → 0 < free_in table → 0 < length table
some_slots [] lt = absurd (omega (arith, lt))
some_slots (x ∷ xs) lt = grind (arith, common_steps)

module _ (old : List ℕ) (at number : ℕ) (low : at < length old) (free : get_or old at 0 ≡ 0) (some : number ≡ 0 → ⊥) where
  still : (k : ℕ) → (get_or old k 0 ≡ 0 → ⊥) → get_or (set old at number) k 0 ≡ get_or old k 0
  still k taken = get_or-set_other old at k number 0 (λ is. taken (ap (λ j. get_or old j 0) is ∙ free))

  -- what was taken stays so
  still_taken : (k : ℕ) → (get_or old k 0 ≡ 0 → ⊥) → get_or (set old at number) k 0 ≡ 0 → ⊥
  still_taken k taken is = taken (sym (still k taken) ∙ is)

  -- one slot fewer is free
  one_fewer : free_in (set old at number) + 1 ≡ free_in old
  one_fewer =
      let change : free_in (set old at number) + cond (eqb (get_or old at 0) 0) 1 0 ≡ free_in old + cond (eqb number 0) 1 0 = sum_by-set (λ y. cond (eqb y 0) 1 0) old at number 0 low in
      let was : ◌≡◌ {A = ℕ} (cond (eqb (get_or old at 0) 0) 1 0) 1 = rw free refl in
      let not : eqb number 0 ≡ false = elim (eqb_tells number 0) [ inl is ↦ absurd (some is.1) | inr other ↦ other.0 ] in
      let now : ◌≡◌ {A = ℕ} (cond (eqb number 0) 1 0) 0 = rw not refl in
      omega (arith, change, was, now)

-- where one number was put in, the others are met as they were
met_still : (old new : List ℕ) (hash number other k : ℕ) → (number ≡ 0 → ⊥) → (k ≡ 0 → ⊥) → IsPut old new hash number → IsMet old other k → IsMet new other k
met_still old new hash number other k some there is_put met =
    let at = slot_at (hash % length old) is_put.turn (length old) in
    let len : length (set old at number) ≡ length old = length-set old at number in
    let room : 0 < length old = let low = is_put.low in omega (arith, low) in
    let low : at < length old = slot_low (hash % length old) is_put.turn (length old) (mod-lt hash room) is_put.low in
    let slot : ℕ → ℕ = λ t. slot_at (other % length old) t (length old) in
    let same : (t : ℕ) → tried (set old at number) other t ≡ get_or (set old at number) (slot t) 0 =
    λ t. ap (λ n. get_or (set old at number) (slot_at (other % n) t n) 0) len in
    subst (λ (xs : List ℕ). IsMet xs other k) (sym is_put.is)
    (λ turn le not_here.
    let was = met turn (omega (arith, le, len)) (λ t lt is. not_here t lt (same t ∙ still old at number low is_put.free some (slot t) (λ z. there (sym is ∙ z)) ∙ is)) in
    let before = was.0 in
    (omega (arith, before, len), λ z. still_taken old at number low is_put.free some (slot turn) was.1 (sym (same turn) ∙ z)))

-- and it is met
met_there : (old new : List ℕ) (hash number : ℕ) → (number ≡ 0 → ⊥) → IsPut old new hash number → IsMet new hash number
met_there old new hash number some is_put =
    let at = slot_at (hash % length old) is_put.turn (length old) in
    let len : length (set old at number) ≡ length old = length-set old at number in
    let room : 0 < length old = let low = is_put.low in omega (arith, low) in
    let low : at < length old = slot_low (hash % length old) is_put.turn (length old) (mod-lt hash room) is_put.low in
    let slot : ℕ → ℕ = λ t. slot_at (hash % length old) t (length old) in
    let same : (t : ℕ) → tried (set old at number) hash t ≡ get_or (set old at number) (slot t) 0 =
    λ t. ap (λ n. get_or (set old at number) (slot_at (hash % n) t n) 0) len in
    let here : tried (set old at number) hash is_put.turn ≡ number = same is_put.turn ∙ get_or-set_same old at number 0 low in
    let within = is_put.low in
    subst (λ (xs : List ℕ). IsMet xs hash number) (sym is_put.is)
    (λ turn le not_here. elim (cases_lt is_put.turn turn) [
      | inl past ↦ absurd (not_here is_put.turn past here)
      | inr not_past ↦ (
        omega (arith, not_past, within, len),
        λ z. elim (eq-or-lt_of_le not_past) [
          | inl is ↦ some (sym here ∙ ap (tried (set old at number) hash) (sym is) ∙ z)
          | inr lt ↦ still_taken old at number low is_put.free some (slot turn) (is_put.before turn lt) (sym (same turn) ∙ z)
        ],
      )
    ])

-- there are as many slots as before
pub slots_stay : (old new : List ℕ) (hash number : ℕ) → IsPut old new hash number → length new ≡ length old
slots_stay old new hash number is_put = ap (λ (xs : List ℕ). length xs) is_put.is ∙ length-set old _ number

pub fewer_free : (old new : List ℕ) (hash number : ℕ) → (number ≡ 0 → ⊥) → IsPut old new hash number → free_in new + 1 ≡ free_in old
fewer_free old new hash number some is_put =
    let at = slot_at (hash % length old) is_put.turn (length old) in
    let room : 0 < length old = let low = is_put.low in omega (arith, low) in
    let low : at < length old = slot_low (hash % length old) is_put.turn (length old) (mod-lt hash room) is_put.low in
    subst (λ (xs : List ℕ). free_in xs + 1 ≡ free_in old) (sym is_put.is) (one_fewer old at number low is_put.free some)

-- all numbers are met, where one more was put in
pub met_more : (old new hashes : List ℕ) (hash number : ℕ) → number ≡ length hashes + 1 → AreMet old hashes → IsPut old new hash number → AreMet new (hashes ++ hash ∷ [])
met_more old new hashes hash number is all is_put k h at = elim (slice_get-pushed hashes hash h k at) [
  | inl last ↦
      let there = met_there old new hash number (λ z. absurd (omega (arith, z, is))) is_put in
      let number_is : number ≡ k + 1 = omega (arith, is, last.0) in
      subst (λ n. IsMet new h n) number_is (subst (λ x. IsMet new x number) (sym last.1) there)
  | inr before ↦ met_still old new hash number h (k + 1) (λ z. absurd (omega (arith, z, is))) (λ z. absurd (omega (arith, z))) is_put (all k h before)
]

-- a table that has the numbers of some hashes has those of one more, where its number was put in
pub holds_more : (old new hashes : List ℕ) (hash number : ℕ) → number ≡ length hashes + 1 → Holds old hashes → IsPut old new hash number → Holds new (hashes ++ hash ∷ [])
holds_more old new hashes hash number is holds is_put =
    let free = holds.free in
    let fewer = fewer_free old new hash number (λ z. absurd (omega (arith, z, is))) is_put in
    let slots = slots_stay old new hash number is_put in
    let long : length (hashes ++ hash ∷ []) ≡ length hashes + 1 = grind (arith, common_steps) in
    record { free = omega (arith, free, fewer, slots, long); met = met_more old new hashes hash number is holds.met is_put }

-- where it has those of the first hashes, and the next one's number was put in, it has that too
pub holds_next : (old new hashes : List ℕ) (at hash : ℕ) → at < length hashes → hash ≡ get_or hashes at 0 → Holds old (take at hashes) → IsPut old new hash (at + 1) → Holds new (take (at + 1) hashes)
holds_next old new hashes at hash lt is holds put =
    let long = length-take at hashes in
    let more : take at hashes ++ hash ∷ [] ≡ take (at + 1) hashes = ap (λ x. take at hashes ++ x ∷ []) is ∙ sym (take_more hashes at 0 lt) in
    subst (λ (hs : List ℕ). Holds new hs) more (holds_more old new (take at hashes) hash (at + 1) (omega (arith, long, lt)) holds put)
