-- Timers that are made from the numbers that tell what they show.
use Rattle.std.proofs.Common.{◌≡◌, ℕ, zero, suc, ◌+◌, ◌-◌, ◌*◌, ◌/◌, ◌%◌, ◌^◌, ◌<◌, ◌≤◌, ◌==◌, ◌||◌, ◌⊎◌, inl, inr, Bool, true, false, cond, Option, Some, None, List, [], ◌∷◌, ◌++◌, length, drop, get_or, append_assoc, nat_eq, refl, sym, ap, ◌∙◌, subst, arith, ⊎_elim}
use Rattle.std.specs.Prelude.{is_some, nat_lt, slice_index, slice_index_or}
use Rattle.std.specs.List.{flat_map, range_with_len}
use Rattle.std.proofs.lemmas.Bool.{cases_eq, cases_lt, eq-eqb, ne_eqb, lt-ltb, le-ltb}
use Rattle.std.proofs.lemmas.List.{append-nil, drop_more, ext_get_or, length-drop, get_or-replicate, get_or-set_other, get_or-set_same, length-replicate, length-set}
use Rattle.fmp_codes.specs.Numbers.{as_proc, as_object}
use Rattle.fmp_codes.specs.declared.numbers.Proc.{Proc}
use Rattle.fmp_codes.specs.declared.numbers.Task.{Task}
use Rattle.fmp_kernel_parts.specs.Tasks.{task_at, has_task, without, AreDistinct}
use Rattle.fmp_kernel_parts.proofs.Having.{or_left, or_right}
use Rattle.fmp_kernel_parts.proofs.Tasks.{number_at, task_is, without_lacking}
use Rattle.fmp_time.specs.declared.item.Item.TheVariants.{Alarm, Cyclic}
use Rattle.fmp_time.specs.Differences.{Entry}
use Rattle.fmp_time.specs.Left.{Left, left_in}
use Rattle.fmp_time.specs.Times.{Times, place_of, item_at, began, armed, no_times, AreWaits}
use Rattle.fmp_time.specs.Shown.{times_of}
use Rattle.fmp_time.specs.Words.{left_words, wait_places, handler_places, words_of, armed_by, made_from}
use Rattle.fmp_time.proofs.Effects.{place-item_at, times_same}
use Rattle.fmp_time.proofs.Lefts.{proc_is}
use Rattle.fmp_time.proofs.Tables.{length-table}

-- an item counts as is told of its place
abbrev put : Times → ℕ → Option Left → Times
put s k None = s
put s k (Some l) = armed s l.processor (item_at k) l.ticks

abbrev put_all : (ℕ → Option Left) → Times → List ℕ → Times
put_all f s [] = s
put_all f s (k ∷ ks) = put_all f (put s k (f k)) ks

abbrev AreBelow : List ℕ → Type 0
AreBelow [] = Unit {0}
AreBelow (k ∷ ks) = (k < 128) × AreBelow ks

abbrev IsIn : ℕ → List ℕ → Type 0
IsIn j [] = ⊥
IsIn j (k ∷ ks) = (j ≡ k) ⊎ IsIn j ks

-- The numbers are read as they were told.

made_one : (s : Times) (k : ℕ) (o : Option Left) (ws : List ℕ) → k < 128 → made_from s (left_words k o ++ ws) ≡ made_from (put s k o) ws
made_one s k None ws h = refl
made_one s k (Some l) ws h =
    let low = l.processor.least in
    let high = l.processor.most in
    let w : ℕ = 8 * k + (l.processor.number - 1) in
    let n : ℕ = l.ticks % 2 ^ 32 + l.ticks / 2 ^ 32 * 2 ^ 32 in
    let on : (8 * k + (l.processor.number - 1)) % 8 + 1 ≡ l.processor.number - 1 + 1 = omega (arith, low, high) in
    let at : (8 * k + (l.processor.number - 1)) / 8 % 128 ≡ k = omega (arith, h, low, high) in
    let whole : l.ticks % 2 ^ 32 + l.ticks / 2 ^ 32 * 2 ^ 32 ≡ l.ticks = omega arith in
    ap (λ (p : Proc). made_from (armed s p (item_at (w / 8 % 128)) n) ws) (ap as_proc on ∙ proc_is l.processor)
    ∙ ap (λ (j : ℕ). made_from (armed s l.processor (item_at j) n) ws) at ∙ ap (λ (m : ℕ). made_from (armed s l.processor (item_at k) m) ws) whole

made_all : (f : ℕ → Option Left) (s : Times) (ks : List ℕ) → AreBelow ks → made_from s (flat_map (λ k. left_words k (f k)) ks) ≡ put_all f s ks
made_all f s [] h = refl
made_all f s (k ∷ ks) h = made_one s k (f k) (flat_map (λ j. left_words j (f j)) ks) h.0 ∙ made_all f (put s k (f k)) ks h.1

put_all-append : (f : ℕ → Option Left) (s : Times) (xs ys : List ℕ) → put_all f s (xs ++ ys) ≡ put_all f (put_all f s xs) ys
put_all-append f s [] ys = refl
put_all-append f s (x ∷ xs) ys = put_all-append f (put s x (f x)) xs ys

-- What is left of each item.

length-put : (s : Times) (k : ℕ) (o : Option Left) → length (put s k o).left ≡ length s.left
length-put s k None = refl
length-put s k (Some l) = length-set s.left (place_of (item_at k)) (Some (record { processor = l.processor; ticks = l.ticks }))

length-put_all : (f : ℕ → Option Left) (s : Times) (ks : List ℕ) → length (put_all f s ks).left ≡ length s.left
length-put_all f s [] = refl
length-put_all f s (k ∷ ks) = length-put_all f (put s k (f k)) ks ∙ length-put s k (f k)

put_here : (s : Times) (k : ℕ) (l : Left) → k < 128 → length s.left ≡ 128 → slice_index_or (put s k (Some l)).left k None ≡ Some l
put_here s k l h count =
    let place : place_of (item_at k) ≡ k = place-item_at k h in
    ap (λ (j : ℕ). slice_index_or (put s k (Some l)).left j None) (sym place)
    ∙ get_or-set_same s.left (place_of (item_at k)) (Some l) None (omega (arith, h, count, place))

put_other : (s : Times) (k j : ℕ) (o : Option Left) → k < 128 → (j ≡ k → ⊥) → slice_index_or (put s k o).left j None ≡ slice_index_or s.left j None
put_other s k j None h f = refl
put_other s k j (Some l) h f = get_or-set_other s.left (place_of (item_at k)) j (Some l) None (λ (e : j ≡ place_of (item_at k)). f (e ∙ place-item_at k h))

-- each item is as it is to become, or still to come
abbrev IsBegun : (ℕ → Option Left) → List ℕ → Times → Type 0
IsBegun f ks s = (j : ℕ) → j < 128 → (slice_index_or s.left j None ≡ f j) ⊎ (IsIn j ks × (slice_index_or s.left j None ≡ None))

begun_on : (f : ℕ → Option Left) (s : Times) (k : ℕ) (ks : List ℕ) (o : Option Left) → f k ≡ o → k < 128 → length s.left ≡ 128 → IsBegun f (k ∷ ks) s → IsBegun f ks (put s k o)
begun_on f s k ks None e h count g j l =
    ⊎_elim (λ a. inl a) (λ b. ⊎_elim (λ (same : j ≡ k). inl (b.1 ∙ sym (ap f same ∙ e))) (λ later. inr (later, b.1)) b.0) (g j l)
begun_on f s k ks (Some v) e h count g j l =
    ⊎_elim (λ (same : j ≡ k). inl (ap (λ (i : ℕ). slice_index_or (put s k (Some v)).left i None) same ∙ put_here s k v h count ∙ sym (ap f same ∙ e)))
    (λ (other : j ≡ k → ⊥).
    let stays = put_other s k j (Some v) h other in
    ⊎_elim (λ a. inl (stays ∙ a)) (λ b. ⊎_elim (λ (same : j ≡ k). absurd (other same)) (λ later. inr (later, stays ∙ b.1)) b.0) (g j l))
    (cases_eq j k)

left_made : (f : ℕ → Option Left) (s : Times) (ks : List ℕ) → AreBelow ks → length s.left ≡ 128 → IsBegun f ks s → (j : ℕ) → j < 128 → slice_index_or (put_all f s ks).left j None ≡ f j
left_made f s [] h count g j l = ⊎_elim (λ a. a) (λ b. absurd b.0) (g j l)
left_made f s (k ∷ ks) h count g j l = left_made f (put s k (f k)) ks h.1 (length-put s k (f k) ∙ count) (begun_on f s k ks (f k) refl h.0 count g) j l

-- Which waits began.

put_handler : (s : Times) (k : ℕ) (o : Option Left) → 64 ≤ k → (put s k o).waits ≡ s.waits
put_handler s k None h = refl
put_handler s k (Some l) h =
    rw (le-ltb k 64 h)
    (elim (nat_lt k 96) as (λ (b : Bool). began (cond b (Alarm (as_object (k - 63))) (Cyclic (as_object (k - 95)))) s.waits ≡ s.waits) [ true ↦ refl | false ↦ refl ])

put_handlers : (f : ℕ → Option Left) (s : Times) (a n : ℕ) → 64 ≤ a → (put_all f s (range_with_len a n)).waits ≡ s.waits
put_handlers f s a zero h = refl
put_handlers f s a (suc n) h = put_handlers f (put s a (f a)) (a + 1) n (omega (arith, h)) ∙ put_handler s a (f a) h

put_wait : (s : Times) (t : Task) (o : Option Left) → is_some o ≡ true → has_task t s.waits ≡ false → (put s (t.number - 1) o).waits ≡ s.waits ++ t ∷ []
put_wait s t None e out = cc
put_wait s t (Some l) e out =
    let low = t.least in
    let high = t.most in
    rw (lt-ltb (t.number - 1) 64 (omega (arith, low, high)))
    (ap (λ (u : Task). without u s.waits ++ u ∷ []) (task_is t (t.number - 1) (omega (arith, low))) ∙ ap (λ (ts : List Task). ts ++ t ∷ []) (without_lacking t s.waits out))

not_again : (x t : Task) (ws ts : List Task) → has_task x (ws ++ t ∷ ts) ≡ false → x.number ≡ t.number → ⊥
not_again x t [] ts h e = let bad = or_left (nat_eq x.number t.number) (has_task x ts) h in let yes : nat_eq x.number t.number ≡ true = eq-eqb x.number t.number e in cc
not_again x t (w ∷ ws) ts h e = not_again x t ws ts (or_right (nat_eq x.number w.number) (has_task x (ws ++ t ∷ ts)) h) e

apart_mid : (ws : List Task) (t : Task) (ts : List Task) → AreDistinct (ws ++ t ∷ ts) → has_task t ws ≡ false
apart_mid [] t ts d = refl
apart_mid (w ∷ ws) t ts d = ap (λ (b : Bool). b || has_task t ws) (ne_eqb t.number w.number (λ e. not_again w t ws ts d.0 (sym e))) ∙ apart_mid ws t ts d.1

has_first : (t : Task) (ts : List Task) → has_task t (t ∷ ts) ≡ true
has_first t ts = ap (λ (b : Bool). b || has_task t ts) (eq-eqb t.number t.number refl)

has_later : (t u : Task) (ts : List Task) → has_task t ts ≡ true → has_task t (u ∷ ts) ≡ true
has_later t u ts h = elim (t.number == u.number) as (λ (b : Bool). (b || has_task t ts) ≡ true) [ true ↦ refl | false ↦ h ]

put_waits : (f : ℕ → Option Left) (s : Times) (ts : List Task) → ((t : Task) → has_task t ts ≡ true → is_some (f (t.number - 1)) ≡ true) → AreDistinct (s.waits ++ ts) →
    (put_all f s (wait_places ts)).waits ≡ s.waits ++ ts
put_waits f s [] some d = sym (append-nil s.waits)
put_waits f s (t ∷ ts) some d =
    let next : (put s (t.number - 1) (f (t.number - 1))).waits ≡ s.waits ++ t ∷ [] = put_wait s t (f (t.number - 1)) (some t (has_first t ts)) (apart_mid s.waits t ts d) in
    let all : (put s (t.number - 1) (f (t.number - 1))).waits ++ ts ≡ s.waits ++ t ∷ ts = ap (λ (ws : List Task). ws ++ ts) next ∙ append_assoc s.waits (t ∷ []) ts in
    put_waits f (put s (t.number - 1) (f (t.number - 1))) ts (λ u h. some u (has_later u t ts h)) (subst AreDistinct (sym all) d) ∙ all

-- The places have all items that count.

in_left : (j : ℕ) (xs ys : List ℕ) → IsIn j xs → IsIn j (xs ++ ys)
in_left j [] ys i = absurd i
in_left j (x ∷ xs) ys i = ⊎_elim (λ e. inl e) (λ h. inr (in_left j xs ys h)) i

in_right : (j : ℕ) (xs ys : List ℕ) → IsIn j ys → IsIn j (xs ++ ys)
in_right j [] ys i = i
in_right j (x ∷ xs) ys i = inr (in_right j xs ys i)

in_range : (a n j : ℕ) → a ≤ j → j < a + n → IsIn j (range_with_len a n)
in_range a zero j l h = absurd (omega (arith, l, h))
in_range a (suc n) j l h = ⊎_elim (λ (e : j ≡ a). inl e) (λ (e : j ≡ a → ⊥). inr (in_range (a + 1) n j (omega (arith, l, e)) (omega (arith, h)))) (cases_eq j a)

in_waits : (t : Task) (j : ℕ) (ts : List Task) → t.number - 1 ≡ j → has_task t ts ≡ true → IsIn j (wait_places ts)
in_waits t j [] e h = cc
in_waits t j (u ∷ us) e h =
    ⊎_elim (λ (g : t.number ≡ u.number). inl (sym e ∙ ap (λ (n : ℕ). n - 1) g))
    (λ (g : t.number ≡ u.number → ⊥). inr (in_waits t j us e (sym (ap (λ (b : Bool). b || has_task t us) (ne_eqb t.number u.number g)) ∙ h))) (cases_eq t.number u.number)

range_below : (a n : ℕ) → a + n ≤ 128 → AreBelow (range_with_len a n)
range_below a zero h = tt
range_below a (suc n) h = (omega (arith, h), range_below (a + 1) n (omega (arith, h)))

places_below : (ts : List Task) (ks : List ℕ) → AreBelow ks → AreBelow (wait_places ts ++ ks)
places_below [] ks h = h
places_below (t ∷ ts) ks h = (let low = t.least in let high = t.most in omega (arith, low, high), places_below ts ks h)

module _ (m : Times) (count : length m.left ≡ 128) (waits : AreWaits m) (apart : AreDistinct m.waits) where
  below : AreBelow (wait_places m.waits ++ range_with_len 64 64)
  below = places_below m.waits (range_with_len 64 64) (range_below 64 64 (omega arith))

  early : (j : ℕ) (o : Option Left) → j < 64 → slice_index_or m.left j None ≡ o → (None ≡ o) ⊎ IsIn j (wait_places m.waits)
  early j None l e = inl refl
  early j (Some v) l e =
      let place : (task_at j).number - 1 ≡ j = omega (arith, number_at j l) in
      inr (in_waits (task_at j) j m.waits place (waits (task_at j) ∙ ap (λ (k : ℕ). is_some (slice_index_or m.left k None)) place ∙ ap is_some e))

  begun : (j : ℕ) → j < 128 →
      (slice_index_or no_times.left j None ≡ slice_index_or m.left j None) ⊎ (IsIn j (wait_places m.waits ++ range_with_len 64 64) × (slice_index_or no_times.left j None ≡ None))
  begun j l =
      let none : slice_index_or no_times.left j None ≡ None = get_or-replicate 128 j None None l in
      ⊎_elim (λ (h : j < 64). ⊎_elim (λ e. inl (none ∙ e)) (λ i. inr (in_left j (wait_places m.waits) (range_with_len 64 64) i, none)) (early j (slice_index_or m.left j None) h refl))
      (λ (h : 64 ≤ j). inr (in_right j (wait_places m.waits) (range_with_len 64 64) (in_range 64 64 j h (omega (arith, l))), none)) (cases_lt j 64)

  left_same : (put_all (λ k. slice_index_or m.left k None) no_times (wait_places m.waits ++ range_with_len 64 64)).left ≡ m.left
  left_same =
      let f : ℕ → Option Left = λ k. slice_index_or m.left k None in
      let ks : List ℕ = wait_places m.waits ++ range_with_len 64 64 in
      let full : length no_times.left ≡ 128 = length-replicate {A = Option Left} 128 None in
      let all : length (put_all (λ k. slice_index_or m.left k None) no_times (wait_places m.waits ++ range_with_len 64 64)).left ≡ 128 = length-put_all f no_times ks ∙ full in
      ext_get_or None (put_all f no_times ks).left m.left (all ∙ sym count) (λ j l. left_made f no_times ks below full begun j (omega (arith, l, all)))

  waits_same : (put_all (λ k. slice_index_or m.left k None) no_times (wait_places m.waits ++ range_with_len 64 64)).waits ≡ m.waits
  waits_same =
      let f : ℕ → Option Left = λ k. slice_index_or m.left k None in
      ap (λ (s : Times). s.waits) (put_all-append f no_times (wait_places m.waits) (range_with_len 64 64))
      ∙ put_handlers f (put_all f no_times (wait_places m.waits)) 64 64 (omega arith)
      ∙ put_waits f no_times m.waits (λ t h. sym (waits t) ∙ h) apart

  -- the numbers that tell what the timers show make them again
  pub made_again : made_from no_times (words_of m) ≡ m
  unfolding words_of handler_places
  made_again =
      let f : ℕ → Option Left = λ k. slice_index_or m.left k None in
      let ks : List ℕ = wait_places m.waits ++ range_with_len 64 64 in
      made_all f no_times ks below ∙ times_same (put_all f no_times ks).left m.left (put_all f no_times ks).waits m.waits left_same waits_same

pub times_again : (q : List (List Entry)) (ts : List Task) → AreWaits (times_of q ts) → AreDistinct ts → made_from no_times (words_of (times_of q ts)) ≡ times_of q ts
times_again q ts waits apart = made_again (times_of q ts) (length-table (left_in q)) waits apart

-- The walk over the numbers.

next_three : (ws : List ℕ) (n : ℕ) → n + 2 < length ws → drop n ws ≡ get_or ws n 0 ∷ get_or ws (n + 1) 0 ∷ get_or ws (n + 1 + 1) 0 ∷ drop (n + 1 + 1 + 1) ws
next_three ws n h =
    let a = get_or ws n 0 in
    let b = get_or ws (n + 1) 0 in
    drop_more ws n 0 (omega (arith, h)) ∙ ap (λ (r : List ℕ). a ∷ r) (drop_more ws (n + 1) 0 (omega (arith, h))) ∙ ap (λ (r : List ℕ). a ∷ b ∷ r) (drop_more ws (n + 1 + 1) 0 (omega (arith, h)))

pub made_next : (s : Times) (ws : List ℕ) (i : ℕ) → i < length ws / 3 →
    made_from s (drop (3 * i) ws) ≡ made_from (armed_by s (slice_index ws (3 * i)) (slice_index ws (3 * i + 1)) (slice_index ws (3 * i + 2))) (drop (3 * (i + 1)) ws)
made_next s ws i h =
    let n : ℕ = 3 * i in
    let third : 3 * i + 1 + 1 ≡ 3 * i + 2 = omega arith in
    let after : 3 * i + 1 + 1 + 1 ≡ 3 * (i + 1) = omega arith in
    ap (made_from s) (next_three ws (3 * i) (omega (arith, h)))
    ∙ ap (λ (j : ℕ). made_from (armed_by s (slice_index ws n) (slice_index ws (n + 1)) (slice_index ws j)) (drop (n + 1 + 1 + 1) ws)) third
    ∙ ap (λ (j : ℕ). made_from (armed_by s (slice_index ws n) (slice_index ws (n + 1)) (slice_index ws (n + 2))) (drop j ws)) after

short : (s : Times) (ws : List ℕ) → length ws < 3 → made_from s ws ≡ s
short s [] h = refl
short s (w ∷ []) h = refl
short s (w ∷ low ∷ []) h = refl
short s (w ∷ low ∷ high ∷ ws) h = absurd (omega (arith, h))

pub made_end : (s : Times) (ws : List ℕ) (n : ℕ) → length ws < n + 3 → made_from s (drop n ws) ≡ s
made_end s ws n h = short s (drop n ws) (let left = length-drop n ws in omega (arith, h, left))
