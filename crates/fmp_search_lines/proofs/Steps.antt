-- The lines that steps take, from one step to the next.
use Rattle.std.proofs.Common.{◌≡◌, ℕ, ◌+◌, ◌-◌, ◌<◌, ◌≤◌, ltb, leb, true, false, ◌&&◌, refl, sym, None, Some, List, [], ◌∷◌, ◌++◌, length, get_or, drop, ap}
use Rattle.std.proofs.Common.{◌∙◌, append_assoc, arith}
use Rattle.std.proofs.lemmas.List.{append-nil, drop_all, drop_more}
use Rattle.std.proofs.lemmas.Bool.{and_from, and_parts, and_right, leb-true, le-leb, ltb-true, lt-leb, lt-ltb, le-ltb}
use Rattle.fmp_search_lines.specs.Orders.{most, numbers_from}
use Rattle.fmp_search_lines.specs.Places.{line_and, line_of, lines_from, may_leave, may_pass, pending_after, top_after}
use Rattle.fmp_search_lines.proofs.Sets.{all-may_pass, either, has-append, has-left, has-numbers, has-right, may_pass-all, not_both, numbers-have, to_false}

module _ (last : ℕ → ℕ) (count : ℕ) (steps : List ℕ) (k top : ℕ) (pending : List ℕ) (is all : List ℕ) where
  -- these lines, and then those that the steps from one on take, are all
  abbrev pub Rest : Type 0
  Rest = is ++ lines_from last count top pending (drop k steps) ≡ all

  next_lines : k < length steps → lines_from last count top pending (drop k steps) ≡
      line_and (line_of last count top pending (get_or steps k 0))
      (λ j. lines_from last count (top_after top (get_or steps k 0)) (pending_after top pending j (get_or steps k 0)) (drop (k + 1) steps))
  unfolding lines_from
  next_lines under = let e = drop_more steps k 0 under in rw e refl

  pub stops : Rest → k < length steps → None ≡ line_of last count top pending (get_or steps k 0) → is ≡ all
  stops rest under none =
      let e : lines_from last count top pending (drop k steps) ≡ [] = next_lines under ∙ rw (sym none) refl in
      sym (append-nil is) ∙ (ap (λ (xs : List ℕ). is ++ xs) (sym e) ∙ rest)

  pub goes_on : Rest → k < length steps → (j next : ℕ) (left more : List ℕ) → Some j ≡ line_of last count top pending (get_or steps k 0) →
      next ≡ top_after top (get_or steps k 0) → left ≡ pending_after top pending j (get_or steps k 0) → more ≡ is ++ j ∷ [] →
      more ++ lines_from last count next left (drop (k + 1) steps) ≡ all
  goes_on rest under j next left more some is_next is_left is_more =
      let e : lines_from last count top pending (drop k steps) ≡ j ∷ lines_from last count next left (drop (k + 1) steps) =
      next_lines under ∙ rw (sym some, is_next, is_left) refl in
      ap (λ (xs : List ℕ). xs ++ lines_from last count next left (drop (k + 1) steps)) is_more ∙
      (append_assoc is (j ∷ []) _ ∙ (ap (λ (xs : List ℕ). is ++ xs) (sym e) ∙ rest))

  pub ends : Rest → length steps ≤ k → is ≡ all
  unfolding lines_from
  ends rest over =
      let e : drop k steps ≡ [] = drop_all k steps over in
      sym (append-nil is) ∙ (rw e at rest)

-- where a line may not be taken that leaves some lines pending, none may that leaves more
module _ (last : ℕ → ℕ) (count top : ℕ) (pending : List ℕ) where
  fewer : (k m : ℕ) → k ≤ m → may_leave last count top pending m ≡ true → may_leave last count top pending k ≡ true
  fewer k m less may =
      let p = and_parts (ltb (top + m) count) (may_pass last (top + m) (pending ++ numbers_from top m) && leb (length pending + m) most) may in
      let q = and_parts (may_pass last (top + m) (pending ++ numbers_from top m)) (leb (length pending + m) most) p.1 in
      let line = ltb-true (top + m) count p.0 in
      let room = leb-true (length pending + m) most q.1 in
      let passes = all-may_pass last (top + k) (pending ++ numbers_from top k) (λ i there.
      let more = either
      (λ a. has-left pending (numbers_from top m) i a)
      (λ b.
      let at = has-numbers top k i b in
      let high = at.0 in
      let low = at.1 in
      has-right pending (numbers_from top m) i (numbers-have top m i (omega (arith, high)) (omega (arith, low, less))))
      (has-append pending (numbers_from top k) i there) in
      let far = may_pass-all last (top + m) (pending ++ numbers_from top m) q.0 i more in
      omega (arith, far, less)) in
      and_from (ltb (top + k) count) (may_pass last (top + k) (pending ++ numbers_from top k) && leb (length pending + k) most)
      (lt-ltb (top + k) count (omega (arith, line, less)))
      (and_from (may_pass last (top + k) (pending ++ numbers_from top k)) (leb (length pending + k) most) passes
      (le-leb (length pending + k) most (omega (arith, room, less))))

  none_more : (k m : ℕ) → k ≤ m → may_leave last count top pending k ≡ false → may_leave last count top pending m ≡ false
  none_more k m less none = to_false (may_leave last count top pending m) (λ may. not_both (may_leave last count top pending k) (fewer k m less may) none)

  no_line : (s : ℕ) → 16 ≤ s → may_leave last count top pending (s - most) ≡ false → line_of last count top pending s ≡ None
  no_line s high none = let new = le-ltb s most high in rw (new, none) refl

  -- no step takes a line from one on that takes none
  pub none_from : (k s : ℕ) → false ≡ may_leave last count top pending k → 16 + k ≤ s → line_of last count top pending s ≡ None
  none_from k s none high = no_line s (omega (arith, high)) (none_more k (s - most) (omega (arith, high)) (sym none))

  -- nor from the one that leaves more than may be pending
  pub none_past : (s : ℕ) → 33 ≤ s → line_of last count top pending s ≡ None
  none_past s high =
      let few = lt-leb (length pending + (s - most)) most (omega (arith, high)) in
      no_line s (omega (arith, high))
      (and_right (ltb (top + (s - most)) count) _ (and_right (may_pass last (top + (s - most)) (pending ++ numbers_from top (s - most))) _ few))
