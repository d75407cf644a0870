-- The first line of a text.
use Rattle.std.proofs.Common.{◌≡◌, ◌∙◌, ℕ, zero, suc, ◌+◌, ◌≤◌, List, length, Some, None, refl, ap, arith, inl, inr, eqb}
use Rattle.std.proofs.lemmas.Bool.{cases_lt, lt-ltb, le-ltb}
use Rattle.std.proofs.lemmas.List.{length-take-le}
use Rattle.std.specs.Prelude.{◌==◌, ◌&&◌, nat_lt, if◌then◌else◌}
use Rattle.std.specs.List.{position_or_len}
use Rattle.fmp_bytes.specs.Bytes.{cut_at, line_feed}
use Rattle.fmp_bytes.proofs.Cutting.{no_cut}
use Rattle.fmp_cli_colour.specs.Painting.{first_length}

-- where a text is cut, the byte stands after what it is cut off of
pub cut_length : (c : ℕ) (text rest : List ℕ) → (cut_at c text).1 ≡ Some rest → length (cut_at c text).0 + 1 ≤ length text
unfolding cut_at
cut_length c text rest e =
    elim (cases_lt (position_or_len (λ b. eqb b c) text) (length text)) [
      | inl lt ↦ let test = lt-ltb (position_or_len (λ b. eqb b c) text) (length text) lt in rw test (omega (arith, lt, length-take-le (position_or_len (λ b. eqb b c) text) text (omega (arith, lt))))
      | inr le ↦ let test = le-ltb (position_or_len (λ b. eqb b c) text) (length text) le in let e2 = rw test at e in absurd cc
    ]

-- the first line of a text that has no line feed, and of one that has
module _ (text line : List ℕ) (is : line ≡ (cut_at line_feed text).0) where
  pub taken_whole : (cut_at line_feed text).1 ≡ None → line ≡ text
  taken_whole none = is ∙ no_cut line_feed text none

  pub whole_length : (cut_at line_feed text).1 ≡ None → (length line ≡ first_length text) × (length line ≤ length text)
  unfolding first_length
  whole_length none = (rw (is, none) (omega arith), omega (arith, ap length (taken_whole none)))

  pub line_length : (rest : List ℕ) → (cut_at line_feed text).1 ≡ Some rest → (length line + 1 ≡ first_length text) × (length line + 1 ≤ length text)
  unfolding first_length
  line_length rest some = (rw (is, some) refl, rw is (cut_length line_feed text rest some))

  -- a text that was taken whole was not left
  pub none_left : (n : ℕ) → (cut_at line_feed text).1 ≡ None → n ≡ n + (if (length line == 0) && nat_lt 0 (length text) then 1 else 0)
  none_left n none = rw (ap length (taken_whole none)) (go (length text))
    where
      go : (m : ℕ) → n ≡ n + (if (m == 0) && nat_lt 0 m then 1 else 0)
      go zero = omega arith
      go (suc m) = grind arith
