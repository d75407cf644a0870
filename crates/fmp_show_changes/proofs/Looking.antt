-- One line less to look at.
use Rattle.std.proofs.Common.{◌≡◌, ◌∙◌, ℕ, Bool, false, true, List, ◌∷◌, ◌++◌, Option, refl, sym, ap, append_assoc}
use Rattle.std.specs.Prelude.{◌||◌}
use Rattle.std.specs.List.{list_any}
use Rattle.fmp_out.specs.Putting.{Adds, Owes, Putting}
use Rattle.fmp_bytes.specs.Bytes.{cut_at, line_feed}
use Rattle.fmp_bytes.proofs.Cutting.{pieces_of-cut}
use Rattle.fmp_show_changes.specs.declared.lines.Rule.{Rule}
use Rattle.fmp_show_changes.specs.Changes.{IsWithin, has_line, is_same, line_reported, lines_left, lines_of, report_of}

any_later : (a b : Bool) → b ≡ true → (a || b) ≡ true
any_later true b is = refl
any_later false b is = is

module _ (text first : List ℕ) (rest : Option (List ℕ)) (first_is : first ≡ (cut_at line_feed text).0) (rest_is : rest ≡ (cut_at line_feed text).1) where
  pub parts : lines_of text ≡ first ∷ lines_left rest
  parts = pieces_of-cut line_feed text ∙ rw (first_is, rest_is) refl

  -- it is the first one
  pub is_first : (r : Rule) (line : List ℕ) → is_same r first line ≡ true → has_line r (lines_of text) line ≡ true
  is_first r line same = rw (parts, same) refl

  -- or it is one of the others, or none
  pub is_later : (r : Rule) (line : List ℕ) → is_same r first line ≡ false → has_line r (lines_of text) line ≡ has_line r (lines_left rest) line
  is_later r line other = rw (parts, other) refl

  -- the others are some of those of which the first was one
  pub others_within : (all : List (List ℕ)) → IsWithin (lines_of text) all → IsWithin (lines_left rest) all
  others_within all within = λ p some. within p (rw parts (any_later (p first) (list_any p (lines_left rest)) some))

  -- what is told of the first one, and then of the others
  pub one_reported : (r : Rule) (others : List (List ℕ)) (found : Bool) (all : List ℕ) (first_out old new : Putting) → found ≡ has_line r others first
      → Adds (line_reported r found first) old new → Owes (report_of r others (lines_of text)) all first_out old → Owes (report_of r others (lines_left rest)) all first_out new
  one_reported r others found all first_out old new is written before whole =
      let last = written whole in
      let front = before last.0 in
      let line = line_reported r (has_line r others first) first in
      let following = report_of r others (lines_left rest) in (
        front.0,
        ap (λ (xs : List ℕ). xs ++ following) (last.1 ∙ ap (λ b. old.bytes ++ line_reported r b first) is)
            ∙ (append_assoc old.bytes line following ∙ (ap (λ ls. old.bytes ++ report_of r others ls) (sym parts) ∙ front.1)),
      )
