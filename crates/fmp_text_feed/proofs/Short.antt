-- A feed of short lines holds few bytes where it wants a further piece.
use Rattle.std.proofs.Common.{◌≡◌, ◌∙◌, ℕ, ◌+◌, ◌-◌, ◌≤◌, false, List, [], ◌++◌, length, take, refl, ap, sym, subst, arith, append_assoc}
use Rattle.std.specs.Prelude.{nat_lt}
use Rattle.std.proofs.lemmas.Bool.{ltb-false, or_parts}
use Rattle.std.proofs.lemmas.List.{take-append-drop, take_all}
use Rattle.fmp_text.specs.Limits.{most_bytes}
use Rattle.fmp_text.specs.Events.{HasNoFeed}
use Rattle.fmp_text_feed.specs.Feed.{Feed, HasLinesWithin, IsEndOf, pushed}

module _ (most : ℕ) where
  -- the lines after some bytes are short where all lines are
  after_short : (front bytes : List ℕ) → HasLinesWithin most (front ++ bytes) → HasLinesWithin most bytes
  after_short front bytes short before line following parts none =
      short (front ++ before) line following (ap (λ (xs : List ℕ). front ++ xs) parts ∙ sym (append_assoc front before (line ++ following))) none

  -- what is left of some bytes has short lines where these have
  pub end_short : (all rest more : List ℕ) → IsEndOf all rest → HasLinesWithin most (all ++ more) → HasLinesWithin most (rest ++ more)
  end_short all rest more end short =
      let front = take end.taken all in
      let parts : all ++ more ≡ front ++ (rest ++ more) =
      ap (λ (xs : List ℕ). xs ++ more) (sym (take-append-drop end.taken all) ∙ ap (λ (xs : List ℕ). front ++ xs) (sym end.is)) ∙ append_assoc front rest more in
      after_short front (rest ++ more) (subst (HasLinesWithin most) parts short)

  -- a piece that was taken in whole moves from what is still to come to the rest
  pub pushed_short : (f : Feed) (piece more : List ℕ) → (pushed f piece).dropped ≡ false → HasLinesWithin most (f.rest ++ (piece ++ more)) → HasLinesWithin most ((pushed f piece).rest ++ more)
  pushed_short f piece more whole short =
      let fits = ltb-false most_bytes (f.taken + length piece) (or_parts f.dropped (nat_lt most_bytes (f.taken + length piece)) whole).1 in
      let all : take (most_bytes - f.taken) piece ≡ piece = take_all (most_bytes - f.taken) piece (omega (arith, fits)) in
      rw all (subst (HasLinesWithin most) (sym (append_assoc f.rest piece more)) short)

  -- bytes without a line feed are no more than a line
  pub rest_short : (rest more : List ℕ) → HasNoFeed rest → HasLinesWithin most (rest ++ more) → length rest ≤ most
  rest_short rest more none short = short [] rest more refl none
