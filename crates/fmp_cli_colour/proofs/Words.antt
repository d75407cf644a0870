-- One word of a line after the other.
use Rattle.std.proofs.Common.{◌≡◌, ◌∙◌, ℕ, ◌-◌, List, ◌++◌, Option, Some, ap, sym, subst, append_assoc}
use Rattle.fmp_bytes.specs.Bytes.{cut_at, space}
use Rattle.fmp_bytes.proofs.Cutting.{pieces_of-cut}
use Rattle.fmp_run_devices.specs.Devices.{BeginsWith}
use Rattle.fmp_run_devices.proofs.Begun.{begun_first, begun_second}
use Rattle.fmp_cli_colour.specs.Painting.{painted_word, painted_words, words_left}

-- a text that words are left of begins with its first word
pub one_word : (plain : ℕ) (text : List ℕ) → painted_words plain (words_left (Some text)) ≡ painted_word plain (cut_at space text).0 ++ painted_words (plain - 1) (words_left (cut_at space text).1)
one_word plain text = ap (painted_words plain) (pieces_of-cut space text)

module _ (old out whole between text word : List ℕ) (plain : ℕ) (after : Option (List ℕ)) (was : between ≡ old ++ out) (so_far : out ++ painted_words plain (words_left (Some text)) ≡ whole)
    (word_is : word ≡ (cut_at space text).0) (after_is : after ≡ (cut_at space text).1) where
  -- all is what is out, this word, and the words after it
  pub split : out ++ (painted_word plain word ++ painted_words (plain - 1) (words_left after)) ≡ whole
  split =
      ap (λ (w : List ℕ). out ++ (painted_word plain w ++ painted_words (plain - 1) (words_left after))) word_is
      ∙ ap (λ (r : Option (List ℕ)). out ++ (painted_word plain (cut_at space text).0 ++ painted_words (plain - 1) (words_left r))) after_is
      ∙ ap (λ (bs : List ℕ). out ++ bs) (sym (one_word plain text)) ∙ so_far

  pub word_out : (new : List ℕ) → new ≡ between ++ painted_word plain word →
      (next : List ℕ) × (new ≡ old ++ next) × (next ++ painted_words (plain - 1) (words_left after) ≡ whole)
  word_out new is = (
    out ++ painted_word plain word,
    is ∙ ap (λ (bs : List ℕ). bs ++ painted_word plain word) was ∙ append_assoc old out (painted_word plain word),
    append_assoc out (painted_word plain word) (painted_words (plain - 1) (words_left after)) ∙ split,
  )

  pub word_begun : (new : List ℕ) → BeginsWith between (painted_word plain word) new → BeginsWith old whole new
  word_begun new begun =
      let rest = painted_words (plain - 1) (words_left after) in
      subst (λ (bs : List ℕ). BeginsWith old bs new) split
      (begun_second old out (painted_word plain word ++ rest) between new was (begun_first between (painted_word plain word) rest new begun))
