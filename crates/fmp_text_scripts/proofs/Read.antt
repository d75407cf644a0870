-- Reading a text line by line.
use Rattle.std.proofs.Common.{◌≡◌, ◌≢◌, ℕ, zero, suc, ◌+◌, ◌<◌, ◌≤◌, ◌==◌, true, false, List, [], ◌∷◌, ◌++◌, length, take, drop, slice_index, Some, None, Result, Ok, Err, refl, ap, sym, ◌∙◌, arith, append_assoc, ◌⊎◌, inl, inr}
use Rattle.std.proofs.lemmas.List.{append-nil, drop-drop}
use Rattle.std.proofs.lemmas.Bool.{eqb-true, le-ltb, ne_eqb}
use Rattle.memchr.specs.Find.{IsFirstByte, is_byte}
use Rattle.fmp_text.specs.Lines.{is_skipped}
use Rattle.fmp_names.specs.Names.{NameLists}
use Rattle.fmp_text.specs.declared.fault.TextKind.TheVariants.{CutShort}
use Rattle.fmp_text.specs.Limits.{most_bytes}
use Rattle.fmp_text.specs.declared.fault.TextFault.{TextFault}
use Rattle.fmp_text.specs.Events.{HasNoFeed, IsMemory}
use Rattle.fmp_text_scripts.specs.Scripts.{Steps}
use Rattle.fmp_text_scripts.specs.Texts.{Reading, nothing_read, with_line, after_line, at_end, fault_at, scripts_from, scripts_in, ReadsAs}

module _ (names : NameLists) (lines : ℕ) (r : Reading) where
  -- the line that ends at place i
  line_at : (begun bytes : List ℕ) (i : ℕ) → i < length bytes → ((j : ℕ) → j < i → slice_index bytes j ≢ 10) → slice_index bytes i ≡ 10
      → scripts_from names lines r begun bytes
      ≡ after_line (lines + 1) (with_line names (lines + 1) r (begun ++ take i bytes)) (λ next. scripts_from names (lines + 1) next [] (drop (suc i) bytes))
  unfolding scripts_from
  line_at begun [] i lt before at = absurd (omega arith)
  line_at begun (b ∷ bs) zero lt before at = rw (at, append-nil begun) refl
  line_at begun (b ∷ bs) (suc i) lt before at =
      let other : (b == 10) ≡ false = ne_eqb b 10 (before 0 (omega arith)) in
      let rest = line_at (begun ++ b ∷ []) bs i (omega arith) (λ j low. before (suc j) (omega arith)) at in
      rw (other, rest, append_assoc) refl

  -- bytes with no line feed go on a line
  pub scripts_from-append : (begun bytes more : List ℕ) → HasNoFeed bytes → scripts_from names lines r begun (bytes ++ more) ≡ scripts_from names lines r (begun ++ bytes) more
  unfolding scripts_from
  scripts_from-append begun [] more none = rw (append-nil begun) refl
  scripts_from-append begun (b ∷ bs) more none =
      let other : (b == 10) ≡ false = ne_eqb b 10 (none 0 (omega arith)) in
      let rest = scripts_from-append (begun ++ b ∷ []) bs more (λ j low. none (suc j) (omega arith)) in
      rw (other, rest, append_assoc) refl

  -- a line ends at its line feed
  pub scripts_from-cut : (line rest : List ℕ) → HasNoFeed line
      → scripts_from names lines r [] (line ++ 10 ∷ rest) ≡ after_line (lines + 1) (with_line names (lines + 1) r line) (λ next. scripts_from names (lines + 1) next [] rest)
  unfolding scripts_from
  scripts_from-cut line rest none = scripts_from-append [] line (10 ∷ rest) none

  -- and the last line ends with the text
  pub scripts_from-last : (bytes : List ℕ) → HasNoFeed bytes → scripts_from names lines r [] bytes ≡ scripts_from names lines r bytes []
  scripts_from-last bytes none = ap (scripts_from names lines r []) (sym (append-nil bytes)) ∙ scripts_from-append [] bytes [] none

-- the line that ends at the first line feed from a place on
pub next_line : (names : NameLists) (text tail piece : List ℕ) (lines used end : ℕ) (r : Reading) → tail ≡ drop used text → piece ≡ take end (drop used text)
    → IsFirstByte (is_byte 10) tail (Some end)
    → scripts_from names lines r [] (drop used text)
    ≡ after_line (lines + 1) (with_line names (lines + 1) r piece) (λ next. scripts_from names (lines + 1) next [] (drop (used + (end + 1)) text))
next_line names text tail piece lines used end r is_tail is_piece found =
    let first = rw is_tail at found in
    let line = line_at names lines r [] (drop used text) end first.0.high
    (λ j low is. first.0.before j (omega arith) low (ap (is_byte 10) is)) (eqb-true (slice_index (drop used text) end) 10 first.1) in
    let passed : drop (suc end) (drop used text) ≡ drop (used + (end + 1)) text = rw (drop-drop) (ap (λ i. drop i text) (omega arith)) in
    rw (is_piece, ← passed) line

-- a text that is not too long is read line by line
pub judged : (names : NameLists) (text : List ℕ) → length text ≤ most_bytes → scripts_in names text ≡ scripts_from names 0 nothing_read [] text
unfolding scripts_in
judged names text fits = rw (le-ltb most_bytes (length text) fits) refl

module _ (names : NameLists) (text tail piece : List ℕ) (lines used end : ℕ) (r : Reading) (is_tail : tail ≡ drop used text) (is_piece : piece ≡ take end (drop used text)) (found : IsFirstByte (is_byte 10) tail (Some end)) (whole : Result (List Steps) TextFault) (is : whole ≡ scripts_from names lines r [] (drop used text)) where
  -- a line that is taken
  pub line_found : (next : Reading) → with_line names (lines + 1) r piece ≡ Ok next → whole ≡ scripts_from names (lines + 1) next [] (drop (used + (end + 1)) text)
  line_found next taken =
      is ∙ next_line names text tail piece lines used end r is_tail is_piece found
      ∙ ap (λ o. after_line (lines + 1) o (λ x. scripts_from names (lines + 1) x [] (drop (used + (end + 1)) text))) taken

  -- a line with a fault
  pub fault_found : (fault : TextFault) → ((with_line names (lines + 1) r piece ≡ Err fault.kind) × (fault.line ≡ lines + 1)) ⊎ IsMemory fault → (whole ≡ Err fault) ⊎ IsMemory fault
  fault_found fault (inr m) = inr m
  fault_found fault (inl p) =
      inl (is ∙ next_line names text tail piece lines used end r is_tail is_piece found
      ∙ ap (λ o. after_line (lines + 1) o (λ x. scripts_from names (lines + 1) x [] (drop (used + (end + 1)) text))) p.0
      ∙ ap (λ n. fault_at fault.kind n) (sym p.1))

module _ (names : NameLists) (text tail : List ℕ) (lines used : ℕ) (r : Reading) (is_tail : tail ≡ drop used text) (none : IsFirstByte (is_byte 10) tail None) (whole : Result (List Steps) TextFault) (is : whole ≡ scripts_from names lines r [] (drop used text)) where
  no_feed : HasNoFeed (drop used text)
  no_feed = λ k small at.
      let all = rw is_tail at none in
      all k (omega arith) small (ap (is_byte 10) at)

  -- the end of the text
  pub text_ends : is_skipped tail ≡ true → whole ≡ at_end r r.unclosed
  unfolding scripts_from
  text_ends skipped = is ∙ scripts_from-last names lines r (drop used text) no_feed ∙ rw (← is_tail, skipped) refl

  -- a last line without a line feed
  pub text_cut : is_skipped tail ≡ false → whole ≡ fault_at CutShort (lines + 1)
  unfolding scripts_from
  text_cut skipped = is ∙ scripts_from-last names lines r (drop used text) no_feed ∙ rw (← is_tail, skipped) refl

-- what was read is what the text gives
pub reads_same : (judges result : Result (List Steps) TextFault) → judges ≡ result → ReadsAs (λ s. s) judges result
reads_same judges (Ok scripts) is = is
reads_same judges (Err fault) is = inl is
