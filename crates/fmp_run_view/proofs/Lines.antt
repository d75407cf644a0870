-- The first of the lines that are left of a text.
use Rattle.std.proofs.Common.{◌≡◌, ℕ, ◌+◌, ◌<◌, ◌≤◌, ◌^◌, List, [], ◌∷◌, length, Option, Some, None, refl, sym, ap, ◌∙◌, arith}
use Rattle.fmp_bytes.specs.Bytes.{cut_at}
use Rattle.fmp_bytes.proofs.Cutting.{cut_at-append, shorter}
use Rattle.fmp_codes.specs.declared.records.Record.{Record}
use Rattle.fmp_names.specs.Names.{AreValid, NameLists}
use Rattle.fmp_text.specs.Limits.{most_events}
use Rattle.fmp_trace.specs.Fits.{AllFit}
use Rattle.fmp_trace.specs.Heads.{event_of}
use Rattle.fmp_trace.specs.Lines.{core_text, lines_from}
use Rattle.fmp_trace.proofs.GuessedLines.{line_guessed}
use Rattle.fmp_trace.proofs.Headed.{guess-event}
use Rattle.fmp_trace.proofs.ReadTexts.{lines-cons}
use Rattle.fmp_trace.proofs.Unended.{line_is}

-- the first of printed lines
first_line : (names : NameLists) (n : ℕ) (rest : List ℕ) (r : Record) (rs : List Record) → AreValid names → rest ≡ lines_from names n (r ∷ rs)
    → cut_at 10 rest ≡ (core_text names n r, Some (lines_from names (n + 1) rs))
first_line names n rest r rs valid text =
    ap (cut_at 10) (text ∙ lines-cons names n r (lines_from names (n + 1) rs)) ∙ cut_at-append 10 (core_text names n r) (lines_from names (n + 1) rs) (line_is names valid n r)

module _ (names : NameLists) (valid : AreValid names) (n : ℕ) (rest : List ℕ) where
  module _ (line after : List ℕ) (is_line : (cut_at 10 rest).0 ≡ line) (cut : (cut_at 10 rest).1 ≡ Some after) where
    -- it is the print of the first record
    pub core_is : (r : Record) (rs : List Record) → rest ≡ lines_from names n (r ∷ rs) → line ≡ core_text names n r
    core_is r rs text = sym is_line ∙ ap (λ (p : List ℕ × Option (List ℕ)). p.0) (first_line names n rest r rs valid text)

    -- and tells the event of that
    pub event_is : (r : Record) (rs : List Record) → rest ≡ lines_from names n (r ∷ rs) → AllFit names (r ∷ rs) → n + length (r ∷ rs) ≤ most_events + 1 → event_of names line ≡ Some r.event
    event_is r rs text fit few =
        let small : n < 2 ^ 64 = omega (arith, few) in
        ap (event_of names) (core_is r rs text) ∙ guess-event names (core_text names n r) r (line_guessed names r valid fit.0 n small)

    -- what follows it prints the others
    pub after_is : (r : Record) (rs : List Record) → rest ≡ lines_from names n (r ∷ rs) → after ≡ lines_from names (n + 1) rs
    after_is r rs text =
        let same : Some after ≡ Some (lines_from names (n + 1) rs) = sym cut ∙ ap (λ (p : List ℕ × Option (List ℕ)). p.1) (first_line names n rest r rs valid text) in
        cc

    -- there is a record that it prints
    pub not_over : rest ≡ lines_from names n [] → ⊥
    not_over text =
        let less = shorter 10 rest after cut in
        let none : length rest ≡ 0 = ap length text in
        omega (arith, less, none)

    -- a line that was printed tells an event
    pub is_reported : (left : List Record) → rest ≡ lines_from names n left → AllFit names left → n + length left ≤ most_events + 1 → event_of names line ≡ None → ⊥
    is_reported [] text fit few none = not_over text
    is_reported (first ∷ others) text fit few none = let one : None ≡ Some first.event = sym none ∙ event_is first others text fit few in absurd cc

  -- where no line is left, no record is
  pub none_left : (left : List Record) → rest ≡ lines_from names n left → (cut_at 10 rest).1 ≡ None → left ≡ []
  none_left [] text none = refl
  none_left (r ∷ rs) text none =
      let one : None ≡ Some (lines_from names (n + 1) rs) = sym none ∙ ap (λ (p : List ℕ × Option (List ℕ)). p.1) (first_line names n rest r rs valid text) in
      absurd cc
