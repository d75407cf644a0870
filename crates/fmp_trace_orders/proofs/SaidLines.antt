-- What the lines of a text say, one by one.
use Rattle.std.proofs.Common.{◌≡◌, ℕ, ◌+◌, ◌≤◌, eqb, ltb, inl, inr, List, [], ◌∷◌, length, Result, Ok, refl, subst, arith}
use Rattle.std.proofs.lemmas.Bool.{cases_Bool}
use Rattle.fmp_bytes.specs.Bytes.{pieces_of}
use Rattle.fmp_bytes.proofs.Parsed.{bind_parts}
use Rattle.fmp_names.specs.Names.{NameLists, AreValid}
use Rattle.fmp_text.specs.Limits.{most_events}
use Rattle.fmp_text.specs.declared.fault.TextFault.{TextFault}
use Rattle.fmp_trace.specs.Reading.{at_line}
use Rattle.fmp_trace_partial.specs.Saying.{line_said, said_from, said_in}
use Rattle.fmp_trace_partial.specs.declared.telling.Said.{Said}
use Rattle.fmp_trace_partial.proofs.SaidTexts.{read_says}
use Rattle.fmp_trace_orders.specs.Lines.{all_but_last, lines_of}
use Rattle.fmp_trace_orders.proofs.ReadLines.{at_line_parts}

-- each of these lines, of which the first is line n, says this
abbrev SayEach : NameLists → ℕ → List (List ℕ) → List Said → Type 0
SayEach names n [] [] = Unit {0}
SayEach names n (line ∷ lines) (s ∷ ss) = (line_said names n line ≡ Ok s) × SayEach names (n + 1) lines ss
SayEach names n _ _ = ⊥

say_none : (names : NameLists) (n : ℕ) (said : List Said) → ◌≡◌ {A = Result (List Said) TextFault} (Ok []) (Ok said) → SayEach names n [] said
say_none names n [] e = tt
say_none names n (s ∷ ss) e = absurd cc

say_each : (names : NameLists) (n : ℕ) (pieces : List (List ℕ)) (said : List Said) → said_from names n pieces ≡ Ok said →
    SayEach names n (all_but_last pieces) said
unfolding said_from
say_each names n [] said e = say_none names n said e
say_each names n (last ∷ []) said e =
    elim (cases_Bool (eqb (length last) 0)) [
      | inl t ↦ let e2 = rw t at e in say_none names n said e2
      | inr f ↦ let e2 = rw f at e in absurd cc
    ]
say_each names n (line ∷ next ∷ lines) said e =
    let one = bind_parts (at_line n (line_said names n line)) _ said e in
    let others = bind_parts (said_from names (n + 1) (next ∷ lines)) _ said one.2 in
    let same : one.0 ∷ others.0 ≡ said = let is = others.2 in cc in
    let says = at_line_parts n (line_said names n line) one.0 one.1 in
    subst (SayEach names n (line ∷ all_but_last (next ∷ lines))) same (says, say_each names (n + 1) (next ∷ lines) others.0 others.1)

same_length : (names : NameLists) (n : ℕ) (lines : List (List ℕ)) (said : List Said) → SayEach names n lines said → length lines ≡ length said
same_length names n [] [] each = refl
same_length names n (line ∷ lines) (s ∷ ss) each = let others = same_length names (n + 1) lines ss each.1 in omega (arith, others)
same_length names n [] (s ∷ ss) each = absurd each
same_length names n (line ∷ lines) [] each = absurd each

-- ---- a whole text

said_whole : (names : NameLists) (text : List ℕ) (said : List Said) → said_in names text ≡ Ok said → said_from names 1 (pieces_of 10 text) ≡ Ok said
unfolding said_in
said_whole names text said e =
    elim (cases_Bool (ltb 1073741824 (length text))) [
      | inl t ↦ let e2 = rw t at e in absurd cc
      | inr f ↦ rw f at e
    ]

module _ (names : NameLists) (text : List ℕ) (said : List Said) (valid : AreValid names) (read : said_in names text ≡ Ok said) where
  each : SayEach names 1 (lines_of text) said
  each = say_each names 1 (pieces_of 10 text) said (said_whole names text said read)

  pub few_said : length said ≤ most_events
  few_said = (read_says names text said valid read).few

  pub few_lines : length (lines_of text) ≤ most_events
  few_lines = let same = same_length names 1 (lines_of text) said each in omega (arith, same, few_said)
