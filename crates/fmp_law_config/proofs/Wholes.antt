-- A whole directive: what its tokens do together.
use Rattle.std.proofs.Common.{◌≡◌, ℕ, Bool, true, false, inl, inr, List, [], ◌∷◌, ◌++◌, map, Option, Some, None, Ok, refl, sym, ap, ◌∙◌}
use Rattle.std.specs.List.{list_all}
use Rattle.std.specs.Option.{option_map_or}
use Rattle.std.proofs.lemmas.Bool.{cases_Bool, false≢true, and_parts}
use Rattle.fmp_bytes.specs.Results.{◌>>=◌}
use Rattle.fmp_bytes.proofs.Parsed.{bind_parts}
use Rattle.fmp_names.specs.Names.{is_name}
use Rattle.fmp_config_statements.specs.Lexing.{Lexeme}
use Rattle.fmp_config_statements.specs.declared.directive.Directive.{Directive}
use Rattle.fmp_config_statements.specs.declared.directive.Directive.TheVariants.{Outside, Marked, Naming, Numbering, Defining, Skipped}
use Rattle.fmp_config_statements.specs.declared.fault.ConfigKind.TheVariants.{Syntax}
use Rattle.fmp_config_statements.specs.Directives.{defined_number, named_number, numbered, next_directive}
use Rattle.fmp_config_statements.specs.Faults.{fault_of_line}
use Rattle.fmp_config_statements.specs.Folds.{each}
use Rattle.fmp_config_statements.specs.Forms.{Form}
use Rattle.fmp_config_statements.specs.Words.{Word, word_of, is_directive_kind, is_end_kind}
use Rattle.fmp_config.specs.Drafts.{Draft}
use Rattle.fmp_config.specs.Judging.{define, ended}
use Rattle.fmp_config.specs.Reading.{State, code_token, directive_token, take_token}
use Rattle.fmp_law_config.specs.Tokens.{Glyph, glyph_of}
use Rattle.fmp_law_config.specs.Elements.{is_plain}
use Rattle.fmp_law_config.proofs.Results.{ok_is, err_is, each-cons, each_parts, each-none, each-append}
use Rattle.fmp_law_config.proofs.Nesting.{IsWhole}
use Rattle.fmp_law_config.proofs.Directives.{is_idle, begun}
use Rattle.fmp_law_config.proofs.Steps.{state, outside, no_directive}

abbrev pub is_inside : Directive → Bool
is_inside Outside = false
is_inside _ = true

-- ---- a token of a directive

found_inside : (line : ℕ) (word : Word) (found : Option ℕ) → is_inside (option_map_or (λ n. Defining line word n) found Skipped) ≡ true
found_inside line word None = refl
found_inside line word (Some n) = refl

next_inside : (directive next : Directive) (t : Lexeme) → next_directive directive t ≡ Ok next → is_inside next ≡ true
unfolding named_number numbered
next_inside Outside next t e = ap is_inside (sym (ok_is Skipped next e))
next_inside (Marked line) next t e =
    elim (begun line t next e) [
      | inl include ↦ ap is_inside (sym include.1)
      | inr define ↦ ap is_inside (sym define.1)
    ]
next_inside (Naming line) next t e =
    elim (cases_Bool (is_name t.text)) [
      | inl name ↦ ap is_inside (sym (ok_is (Numbering line (word_of t)) next (rw name at e)))
      | inr none ↦ ap is_inside (sym (ok_is Skipped next (rw none at e)))
    ]
next_inside (Numbering line name) next t e = ap is_inside (sym (ok_is (option_map_or (λ n. Defining line name n) (defined_number t) Skipped) next e)) ∙ found_inside line name (defined_number t)
next_inside (Defining line name number) next t e = ap is_inside (sym (ok_is Skipped next e))
next_inside Skipped next t e = ap is_inside (sym (ok_is Skipped next e))

module _ (d : Draft) (f : Option Form) where
  taken_inside : (directive : Directive) (t : Lexeme) → is_inside directive ≡ true → take_token (state d f directive) t ≡ directive_token (state d f directive) directive t
  unfolding take_token
  taken_inside Outside t e = absurd (false≢true e)
  taken_inside (Marked line) t e = refl
  taken_inside (Naming line) t e = refl
  taken_inside (Numbering line name) t e = refl
  taken_inside (Defining line name number) t e = refl
  taken_inside Skipped t e = refl

  word_taken : (directive : Directive) (t : Lexeme) → is_inside directive ≡ true → is_plain (glyph_of t) ≡ true
      → take_token (state d f directive) t ≡ (next_directive directive t >>= λ next. Ok (state d f next))
  unfolding directive_token
  word_taken directive t inside plain = let kind = (no_directive t plain).1 in taken_inside directive t inside ∙ rw kind refl

  words_taken : (words : List Lexeme) (directive last : Directive) → is_inside directive ≡ true → list_all is_plain (map glyph_of words) ≡ true → each next_directive directive words ≡ Ok last
      → (each take_token (state d f directive) words ≡ Ok (state d f last)) × (is_inside last ≡ true)
  words_taken [] directive last inside plain e =
      let same = ok_is directive last (sym (each-none next_directive directive) ∙ e) in
      (each-none take_token (state d f directive) ∙ ap (λ (x : Directive). Ok (state d f x)) same, ap is_inside (sym same) ∙ inside)
  words_taken (t ∷ words) directive last inside plain e =
      let both = and_parts (is_plain (glyph_of t)) (list_all is_plain (map glyph_of words)) plain in
      let p = each_parts next_directive directive last t words e in
      let next = p.1 in
      let step : take_token (state d f directive) t ≡ Ok (state d f p.0) = word_taken directive t inside both.0 ∙ rw next refl in
      let rest = words_taken words p.0 last (next_inside directive p.0 t p.1) both.1 p.2 in
      (each-cons take_token (state d f directive) (state d f p.0) t words step ∙ rest.0, rest.1)

  abbrev pub Were : Directive → List Lexeme → State → Type 0
  Were directive words s = (last : Directive) × (each next_directive directive words ≡ Ok last) × (s ≡ state d f last) × (is_inside last ≡ true)

  words_were : (words : List Lexeme) (directive : Directive) (s : State) → is_inside directive ≡ true → list_all is_plain (map glyph_of words) ≡ true → each take_token (state d f directive) words ≡ Ok s → Were directive words s
  words_were [] directive s inside plain e = (directive, each-none next_directive directive, sym (ok_is (state d f directive) s (sym (each-none take_token (state d f directive)) ∙ e)), inside)
  words_were (t ∷ words) directive s inside plain e =
      let both = and_parts (is_plain (glyph_of t)) (list_all is_plain (map glyph_of words)) plain in
      let p = each_parts take_token (state d f directive) s t words e in
      let q = bind_parts (next_directive directive t) (λ next. Ok (state d f next)) p.0 (sym (word_taken directive t inside both.0) ∙ p.1) in
      let same = ok_is (state d f q.0) p.0 q.2 in
      let rest = words_were words q.0 s (next_inside directive q.0 t q.1) both.1 (ap (λ (x : State). each take_token x words) same ∙ p.2) in
      (rest.0, each-cons next_directive directive q.0 t words q.1 ∙ rest.1, rest.2, rest.3)

  begins : (t : Lexeme) → is_directive_kind t.kind ≡ true → take_token (outside d f) t ≡ Ok (state d f (Marked t.line))
  unfolding take_token code_token
  begins t e = rw e refl

  ends : (directive : Directive) (t : Lexeme) → is_inside directive ≡ true → is_end_kind t.kind ≡ true → take_token (state d f directive) t ≡ (ended d directive >>= λ after. Ok (outside after f))
  unfolding directive_token
  ends directive t inside e = taken_inside directive t inside ∙ rw e refl

  -- ---- all of them

  module _ (hash : Lexeme) (words : List Lexeme) (end : Lexeme) (whole : IsWhole hash words end) (rest : List Lexeme) where
    pub whole_taken : (directive : Directive) (after : Draft) → each next_directive (Marked hash.line) words ≡ Ok directive → ended d directive ≡ Ok after
        → each take_token (outside d f) (hash ∷ (words ++ (end ∷ rest))) ≡ each take_token (outside after f) rest
    whole_taken directive after e said =
        let first = begins hash (ap (λ (g : Glyph). is_directive_kind g.kind) whole.0) in
        let inner = words_taken words (Marked hash.line) directive refl whole.1 e in
        let read = inner.0 in
        let last : take_token (state d f directive) end ≡ Ok (outside after f) = ends directive end inner.1 (ap (λ (g : Glyph). is_end_kind g.kind) whole.2) ∙ rw said refl in
        each-cons take_token (outside d f) (state d f (Marked hash.line)) hash (words ++ (end ∷ rest)) first
        ∙ each-append take_token (state d f (Marked hash.line)) words (end ∷ rest)
        ∙ rw read (each-cons take_token (state d f directive) (outside after f) end rest last)

    pub whole_was : (last : State) → each take_token (outside d f) (hash ∷ (words ++ (end ∷ rest))) ≡ Ok last
        → (directive : Directive) × (after : Draft) × (each next_directive (Marked hash.line) words ≡ Ok directive) × (ended d directive ≡ Ok after) × (each take_token (outside after f) rest ≡ Ok last)
    whole_was last e =
        let first = begins hash (ap (λ (g : Glyph). is_directive_kind g.kind) whole.0) in
        let more = sym (each-append take_token (state d f (Marked hash.line)) words (end ∷ rest)) ∙ sym (each-cons take_token (outside d f) (state d f (Marked hash.line)) hash (words ++ (end ∷ rest)) first) ∙ e in
        let p = bind_parts (each take_token (state d f (Marked hash.line)) words) (λ next. each take_token next (end ∷ rest)) last more in
        let w = words_were words (Marked hash.line) p.0 refl whole.1 p.1 in
        let q = each_parts take_token (state d f w.0) last end rest (ap (λ (x : State). each take_token x (end ∷ rest)) (sym w.2) ∙ p.2) in
        let r = bind_parts (ended d w.0) (λ after. Ok (outside after f)) q.0 (sym (ends w.0 end w.3 (ap (λ (g : Glyph). is_end_kind g.kind) whole.2)) ∙ q.1) in
        (w.0, r.0, w.1, r.1, ap (λ (x : State). each take_token x rest) (ok_is (outside r.0 f) q.0 r.2) ∙ q.2)

-- ---- its end

pub idle_ends : (d : Draft) (directive : Directive) → is_idle directive ≡ true → ended d directive ≡ Ok d
unfolding ended
idle_ends d Outside e = refl
idle_ends d (Marked line) e = absurd (false≢true e)
idle_ends d (Naming line) e = refl
idle_ends d (Numbering line name) e = refl
idle_ends d (Defining line name number) e = absurd (false≢true e)
idle_ends d Skipped e = refl

pub none_ends : (d after : Draft) (line : ℕ) → ended d (Marked line) ≡ Ok after → ⊥
unfolding ended
none_ends d after line e = err_is (fault_of_line Syntax line) after e

pub definition_ends : (d : Draft) (line : ℕ) (name : Word) (number : ℕ) → ended d (Defining line name number) ≡ define d line name number
unfolding ended
definition_ends d line name number = refl
