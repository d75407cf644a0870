-- What a token outside directives does.
use Rattle.std.proofs.Common.{◌≡◌, ℕ, Bool, true, false, not, ◌||◌, ◌⊎◌, inl, inr, List, Option, Some, None, is_some, Ok, Err, refl, sym, ap, ◌∙◌}
use Rattle.std.specs.Option.{ok_or, option_map_or}
use Rattle.std.specs.Str.{bytes_eq}
use Rattle.std.proofs.lemmas.Bool.{cases_Bool, false≢true}
use Rattle.std.proofs.lemmas.Slice.Eq.{bytes_eq-Decides}
use Rattle.std.proofs.Math.Bool.{and-false}
use Rattle.fmp_bytes.proofs.Parsed.{ok_or_parts, tested_ok, bind_parts}
use Rattle.fmp_bytes.specs.Results.{◌>>=◌}
use Rattle.fmp_calls.proofs.Found.{found_passes}
use Rattle.fmp_config_statements.specs.Lexing.{Lexeme}
use Rattle.fmp_config_statements.specs.declared.directive.Directive.{Directive}
use Rattle.fmp_config_statements.specs.declared.directive.Directive.TheVariants.{Outside}
use Rattle.fmp_config_statements.specs.declared.fault.ConfigKind.{ConfigKind}
use Rattle.fmp_config_statements.specs.declared.fault.ConfigKind.TheVariants.{Syntax, Unsupported}
use Rattle.fmp_config_statements.specs.declared.table.StatementName.{StatementName}
use Rattle.fmp_config_statements.specs.declared.table.TheConstants as table
use Rattle.fmp_config_statements.specs.Faults.{fault_at}
use Rattle.fmp_config_statements.specs.Forms.{Form, begun, form_step, is_complete}
use Rattle.fmp_config_statements.specs.Table.{text_of, statement_of}
use Rattle.fmp_config_statements.specs.Words.{word_of, is_identifier_kind, is_directive_kind, is_end_kind}
use Rattle.fmp_config_statements.proofs.Found.{statement_of-text_of}
use Rattle.fmp_config.specs.Drafts.{Draft}
use Rattle.fmp_config.specs.Places.{place_fault}
use Rattle.fmp_config.specs.Judging.{judged}
use Rattle.fmp_config.specs.Reading.{State, statement_at, placed, ends_class, first_token, form_read, form_token, code_token}
use Rattle.fmp_law_config.specs.Tokens.{Glyph, glyph_of}
use Rattle.fmp_law_config.specs.Elements.{identifier, is_plain}
use Rattle.fmp_law_config.proofs.Results.{ok_is, err_is}
use Rattle.fmp_law_config.proofs.Directives.{identifier_is}

abbrev pub state : Draft → Option Form → Directive → State
state d f directive = record { draft = d; form = f; directive = directive }

abbrev pub outside : Draft → Option Form → State
outside d f = state d f Outside

neither : (a b : Bool) → not (a || b) ≡ true → (a ≡ false) × (b ≡ false)
neither false false e = (refl, refl)
neither false true e = absurd (false≢true e)
neither true b e = absurd (false≢true e)

pub no_directive : (t : Lexeme) → is_plain (glyph_of t) ≡ true → (is_directive_kind t.kind ≡ false) × (is_end_kind t.kind ≡ false)
no_directive t e = neither (is_directive_kind t.kind) (is_end_kind t.kind) e

-- ---- the first token of a statement

statement_named : (t : Lexeme) (name : StatementName) → statement_at t ≡ Ok name → glyph_of t ≡ identifier (text_of name)
unfolding statement_at statement_of
statement_named t name e =
    let p = tested_ok (is_identifier_kind t.kind) (ok_or (statement_of t.text) (fault_at Unsupported (word_of t))) (fault_at Syntax (word_of t)) name e in
    let found = ok_or_parts (statement_of t.text) (fault_at Unsupported (word_of t)) name p.1 in
    let same = (bytes_eq-Decides (text_of name) t.text).0 (found_passes (λ n. bytes_eq (text_of n) t.text) table.STATEMENT_NAMES name found) in
    identifier_is t (text_of name) p.0 (sym same)

statement_found : (t : Lexeme) (name : StatementName) → glyph_of t ≡ identifier (text_of name) → statement_at t ≡ Ok name
unfolding statement_at
statement_found t name e =
    let kind = ap (λ (g : Glyph). g.kind) e in
    let text = ap (λ (g : Glyph). g.text) e in
    let found = ap statement_of text ∙ statement_of-text_of name in
    rw kind (rw found refl)

placed_parts : (t : Lexeme) (name next : StatementName) (found : Option ConfigKind) → option_map_or (λ kind. Err (fault_at kind (word_of t))) found (Ok name) ≡ Ok next → (found ≡ None) × (name ≡ next)
placed_parts t name next None e = (refl, ok_is name next e)
placed_parts t name next (Some kind) e = absurd (err_is (fault_at kind (word_of t)) next e)

abbrev pub FirstStep : Draft → Lexeme → State → Type 0
FirstStep d t next =
    ((ends_class d t ≡ true) × (next ≡ outside (record d { open_class = None }) None))
    ⊎ ((name : StatementName) × (glyph_of t ≡ identifier (text_of name)) × (place_fault d name ≡ None) × (next ≡ outside d (Some (begun name t.line))))

module _ (d : Draft) (t : Lexeme) (plain : is_plain (glyph_of t) ≡ true) where
  pub first_parts : (next : State) → code_token (outside d None) t ≡ Ok next → FirstStep d t next
  unfolding code_token first_token placed
  first_parts next e =
      let kind = (no_directive t plain).0 in
      let e2 = rw kind at e in
      elim (cases_Bool (ends_class d t)) [
        | inl t ↦ inl (t, sym (ok_is (outside (record d { open_class = None }) None) next (rw t at e2)))
        | inr f ↦
            let p = bind_parts (statement_at t) (λ name. placed d t name >>= λ name. Ok (outside d (Some (begun name t.line)))) next (rw f at e2) in
            let q = bind_parts (placed d t p.0) (λ name. Ok (outside d (Some (begun name t.line)))) next p.2 in
            let r = placed_parts t p.0 q.0 (place_fault d p.0) q.1 in
            inr (p.0, statement_named t p.0 p.1, r.0, sym (ok_is (outside d (Some (begun q.0 t.line))) next q.2) ∙ ap (λ (n : StatementName). outside d (Some (begun n t.line))) (sym r.1))
      ]

  pub class_ended : ends_class d t ≡ true → code_token (outside d None) t ≡ Ok (outside (record d { open_class = None }) None)
  unfolding code_token first_token
  class_ended e = let kind = (no_directive t plain).0 in rw kind (rw e refl)

no_end : (d : Draft) (t : Lexeme) (text : List ℕ) → glyph_of t ≡ identifier text → ends_class d t ≡ false
unfolding ends_class
no_end d t text e = let kind = ap (λ (g : Glyph). g.kind) e in rw kind (and-false (is_some d.open_class))

pub statement_begun : (d : Draft) (t : Lexeme) (name : StatementName) → glyph_of t ≡ identifier (text_of name) → place_fault d name ≡ None → code_token (outside d None) t ≡ Ok (outside d (Some (begun name t.line)))
unfolding code_token first_token placed
statement_begun d t name e place =
    let kind = ap (λ (g : Glyph). g.kind) e in
    let found = statement_found t name e in
    let ends = no_end d t (text_of name) e in
    rw (ends, found, place) (rw kind refl)

-- ---- a token within a statement

abbrev pub FormStep : Draft → Form → Lexeme → State → Type 0
FormStep d f t next =
    (g : Form) × (form_step f t ≡ Ok g)
    × (((is_complete g ≡ true) × (after : Draft) × (judged d g.name g ≡ Ok after) × (next ≡ outside after None)) ⊎ ((is_complete g ≡ false) × (next ≡ outside d (Some g))))

module _ (d : Draft) (f : Form) (t : Lexeme) (plain : is_plain (glyph_of t) ≡ true) where
  pub form_parts : (next : State) → code_token (outside d (Some f)) t ≡ Ok next → FormStep d f t next
  unfolding code_token form_token form_read
  form_parts next e =
      let kind = (no_directive t plain).0 in
      let p = bind_parts (form_step f t) (λ g. form_read (outside d (Some f)) g) next (rw kind at e) in
      let e2 = p.2 in
      elim (cases_Bool (is_complete p.0)) [
        | inl yes_so ↦
            let q = bind_parts (judged d p.0.name p.0) (λ after. Ok (outside after None)) next (rw yes_so at e2) in
            (p.0, p.1, inl (yes_so, q.0, q.1, sym (ok_is (outside q.0 None) next q.2)))
        | inr not_so ↦ (p.0, p.1, inr (not_so, sym (ok_is (outside d (Some p.0)) next (rw not_so at e2))))
      ]

  pub form_goes_on : (g : Form) → form_step f t ≡ Ok g → is_complete g ≡ false → code_token (outside d (Some f)) t ≡ Ok (outside d (Some g))
  unfolding code_token form_token form_read
  form_goes_on g e more = let kind = (no_directive t plain).0 in rw kind (rw e (rw more refl))

  pub form_completed : (g : Form) (after : Draft) → form_step f t ≡ Ok g → is_complete g ≡ true → judged d g.name g ≡ Ok after → code_token (outside d (Some f)) t ≡ Ok (outside after None)
  unfolding code_token form_token form_read
  form_completed g after e complete said = let kind = (no_directive t plain).0 in rw kind (rw e (rw complete (rw said refl)))

-- ---- no directive begins

form_keeps : (d : Draft) (f : Form) (t : Lexeme) (next : State) → FormStep d f t next → next.directive ≡ Outside
form_keeps d f t next s =
    elim s.2 [
      | inl whole ↦ ap (λ (x : State). x.directive) whole.3
      | inr part ↦ ap (λ (x : State). x.directive) part.1
    ]

pub keeps : (d : Draft) (f : Option Form) (t : Lexeme) (next : State) → is_plain (glyph_of t) ≡ true → code_token (outside d f) t ≡ Ok next → next.directive ≡ Outside
keeps d None t next plain e =
    elim (first_parts d t plain next e) [
      | inl ended ↦ ap (λ (x : State). x.directive) ended.1
      | inr began ↦ ap (λ (x : State). x.directive) began.3
    ]
keeps d (Some f) t next plain e = form_keeps d f t next (form_parts d f t plain next e)
