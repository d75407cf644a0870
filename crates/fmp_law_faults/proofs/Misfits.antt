-- A token of a statement is at fault exactly where the table has a fault for it.
use Rattle.std.proofs.Common.{◌≡◌, inl, inr, Bool, true, false, cond, List, [], ◌∷◌, ◌++◌, Option, Some, None, Result, Ok, Err, refl, sym, ap, subst, ◌∙◌, append_assoc}
use Rattle.std.specs.Option.{option_map_or}
use Rattle.std.proofs.lemmas.Bool.{cases_Bool, false≢true}
use Rattle.fmp_bytes.proofs.Parsed.{some_is}
use Rattle.fmp_config.specs.Drafts.{Draft}
use Rattle.fmp_config.specs.Reading.{State, code_token, form_token, take_token}
use Rattle.fmp_config_statements.specs.declared.fault.ConfigKind.{ConfigKind}
use Rattle.fmp_config_statements.specs.declared.fault.ConfigKind.TheVariants.{Syntax}
use Rattle.fmp_config_statements.specs.declared.parts.Part.{Part}
use Rattle.fmp_config_statements.specs.declared.parts.Scan.{Scan}
use Rattle.fmp_config_statements.specs.declared.table.StatementName.{StatementName}
use Rattle.fmp_config_statements.specs.Faults.{Fault}
use Rattle.fmp_config_statements.specs.Forms.{Form, advanced, form_step, is_complete, misfit, next_part}
use Rattle.fmp_config_statements.specs.Parts.{may_end, next_of, scan_of}
use Rattle.fmp_config_statements.specs.Lexing.{Lexeme}
use Rattle.fmp_law_config.specs.Elements.{is_plain}
use Rattle.fmp_law_config.specs.FirstFaults.{HaveNoFault}
use Rattle.fmp_law_config.specs.Phrases.{Phrase}
use Rattle.fmp_law_config.specs.Stages.{Stage}
use Rattle.fmp_law_config.specs.Tokens.{Glyph, glyph_of}
use Rattle.fmp_law_config.proofs.Entries.{taken_outside}
use Rattle.fmp_law_config.proofs.Glyphs.{is_glyph}
use Rattle.fmp_law_config.proofs.Results.{ok_is}
use Rattle.fmp_law_config.proofs.Scans.{Remains, form_stepped}
use Rattle.fmp_law_config.proofs.Stages.{phrase_of}
use Rattle.fmp_law_config.proofs.Steps.{form_goes_on, no_directive, outside}
use Rattle.fmp_law_config.proofs.Taken.{Taken, complete_remains, completes, taken}
use Rattle.fmp_law_faults.specs.StatementFaults.{AreWhole, FitNothing, GoOn, TokenFault}
use Rattle.fmp_law_faults.specs.Statements.{HaveFault, IsNext, IsWithin}
use Rattle.fmp_law_faults.proofs.ComesBefore.{ComesBefore, comes_before, next_glyph}
use Rattle.fmp_law_faults.proofs.Errors.{both_ways, err_same, ok_err}
use Rattle.fmp_law_faults.proofs.LastWords.{a_fault, no_fault}
use Rattle.fmp_law_faults.proofs.Tokens.{fault_at_token, no_fault_at}
use Rattle.fmp_law_faults.proofs.Viable.{can_follow}

-- ---- a token that fits nothing

module _ (t : Lexeme) (fault : Fault) where
  part_err : (f : Form) (rest : List Part) → next_part f rest t ≡ Err fault → misfit t ≡ fault
  unfolding next_part
  part_err f [] e = err_same (misfit t) fault e
  part_err f (part ∷ rest) e = by (next_of (scan_of part) t) e where
    by : (o : Option Scan) → option_map_or (λ next. Ok (advanced (record f { rest = rest }) (scan_of part) next t)) o (Err (misfit t)) ≡ Err fault → misfit t ≡ fault
    by None e = err_same (misfit t) fault e
    by (Some next) e = absurd (ok_err (advanced (record f { rest = rest }) (scan_of part) next t) fault e)

  step_err : (f : Form) → form_step f t ≡ Err fault → fault.kind ≡ Syntax
  unfolding form_step
  step_err f e = sym (ap (λ (x : Fault). x.kind) (by (next_of f.scan t) (may_end f.scan) e)) where
    by : (o : Option Scan) (ends : Bool) → option_map_or (λ next. Ok (advanced f f.scan next t)) o (cond ends (next_part f f.rest t) (Err (misfit t))) ≡ Err fault → misfit t ≡ fault
    by (Some next) ends e = absurd (ok_err (advanced f f.scan next t) fault e)
    by None true e = part_err f f.rest e
    by None false e = err_same (misfit t) fault e

misread : (d : Draft) (f : Form) (t : Lexeme) (fault : Fault) → is_plain (glyph_of t) ≡ true → form_step f t ≡ Err fault → take_token (outside d (Some f)) t ≡ Err fault
unfolding take_token code_token form_token
misread d f t fault plain e = let kind = (no_directive t plain).0 in rw kind (rw e refl)

-- ---- what the token makes of the statement

one_form : (d e : Draft) (f g : Form) → ◌≡◌ {A = Result State Fault} (Ok (outside d (Some f))) (Ok (outside e (Some g))) → f ≡ g
one_form d e f g is = some_is f g (ap (λ (x : State). x.form) (ok_is (outside d (Some f)) (outside e (Some g)) is))

module _ (before : List Lexeme) (t : Lexeme) (s : Stage) (name : StatementName) (glyphs : List Glyph) (l : IsWithin before s name glyphs) (at : IsNext before t) where
  abbrev on : GoOn name glyphs
  on = l.goes_on

  glyph : is_glyph (glyph_of t) ≡ true
  glyph = next_glyph before t at

  abbrev with_it : List Glyph
  with_it = glyphs ++ glyph_of t ∷ []

  c : ComesBefore before s name glyphs on.0 (on.1 ∷ on.2)
  c = comes_before before s name glyphs l on.0 on.1 on.2 on.3

  -- where something follows that begins with the token, it is read
  reads_on : (phrase : Phrase) (more : List Glyph) → AreWhole name (glyphs ++ (glyph_of t ∷ more)) phrase → Taken c.form t phrase more
  reads_on phrase more whole =
      let b = comes_before before s name glyphs l phrase (glyph_of t) more whole in
      let same = one_form b.draft c.draft b.form c.form (sym b.read ∙ c.read) in
      let o = b.open_so in
      subst (λ (f : Form). Taken f t phrase more) same (taken b.form t glyph phrase more o.following o.sound o.remains)

  assoc : (more : List Glyph) → with_it ++ more ≡ glyphs ++ (glyph_of t ∷ more)
  assoc more = append_assoc glyphs (glyph_of t ∷ []) more

  fits_nothing : (fault : Fault) → form_step c.form t ≡ Err fault → FitNothing name with_it
  fits_nothing fault e = (
    λ goes.
        let k = reads_on goes.0 (goes.1 ∷ goes.2) (subst (λ (gs : List Glyph). AreWhole name gs goes.0) (assoc (goes.1 ∷ goes.2)) goes.3) in
        both_ways (form_step c.form t) k.next fault k.read e,
    λ phrase whole. let k = reads_on phrase [] whole in both_ways (form_step c.form t) k.next fault k.read e,
  )

  module _ (g : Form) (e : form_step c.form t ≡ Ok g) where
    follows : (phrase : Phrase) (others : List Glyph) → Remains g phrase others → AreWhole name (glyphs ++ (glyph_of t ∷ others)) phrase
    follows phrase others remains = c.back phrase (glyph_of t ∷ others) (form_stepped t glyph phrase others c.form g e remains)

    -- where nothing follows the statement is complete
    complete_so : (phrase : Phrase) → AreWhole name with_it phrase → is_complete g ≡ true
    complete_so phrase whole =
        let k = reads_on phrase [] whole in
        ap is_complete (sym (ok_is k.next g (sym k.read ∙ e))) ∙ (completes k.next phrase k.following k.sound k.remains).0

    whole_with : is_complete g ≡ true → AreWhole name with_it (phrase_of g.pieces)
    whole_with complete = follows (phrase_of g.pieces) [] (complete_remains g complete)

    goes_with : is_complete g ≡ false → GoOn name with_it
    goes_with not_so = let can = can_follow g in by can.0 can.1 can.2 where
      by : (phrase : Phrase) (others : List Glyph) → Remains g phrase others → GoOn name with_it
      by phrase [] remains = absurd (false≢true (sym not_so ∙ complete_so phrase (follows phrase [] remains)))
      by phrase (next ∷ more) remains =
          (phrase, next, more, subst (λ (gs : List Glyph). AreWhole name gs phrase) (sym (assoc (next ∷ more))) (follows phrase (next ∷ more) remains))

  pub no_token_fault : ((kind : ConfigKind) → ¬ (TokenFault s name with_it kind)) → HaveNoFault (before ++ t ∷ [])
  no_token_fault none = go (form_step c.form t) refl where
    go : (r : Result Form Fault) → form_step c.form t ≡ r → HaveNoFault (before ++ t ∷ [])
    go (Err fault) e = absurd (none Syntax (inl (refl, fits_nothing fault e)))
    go (Ok g) e =
        elim (cases_Bool (is_complete g)) [
          | inl complete ↦
              let whole = whole_with g e complete in
              no_fault before t s name glyphs (phrase_of g.pieces) l at whole (λ kind found. none kind (inr (phrase_of g.pieces, whole, found)))
          | inr not_so ↦
              no_fault_at before t (outside c.draft (Some c.form)) c.read (outside c.draft (Some g))
              (taken_outside c.draft (Some c.form) t ∙ form_goes_on c.draft c.form t at.is g e not_so)
        ]

  pub a_token_fault : (kind : ConfigKind) → TokenFault s name with_it kind → HaveFault (before ++ t ∷ []) kind
  a_token_fault kind (inr found) = a_fault before t s name glyphs found.0 l at found.1 kind found.2
  a_token_fault kind (inl fits) = go (form_step c.form t) refl where
    go : (r : Result Form Fault) → form_step c.form t ≡ r → HaveFault (before ++ t ∷ []) kind
    go (Err fault) e =
        subst (λ (k : ConfigKind). HaveFault (before ++ t ∷ []) k) (step_err t fault c.form e ∙ sym fits.0)
        (fault_at_token before t (outside c.draft (Some c.form)) c.read fault (misread c.draft c.form t fault at.is e))
    go (Ok g) e =
        elim (cases_Bool (is_complete g)) [
          | inl complete ↦ absurd (fits.1.1 (phrase_of g.pieces) (whole_with g e complete))
          | inr not_so ↦ absurd (fits.1.0 (goes_with g e not_so))
        ]
