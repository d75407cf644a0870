-- A first word is at fault exactly where the table has a fault for it.
use Rattle.std.proofs.Common.{◌≡◌, ℕ, inl, inr, Bool, true, false, cond, List, [], ◌∷◌, ◌++◌, Option, Some, None, is_some, option_map, Result, Ok, Err, refl, sym, ap, subst, ◌∙◌}
use Rattle.std.specs.Option.{ok_or, option_map_or}
use Rattle.std.specs.Str.{bytes_eq}
use Rattle.std.proofs.lemmas.Bool.{and_from, and_parts, false≢true}
use Rattle.fmp_bytes.specs.Results.{◌>>=◌}
use Rattle.fmp_bytes.proofs.Parsed.{some_is}
use Rattle.fmp_bytes.proofs.Words.{is_word}
use Rattle.fmp_calls.proofs.Found.{found_passes}
use Rattle.fmp_config.specs.declared.draft.OpenClass.{OpenClass}
use Rattle.fmp_config.specs.Drafts.{Draft}
use Rattle.fmp_config.specs.Places.{place_fault}
use Rattle.fmp_config.specs.Reading.{State, code_token, ends_class, first_token, placed, statement_at, take_token}
use Rattle.fmp_config_statements.specs.declared.fault.ConfigKind.{ConfigKind}
use Rattle.fmp_config_statements.specs.declared.fault.ConfigKind.TheVariants.{Syntax, Unsupported}
use Rattle.fmp_config_statements.specs.declared.table.StatementName.{StatementName}
use Rattle.fmp_config_statements.specs.declared.table.TheConstants as table
use Rattle.fmp_config_statements.specs.Faults.{Fault, fault_at}
use Rattle.fmp_config_statements.specs.Forms.{begun}
use Rattle.fmp_config_statements.specs.Table.{statement_of, text_of}
use Rattle.fmp_config_statements.specs.Words.{is_identifier_kind, is_mark, word_of}
use Rattle.fmp_config_statements.proofs.Found.{statement_of-text_of}
use Rattle.fmp_config_statements.specs.Lexing.{Lexeme}
use Rattle.fmp_law_config.specs.Elements.{is_plain}
use Rattle.fmp_law_config.specs.FirstFaults.{HaveNoFault}
use Rattle.fmp_law_config.specs.Stages.{Stage}
use Rattle.fmp_law_config.specs.Tokens.{Glyph, glyph_of}
use Rattle.fmp_law_config.proofs.Forms.{mark_at}
use Rattle.fmp_law_config.proofs.Glyphs.{is_mark-is}
use Rattle.fmp_law_config.proofs.Results.{none_is}
use Rattle.fmp_law_config.proofs.Stages.{stage_of}
use Rattle.fmp_law_config.proofs.Steps.{no_directive, outside}
use Rattle.fmp_law_faults.specs.StatementFaults.{EndsClass, FirstWordFault, place_of}
use Rattle.fmp_law_faults.specs.Statements.{HaveFault, IsBetween}
use Rattle.fmp_law_faults.proofs.Placed.{place_is}
use Rattle.fmp_law_faults.proofs.Tokens.{Stands, fault_at_token, no_fault_at, tokens_lead}

abbrev FirstAgrees : Stage → Glyph → Result State Fault → Type 0
FirstAgrees s g (Err fault) = FirstWordFault s g fault.kind
FirstAgrees s g (Ok next) = (kind : ConfigKind) → ¬ (FirstWordFault s g kind)

-- ---- the statement of a word

named_so : (text : List ℕ) (name : StatementName) → statement_of text ≡ Some name → text_of name ≡ text
unfolding statement_of
named_so text name e = is_word (text_of name) text (found_passes (λ n. bytes_eq (text_of n) text) table.STATEMENT_NAMES name e)

found_so : (text : List ℕ) (name : StatementName) → text_of name ≡ text → statement_of text ≡ Some name
found_so text name e = ap statement_of (sym e) ∙ statement_of-text_of name

one_name : (text : List ℕ) (a b : StatementName) → text_of a ≡ text → text_of b ≡ text → a ≡ b
one_name text a b first second = some_is a b (sym (found_so text a first) ∙ found_so text b second)

-- ---- the end of a class

some_open : (opened : Option OpenClass) → is_some opened ≡ is_some (option_map (λ o. o.class) opened)
some_open None = refl
some_open (Some o) = refl

module _ (d : Draft) (t : Lexeme) where
  abbrev s : Stage
  s = stage_of d

  ends_so : ends_class d t ≡ true → EndsClass s (glyph_of t)
  unfolding ends_class
  ends_so e = let p = and_parts (is_some d.open_class) (is_mark 125 t) e in (sym (some_open d.open_class) ∙ p.0, is_mark-is 125 t p.1)

  no_end : ends_class d t ≡ false → ¬ (EndsClass s (glyph_of t))
  unfolding ends_class
  no_end e ends = false≢true (sym e ∙ and_from (is_some d.open_class) (is_mark 125 t) (some_open d.open_class ∙ ends.0) (mark_at 125 t ends.1))

  -- ---- each case

  abbrev after : StatementName → Result State Fault
  after name = placed d t name >>= λ name. Ok (outside d (Some (begun name t.line)))

  place_judged : ¬ (EndsClass s (glyph_of t)) → is_identifier_kind t.kind ≡ true → (name : StatementName) → text_of name ≡ t.text → FirstAgrees s (glyph_of t) (after name)
  unfolding placed
  place_judged no_brace word name is = by (place_fault d name) refl where
    by : (o : Option ConfigKind) → place_fault d name ≡ o
        → FirstAgrees s (glyph_of t) (option_map_or (λ kind. Err (fault_at kind (word_of t))) o (Ok name) >>= λ name. Ok (outside d (Some (begun name t.line))))
    by (Some kind) e = (no_brace, inr (word, inr (name, is, sym (place_is d name) ∙ e)))
    by None e = λ kind f.
        elim f.1 [
          | inl a ↦ false≢true (sym a.1 ∙ word)
          | inr b ↦ elim b.1 [
            | inl c ↦ c.1 name is
            | inr c ↦
                let same = one_name t.text c.0 name c.1 is in
                none_is kind (sym e ∙ place_is d name ∙ ap (place_of s) (sym same) ∙ c.2)
          ]
        ]

  word_judged : ¬ (EndsClass s (glyph_of t)) → FirstAgrees s (glyph_of t) (statement_at t >>= after)
  unfolding statement_at
  word_judged no_brace = by (is_identifier_kind t.kind) refl where
    named : is_identifier_kind t.kind ≡ true → (o : Option StatementName) → statement_of t.text ≡ o → FirstAgrees s (glyph_of t) (ok_or o (fault_at Unsupported (word_of t)) >>= after)
    named word None e = (no_brace, inr (word, inl (refl, λ name is. none_is name (sym e ∙ found_so t.text name is))))
    named word (Some name) e = place_judged no_brace word name (named_so t.text name e)

    by : (word : Bool) → is_identifier_kind t.kind ≡ word
        → FirstAgrees s (glyph_of t) (cond word (ok_or (statement_of t.text) (fault_at Unsupported (word_of t))) (Err (fault_at Syntax (word_of t))) >>= after)
    by false e = (no_brace, inl (refl, e))
    by true e = named e (statement_of t.text) refl

  token_judged : FirstAgrees s (glyph_of t) (first_token (outside d None) t)
  unfolding first_token
  token_judged = by (ends_class d t) refl where
    by : (ends : Bool) → ends_class d t ≡ ends
        → FirstAgrees s (glyph_of t) (cond ends (Ok (outside (record d { open_class = None }) None)) (statement_at t >>= after))
    by true e = λ kind f. f.0 (ends_so e)
    by false e = word_judged (no_end e)

  pub first_judged : is_plain (glyph_of t) ≡ true → FirstAgrees s (glyph_of t) (take_token (outside d None) t)
  unfolding take_token code_token
  first_judged plain = let kind = (no_directive t plain).0 in rw kind token_judged

-- ---- one fault

one_fault : (s : Stage) (g : Glyph) (a b : ConfigKind) → FirstWordFault s g a → FirstWordFault s g b → a ≡ b
one_fault s g a b f h =
    elim f.1 [
      | inl x ↦ elim h.1 [ inl y ↦ x.0 ∙ sym y.0 | inr y ↦ absurd (false≢true (sym x.1 ∙ y.0)) ]
      | inr x ↦ elim h.1 [
        | inl y ↦ absurd (false≢true (sym y.1 ∙ x.0))
        | inr y ↦ elim x.1 [
          | inl u ↦ elim y.1 [ inl v ↦ u.0 ∙ sym v.0 | inr v ↦ absurd (u.1 v.0 v.1) ]
          | inr u ↦ elim y.1 [
            | inl v ↦ absurd (v.1 u.0 u.1)
            | inr v ↦ some_is a b (sym u.2 ∙ ap (place_of s) (one_name g.text u.0 v.0 u.1 v.1) ∙ v.2)
          ]
        ]
      ]
    ]

-- ---- texts

module _ (before : List Lexeme) (t : Lexeme) (s : Stage) (is : IsBetween before s) (plain : is_plain (glyph_of t) ≡ true) where
  pub no_fault : ((kind : ConfigKind) → ¬ (FirstWordFault s (glyph_of t) kind)) → HaveNoFault (before ++ t ∷ [])
  no_fault none = go (take_token (outside l.draft None) t) refl (first_judged l.draft t plain) where
    l : Stands before s
    l = tokens_lead before s is

    go : (r : Result State Fault) → take_token (outside l.draft None) t ≡ r → FirstAgrees (stage_of l.draft) (glyph_of t) r → HaveNoFault (before ++ t ∷ [])
    go (Ok next) e agrees = no_fault_at before t (outside l.draft None) l.read next e
    go (Err fault) e agrees = absurd (none fault.kind (subst (λ (x : Stage). FirstWordFault x (glyph_of t) fault.kind) (sym l.stage) agrees))

  pub a_fault : (kind : ConfigKind) → FirstWordFault s (glyph_of t) kind → HaveFault (before ++ t ∷ []) kind
  a_fault kind f = go (take_token (outside l.draft None) t) refl (first_judged l.draft t plain) where
    l : Stands before s
    l = tokens_lead before s is

    here : FirstWordFault (stage_of l.draft) (glyph_of t) kind
    here = subst (λ (x : Stage). FirstWordFault x (glyph_of t) kind) l.stage f

    go : (r : Result State Fault) → take_token (outside l.draft None) t ≡ r → FirstAgrees (stage_of l.draft) (glyph_of t) r → HaveFault (before ++ t ∷ []) kind
    go (Ok next) e agrees = absurd (agrees kind here)
    go (Err fault) e agrees =
        let same = one_fault (stage_of l.draft) (glyph_of t) fault.kind kind agrees here in
        subst (λ (k : ConfigKind). HaveFault (before ++ t ∷ []) k) same (fault_at_token before t (outside l.draft None) l.read fault e)
