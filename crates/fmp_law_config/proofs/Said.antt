-- The clauses of the elements that are read.
use Rattle.std.proofs.Common.{◌≡◌, ℕ, true, inl, inr, List, [], ◌∷◌, ◌++◌, map, Option, Some, None, is_some, option_map, Ok, refl, sym, ap, subst, ◌∙◌, append_assoc}
use Rattle.std.proofs.lemmas.Bool.{and_parts}
use Rattle.fmp_bytes.proofs.Parsed.{bind_parts}
use Rattle.fmp_names.specs.Names.{is_name}
use Rattle.fmp_config_statements.specs.Lexing.{Lexeme}
use Rattle.fmp_config_statements.specs.declared.table.StatementName.{StatementName}
use Rattle.fmp_config_statements.specs.Folds.{each}
use Rattle.fmp_config_statements.specs.Forms.{Form, begun}
use Rattle.fmp_config_statements.specs.Table.{text_of}
use Rattle.fmp_config_statements.specs.Words.{Word, is_mark}
use Rattle.fmp_config.specs.declared.draft.OpenClass.{OpenClass}
use Rattle.fmp_config.specs.Drafts.{Draft}
use Rattle.fmp_config.specs.Places.{place_fault}
use Rattle.fmp_config.specs.Judging.{define}
use Rattle.fmp_config.specs.Reading.{State, ends_class}
use Rattle.fmp_law_config.specs.Tokens.{Glyph, glyph_of}
use Rattle.fmp_law_config.specs.Elements.{Element, Plain, Defined, Skipped, is_plain, identifier, plain_of, definitions_of, symbol}
use Rattle.fmp_law_config.specs.Phrases.{Phrase}
use Rattle.fmp_law_config.specs.Clauses.{Clause, Statement, EndOfClass, Defining, Skipping, SpellsStatement, SpellsClause, SpellsClauses}
use Rattle.fmp_law_config.specs.Stages.{Stage, AddsAll}
use Rattle.fmp_law_config.specs.Meaning.{Says, SaysClause, SayClauses}
use Rattle.fmp_law_config.proofs.Results.{ok_is, each_parts, each-none, none_is}
use Rattle.fmp_law_config.proofs.Stages.{phrase_of, stage_of, AreUnsigned, IsBounded}
use Rattle.fmp_law_config.proofs.Judged.{defined_adds}
use Rattle.fmp_law_config.proofs.Statements.{judged_says}
use Rattle.fmp_law_config.proofs.Bounded.{adds_bounded, says_bounded}
use Rattle.fmp_law_config.proofs.Glyphs.{is_glyph, is_mark-is}
use Rattle.fmp_law_config.proofs.Scans.{Remains, form_stepped}
use Rattle.fmp_law_config.proofs.Taken.{moved, complete_remains}
use Rattle.fmp_law_config.proofs.Unsigned.{form_unsigned, none_unsigned}
use Rattle.fmp_law_config.proofs.Steps.{outside, first_parts, form_parts}
use Rattle.fmp_law_config.proofs.Entries.{Entry, Token, Define, Skip, element_of, entry_in, AreTokens}
use Rattle.fmp_law_config.proofs.Placing.{may_be_placed}

-- the elements are clauses that lead from one stage to the other
pub record SayAll (elements : List Element) (from to : Stage) : Type 0 where
  pub clauses : List Clause
  pub spelled : SpellsClauses elements clauses
  pub say : SayClauses from clauses to

-- the elements are the rest of a statement, and clauses
pub record SayRest (f : Form) (elements : List Element) (from to : Stage) : Type 0 where
  pub inner : List Element
  pub last : Glyph
  pub rest : List Element
  pub phrase : Phrase
  pub defined : Stage
  pub said : Stage
  pub parts : elements ≡ inner ++ (Plain last ∷ rest)
  pub remains : Remains f phrase (plain_of inner ++ last ∷ [])
  pub adds : AddsAll from (definitions_of inner) defined
  pub says : Says defined f.name phrase said
  pub others : SayAll rest said to

-- what the entries of a draft say, outside and within a statement
abbrev pub Outside : List Entry → Type 0
Outside entries = (d : Draft) (last : State) → IsBounded d.setup → each entry_in (outside d None) entries ≡ Ok last → last.form ≡ None → SayAll (map element_of entries) (stage_of d) (stage_of last.draft)

abbrev pub Within : List Entry → Type 0
Within entries =
    (d : Draft) (f : Form) (last : State) → IsBounded d.setup → AreUnsigned (phrase_of f.pieces) → each entry_in (outside d (Some f)) entries ≡ Ok last → last.form ≡ None
    → SayRest f (map element_of entries) (stage_of d) (stage_of last.draft)

-- ---- one clause

one_clause : (clause : Clause) (first rest elements : List Element) (from between to : Stage) → elements ≡ first ++ rest → SpellsClause first clause → SaysClause from clause between → SayAll rest between to → SayAll elements from to
one_clause clause first rest elements from between to e s says r = record { clauses = clause ∷ r.clauses; spelled = (first, rest, e, s, r.spelled); say = (between, says, r.say) }

open_some : (opened : Option OpenClass) → is_some opened ≡ true → is_some (option_map (λ o. o.class) opened) ≡ true
open_some None e = e
open_some (Some o) e = refl

ends_parts : (d : Draft) (t : Lexeme) → ends_class d t ≡ true → (is_some (stage_of d).class ≡ true) × (glyph_of t ≡ symbol 125)
unfolding ends_class
ends_parts d t e =
    let p = and_parts (is_some d.open_class) (is_mark 125 t) e in
    (open_some d.open_class p.0, is_mark-is 125 t p.1)

-- a statement with its first word
statement_said : (d : Draft) (t : Lexeme) (name : StatementName) (elements : List Element) (to : Stage) → glyph_of t ≡ identifier (text_of name) → place_fault d name ≡ None → SayRest (begun name t.line) elements (stage_of d) to
    → SayAll (Plain (glyph_of t) ∷ elements) (stage_of d) to
statement_said d t name elements to e place r =
    let first = Plain (glyph_of t) ∷ (r.inner ++ Plain r.last ∷ []) in
    let whole : Plain (glyph_of t) ∷ elements ≡ first ++ r.rest = ap (λ (es : List Element). Plain (glyph_of t) ∷ es) (r.parts ∙ sym (append_assoc r.inner (Plain r.last ∷ []) r.rest)) in
    let spelled : SpellsStatement first name r.phrase (definitions_of r.inner) = record { inner = r.inner; last = r.last; elements_are = ap (λ (g : Glyph). Plain g ∷ (r.inner ++ Plain r.last ∷ [])) e; parts_are = r.remains; definitions_are = refl } in
    one_clause (Statement name r.phrase (definitions_of r.inner)) first r.rest (Plain (glyph_of t) ∷ elements) (stage_of d) r.said to whole spelled (r.defined, may_be_placed d name place, r.adds, r.says) r.others

-- ---- an entry

-- the rest of a statement with one element more
more_rest : (f g : Form) (element : Element) (elements : List Element) (from between to : Stage) → (r : SayRest g elements between to) → Remains f r.phrase (plain_of (element ∷ r.inner) ++ r.last ∷ []) → AddsAll from (definitions_of (element ∷ r.inner)) r.defined → g.name ≡ f.name
    → SayRest f (element ∷ elements) from to
more_rest f g element elements from between to r remains adds name = record {
  inner = element ∷ r.inner;
  last = r.last;
  rest = r.rest;
  phrase = r.phrase;
  defined = r.defined;
  said = r.said;
  parts = ap (λ (es : List Element). element ∷ es) r.parts;
  remains = remains;
  adds = adds;
  says = subst (λ (n : StatementName). Says r.defined n r.phrase r.said) name r.says;
  others = r.others;
}

-- the draft after a definition
definition_parts : (d : Draft) (f : Option Form) (line : ℕ) (word : Word) (number : ℕ) (entries : List Entry) (last : State) → each entry_in (outside d f) (Define line word number ∷ entries) ≡ Ok last
    → (after : Draft) × (define d line word number ≡ Ok after) × (each entry_in (outside after f) entries ≡ Ok last)
definition_parts d f line word number entries last e =
    let p = each_parts entry_in (outside d f) last (Define line word number) entries e in
    let q = bind_parts (define d line word number) (λ after. Ok (outside after f)) p.0 p.1 in
    (q.0, q.1, ap (λ (x : State). each entry_in x entries) (ok_is (outside q.0 f) p.0 q.2) ∙ p.2)

module _ (entries : List Entry) (outer : Outside entries) (inner : Within entries) where
  token_outside : (t : Lexeme) → is_plain (glyph_of t) ≡ true → Outside (Token t ∷ entries)
  token_outside t plain d last bounded e none =
      let p = each_parts entry_in (outside d None) last (Token t) entries e in
      elim (first_parts d t plain p.0 p.1) [
        | inl ended ↦
            let parts = ends_parts d t ended.0 in
            let after = record d { open_class = None } in
            let r = outer after last (bounded) (ap (λ (x : State). each entry_in x entries) (sym ended.1) ∙ p.2) none in
            one_clause EndOfClass (Plain (glyph_of t) ∷ []) (map element_of entries) (Plain (glyph_of t) ∷ map element_of entries) (stage_of d) (stage_of after) (stage_of last.draft) refl
            (ap (λ (g : Glyph). Plain g ∷ []) parts.1) (parts.0, refl) r
        | inr began ↦
            let r = inner d (begun began.0 t.line) last bounded none_unsigned (ap (λ (x : State). each entry_in x entries) (sym began.3) ∙ p.2) none in
            statement_said d t began.0 (map element_of entries) (stage_of last.draft) began.1 began.2 r
      ]

  definition_outside : (line : ℕ) (word : Word) (number : ℕ) → is_name word.text ≡ true → Outside (Define line word number ∷ entries)
  definition_outside line word number is d last bounded e none =
      let q = definition_parts d None line word number entries last e in
      let adds = defined_adds d q.0 line word number q.1 in
      let r = outer q.0 last (adds_bounded (stage_of d) (stage_of q.0) (record { name = word.text; number = number }) is bounded adds) q.2 none in
      one_clause (Defining (record { name = word.text; number = number })) (Defined word.text number ∷ []) (map element_of entries) (Defined word.text number ∷ map element_of entries) (stage_of d) (stage_of q.0) (stage_of last.draft)
      refl refl adds r

  skip_outside : Outside (Skip ∷ entries)
  skip_outside d last bounded e none =
      let p = each_parts entry_in (outside d None) last Skip entries e in
      let r = outer d last bounded (ap (λ (x : State). each entry_in x entries) (ok_is (outside d None) p.0 p.1) ∙ p.2) none in
      one_clause Skipping (Skipped ∷ []) (map element_of entries) (Skipped ∷ map element_of entries) (stage_of d) (stage_of d) (stage_of last.draft) refl refl refl r

  token_within : (t : Lexeme) → is_plain (glyph_of t) ≡ true → is_glyph (glyph_of t) ≡ true → Within (Token t ∷ entries)
  token_within t plain is d f last bounded unsigned e none =
      let p = each_parts entry_in (outside d (Some f)) last (Token t) entries e in
      let s = form_parts d f t plain p.0 p.1 in
      let g = s.0 in
      let name = (moved f t g s.1).name in
      let words = form_unsigned f t g s.1 is unsigned in
      elim s.2 [
        | inl whole ↦
            let after = whole.1 in
            let says = judged_says d after bounded g words g.name whole.2 in
            let r = outer after last (says_bounded (stage_of d) (stage_of after) g.name (phrase_of g.pieces) bounded says) (ap (λ (x : State). each entry_in x entries) (sym whole.3) ∙ p.2) none in
            record {
              inner = [];
              last = glyph_of t;
              rest = map element_of entries;
              phrase = phrase_of g.pieces;
              defined = stage_of d;
              said = stage_of after;
              parts = refl;
              remains = form_stepped t is (phrase_of g.pieces) [] f g s.1 (complete_remains g whole.0);
              adds = refl;
              says = subst (λ (n : StatementName). Says (stage_of d) n (phrase_of g.pieces) (stage_of after)) name says;
              others = r;
            }
        | inr part ↦
            let r = inner d g last bounded words (ap (λ (x : State). each entry_in x entries) (sym part.1) ∙ p.2) none in
            more_rest f g (Plain (glyph_of t)) (map element_of entries) (stage_of d) (stage_of d) (stage_of last.draft) r
            (form_stepped t is r.phrase (plain_of r.inner ++ r.last ∷ []) f g s.1 r.remains) r.adds name
      ]

  definition_within : (line : ℕ) (word : Word) (number : ℕ) → is_name word.text ≡ true → Within (Define line word number ∷ entries)
  definition_within line word number is d f last bounded unsigned e none =
      let q = definition_parts d (Some f) line word number entries last e in
      let adds = defined_adds d q.0 line word number q.1 in
      let r = inner q.0 f last (adds_bounded (stage_of d) (stage_of q.0) (record { name = word.text; number = number }) is bounded adds) unsigned q.2 none in
      more_rest f f (Defined word.text number) (map element_of entries) (stage_of d) (stage_of q.0) (stage_of last.draft) r r.remains (stage_of q.0, adds, r.adds) refl

  skip_within : Within (Skip ∷ entries)
  skip_within d f last bounded unsigned e none =
      let p = each_parts entry_in (outside d (Some f)) last Skip entries e in
      let r = inner d f last bounded unsigned (ap (λ (x : State). each entry_in x entries) (ok_is (outside d (Some f)) p.0 p.1) ∙ p.2) none in
      more_rest f f Skipped (map element_of entries) (stage_of d) (stage_of d) (stage_of last.draft) r r.remains r.adds refl

-- ---- all entries

both_said : (entries : List Entry) → AreTokens entries → Outside entries × Within entries
both_said [] are = (
  λ d last bounded e none. record { clauses = []; spelled = refl; say = ap (λ (x : State). stage_of x.draft) (sym (ok_is (outside d None) last (sym (each-none entry_in (outside d None)) ∙ e))) },
  λ d f last bounded unsigned e none. absurd (none_is f (sym none ∙ ap (λ (x : State). x.form) (sym (ok_is (outside d (Some f)) last (sym (each-none entry_in (outside d (Some f))) ∙ e))))),
)
both_said (Token t ∷ entries) are = let rest = both_said entries are.1 in (token_outside entries rest.0 rest.1 t are.0.0, token_within entries rest.0 rest.1 t are.0.0 are.0.1)
both_said (Define line word number ∷ entries) are = let rest = both_said entries are.1 in (definition_outside entries rest.0 rest.1 line word number are.0, definition_within entries rest.0 rest.1 line word number are.0)
both_said (Skip ∷ entries) are = let rest = both_said entries are in (skip_outside entries rest.0 rest.1, skip_within entries rest.0 rest.1)

-- what is read, with no statement left open, is clauses
pub entries_say : (entries : List Entry) → AreTokens entries → Outside entries
entries_say entries are = (both_said entries are).0
