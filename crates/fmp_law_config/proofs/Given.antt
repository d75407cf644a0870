-- The elements that are spelled are read.
use Rattle.std.proofs.Common.{◌≡◌, ℕ, true, List, [], ◌∷◌, ◌++◌, map, Option, Ok, refl, sym, ap, subst, ◌∙◌}
use Rattle.std.specs.Prelude.{codes}
use Rattle.std.specs.List.{list_all}
use Rattle.std.proofs.lemmas.Bool.{false≢true, and_parts}
use Rattle.fmp_bytes.proofs.Parsed.{bind_parts}
use Rattle.fmp_names.specs.Names.{is_name}
use Rattle.fmp_config_statements.specs.declared.tokens.TokenKind.{TokenKind}
use Rattle.fmp_config_statements.specs.declared.tokens.TokenKind.TheVariants as kinds
use Rattle.fmp_config_statements.specs.Lexing.{Lexeme}
use Rattle.fmp_config_statements.specs.declared.directive.Directive.TheVariants as directives
use Rattle.fmp_config_statements.specs.Folds.{each}
use Rattle.fmp_config_statements.specs.Forms.{Form}
use Rattle.fmp_config.specs.Drafts.{Draft}
use Rattle.fmp_config.specs.Judging.{define}
use Rattle.fmp_config.specs.Reading.{State, take_token}
use Rattle.fmp_law_config.specs.Tokens.{Glyph, glyph_of}
use Rattle.fmp_law_config.specs.Elements.{Element, Plain, Defined, Skipped, is_plain, identifier, directive_of, Defines, Skips, SpellsElements}
use Rattle.fmp_law_config.proofs.Results.{ok_is, each-cons, each_parts, each-none}
use Rattle.fmp_law_config.proofs.Numerals.{no_bytes, name_some}
use Rattle.fmp_law_config.proofs.Glyphs.{is_glyph}
use Rattle.fmp_law_config.proofs.Nesting.{IsWhole}
use Rattle.fmp_law_config.proofs.Directives.{definition_read, skipped_read}
use Rattle.fmp_law_config.proofs.Steps.{outside, keeps}
use Rattle.fmp_law_config.proofs.Wholes.{whole_taken, idle_ends, definition_ends}
use Rattle.fmp_law_config.proofs.Entries.{Entry, Token, Define, Skip, element_of, entry_in, AreTokens, outside_is, taken_outside, all_append, end_glyph, directive_and_rest}

-- the entries lead to where the tokens lead
pub record EntriesOf (elements : List Element) (tokens : List Lexeme) : Type 0 where
  pub entries : List Entry
  pub are : map element_of entries ≡ elements
  pub tokens_are : AreTokens entries
  pub read : (d : Draft) (f : Option Form) (last : State) → each entry_in (outside d f) entries ≡ Ok last → each take_token (outside d f) tokens ≡ Ok last

plain_kind : (kind : TokenKind) (b : ℕ) (bytes : List ℕ) → is_glyph (record { kind = kind; text = b ∷ bytes }) ≡ true → is_plain (record { kind = kind; text = b ∷ bytes }) ≡ true
plain_kind kinds.Identifier b bytes e = refl
plain_kind kinds.Digits b bytes e = refl
plain_kind kinds.Symbol b bytes e = refl
plain_kind kinds.Text b bytes e = refl
plain_kind kinds.Directive b bytes e = absurd (false≢true e)
plain_kind kinds.DirectiveEnd b bytes e = absurd (false≢true e)

plain_text : (kind : TokenKind) (text : List ℕ) → (text ≡ [] → ⊥) → is_glyph (record { kind = kind; text = text }) ≡ true → is_plain (record { kind = kind; text = text }) ≡ true
plain_text kind [] some e = absurd (some refl)
plain_text kind (b ∷ bytes) some e = plain_kind kind b bytes e

defines_plain : (words : List Glyph) (name : List ℕ) (number : ℕ) → Defines words name number → list_all is_glyph words ≡ true → list_all is_plain words ≡ true
defines_plain words name number s all =
    let all3 = subst (λ (gs : List Glyph). list_all is_glyph gs ≡ true) s.parts all in
    let a = (and_parts (is_glyph (identifier (codes "define"))) (list_all is_glyph (s.named ∷ s.numeral ∷ [])) all3).1 in
    let b = and_parts (is_glyph s.named) (list_all is_glyph (s.numeral ∷ [])) a in
    let c = (and_parts (is_glyph s.numeral) true b.1).0 in
    let x = plain_text s.named.kind s.named.text (name_some s.named.text (ap is_name s.name_is ∙ s.is_one)) b.0 in
    let y = plain_text s.numeral.kind s.numeral.text (no_bytes s.numeral.text number s.number_is) c in
    subst (λ (gs : List Glyph). list_all is_plain gs ≡ true) (sym s.parts) (rw (x, y) refl)

-- tokens of a directive and what follows
pub record Splits (tokens : List Lexeme) (words rest : List Glyph) : Type 0 where
  pub first : List Lexeme
  pub end : Lexeme
  pub others : List Lexeme
  pub parts : tokens ≡ first ++ (end ∷ others)
  pub first_are : map glyph_of first ≡ words
  pub end_is : glyph_of end ≡ end_glyph
  pub others_are : map glyph_of others ≡ rest

split : (words rest : List Glyph) (tokens : List Lexeme) → map glyph_of tokens ≡ words ++ (end_glyph ∷ rest) → Splits tokens words rest
split [] rest [] e = absurd cc
split [] rest (t ∷ tokens) e =
    let here : glyph_of t ≡ end_glyph = cc in
    let following : map glyph_of tokens ≡ rest = cc in
    record { first = []; end = t; others = tokens; parts = refl; first_are = refl; end_is = here; others_are = following }
split (w ∷ words) rest [] e = absurd cc
split (w ∷ words) rest (t ∷ tokens) e =
    let here : glyph_of t ≡ w = cc in
    let following : map glyph_of tokens ≡ words ++ (end_glyph ∷ rest) = cc in
    let s = split words rest tokens following in
    let words_are = s.first_are in
    record { first = t ∷ s.first; end = s.end; others = s.others; parts = ap (λ (ts : List Lexeme). t ∷ ts) s.parts; first_are = rw (here, words_are) refl; end_is = s.end_is; others_are = s.others_are }

-- a directive at the beginning of some tokens
pub record Leads (tokens : List Lexeme) (words rest : List Glyph) : Type 0 where
  pub hash : Lexeme
  pub first : List Lexeme
  pub end : Lexeme
  pub others : List Lexeme
  pub parts : tokens ≡ hash ∷ (first ++ (end ∷ others))
  pub hash_is : glyph_of hash ≡ record { kind = kinds.Directive; text = [] }
  pub first_are : map glyph_of first ≡ words
  pub end_is : glyph_of end ≡ end_glyph
  pub others_are : map glyph_of others ≡ rest

lead : (words rest : List Glyph) (tokens : List Lexeme) → map glyph_of tokens ≡ directive_of words ++ rest → Leads tokens words rest
lead words rest [] e = absurd cc
lead words rest (t ∷ tokens) e =
    let whole = e ∙ directive_and_rest words rest in
    let here : glyph_of t ≡ record { kind = kinds.Directive; text = [] } = cc in
    let following : map glyph_of tokens ≡ words ++ (end_glyph ∷ rest) = cc in
    let s = split words rest tokens following in
    record {
      hash = t;
      first = s.first;
      end = s.end;
      others = s.others;
      parts = ap (λ (ts : List Lexeme). t ∷ ts) s.parts;
      hash_is = here;
      first_are = s.first_are;
      end_is = s.end_is;
      others_are = s.others_are;
    }

-- the words and the rest of such tokens are tokens of a text as they are
lead_glyphs : (words rest : List Glyph) → list_all is_glyph (directive_of words ++ rest) ≡ true → (list_all is_glyph words ≡ true) × (list_all is_glyph rest ≡ true)
lead_glyphs words rest all =
    let a = subst (λ (gs : List Glyph). list_all is_glyph gs ≡ true) (directive_and_rest words rest) all in
    let b = all_append words (end_glyph ∷ rest) (and_parts true (list_all is_glyph (words ++ (end_glyph ∷ rest))) a).1 in
    (b.0, (and_parts true (list_all is_glyph rest) b.1).1)

module _ (elements : List Element) (tokens : List Lexeme) (words rest : List Glyph) (l : Leads tokens words rest) (plain : list_all is_plain words ≡ true) (r : EntriesOf elements l.others) where
  whole : IsWhole l.hash l.first l.end
  whole = (l.hash_is, subst (λ (gs : List Glyph). list_all is_plain gs ≡ true) (sym l.first_are) plain, l.end_is)

  defined_entered : (name : List ℕ) (number : ℕ) → Defines words name number → EntriesOf (Defined name number ∷ elements) tokens
  defined_entered name number s =
      let w = definition_read l.hash.line l.first name number (subst (λ (gs : List Glyph). Defines gs name number) (sym l.first_are) s) in
      let text = w.text in
      let are = r.are in
      record {
        entries = Define l.hash.line w.word number ∷ r.entries;
        are = rw (text, are) refl;
        tokens_are = (ap is_name text ∙ s.is_one, r.tokens_are);
        read = λ d f last e.
            let p = each_parts entry_in (outside d f) last (Define l.hash.line w.word number) r.entries e in
            let q = bind_parts (define d l.hash.line w.word number) (λ after. Ok (outside after f)) p.0 p.1 in
            let following = r.read q.0 f last (ap (λ (x : State). each entry_in x r.entries) (ok_is (outside q.0 f) p.0 q.2) ∙ p.2) in
            ap (λ (ts : List Lexeme). each take_token (outside d f) ts) l.parts
            ∙ whole_taken d f l.hash l.first l.end whole l.others (directives.Defining l.hash.line w.word number) q.0 w.is (definition_ends d l.hash.line w.word number ∙ q.1) ∙ following;
      }

  skipped_entered : list_all is_glyph words ≡ true → Skips words → EntriesOf (Skipped ∷ elements) tokens
  skipped_entered all s =
      let w = skipped_read l.hash.line l.first (subst (λ (gs : List Glyph). list_all is_glyph gs ≡ true) (sym l.first_are) all) (subst Skips (sym l.first_are) s) in
      let are = r.are in
      record {
        entries = Skip ∷ r.entries;
        are = rw are refl;
        tokens_are = r.tokens_are;
        read = λ d f last e.
            let p = each_parts entry_in (outside d f) last Skip r.entries e in
            let following = r.read d f last (ap (λ (x : State). each entry_in x r.entries) (ok_is (outside d f) p.0 p.1) ∙ p.2) in
            ap (λ (ts : List Lexeme). each take_token (outside d f) ts) l.parts
            ∙ whole_taken d f l.hash l.first l.end whole l.others w.0 d w.1 (idle_ends d w.0 w.2) ∙ following;
      }

token_entered : (elements : List Element) (t : Lexeme) (tokens : List Lexeme) → is_plain (glyph_of t) ≡ true → is_glyph (glyph_of t) ≡ true → EntriesOf elements tokens → EntriesOf (Plain (glyph_of t) ∷ elements) (t ∷ tokens)
token_entered elements t tokens plain is r =
    let are = r.are in
    record {
      entries = Token t ∷ r.entries;
      are = rw are refl;
      tokens_are = ((plain, is), r.tokens_are);
      read = λ d f last e.
          let p = each_parts entry_in (outside d f) last (Token t) r.entries e in
          let out = keeps d f t p.0 plain p.1 in
          let following = r.read p.0.draft p.0.form last (ap (λ (x : State). each entry_in x r.entries) (sym (outside_is p.0 out)) ∙ p.2) in
          each-cons take_token (outside d f) p.0 t tokens (taken_outside d f t ∙ p.1) ∙ ap (λ (x : State). each take_token x tokens) (outside_is p.0 out) ∙ following;
    }

pub entries_of : (elements : List Element) (tokens : List Lexeme) → SpellsElements elements (map glyph_of tokens) → list_all is_glyph (map glyph_of tokens) ≡ true → EntriesOf elements tokens
entries_of [] [] s all = record { entries = []; are = refl; tokens_are = tt; read = λ d f last e. each-none take_token (outside d f) ∙ sym (each-none entry_in (outside d f)) ∙ e }
entries_of [] (t ∷ tokens) s all = absurd cc
entries_of (Plain g ∷ elements) [] s all = absurd (let e = s.1 in cc)
entries_of (Plain g ∷ elements) (t ∷ tokens) s all =
    let e = s.1 in
    let here : glyph_of t ≡ g = cc in
    let following : s.0 ≡ map glyph_of tokens = cc in
    let both = and_parts (is_glyph (glyph_of t)) (list_all is_glyph (map glyph_of tokens)) all in
    let r = entries_of elements tokens (subst (λ (gs : List Glyph). SpellsElements elements gs) following s.3) both.1 in
    subst (λ (x : Glyph). EntriesOf (Plain x ∷ elements) (t ∷ tokens)) here (token_entered elements t tokens (ap is_plain here ∙ s.2) both.0 r)
entries_of (Defined name number ∷ elements) tokens s all =
    let l = lead s.0 s.1 tokens s.2 in
    let glyphs = lead_glyphs s.0 s.1 (subst (λ (gs : List Glyph). list_all is_glyph gs ≡ true) s.2 all) in
    let r = entries_of elements l.others (subst (λ (gs : List Glyph). SpellsElements elements gs) (sym l.others_are) s.4) (subst (λ (gs : List Glyph). list_all is_glyph gs ≡ true) (sym l.others_are) glyphs.1) in
    defined_entered elements tokens s.0 s.1 l (defines_plain s.0 name number s.3 glyphs.0) r name number s.3
entries_of (Skipped ∷ elements) tokens s all =
    let l = lead s.0 s.1 tokens s.2 in
    let glyphs = lead_glyphs s.0 s.1 (subst (λ (gs : List Glyph). list_all is_glyph gs ≡ true) s.2 all) in
    let r = entries_of elements l.others (subst (λ (gs : List Glyph). SpellsElements elements gs) (sym l.others_are) s.5) (subst (λ (gs : List Glyph). list_all is_glyph gs ≡ true) (sym l.others_are) glyphs.1) in
    skipped_entered elements tokens s.0 s.1 l s.3 r glyphs.0 s.4
