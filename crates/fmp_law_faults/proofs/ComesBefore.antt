-- What is read of a text before a token of a statement.
use Rattle.std.proofs.Common.{◌≡◌, ℕ, true, List, [], ◌∷◌, ◌++◌, map, Some, None, Ok, refl, sym, ap, subst, ◌∙◌}
use Rattle.std.specs.List.{list_all}
use Rattle.std.proofs.lemmas.Bool.{and_parts}
use Rattle.fmp_config.specs.Drafts.{Draft, blank_draft}
use Rattle.fmp_config.specs.Reading.{at_start, take_token}
use Rattle.fmp_config_statements.specs.declared.table.StatementName.{StatementName}
use Rattle.fmp_config_statements.specs.Folds.{each}
use Rattle.fmp_config_statements.specs.Forms.{Form, begun}
use Rattle.fmp_config_statements.specs.Table.{text_of}
use Rattle.fmp_config_statements.specs.Lexing.{Lexeme}
use Rattle.fmp_law_config.specs.Elements.{Element, Plain, definitions_of, identifier, plain_of}
use Rattle.fmp_law_config.specs.Meaning.{may_stand}
use Rattle.fmp_law_config.specs.Phrases.{Phrase}
use Rattle.fmp_law_config.specs.Stages.{AddsAll, Stage}
use Rattle.fmp_law_config.specs.Tokens.{Glyph, glyph_of}
use Rattle.fmp_law_config.proofs.Entries.{AreTokens, Entry, Token, all_append, element_of, entry_in, glyphs_append}
use Rattle.fmp_law_config.proofs.Followed.{Open, clauses_reach}
use Rattle.fmp_law_config.proofs.Forms.{sound}
use Rattle.fmp_law_config.proofs.Given.{entries_of}
use Rattle.fmp_law_config.proofs.Glyphs.{is_glyph}
use Rattle.fmp_law_config.proofs.Nesting.{tokens_nested}
use Rattle.fmp_law_config.proofs.Placing.{stands}
use Rattle.fmp_law_config.proofs.Results.{each-append, each-cons}
use Rattle.fmp_law_config.proofs.Scans.{Remains}
use Rattle.fmp_law_config.proofs.Stages.{AreUnsigned, IsBounded, phrase_of, stage_of}
use Rattle.fmp_law_config.proofs.Steps.{outside, statement_begun}
use Rattle.fmp_law_config.proofs.Unsigned.{none_unsigned}
use Rattle.fmp_law_faults.specs.StatementFaults.{AreWhole}
use Rattle.fmp_law_faults.specs.Statements.{IsNext, IsWithin}
use Rattle.fmp_law_faults.proofs.Reached.{Comes, first_token, inner_comes, parted}
use Rattle.fmp_law_faults.proofs.Tokens.{blank_bounded}

-- the statement that is read, where these tokens are left of it
pub record ComesBefore (before : List Lexeme) (s : Stage) (name : StatementName) (glyphs : List Glyph) (phrase : Phrase) (left : List Glyph) : Type 0 where
  pub draft : Draft
  pub form : Form
  pub read : each take_token at_start before ≡ Ok (outside draft (Some form))
  pub stage : s ≡ stage_of draft
  pub bounded : IsBounded draft.setup
  pub open_so : Open form phrase left
  pub back : (other : Phrase) (others : List Glyph) → Remains form other others → AreWhole name (glyphs ++ others) other
  pub named : form.name ≡ name
  pub unsigned : AreUnsigned (phrase_of form.pieces)

-- the token is one of a text
pub next_glyph : (before : List Lexeme) (t : Lexeme) → IsNext before t → is_glyph (glyph_of t) ≡ true
next_glyph before t next =
    let all = (tokens_nested (map glyph_of (before ++ t ∷ [])) next.spelled.0 next.spelled.1).0 in
    let both = all_append (map glyph_of before) (map glyph_of (t ∷ [])) (subst (λ (gs : List Glyph). list_all is_glyph gs ≡ true) (glyphs_append before (t ∷ [])) all) in
    (and_parts (is_glyph (glyph_of t)) true both.1).0

-- the entries before the token: those of the clauses, and of the statement
pub record Read (s : Stage) (name : StatementName) (inner : List Element) (phrase : Phrase) (left : List Glyph) (entries : List Entry) : Type 0 where
  pub line : ℕ
  pub start : Draft
  pub others : List Entry
  pub comes : Comes start (begun name line) others (plain_of inner) phrase left s
  pub reads : each entry_in (outside blank_draft None) entries ≡ Ok (outside comes.after (Some comes.form))

module _ (before : List Lexeme) (s : Stage) (name : StatementName) (glyphs : List Glyph) (l : IsWithin before s name glyphs) (phrase : Phrase) (last : Glyph) (more : List Glyph)
    (whole : AreWhole name (plain_of l.inner ++ (last ∷ more)) phrase) where
  entries_come : (entries : List Entry) → map element_of entries ≡ l.first ++ Plain (identifier (text_of name)) ∷ l.inner → AreTokens entries → Read s name l.inner phrase (last ∷ more) entries
  entries_come entries e are =
      let p = parted l.first (Plain (identifier (text_of name)) ∷ l.inner) entries e are in
      let r = clauses_reach l.clauses l.first p.prefix blank_draft l.from blank_bounded p.prefix_are p.prefix_tokens l.clauses_are l.say in
      let first = first_token p.back (identifier (text_of name)) l.inner p.back_are p.back_tokens in
      let begins = statement_begun r.0 first.t name first.is (stands r.0 name (subst (λ (x : Stage). may_stand x name ≡ true) r.2 l.stands)) in
      let open_so : Open (begun name first.t.line) phrase (plain_of l.inner ++ (last ∷ more)) = record { remains = whole; following = refl; sound = sound name } in
      let c = inner_comes phrase last more s l.inner first.others r.0 (begun name first.t.line) r.3 none_unsigned first.others_are first.tokens_are open_so
      (subst (λ (x : Stage). AddsAll x (definitions_of l.inner) s) r.2 l.adds) in
      let here = r.1 in
      let back : each entry_in (outside r.0 None) p.back ≡ Ok (outside c.after (Some c.form)) = ap (λ (es : List Entry). each entry_in (outside r.0 None) es) first.parts
      ∙ each-cons entry_in (outside r.0 None) (outside r.0 (Some (begun name first.t.line))) (Token first.t) first.others begins ∙ c.read in
      record {
        line = first.t.line;
        start = r.0;
        others = first.others;
        comes = c;
        reads = ap (λ (es : List Entry). each entry_in (outside blank_draft None) es) p.parts ∙ each-append entry_in (outside blank_draft None) p.prefix p.back ∙ rw here back;
      }

  tokens_come : ComesBefore before s name glyphs phrase (last ∷ more)
  tokens_come =
      let all = (tokens_nested (map glyph_of before) l.spelled.0 l.spelled.1).0 in
      let entered = entries_of (l.first ++ Plain (identifier (text_of name)) ∷ l.inner) before l.elements_are all in
      let r = entries_come entered.entries entered.are entered.tokens_are in
      let c = r.comes in
      record {
        draft = c.after;
        form = c.form;
        read = entered.read blank_draft None (outside c.after (Some c.form)) r.reads;
        stage = c.stage;
        bounded = c.bounded;
        open_so = c.open_so;
        back = λ other others remains. subst (λ (gs : List Glyph). AreWhole name (gs ++ others) other) l.glyphs_are (c.back other others remains);
        named = c.name;
        unsigned = c.unsigned;
      }

pub comes_before : (before : List Lexeme) (s : Stage) (name : StatementName) (glyphs : List Glyph) → IsWithin before s name glyphs → (phrase : Phrase) (last : Glyph) (more : List Glyph)
    → AreWhole name (glyphs ++ (last ∷ more)) phrase → ComesBefore before s name glyphs phrase (last ∷ more)
comes_before before s name glyphs l phrase last more whole =
    tokens_come before s name glyphs l phrase last more (subst (λ (gs : List Glyph). AreWhole name (gs ++ (last ∷ more)) phrase) (sym l.glyphs_are) whole)
