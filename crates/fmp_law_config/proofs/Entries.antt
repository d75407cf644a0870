-- The elements of a text with their lines, and that those that are read are spelled.
use Rattle.std.proofs.Common.{◌≡◌, ℕ, true, inl, inr, List, [], ◌∷◌, ◌++◌, map, Option, Result, Ok, refl, sym, ap, subst, ◌∙◌, append_assoc}
use Rattle.std.specs.List.{list_all}
use Rattle.std.proofs.lemmas.Bool.{and_parts, and_from}
use Rattle.fmp_bytes.specs.Results.{◌>>=◌}
use Rattle.fmp_names.specs.Names.{is_name}
use Rattle.fmp_config_statements.specs.declared.tokens.TokenKind.TheVariants as kinds
use Rattle.fmp_config_statements.specs.Lexing.{Lexeme}
use Rattle.fmp_config_statements.specs.declared.directive.Directive.{Directive}
use Rattle.fmp_config_statements.specs.declared.directive.Directive.TheVariants as directives
use Rattle.fmp_config_statements.specs.Directives.{next_directive}
use Rattle.fmp_config_statements.specs.Faults.{Fault}
use Rattle.fmp_config_statements.specs.Folds.{each}
use Rattle.fmp_config_statements.specs.Forms.{Form}
use Rattle.fmp_config_statements.specs.Words.{Word}
use Rattle.fmp_config.specs.Drafts.{Draft}
use Rattle.fmp_config.specs.Judging.{define, ended}
use Rattle.fmp_config.specs.Reading.{State, code_token, take_token}
use Rattle.fmp_law_config.specs.Tokens.{Glyph, glyph_of}
use Rattle.fmp_law_config.specs.Elements.{Element, Plain, Defined, Skipped, is_plain, directive_of, Defines, SpellsElements}
use Rattle.fmp_law_config.proofs.Results.{ok_is, each-cons, each_parts, each-none}
use Rattle.fmp_law_config.proofs.Glyphs.{is_glyph}
use Rattle.fmp_law_config.proofs.Nesting.{Block, Outside, Whole, tokens_of, IsWhole, AreBlocks}
use Rattle.fmp_law_config.proofs.Directives.{words_say}
use Rattle.fmp_law_config.proofs.Steps.{state, outside, keeps}
use Rattle.fmp_law_config.proofs.Wholes.{whole_was, idle_ends, none_ends, definition_ends}

-- a token of a statement, a definition with its line, or a directive without effect
pub data Entry : Type 0 where
  Token : Lexeme → Entry
  Define : ℕ → Word → ℕ → Entry
  Skip : Entry

abbrev pub element_of : Entry → Element
element_of (Token t) = Plain (glyph_of t)
element_of (Define line word number) = Defined word.text number
element_of Skip = Skipped

abbrev pub entry_in : State → Entry → Result State Fault
entry_in s (Token t) = code_token s t
entry_in s (Define line word number) = define s.draft line word number >>= λ d. Ok (record s { draft = d })
entry_in s Skip = Ok s

-- each token is one of a statement, and each definition has a name
abbrev pub AreTokens : List Entry → Type 0
AreTokens [] = Unit {0}
AreTokens (Token t ∷ entries) = ((is_plain (glyph_of t) ≡ true) × (is_glyph (glyph_of t) ≡ true)) × AreTokens entries
AreTokens (Define line word number ∷ entries) = (is_name word.text ≡ true) × AreTokens entries
AreTokens (Skip ∷ entries) = AreTokens entries

pub outside_is : (s : State) → s.directive ≡ directives.Outside → s ≡ outside s.draft s.form
outside_is s e = ap (λ (x : Directive). state s.draft s.form x) e

pub taken_outside : (d : Draft) (f : Option Form) (t : Lexeme) → take_token (outside d f) t ≡ code_token (outside d f) t
unfolding take_token
taken_outside d f t = refl

-- ---- the tokens of a directive

pub glyphs_append : (xs ys : List Lexeme) → map glyph_of (xs ++ ys) ≡ map glyph_of xs ++ map glyph_of ys
glyphs_append [] ys = refl
glyphs_append (x ∷ xs) ys = ap (λ (gs : List Glyph). glyph_of x ∷ gs) (glyphs_append xs ys)

pub all_append : (xs ys : List Glyph) → list_all is_glyph (xs ++ ys) ≡ true → (list_all is_glyph xs ≡ true) × (list_all is_glyph ys ≡ true)
all_append [] ys e = (refl, e)
all_append (x ∷ xs) ys e =
    let both = and_parts (is_glyph x) (list_all is_glyph (xs ++ ys)) e in
    let rest = all_append xs ys both.1 in
    (and_from (is_glyph x) (list_all is_glyph xs) both.0 rest.0, rest.1)

abbrev pub end_glyph : Glyph
end_glyph = record { kind = kinds.DirectiveEnd; text = [] }

-- the glyphs of a directive, its end among what follows its words
pub directive_and_rest : (words rest : List Glyph) → directive_of words ++ rest ≡ record { kind = kinds.Directive; text = [] } ∷ (words ++ (end_glyph ∷ rest))
directive_and_rest words rest = ap (λ (gs : List Glyph). record { kind = kinds.Directive; text = [] } ∷ gs) (append_assoc words (end_glyph ∷ []) rest)

whole_glyphs : (hash : Lexeme) (words : List Lexeme) (end : Lexeme) (rest : List Lexeme) → IsWhole hash words end → map glyph_of (hash ∷ (words ++ (end ∷ rest))) ≡ directive_of (map glyph_of words) ++ map glyph_of rest
whole_glyphs hash words end rest whole =
    ap (λ (g : Glyph). g ∷ map glyph_of (words ++ (end ∷ rest))) whole.0
    ∙ ap (λ (gs : List Glyph). record { kind = kinds.Directive; text = [] } ∷ gs) (glyphs_append words (end ∷ rest) ∙ ap (λ (g : Glyph). map glyph_of words ++ (g ∷ map glyph_of rest)) whole.2)
    ∙ sym (directive_and_rest (map glyph_of words) (map glyph_of rest))

-- ---- what is read is spelled

pub record ReadEntries (d : Draft) (f : Option Form) (tokens : List Lexeme) (last : State) : Type 0 where
  pub entries : List Entry
  pub spelled : SpellsElements (map element_of entries) (map glyph_of tokens)
  pub tokens_are : AreTokens entries
  pub reads : each entry_in (outside d f) entries ≡ Ok last

token_read : (d : Draft) (f : Option Form) (t : Lexeme) (tokens : List Lexeme) (next last : State) → is_plain (glyph_of t) ≡ true → is_glyph (glyph_of t) ≡ true → code_token (outside d f) t ≡ Ok next
    → next.directive ≡ directives.Outside → ReadEntries next.draft next.form tokens last → ReadEntries d f (t ∷ tokens) last
token_read d f t tokens next last plain is e keeps r = record {
  entries = Token t ∷ r.entries;
  spelled = (map glyph_of tokens, refl, plain, r.spelled);
  tokens_are = ((plain, is), r.tokens_are);
  reads = each-cons entry_in (outside d f) next (Token t) r.entries e ∙ ap (λ (x : State). each entry_in x r.entries) (outside_is next keeps) ∙ r.reads;
}

module _ (d : Draft) (f : Option Form) (hash : Lexeme) (words : List Lexeme) (end : Lexeme) (whole : IsWhole hash words end) (rest : List Lexeme) (last : State) where
  definition_entered : (name : Word) (number : ℕ) (after : Draft) → Defines (map glyph_of words) name.text number → define d hash.line name number ≡ Ok after → ReadEntries after f rest last
      → ReadEntries d f (hash ∷ (words ++ (end ∷ rest))) last
  definition_entered name number after s e r =
      let step : entry_in (outside d f) (Define hash.line name number) ≡ Ok (outside after f) = rw e refl in
      record {
        entries = Define hash.line name number ∷ r.entries;
        spelled = (map glyph_of words, map glyph_of rest, whole_glyphs hash words end rest whole, s, r.spelled);
        tokens_are = (s.is_one, r.tokens_are);
        reads = each-cons entry_in (outside d f) (outside after f) (Define hash.line name number) r.entries step ∙ r.reads;
      }

  directive_entered : (directive : Directive) (after : Draft) → list_all is_glyph (map glyph_of words) ≡ true → each next_directive (directives.Marked hash.line) words ≡ Ok directive → ended d directive ≡ Ok after
      → ReadEntries after f rest last → ReadEntries d f (hash ∷ (words ++ (end ∷ rest))) last
  directive_entered directive after all e said r =
      elim (words_say hash.line words directive all e (λ none. none_ends d after hash.line (ap (ended d) (sym none) ∙ said))) [
        | inl found ↦ definition_entered found.0 found.1 after found.3 (sym (definition_ends d hash.line found.0 found.1) ∙ ap (ended d) (sym found.2) ∙ said) r
        | inr idle ↦
            let same : after ≡ d = sym (ok_is d after (sym (idle_ends d directive idle.0) ∙ said)) in
            let s = subst (λ (x : Draft). ReadEntries x f rest last) same r in
            record {
              entries = Skip ∷ s.entries;
              spelled = (map glyph_of words, map glyph_of rest, whole_glyphs hash words end rest whole, whole.1, idle.1, s.spelled);
              tokens_are = s.tokens_are;
              reads = each-cons entry_in (outside d f) (outside d f) Skip s.entries refl ∙ s.reads;
            }
      ]

pub entries_read : (blocks : List Block) (d : Draft) (f : Option Form) (last : State) → AreBlocks blocks → list_all is_glyph (map glyph_of (tokens_of blocks)) ≡ true → each take_token (outside d f) (tokens_of blocks) ≡ Ok last
    → ReadEntries d f (tokens_of blocks) last
entries_read [] d f last are all e = record { entries = []; spelled = refl; tokens_are = tt; reads = each-none entry_in (outside d f) ∙ sym (each-none take_token (outside d f)) ∙ e }
entries_read (Outside t ∷ blocks) d f last are all e =
    let both = and_parts (is_glyph (glyph_of t)) (list_all is_glyph (map glyph_of (tokens_of blocks))) all in
    let p = each_parts take_token (outside d f) last t (tokens_of blocks) e in
    let step = sym (taken_outside d f t) ∙ p.1 in
    let out = keeps d f t p.0 are.0 step in
    let r = entries_read blocks p.0.draft p.0.form last are.1 both.1 (ap (λ (x : State). each take_token x (tokens_of blocks)) (sym (outside_is p.0 out)) ∙ p.2) in
    token_read d f t (tokens_of blocks) p.0 last are.0 both.0 step out r
entries_read (Whole hash words end ∷ blocks) d f last are all e =
    let w = whole_was d f hash words end are.0 (tokens_of blocks) last e in
    let both = (and_parts (is_glyph (glyph_of hash)) (list_all is_glyph (map glyph_of (words ++ (end ∷ tokens_of blocks)))) all).1 in
    let split = all_append (map glyph_of words) (map glyph_of (end ∷ tokens_of blocks)) (subst (λ (gs : List Glyph). list_all is_glyph gs ≡ true) (glyphs_append words (end ∷ tokens_of blocks)) both) in
    let rest_all = (and_parts (is_glyph (glyph_of end)) (list_all is_glyph (map glyph_of (tokens_of blocks))) split.1).1 in
    let r = entries_read blocks w.1 f last are.1 rest_all w.4 in
    directive_entered d f hash words end are.0 (tokens_of blocks) last w.0 w.1 split.0 w.2 w.3 r
