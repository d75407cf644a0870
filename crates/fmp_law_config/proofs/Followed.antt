-- The elements of clauses are read as what the clauses say.
use Rattle.std.proofs.Common.{◌≡◌, ℕ, true, List, [], ◌∷◌, ◌++◌, map, Option, Some, None, is_some, option_map, Ok, refl, sym, ap, subst, ◌∙◌}
use Rattle.std.proofs.lemmas.Bool.{and_from}
use Rattle.fmp_names.specs.Names.{is_name}
use Rattle.fmp_config_statements.specs.Lexing.{Lexeme}
use Rattle.fmp_config_statements.specs.declared.table.StatementName.{StatementName}
use Rattle.fmp_config_statements.specs.Folds.{each}
use Rattle.fmp_config_statements.specs.Forms.{Form, begun}
use Rattle.fmp_config_statements.specs.Table.{text_of}
use Rattle.fmp_config_statements.specs.Words.{Word, is_mark}
use Rattle.fmp_config.specs.declared.draft.OpenClass.{OpenClass}
use Rattle.fmp_config.specs.Drafts.{Draft}
use Rattle.fmp_config.specs.Reading.{ends_class}
use Rattle.fmp_law_config.specs.Tokens.{Glyph, glyph_of}
use Rattle.fmp_law_config.specs.Elements.{Element, Plain, Defined, Skipped, is_plain, identifier, symbol, plain_of, Definition, definitions_of}
use Rattle.fmp_law_config.specs.Phrases.{Phrase}
use Rattle.fmp_law_config.specs.Clauses.{Clause, Statement, EndOfClass, Defining, Skipping, SpellsClause, SpellsClauses}
use Rattle.fmp_law_config.specs.Stages.{Stage, Adds, AddsAll}
use Rattle.fmp_law_config.specs.Meaning.{Says, SaysClause, SayClauses}
use Rattle.fmp_law_config.proofs.Results.{each-cons, each-none, each-append}
use Rattle.fmp_law_config.proofs.Stages.{phrase_of, stage_of, IsBounded}
use Rattle.fmp_law_config.proofs.Judged.{defined-says}
use Rattle.fmp_law_config.proofs.Statements.{says_judged}
use Rattle.fmp_law_config.proofs.Bounded.{adds_bounded, says_bounded}
use Rattle.fmp_law_config.proofs.Glyphs.{is_glyph}
use Rattle.fmp_law_config.proofs.Scans.{Remains}
use Rattle.fmp_law_config.proofs.Forms.{is_after, is_sound, sound, mark_at}
use Rattle.fmp_law_config.proofs.Taken.{taken, goes_on, completes, moved}
use Rattle.fmp_law_config.proofs.Steps.{outside, class_ended, statement_begun, form_goes_on, form_completed}
use Rattle.fmp_law_config.proofs.Entries.{Entry, Token, Define, Skip, element_of, entry_in, AreTokens}
use Rattle.fmp_law_config.proofs.Placing.{stands}

-- the entries lead from a draft and a statement to a draft of this stage, which is bounded
abbrev pub Reach : Draft → Option Form → List Entry → Stage → Type 0
Reach d f entries to = (after : Draft) × (each entry_in (outside d f) entries ≡ Ok (outside after None)) × (to ≡ stage_of after) × IsBounded after.setup

-- ---- the first entry of some elements

pub record FirstToken (entries : List Entry) (g : Glyph) (elements : List Element) : Type 0 where
  pub t : Lexeme
  pub others : List Entry
  pub parts : entries ≡ Token t ∷ others
  pub is : glyph_of t ≡ g
  pub plain : is_plain (glyph_of t) ≡ true
  pub glyph : is_glyph (glyph_of t) ≡ true
  pub others_are : map element_of others ≡ elements
  pub tokens_are : AreTokens others

first_token : (entries : List Entry) (g : Glyph) (elements : List Element) → map element_of entries ≡ Plain g ∷ elements → AreTokens entries → FirstToken entries g elements
first_token [] g elements e are = absurd cc
first_token (Token t ∷ entries) g elements e are =
    let here : glyph_of t ≡ g = cc in
    let following : map element_of entries ≡ elements = cc in
    record { t = t; others = entries; parts = refl; is = here; plain = are.0.0; glyph = are.0.1; others_are = following; tokens_are = are.1 }
first_token (Define line word number ∷ entries) g elements e are = absurd cc
first_token (Skip ∷ entries) g elements e are = absurd cc

pub record FirstDefinition (entries : List Entry) (name : List ℕ) (number : ℕ) (elements : List Element) : Type 0 where
  pub line : ℕ
  pub word : Word
  pub others : List Entry
  pub parts : entries ≡ Define line word number ∷ others
  pub is : word.text ≡ name
  pub named : is_name name ≡ true
  pub others_are : map element_of others ≡ elements
  pub tokens_are : AreTokens others

first_definition : (entries : List Entry) (name : List ℕ) (number : ℕ) (elements : List Element) → map element_of entries ≡ Defined name number ∷ elements → AreTokens entries → FirstDefinition entries name number elements
first_definition [] name number elements e are = absurd cc
first_definition (Token t ∷ entries) name number elements e are = absurd cc
first_definition (Define line word n ∷ entries) name number elements e are =
    let here : word.text ≡ name = cc in
    let same : n ≡ number = cc in
    let following : map element_of entries ≡ elements = cc in
    record { line = line; word = word; others = entries; parts = ap (λ (x : ℕ). Define line word x ∷ entries) same; is = here; named = ap is_name (sym here) ∙ are.0; others_are = following; tokens_are = are.1 }
first_definition (Skip ∷ entries) name number elements e are = absurd cc

pub record FirstSkip (entries : List Entry) (elements : List Element) : Type 0 where
  pub others : List Entry
  pub parts : entries ≡ Skip ∷ others
  pub others_are : map element_of others ≡ elements
  pub tokens_are : AreTokens others

first_skip : (entries : List Entry) (elements : List Element) → map element_of entries ≡ Skipped ∷ elements → AreTokens entries → FirstSkip entries elements
first_skip [] elements e are = absurd cc
first_skip (Token t ∷ entries) elements e are = absurd cc
first_skip (Define line word n ∷ entries) elements e are = absurd cc
first_skip (Skip ∷ entries) elements e are = let following : map element_of entries ≡ elements = cc in record { others = entries; parts = refl; others_are = following; tokens_are = are }

none_first : (entries : List Entry) → map element_of entries ≡ [] → entries ≡ []
none_first [] e = refl
none_first (entry ∷ entries) e = absurd cc

-- ---- one entry

module _ (entries : List Entry) (d : Draft) (f : Option Form) (to : Stage) where
  token_reaches : (t : Lexeme) (others : List Entry) (next : Draft) (g : Option Form) → entries ≡ Token t ∷ others → entry_in (outside d f) (Token t) ≡ Ok (outside next g) → Reach next g others to → Reach d f entries to
  token_reaches t others next g parts step r = (r.0, ap (λ (es : List Entry). each entry_in (outside d f) es) parts ∙ each-cons entry_in (outside d f) (outside next g) (Token t) others step ∙ r.1, r.2, r.3)

  definition_reaches : (name : List ℕ) (number : ℕ) (elements : List Element) (between : Stage) (first : FirstDefinition entries name number elements) → Adds (stage_of d) (record { name = name; number = number }) between
      → ((next : Draft) → between ≡ stage_of next → Reach next f first.others to) → Reach d f entries to
  definition_reaches name number elements between first adds rest =
      let said = defined-says d first.line first.word number between (subst (λ (x : List ℕ). Adds (stage_of d) (record { name = x; number = number }) between) (sym first.is) adds) in
      let read = said.1 in
      let step : entry_in (outside d f) (Define first.line first.word number) ≡ Ok (outside said.0 f) = rw read refl in
      let r = rest said.0 said.2 in
      (r.0, ap (λ (es : List Entry). each entry_in (outside d f) es) first.parts ∙ each-cons entry_in (outside d f) (outside said.0 f) (Define first.line first.word number) first.others step ∙ r.1, r.2, r.3)

  skip_reaches : (others : List Entry) → entries ≡ Skip ∷ others → Reach d f others to → Reach d f entries to
  skip_reaches others parts r = (r.0, ap (λ (es : List Entry). each entry_in (outside d f) es) parts ∙ each-cons entry_in (outside d f) (outside d f) Skip others refl ∙ r.1, r.2, r.3)

ends_at : (entries : List Entry) (d : Draft) (to : Stage) → IsBounded d.setup → map element_of entries ≡ [] → to ≡ stage_of d → Reach d None entries to
ends_at entries d to bounded e same = (d, ap (λ (es : List Entry). each entry_in (outside d None) es) (none_first entries e) ∙ each-none entry_in (outside d None), same, bounded)

-- ---- a statement

-- one that is read, up to here
pub record Open (f : Form) (phrase : Phrase) (glyphs : List Glyph) : Type 0 where
  pub remains : Remains f phrase glyphs
  pub following : is_after f.scan f.rest ≡ true
  pub sound : is_sound f.rest ≡ true

some_left : (glyphs : List Glyph) (last : Glyph) → (first : Glyph) × (others : List Glyph) × (glyphs ++ last ∷ [] ≡ first ∷ others)
some_left [] last = (last, [], refl)
some_left (g ∷ glyphs) last = (g, glyphs ++ last ∷ [], refl)

last_reaches : (entries : List Entry) (d : Draft) (f : Form) (phrase : Phrase) (last : Glyph) (to : Stage) → IsBounded d.setup → map element_of entries ≡ Plain last ∷ [] → AreTokens entries → Open f phrase (last ∷ [])
    → Says (stage_of d) f.name phrase to → Reach d (Some f) entries to
last_reaches entries d f phrase last to bounded e are o says =
    let first = first_token entries last [] e are in
    let k = taken f first.t first.glyph phrase [] o.following o.sound (subst (λ (g : Glyph). Remains f phrase (g ∷ [])) (sym first.is) o.remains) in
    let whole = completes k.next phrase k.following k.sound k.remains in
    let name = (moved f first.t k.next k.read).name in
    let said = says_judged d bounded k.next to k.next.name (subst (λ (n : StatementName). Says (stage_of d) n (phrase_of k.next.pieces) to) (sym name) (subst (λ (p : Phrase). Says (stage_of d) f.name p to) whole.1 says)) in
    token_reaches entries d (Some f) to first.t first.others said.0 None first.parts (form_completed d f first.t first.plain k.next said.0 k.read whole.0 said.1) (ends_at first.others said.0 to (subst (λ (s : Stage). IsBounded s.setup) said.2 (says_bounded (stage_of d) to f.name phrase bounded says)) first.others_are said.2)

inner_reaches : (inner : List Element) (entries : List Entry) (d : Draft) (f : Form) (phrase : Phrase) (last : Glyph) (between to : Stage) → IsBounded d.setup → map element_of entries ≡ inner ++ Plain last ∷ [] → AreTokens entries
    → Open f phrase (plain_of inner ++ last ∷ []) → AddsAll (stage_of d) (definitions_of inner) between → Says between f.name phrase to → Reach d (Some f) entries to
inner_reaches [] entries d f phrase last between to bounded e are o adds says =
    last_reaches entries d f phrase last to bounded e are o (subst (λ (s : Stage). Says s f.name phrase to) adds says)
inner_reaches (Plain g ∷ inner) entries d f phrase last between to bounded e are o adds says =
    let first = first_token entries g (inner ++ Plain last ∷ []) e are in
    let k = taken f first.t first.glyph phrase (plain_of inner ++ last ∷ []) o.following o.sound (subst (λ (x : Glyph). Remains f phrase (x ∷ (plain_of inner ++ last ∷ []))) (sym first.is) o.remains) in
    let left = some_left (plain_of inner) last in
    let more = goes_on k.next phrase left.0 left.1 (subst (λ (gs : List Glyph). Remains k.next phrase gs) left.2 k.remains) in
    let name = (moved f first.t k.next k.read).name in
    let r = inner_reaches inner first.others d k.next phrase last between to bounded first.others_are first.tokens_are (record { remains = k.remains; following = k.following; sound = k.sound }) adds
    (subst (λ (n : StatementName). Says between n phrase to) (sym name) says) in
    token_reaches entries d (Some f) to first.t first.others d (Some k.next) first.parts (form_goes_on d f first.t first.plain k.next k.read more) r
inner_reaches (Defined name number ∷ inner) entries d f phrase last between to bounded e are o adds says =
    let first = first_definition entries name number (inner ++ Plain last ∷ []) e are in
    definition_reaches entries d (Some f) to name number (inner ++ Plain last ∷ []) adds.0 first adds.1 (λ next same.
    inner_reaches inner first.others next f phrase last between to
    (subst (λ (s : Stage). IsBounded s.setup) same (adds_bounded (stage_of d) adds.0 (record { name = name; number = number }) first.named bounded adds.1))
    first.others_are first.tokens_are o (subst (λ (s : Stage). AddsAll s (definitions_of inner) between) same adds.2) says)
inner_reaches (Skipped ∷ inner) entries d f phrase last between to bounded e are o adds says =
    let first = first_skip entries (inner ++ Plain last ∷ []) e are in
    skip_reaches entries d (Some f) to first.others first.parts (inner_reaches inner first.others d f phrase last between to bounded first.others_are first.tokens_are o adds says)

-- ---- a clause

some_open : (opened : Option OpenClass) → is_some (option_map (λ o. o.class) opened) ≡ true → is_some opened ≡ true
some_open None e = e
some_open (Some o) e = refl

class_ends : (d : Draft) (t : Lexeme) → is_some (stage_of d).class ≡ true → glyph_of t ≡ symbol 125 → ends_class d t ≡ true
unfolding ends_class
class_ends d t some e = and_from (is_some d.open_class) (is_mark 125 t) (some_open d.open_class some) (mark_at 125 t e)

clause_reaches : (clause : Clause) (elements : List Element) (entries : List Entry) (d : Draft) (to : Stage) → IsBounded d.setup → map element_of entries ≡ elements → AreTokens entries → SpellsClause elements clause → SaysClause (stage_of d) clause to → Reach d None entries to
clause_reaches (Statement name phrase definitions) elements entries d to bounded e are s says =
    let first = first_token entries (identifier (text_of name)) (s.inner ++ Plain s.last ∷ []) (e ∙ s.elements_are) are in
    let step = statement_begun d first.t name first.is (stands d name says.1) in
    let adds = subst (λ (ds : List Definition). AddsAll (stage_of d) ds says.0) (sym s.definitions_are) says.2 in
    let r = inner_reaches s.inner first.others d (begun name first.t.line) phrase s.last says.0 to bounded first.others_are first.tokens_are (record { remains = s.parts_are; following = refl; sound = sound name }) adds says.3 in
    token_reaches entries d None to first.t first.others d (Some (begun name first.t.line)) first.parts step r
clause_reaches EndOfClass elements entries d to bounded e are s says =
    let first = first_token entries (symbol 125) [] (e ∙ s) are in
    let after = record d { open_class = None } in
    token_reaches entries d None to first.t first.others after None first.parts (class_ended d first.t first.plain (class_ends d first.t says.0 first.is)) (ends_at first.others after to bounded first.others_are says.1)
clause_reaches (Defining definition) elements entries d to bounded e are s says =
    let first = first_definition entries definition.name definition.number [] (e ∙ s) are in
    definition_reaches entries d None to definition.name definition.number [] to first says (λ next same.
    ends_at first.others next to (subst (λ (s : Stage). IsBounded s.setup) same (adds_bounded (stage_of d) to definition first.named bounded says)) first.others_are same)
clause_reaches Skipping elements entries d to bounded e are s says =
    let first = first_skip entries [] (e ∙ s) are in
    skip_reaches entries d None to first.others first.parts (ends_at first.others d to bounded first.others_are says)

-- ---- all clauses

pub record Parted (entries : List Entry) (first rest : List Element) : Type 0 where
  pub prefix : List Entry
  pub back : List Entry
  pub parts : entries ≡ prefix ++ back
  pub prefix_are : map element_of prefix ≡ first
  pub back_are : map element_of back ≡ rest
  pub prefix_tokens : AreTokens prefix
  pub back_tokens : AreTokens back

prefix_more : (entry : Entry) (entries : List Entry) → AreTokens (entry ∷ entries) → AreTokens entries × ((others : List Entry) → AreTokens others → AreTokens (entry ∷ others))
prefix_more (Token t) entries are = (are.1, λ others a. (are.0, a))
prefix_more (Define line word number) entries are = (are.1, λ others a. (are.0, a))
prefix_more Skip entries are = (are, λ others a. a)

parted : (first rest : List Element) (entries : List Entry) → map element_of entries ≡ first ++ rest → AreTokens entries → Parted entries first rest
parted [] rest entries e are = record { prefix = []; back = entries; parts = refl; prefix_are = refl; back_are = e; prefix_tokens = tt; back_tokens = are }
parted (element ∷ first) rest [] e are = absurd cc
parted (element ∷ first) rest (entry ∷ entries) e are =
    let here : element_of entry ≡ element = cc in
    let following : map element_of entries ≡ first ++ rest = cc in
    let more = prefix_more entry entries are in
    let p = parted first rest entries following more.0 in
    let first_are = p.prefix_are in
    record {
      prefix = entry ∷ p.prefix;
      back = p.back;
      parts = ap (λ (es : List Entry). entry ∷ es) p.parts;
      prefix_are = rw (here, first_are) refl;
      back_are = p.back_are;
      prefix_tokens = more.1 p.prefix p.prefix_tokens;
      back_tokens = p.back_tokens;
    }

pub clauses_reach : (clauses : List Clause) (elements : List Element) (entries : List Entry) (d : Draft) (to : Stage) → IsBounded d.setup → map element_of entries ≡ elements → AreTokens entries → SpellsClauses elements clauses → SayClauses (stage_of d) clauses to → Reach d None entries to
clauses_reach [] elements entries d to bounded e are s say = ends_at entries d to bounded (e ∙ s) say
clauses_reach (clause ∷ clauses) elements entries d to bounded e are s say =
    let p = parted s.0 s.1 entries (e ∙ s.2) are in
    let r = clause_reaches clause s.0 p.prefix d say.0 bounded p.prefix_are p.prefix_tokens s.3 say.1 in
    let rest = clauses_reach clauses s.1 p.back r.0 to r.3 p.back_are p.back_tokens s.4 (subst (λ (x : Stage). SayClauses x clauses to) r.2 say.2) in
    let here = r.1 in
    let joined = each-append entry_in (outside d None) p.prefix p.back in
    (rest.0, ap (λ (es : List Entry). each entry_in (outside d None) es) p.parts ∙ joined ∙ rw here rest.1, rest.2, rest.3)
