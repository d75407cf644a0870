-- What is read up to the last token of a statement.
use Rattle.std.proofs.Common.{◌≡◌, ℕ, List, [], ◌∷◌, ◌++◌, map, Some, Ok, refl, sym, ap, subst, ◌∙◌}
use Rattle.fmp_names.specs.Names.{is_name}
use Rattle.fmp_config.specs.Drafts.{Draft}
use Rattle.fmp_config_statements.specs.Folds.{each}
use Rattle.fmp_config_statements.specs.Forms.{Form}
use Rattle.fmp_law_config.specs.Elements.{Defined, Element, Plain, Skipped, definitions_of, plain_of}
use Rattle.fmp_law_config.specs.Phrases.{Phrase}
use Rattle.fmp_law_config.specs.Stages.{Adds, AddsAll, Stage}
use Rattle.fmp_law_config.specs.Tokens.{Glyph, glyph_of}
use Rattle.fmp_law_config.proofs.Bounded.{adds_bounded}
use Rattle.fmp_law_config.proofs.Entries.{AreTokens, Define, Entry, Skip, Token, element_of, entry_in}
use Rattle.fmp_law_config.proofs.Followed.{FirstDefinition, FirstSkip, FirstToken, Open, Parted}
use Rattle.fmp_law_config.proofs.Judged.{defined-says}
use Rattle.fmp_law_config.proofs.Results.{each-cons, each-none}
use Rattle.fmp_law_config.proofs.Scans.{Remains, form_stepped}
use Rattle.fmp_law_config.proofs.Stages.{AreUnsigned, IsBounded, phrase_of, stage_of}
use Rattle.fmp_law_config.proofs.Steps.{form_goes_on, outside}
use Rattle.fmp_law_config.proofs.Taken.{goes_on, moved, taken}
use Rattle.fmp_law_config.proofs.Unsigned.{form_unsigned}

-- ---- the first entry of some elements

pub first_token : (entries : List Entry) (g : Glyph) (elements : List Element) → map element_of entries ≡ Plain g ∷ elements → AreTokens entries → FirstToken entries g elements
first_token [] g elements e are = absurd cc
first_token (Token t ∷ entries) g elements e are =
    let here : glyph_of t ≡ g = cc in
    let following : map element_of entries ≡ elements = cc in
    record { t = t; others = entries; parts = refl; is = here; plain = are.0.0; glyph = are.0.1; others_are = following; tokens_are = are.1 }
first_token (Define line word number ∷ entries) g elements e are = absurd cc
first_token (Skip ∷ entries) g elements e are = absurd cc

first_definition : (entries : List Entry) (name : List ℕ) (number : ℕ) (elements : List Element) → map element_of entries ≡ Defined name number ∷ elements → AreTokens entries → FirstDefinition entries name number elements
first_definition [] name number elements e are = absurd cc
first_definition (Token t ∷ entries) name number elements e are = absurd cc
first_definition (Define line word n ∷ entries) name number elements e are =
    let here : word.text ≡ name = cc in
    let same : n ≡ number = cc in
    let following : map element_of entries ≡ elements = cc in
    record { line = line; word = word; others = entries; parts = ap (λ (x : ℕ). Define line word x ∷ entries) same; is = here; named = ap is_name (sym here) ∙ are.0; others_are = following; tokens_are = are.1 }
first_definition (Skip ∷ entries) name number elements e are = absurd cc

first_skip : (entries : List Entry) (elements : List Element) → map element_of entries ≡ Skipped ∷ elements → AreTokens entries → FirstSkip entries elements
first_skip [] elements e are = absurd cc
first_skip (Token t ∷ entries) elements e are = absurd cc
first_skip (Define line word n ∷ entries) elements e are = absurd cc
first_skip (Skip ∷ entries) elements e are = let following : map element_of entries ≡ elements = cc in record { others = entries; parts = refl; others_are = following; tokens_are = are }

none_first : (entries : List Entry) → map element_of entries ≡ [] → entries ≡ []
none_first [] e = refl
none_first (entry ∷ entries) e = absurd cc

some_left : (glyphs : List Glyph) (last : Glyph) (more : List Glyph) → (first : Glyph) × (others : List Glyph) × (glyphs ++ (last ∷ more) ≡ first ∷ others)
some_left [] last more = (last, more, refl)
some_left (g ∷ glyphs) last more = (g, glyphs ++ (last ∷ more), refl)

-- ---- the entries of some elements, and of those after them

prefix_more : (entry : Entry) (entries : List Entry) → AreTokens (entry ∷ entries) → AreTokens entries × ((others : List Entry) → AreTokens others → AreTokens (entry ∷ others))
prefix_more (Token t) entries are = (are.1, λ others a. (are.0, a))
prefix_more (Define line word number) entries are = (are.1, λ others a. (are.0, a))
prefix_more Skip entries are = (are, λ others a. a)

pub parted : (first rest : List Element) (entries : List Entry) → map element_of entries ≡ first ++ rest → AreTokens entries → Parted entries first rest
parted [] rest entries e are = record { prefix = []; back = entries; parts = refl; prefix_are = refl; back_are = e; prefix_tokens = tt; back_tokens = are }
parted (element ∷ first) rest [] e are = absurd cc
parted (element ∷ first) rest (entry ∷ entries) e are =
    let here : element_of entry ≡ element = cc in
    let following : map element_of entries ≡ first ++ rest = cc in
    let more = prefix_more entry entries are in
    let p = parted first rest entries following more.0 in
    let first_are = p.prefix_are in
    record {
      prefix = entry ∷ p.prefix;
      back = p.back;
      parts = ap (λ (es : List Entry). entry ∷ es) p.parts;
      prefix_are = rw (here, first_are) refl;
      back_are = p.back_are;
      prefix_tokens = more.1 p.prefix p.prefix_tokens;
      back_tokens = p.back_tokens;
    }

-- ---- all but the last token

-- the draft and the statement before the tokens that are left, and that whatever can follow there follows the tokens before
pub record Comes (d : Draft) (f : Form) (entries : List Entry) (glyphs : List Glyph) (phrase : Phrase) (left : List Glyph) (between : Stage) : Type 0 where
  pub after : Draft
  pub form : Form
  pub read : each entry_in (outside d (Some f)) entries ≡ Ok (outside after (Some form))
  pub stage : between ≡ stage_of after
  pub bounded : IsBounded after.setup
  pub open_so : Open form phrase left
  pub back : (other : Phrase) (others : List Glyph) → Remains form other others → Remains f other (glyphs ++ others)
  pub name : form.name ≡ f.name
  pub unsigned : AreUnsigned (phrase_of form.pieces)

module _ (phrase : Phrase) (last : Glyph) (more : List Glyph) (between : Stage) where
  -- one entry, and the others
  one_more : (d next : Draft) (f g : Form) (entry : Entry) (others entries : List Entry) (glyphs all : List Glyph) → entries ≡ entry ∷ others → entry_in (outside d (Some f)) entry ≡ Ok (outside next (Some g))
      → g.name ≡ f.name → ((other : Phrase) (follow : List Glyph) → Remains g other (glyphs ++ follow) → Remains f other (all ++ follow))
      → Comes next g others glyphs phrase (last ∷ more) between → Comes d f entries all phrase (last ∷ more) between
  one_more d next f g entry others entries glyphs all parts step name before r =
      record {
        after = r.after;
        form = r.form;
        read = ap (λ (es : List Entry). each entry_in (outside d (Some f)) es) parts ∙ each-cons entry_in (outside d (Some f)) (outside next (Some g)) entry others step ∙ r.read;
        stage = r.stage;
        bounded = r.bounded;
        open_so = r.open_so;
        back = λ other follow remains. before other follow (r.back other follow remains);
        name = r.name ∙ name;
        unsigned = r.unsigned;
      }

  pub inner_comes : (inner : List Element) (entries : List Entry) (d : Draft) (f : Form) → IsBounded d.setup → AreUnsigned (phrase_of f.pieces) → map element_of entries ≡ inner → AreTokens entries
      → Open f phrase (plain_of inner ++ (last ∷ more)) → AddsAll (stage_of d) (definitions_of inner) between → Comes d f entries (plain_of inner) phrase (last ∷ more) between
  inner_comes [] entries d f bounded unsigned e are o adds =
      record {
        after = d;
        form = f;
        read = ap (λ (es : List Entry). each entry_in (outside d (Some f)) es) (none_first entries e) ∙ each-none entry_in (outside d (Some f));
        stage = adds;
        bounded = bounded;
        open_so = o;
        back = λ other follow remains. remains;
        name = refl;
        unsigned = unsigned;
      }
  inner_comes (Plain g ∷ inner) entries d f bounded unsigned e are o adds =
      let first = first_token entries g inner e are in
      let k = taken f first.t first.glyph phrase (plain_of inner ++ (last ∷ more)) o.following o.sound (subst (λ (x : Glyph). Remains f phrase (x ∷ (plain_of inner ++ (last ∷ more)))) (sym first.is) o.remains) in
      let left = some_left (plain_of inner) last more in
      let not_whole = goes_on k.next phrase left.0 left.1 (subst (λ (gs : List Glyph). Remains k.next phrase gs) left.2 k.remains) in
      let r = inner_comes inner first.others d k.next bounded (form_unsigned f first.t k.next k.read first.glyph unsigned) first.others_are first.tokens_are
      (record { remains = k.remains; following = k.following; sound = k.sound }) adds in
      let before : (other : Phrase) (follow : List Glyph) → Remains k.next other (plain_of inner ++ follow) → Remains f other (g ∷ (plain_of inner ++ follow)) =
      λ other follow remains. subst (λ (x : Glyph). Remains f other (x ∷ (plain_of inner ++ follow))) first.is (form_stepped first.t first.glyph other (plain_of inner ++ follow) f k.next k.read remains) in
      one_more d d f k.next (Token first.t) first.others entries (plain_of inner) (g ∷ plain_of inner) first.parts (form_goes_on d f first.t first.plain k.next k.read not_whole)
      (moved f first.t k.next k.read).name before r
  inner_comes (Defined name number ∷ inner) entries d f bounded unsigned e are o adds =
      let first = first_definition entries name number inner e are in
      let said = defined-says d first.line first.word number adds.0 (subst (λ (x : List ℕ). Adds (stage_of d) (record { name = x; number = number }) adds.0) (sym first.is) adds.1) in
      let read = said.1 in
      let step : entry_in (outside d (Some f)) (Define first.line first.word number) ≡ Ok (outside said.0 (Some f)) = rw read refl in
      let kept = subst (λ (s : Stage). IsBounded s.setup) said.2 (adds_bounded (stage_of d) adds.0 (record { name = name; number = number }) first.named bounded adds.1) in
      let r = inner_comes inner first.others said.0 f kept unsigned first.others_are first.tokens_are o (subst (λ (s : Stage). AddsAll s (definitions_of inner) between) said.2 adds.2) in
      one_more d said.0 f f (Define first.line first.word number) first.others entries (plain_of inner) (plain_of inner) first.parts step refl (λ other follow remains. remains) r
  inner_comes (Skipped ∷ inner) entries d f bounded unsigned e are o adds =
      let first = first_skip entries inner e are in
      let r = inner_comes inner first.others d f bounded unsigned first.others_are first.tokens_are o adds in
      one_more d d f f Skip first.others entries (plain_of inner) (plain_of inner) first.parts refl refl (λ other follow remains. remains) r
