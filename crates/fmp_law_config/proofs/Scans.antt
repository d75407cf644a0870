-- What has still to follow in a statement, and that what the reader takes goes on with it.
use Rattle.std.proofs.Common.{◌≡◌, ℕ, ◌+◌, ◌≤◌, Bool, true, ◌⊎◌, cond, eqb, inl, inr, List, [], ◌∷◌, ◌++◌, length, map, Option, Some, None, Ok, Err, refl, sym, ap, subst, ◌∙◌, arith}
use Rattle.std.specs.Prelude.{codes}
use Rattle.std.specs.List.{list_all}
use Rattle.std.specs.Option.{option_map_or}
use Rattle.std.specs.Str.{bytes_eq}
use Rattle.std.proofs.lemmas.Bool.{cases_Bool, false≢true, eqb-true, and_parts, and_from}
use Rattle.std.proofs.lemmas.Slice.Eq.{bytes_eq-Decides}
use Rattle.std.proofs.lemmas.Option.{cond_some}
use Rattle.fmp_bytes.proofs.Parsed.{tested_ok, some_is}
use Rattle.fmp_config_statements.specs.Lexing.{Lexeme}
use Rattle.fmp_config_statements.specs.declared.parts.Item.{Item}
use Rattle.fmp_config_statements.specs.declared.parts.Item.TheVariants as items
use Rattle.fmp_config_statements.specs.declared.parts.Part.{Part}
use Rattle.fmp_config_statements.specs.declared.parts.Part.TheVariants as parts
use Rattle.fmp_config_statements.specs.declared.parts.Scan.{Scan}
use Rattle.fmp_config_statements.specs.declared.parts.Scan.TheVariants.{Mark, One, Next, More, Free, Method, Master, Nothing}
use Rattle.fmp_config_statements.specs.Forms.{Form, advanced, misfit, next_part, form_step}
use Rattle.fmp_config_statements.specs.Parts.{is_item, next_free, next_method, scan_of, next_of, may_end}
use Rattle.fmp_config_statements.specs.Pieces.{Pieces, with_item, kept_from}
use Rattle.fmp_config_statements.specs.Words.{Word, word_of, is_mark}
use Rattle.fmp_law_config.specs.Tokens.{Glyph, glyph_of}
use Rattle.fmp_law_config.specs.Elements.{symbol}
use Rattle.fmp_law_config.specs.Phrases.{Phrase, with_word, with_words, may_be, separated, SpellsMethod, SpellsParts}
use Rattle.fmp_law_config.proofs.Results.{none_is, ok_is, err_is}
use Rattle.fmp_law_config.proofs.Stages.{phrase_of}
use Rattle.fmp_law_config.proofs.Glyphs.{is_glyph, is_mark-is}
use Rattle.fmp_law_config.proofs.Nested.{Nested, nested, free, opens, closes, stepped}

-- the rest of a series, which begins with its mark
abbrev pub after_first : Glyph → List Glyph → List Glyph
after_first mark [] = []
after_first mark (g ∷ glyphs) = mark ∷ separated mark (g ∷ glyphs)

-- the tokens that go on with a part, and what follows
abbrev pub SpellsScan : Scan → (Phrase → List Glyph → Type 0) → Phrase → List Glyph → Type 0
SpellsScan (Mark byte) Follows before glyphs = (others : List Glyph) × (glyphs ≡ symbol byte ∷ others) × Follows before others
SpellsScan (One item) Follows before glyphs = (word : Glyph) × (others : List Glyph) × (glyphs ≡ word ∷ others) × (may_be item word ≡ true) × Follows (with_word item word.text before) others
SpellsScan (Next byte item) Follows before glyphs =
    (words : List Glyph) × (others : List Glyph) × (glyphs ≡ separated (symbol byte) words ++ others) × (1 ≤ length words) × (list_all (may_be item) words ≡ true) × Follows (with_words item words before) others
SpellsScan (More byte item) Follows before glyphs =
    (words : List Glyph) × (others : List Glyph) × (glyphs ≡ after_first (symbol byte) words ++ others) × (list_all (may_be item) words ≡ true) × Follows (with_words item words before) others
SpellsScan (Free depth taken) Follows before glyphs =
    (piece : List Glyph) × (others : List Glyph) × (glyphs ≡ piece ++ others) × Nested depth piece × ((taken ≡ true) ⊎ (1 ≤ length piece)) × Follows before others
SpellsScan Method Follows before glyphs = SpellsMethod Follows before glyphs
SpellsScan Master Follows before glyphs =
    (number : Glyph) × (others : List Glyph) × (glyphs ≡ symbol 44 ∷ number ∷ others) × (may_be items.First number ≡ true) × Follows (with_word items.First number.text before) others
SpellsScan Nothing Follows before glyphs = Follows before glyphs

abbrev pub SpellsForm : Scan → List Part → Phrase → Phrase → List Glyph → Type 0
SpellsForm scan rest before after glyphs = SpellsScan scan (λ words others. SpellsParts rest words after others) before glyphs

-- ---- at the beginning of a part

pub part_from : (part : Part) (rest : List Part) (before after : Phrase) (glyphs : List Glyph) → SpellsForm (scan_of part) rest before after glyphs → SpellsParts (part ∷ rest) before after glyphs
part_from (parts.Mark byte) rest before after glyphs s = s
part_from (parts.One item) rest before after glyphs s = s
part_from (parts.Series byte item) rest before after glyphs s = s
part_from parts.Free rest before after glyphs s =
    let some : 1 ≤ length s.0 = (elim s.4 [ inl none ↦ absurd (false≢true none) | inr n ↦ n ]) in
    (s.0, s.1, s.2, free s.0 some s.3, s.5)
part_from parts.Method rest before after glyphs s = s

pub part_to : (part : Part) (rest : List Part) (before after : Phrase) (glyphs : List Glyph) → SpellsParts (part ∷ rest) before after glyphs → SpellsForm (scan_of part) rest before after glyphs
part_to (parts.Mark byte) rest before after glyphs s = s
part_to (parts.One item) rest before after glyphs s = s
part_to (parts.Series byte item) rest before after glyphs s = s
part_to parts.Free rest before after glyphs s = (s.0, s.1, s.2, nested s.0 s.3, inr s.3.some, s.4)
part_to parts.Method rest before after glyphs s = s

-- ---- words

map_more : (words : List Word) (w : Word) → map (λ w. w.text) (words ++ w ∷ []) ≡ map (λ w. w.text) words ++ w.text ∷ []
map_more [] w = refl
map_more (x ∷ words) w = ap (λ (ts : List (List ℕ)). x.text ∷ ts) (map_more words w)

pub item_kept : (item : Item) (w : Word) (pieces : Pieces) → phrase_of (with_item item w pieces) ≡ with_word item w.text (phrase_of pieces)
item_kept items.Name w pieces = refl
item_kept items.Function w pieces = refl
item_kept items.First w pieces = refl
item_kept items.Second w pieces = refl
item_kept items.Attribute w pieces = ap (λ (ts : List (List ℕ)). record (phrase_of pieces) { series = ts }) (map_more pieces.series w)
item_kept items.Member w pieces = ap (λ (ts : List (List ℕ)). record (phrase_of pieces) { series = ts }) (map_more pieces.series w)
item_kept items.Text w pieces = refl

pub item_is : (item : Item) (t : Lexeme) → is_item item t ≡ may_be item (glyph_of t)
unfolding is_item
item_is items.Name t = refl
item_is items.Function t = refl
item_is items.First t = refl
item_is items.Second t = refl
item_is items.Attribute t = refl
item_is items.Member t = refl
item_is items.Text t = refl

-- ---- what goes on with a token

pub first_and_rest : (mark g : Glyph) (glyphs : List Glyph) → separated mark (g ∷ glyphs) ≡ g ∷ after_first mark glyphs
first_and_rest mark g [] = refl
first_and_rest mark g (next ∷ glyphs) = refl

pub mark_and_rest : (mark : Glyph) (glyphs : List Glyph) → 1 ≤ length glyphs → after_first mark glyphs ≡ mark ∷ separated mark glyphs
mark_and_rest mark [] some = absurd (omega (arith, some))
mark_and_rest mark (g ∷ glyphs) some = refl

module _ (Follows : Phrase → List Glyph → Type 0) (t : Lexeme) (is : is_glyph (glyph_of t) ≡ true) (pieces : Pieces) (glyphs : List Glyph) where
  -- what goes on after the token goes on with it
  abbrev pub Extends : Scan → Scan → Type 0
  Extends from next = SpellsScan next Follows (phrase_of (kept_from from (word_of t) pieces)) glyphs → SpellsScan from Follows (phrase_of pieces) (glyph_of t ∷ glyphs)

  mark_extends : (byte : ℕ) → is_mark byte t ≡ true → Extends (Mark byte) Nothing
  mark_extends byte e s = let same = is_mark-is byte t e in (glyphs, ap (λ (g : Glyph). g ∷ glyphs) same, s)

  one_extends : (item : Item) → is_item item t ≡ true → Extends (One item) Nothing
  one_extends item e s = (glyph_of t, glyphs, refl, sym (item_is item t) ∙ e, subst (λ (p : Phrase). Follows p glyphs) (item_kept item (word_of t) pieces) s)

  next_extends : (byte : ℕ) (item : Item) → is_item item t ≡ true → Extends (Next byte item) (More byte item)
  next_extends byte item e s =
      let parts_are = s.2 in
      let whole = first_and_rest (symbol byte) (glyph_of t) s.0 in
      let all : glyph_of t ∷ glyphs ≡ separated (symbol byte) (glyph_of t ∷ s.0) ++ s.1 = ap (λ (gs : List Glyph). glyph_of t ∷ gs) parts_are ∙ ap (λ (gs : List Glyph). gs ++ s.1) (sym whole) in (
        glyph_of t ∷ s.0,
        s.1,
        all,
        omega arith,
        and_from (may_be item (glyph_of t)) (list_all (may_be item) s.0) (sym (item_is item t) ∙ e) s.3,
        subst (λ (p : Phrase). Follows (with_words item s.0 p) s.1) (item_kept item (word_of t) pieces) s.4,
      )

  more_extends : (byte : ℕ) (item : Item) → is_mark byte t ≡ true → Extends (More byte item) (Next byte item)
  more_extends byte item e s =
      let whole = mark_and_rest (symbol byte) s.0 s.3 in
      let all : glyph_of t ∷ glyphs ≡ after_first (symbol byte) s.0 ++ s.1 =
      ap (λ (g : Glyph). g ∷ glyphs) (is_mark-is byte t e) ∙ ap (λ (gs : List Glyph). symbol byte ∷ gs) s.2 ∙ ap (λ (gs : List Glyph). gs ++ s.1) (sym whole) in
      (s.0, s.1, all, s.4, s.5)

  free_extends : (depth : ℕ) (taken : Bool) (next : Scan) → next_free depth t ≡ Some next → Extends (Free depth taken) next
  free_extends depth taken next e s =
      let step = stepped depth t.line next (glyph_of t) is e in
      let following = subst (λ (x : Scan). SpellsScan x Follows (phrase_of pieces) glyphs) step.1 s in
      (glyph_of t ∷ following.0, following.1, ap (λ (gs : List Glyph). glyph_of t ∷ gs) following.2, step.2 following.0 following.3, inr (omega arith), following.5)

  local_extends : bytes_eq t.text (codes "LOCAL") ≡ true → Extends Method Nothing
  local_extends e s = inl (glyphs, glyph_of t, refl, (bytes_eq-Decides t.text (codes "LOCAL")).0 e, s)

  global_extends : bytes_eq t.text (codes "GLOBAL") ≡ true → Extends Method Master
  global_extends e s = inr (s.1, glyph_of t, s.0, ap (λ (gs : List Glyph). glyph_of t ∷ gs) s.2, (bytes_eq-Decides t.text (codes "GLOBAL")).0 e, s.3, s.4)

  method_extends : (next : Scan) → next_method t ≡ Some next → Extends Method next
  unfolding next_method
  method_extends next e =
      elim (cases_Bool (bytes_eq t.text (codes "LOCAL"))) [
        | inl local ↦ subst (λ (x : Scan). Extends Method x) (some_is Nothing next (rw local at e)) (local_extends local)
        | inr other ↦ let p = cond_some (bytes_eq t.text (codes "GLOBAL")) Master next (rw other at e) in subst (λ (x : Scan). Extends Method x) p.1 (global_extends p.0)
      ]

  master_extends : is_mark 44 t ≡ true → Extends Master (One items.First)
  master_extends e s = (s.0, s.1, ap (λ (g : Glyph). g ∷ glyphs) (is_mark-is 44 t e) ∙ ap (λ (gs : List Glyph). symbol 44 ∷ gs) s.2, s.3, s.4)

  pub extends : (from next : Scan) → next_of from t ≡ Some next → Extends from next
  unfolding next_of
  extends (Mark byte) next e = let p = cond_some (is_mark byte t) Nothing next e in subst (λ (x : Scan). Extends (Mark byte) x) p.1 (mark_extends byte p.0)
  extends (One item) next e = let p = cond_some (is_item item t) Nothing next e in subst (λ (x : Scan). Extends (One item) x) p.1 (one_extends item p.0)
  extends (Next byte item) next e = let p = cond_some (is_item item t) (More byte item) next e in subst (λ (x : Scan). Extends (Next byte item) x) p.1 (next_extends byte item p.0)
  extends (More byte item) next e = let p = cond_some (is_mark byte t) (Next byte item) next e in subst (λ (x : Scan). Extends (More byte item) x) p.1 (more_extends byte item p.0)
  extends (Free depth taken) next e = free_extends depth taken next e
  extends Method next e = method_extends next e
  extends Master next e = let p = cond_some (is_mark 44 t) (One items.First) next e in subst (λ (x : Scan). Extends Master x) p.1 (master_extends p.0)
  extends Nothing next e = absurd (none_is next e)

-- ---- where a part may end

no_prefix : (depth : ℕ) (prefix rest : List Glyph) → [] ≡ prefix ++ rest → closes prefix ≤ depth + opens prefix
no_prefix depth [] rest e = omega arith
no_prefix depth (g ∷ prefix) rest e = absurd cc

no_comma : (prefix rest : List Glyph) → [] ≡ prefix ++ (symbol 44 ∷ rest) → ⊥
no_comma [] rest e = absurd cc
no_comma (g ∷ prefix) rest e = absurd cc

nested_none : (depth : ℕ) → depth ≡ 0 → Nested depth []
nested_none depth none = record { allowed = refl; prefixes = no_prefix depth; balanced = omega (arith, none); commas = λ prefix rest e. absurd (no_comma prefix rest e) }

pub ends : (Follows : Phrase → List Glyph → Type 0) (scan : Scan) (before : Phrase) (glyphs : List Glyph) → may_end scan ≡ true → Follows before glyphs → SpellsScan scan Follows before glyphs
ends Follows (Mark byte) before glyphs e k = absurd (false≢true e)
ends Follows (One item) before glyphs e k = absurd (false≢true e)
ends Follows (Next byte item) before glyphs e k = absurd (false≢true e)
ends Follows (More byte item) before glyphs e k = ([], glyphs, refl, refl, k)
ends Follows (Free depth taken) before glyphs e k = let p = and_parts (eqb depth 0) taken e in ([], glyphs, refl, nested_none depth (eqb-true depth 0 p.0), inl p.1, k)
ends Follows Method before glyphs e k = absurd (false≢true e)
ends Follows Master before glyphs e k = absurd (false≢true e)
ends Follows Nothing before glyphs e k = k

-- ---- a token of a statement

abbrev pub Remains : Form → Phrase → List Glyph → Type 0
Remains f after glyphs = SpellsForm f.scan f.rest (phrase_of f.pieces) after glyphs

module _ (t : Lexeme) (is : is_glyph (glyph_of t) ≡ true) (after : Phrase) (glyphs : List Glyph) where
  entered : (f : Form) (part : Part) (rest : List Part) (next : Form) (found : Option Scan) → next_of (scan_of part) t ≡ found
      → option_map_or (λ next. Ok (advanced (record f { rest = rest }) (scan_of part) next t)) found (Err (misfit t)) ≡ Ok next → Remains next after glyphs → SpellsParts (part ∷ rest) (phrase_of f.pieces) after (glyph_of t ∷ glyphs)
  entered f part rest next None found e s = absurd (err_is (misfit t) next e)
  entered f part rest next (Some to) found e s =
      let same = ok_is (advanced (record f { rest = rest }) (scan_of part) to t) next e in
      let following = subst (λ (x : Form). Remains x after glyphs) (sym same) s in
      part_from part rest (phrase_of f.pieces) after (glyph_of t ∷ glyphs) (extends (λ words others. SpellsParts rest words after others) t is f.pieces glyphs (scan_of part) to found following)

  part_stepped : (f : Form) (rest : List Part) (next : Form) → next_part f rest t ≡ Ok next → Remains next after glyphs → SpellsParts rest (phrase_of f.pieces) after (glyph_of t ∷ glyphs)
  unfolding next_part
  part_stepped f [] next e s = absurd (err_is (misfit t) next e)
  part_stepped f (part ∷ rest) next e s = entered f part rest next (next_of (scan_of part) t) refl e s

  went_on : (f next : Form) (found : Option Scan) → next_of f.scan t ≡ found
      → option_map_or (λ next. Ok (advanced f f.scan next t)) found (cond (may_end f.scan) (next_part f f.rest t) (Err (misfit t))) ≡ Ok next → Remains next after glyphs → Remains f after (glyph_of t ∷ glyphs)
  went_on f next None found e s =
      let p = tested_ok (may_end f.scan) (next_part f f.rest t) (misfit t) next e in
      ends (λ words others. SpellsParts f.rest words after others) f.scan (phrase_of f.pieces) (glyph_of t ∷ glyphs) p.0 (part_stepped f f.rest next p.1 s)
  went_on f next (Some to) found e s =
      let same = ok_is (advanced f f.scan to t) next e in
      let following = subst (λ (x : Form). Remains x after glyphs) (sym same) s in
      extends (λ words others. SpellsParts f.rest words after others) t is f.pieces glyphs f.scan to found following

  -- what remains after a token that is read remains with it
  pub form_stepped : (f next : Form) → form_step f t ≡ Ok next → Remains next after glyphs → Remains f after (glyph_of t ∷ glyphs)
  unfolding form_step
  form_stepped f next e s = went_on f next (next_of f.scan t) refl e s
