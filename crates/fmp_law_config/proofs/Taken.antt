-- A token of a statement whose tokens are spelled is read, and the last one completes it.
use Rattle.std.proofs.Common.{◌≡◌, ℕ, ◌≤◌, true, false, ◌&&◌, cond, eqb, inl, inr, List, [], ◌∷◌, ◌++◌, length, Option, Some, None, Ok, Err, refl, sym, ap, subst, ◌∙◌, arith}
use Rattle.std.specs.Option.{option_map_or}
use Rattle.std.proofs.lemmas.Bool.{false≢true, ne_eqb, eqb-true, and_parts}
use Rattle.std.proofs.Math.Bool.{and-false}
use Rattle.fmp_bytes.proofs.Parsed.{tested_ok}
use Rattle.fmp_config_statements.specs.Lexing.{Lexeme}
use Rattle.fmp_config_statements.specs.declared.parts.Part.{Part}
use Rattle.fmp_config_statements.specs.declared.parts.Part.TheVariants as parts
use Rattle.fmp_config_statements.specs.declared.parts.Scan.{Scan}
use Rattle.fmp_config_statements.specs.declared.parts.Scan.TheVariants.{Mark, One, Next, More, Free, Method, Master, Nothing}
use Rattle.fmp_config_statements.specs.Forms.{Form, advanced, misfit, next_part, form_step, is_complete}
use Rattle.fmp_config_statements.specs.Parts.{scan_of, next_of, may_end, is_nothing}
use Rattle.fmp_config_statements.specs.Pieces.{Pieces, kept_from}
use Rattle.fmp_config_statements.specs.Words.{word_of}
use Rattle.fmp_law_config.specs.Tokens.{Glyph, glyph_of}
use Rattle.fmp_law_config.specs.Phrases.{Phrase, with_words, separated, SpellsParts}
use Rattle.fmp_law_config.proofs.Results.{ok_is, err_is}
use Rattle.fmp_law_config.proofs.Stages.{phrase_of}
use Rattle.fmp_law_config.proofs.Glyphs.{is_glyph}
use Rattle.fmp_law_config.proofs.Scans.{SpellsForm, Remains, part_to}
use Rattle.fmp_law_config.proofs.Forms.{is_apart, is_barrier, is_after, is_sound, takes, fresh, stops}

-- ---- one token more

pub record Taken (f : Form) (t : Lexeme) (after : Phrase) (glyphs : List Glyph) : Type 0 where
  pub next : Form
  pub read : form_step f t ≡ Ok next
  pub remains : Remains next after glyphs
  pub following : is_after next.scan next.rest ≡ true
  pub sound : is_sound next.rest ≡ true

module _ (f : Form) (t : Lexeme) (is : is_glyph (glyph_of t) ≡ true) (after : Phrase) (glyphs : List Glyph) where
  entered : (rest : List Part) → is_sound rest ≡ true → SpellsParts rest (phrase_of f.pieces) after (glyph_of t ∷ glyphs)
      → (next : Form) × (next_part f rest t ≡ Ok next) × Remains next after glyphs × (is_after next.scan next.rest ≡ true) × (is_sound next.rest ≡ true)
  unfolding next_part
  entered [] sound s = absurd (let e = s.0 in cc)
  entered (part ∷ rest) sound s =
      let both = and_parts (is_after (scan_of part) rest) (is_sound rest) sound in
      elim (takes (λ words others. SpellsParts rest words after others) t is f.pieces glyphs (scan_of part) (part_to part rest (phrase_of f.pieces) after (glyph_of t ∷ glyphs) s)) [
        | inl g ↦ let read = g.1 in (advanced (record f { rest = rest }) (scan_of part) g.0 t, rw read refl, g.2, g.3 rest both.0, both.1)
        | inr ended ↦ absurd (fresh part ended.0)
      ]

  pub taken : is_after f.scan f.rest ≡ true → is_sound f.rest ≡ true → Remains f after (glyph_of t ∷ glyphs) → Taken f t after glyphs
  unfolding form_step
  taken following sound s =
      elim (takes (λ words others. SpellsParts f.rest words after others) t is f.pieces glyphs f.scan s) [
        | inl g ↦ let read = g.1 in record { next = advanced f f.scan g.0 t; read = rw read refl; remains = g.2; following = g.3 f.rest following; sound = sound }
        | inr ended ↦
            let none = stops (phrase_of f.pieces) after t glyphs f.scan f.rest ended.0 following ended.1 in
            let may = ended.0 in
            let n = entered f.rest sound ended.1 in
            let read = n.1 in
            record { next = n.0; read = rw (none, may) read; remains = n.2; following = n.3; sound = n.4 }
      ]

-- ---- the last one

incomplete : (scan : Scan) (rest : List Part) (before after : Phrase) (g : Glyph) (glyphs : List Glyph) → SpellsForm scan rest before after (g ∷ glyphs) → (eqb (length rest) 0 && is_nothing scan) ≡ false
incomplete (Mark byte) rest before after g glyphs s = and-false (eqb (length rest) 0)
incomplete (One item) rest before after g glyphs s = and-false (eqb (length rest) 0)
incomplete (Next byte item) rest before after g glyphs s = and-false (eqb (length rest) 0)
incomplete (More byte item) rest before after g glyphs s = and-false (eqb (length rest) 0)
incomplete (Free depth taken) rest before after g glyphs s = and-false (eqb (length rest) 0)
incomplete Method rest before after g glyphs s = and-false (eqb (length rest) 0)
incomplete Master rest before after g glyphs s = and-false (eqb (length rest) 0)
incomplete Nothing [] before after g glyphs s = absurd (let e = s.0 in cc)
incomplete Nothing (part ∷ rest) before after g glyphs s = let some : eqb (length (part ∷ rest)) 0 ≡ false = ne_eqb (length (part ∷ rest)) 0 (λ e. omega (arith, e)) in rw some refl

pub goes_on : (f : Form) (after : Phrase) (g : Glyph) (glyphs : List Glyph) → Remains f after (g ∷ glyphs) → is_complete f ≡ false
unfolding is_complete
goes_on f after g glyphs s = incomplete f.scan f.rest (phrase_of f.pieces) after g glyphs s

abbrev pub Ends : Scan → List Part → Phrase → Phrase → Type 0
Ends scan rest before after = ((eqb (length rest) 0 && is_nothing scan) ≡ true) × (after ≡ before)

none_apart : (byte : ℕ) (rest : List Part) (before after : Phrase) → is_apart byte rest ≡ true → SpellsParts rest before after [] → ⊥
none_apart byte [] before after b s = false≢true b
none_apart byte (parts.Mark c ∷ rest) before after b s = let e = s.1 in absurd cc
none_apart byte (parts.One item ∷ rest) before after b s = false≢true b
none_apart byte (parts.Series c item ∷ rest) before after b s = false≢true b
none_apart byte (parts.Free ∷ rest) before after b s = false≢true b
none_apart byte (parts.Method ∷ rest) before after b s = false≢true b

none_barred : (rest : List Part) (before after : Phrase) → is_barrier rest ≡ true → SpellsParts rest before after [] → ⊥
none_barred [] before after b s = false≢true b
none_barred (parts.Mark c ∷ rest) before after b s = let e = s.1 in absurd cc
none_barred (parts.One item ∷ rest) before after b s = false≢true b
none_barred (parts.Series c item ∷ rest) before after b s = false≢true b
none_barred (parts.Free ∷ rest) before after b s = false≢true b
none_barred (parts.Method ∷ rest) before after b s = false≢true b

no_prefix : (prefix others : List Glyph) → [] ≡ prefix ++ others → others ≡ []
no_prefix [] others e = sym e
no_prefix (g ∷ prefix) others e = absurd cc

no_separated : (mark : Glyph) (words others : List Glyph) → [] ≡ separated mark words ++ others → 1 ≤ length words → ⊥
no_separated mark [] others e some = omega (arith, some)
no_separated mark (w ∷ []) others e some = absurd cc
no_separated mark (w ∷ x ∷ words) others e some = absurd cc

none_parted : (rest : List Part) (before after : Phrase) → is_sound rest ≡ true → SpellsParts rest before after [] → Ends Nothing rest before after
none_parted [] before after sound s = (refl, s.1)
none_parted (parts.Mark c ∷ rest) before after sound s = let e = s.1 in absurd cc
none_parted (parts.One item ∷ rest) before after sound s = let e = s.2 in absurd cc
none_parted (parts.Series c item ∷ rest) before after sound s = absurd (no_separated _ s.0 s.1 s.2 s.3)
none_parted (parts.Free ∷ rest) before after sound s =
    let both = and_parts (is_barrier rest) (is_sound rest) sound in
    absurd (none_barred rest before after both.0 (subst (λ (gs : List Glyph). SpellsParts rest before after gs) (no_prefix s.0 s.1 s.2) s.4))
none_parted (parts.Method ∷ rest) before after sound s = elim s [ inl local ↦ absurd (let e = local.2 in cc) | inr global ↦ absurd (let e = global.3 in cc) ]

none_left : (scan : Scan) (rest : List Part) (before after : Phrase) → is_after scan rest ≡ true → is_sound rest ≡ true → SpellsForm scan rest before after [] → Ends scan rest before after
none_left (Mark byte) rest before after following sound s = absurd (let e = s.1 in cc)
none_left (One item) rest before after following sound s = absurd (let e = s.2 in cc)
none_left (Next byte item) rest before after following sound s = absurd (no_separated _ s.0 s.1 s.2 s.3)
none_left (More byte item) rest before after following sound s =
    absurd (none_apart byte rest (with_words item s.0 before) after following (subst (λ (gs : List Glyph). SpellsParts rest (with_words item s.0 before) after gs) (no_prefix _ s.1 s.2) s.4))
none_left (Free depth taken) rest before after following sound s =
    absurd (none_barred rest before after following (subst (λ (gs : List Glyph). SpellsParts rest before after gs) (no_prefix s.0 s.1 s.2) s.5))
none_left Method rest before after following sound s = elim s [ inl local ↦ absurd (let e = local.2 in cc) | inr global ↦ absurd (let e = global.3 in cc) ]
none_left Master rest before after following sound s = absurd (let e = s.2 in cc)
none_left Nothing rest before after following sound s = none_parted rest before after sound s

pub completes : (f : Form) (after : Phrase) → is_after f.scan f.rest ≡ true → is_sound f.rest ≡ true → Remains f after [] → (is_complete f ≡ true) × (after ≡ phrase_of f.pieces)
unfolding is_complete
completes f after following sound s = none_left f.scan f.rest (phrase_of f.pieces) after following sound s

-- ---- a complete statement

nothing_remains : (scan : Scan) (rest : List Part) (before : Phrase) → (eqb (length rest) 0 && is_nothing scan) ≡ true → SpellsForm scan rest before before []
nothing_remains scan (part ∷ rest) before e = absurd (let p = eqb-true (length (part ∷ rest)) 0 (and_parts (eqb (length (part ∷ rest)) 0) (is_nothing scan) e).0 in omega (arith, p))
nothing_remains (Mark byte) [] before e = absurd (false≢true e)
nothing_remains (One item) [] before e = absurd (false≢true e)
nothing_remains (Next byte item) [] before e = absurd (false≢true e)
nothing_remains (More byte item) [] before e = absurd (false≢true e)
nothing_remains (Free depth some) [] before e = absurd (false≢true e)
nothing_remains Method [] before e = absurd (false≢true e)
nothing_remains Master [] before e = absurd (false≢true e)
nothing_remains Nothing [] before e = (refl, refl)

pub complete_remains : (f : Form) → is_complete f ≡ true → Remains f (phrase_of f.pieces) []
unfolding is_complete
complete_remains f e = nothing_remains f.scan f.rest (phrase_of f.pieces) e

-- ---- what a token changes

-- its name stays, and a word may be kept
pub record Moved (f : Form) (t : Lexeme) (next : Form) : Type 0 where
  pub from : Scan
  pub pieces : next.pieces ≡ kept_from from (word_of t) f.pieces
  pub name : next.name ≡ f.name

is_moved : (f : Form) (t : Lexeme) (g next : Form) (from to : Scan) → g.pieces ≡ f.pieces → g.name ≡ f.name → advanced g from to t ≡ next → Moved f t next
is_moved f t g next from to pieces name same =
    record { from = from; pieces = ap (λ (x : Form). x.pieces) (sym same) ∙ ap (λ (p : Pieces). kept_from from (word_of t) p) pieces; name = ap (λ (x : Form). x.name) (sym same) ∙ name }

moved_into : (f : Form) (t : Lexeme) (next : Form) (part : Part) (rest : List Part) (found : Option Scan) → option_map_or (λ next. Ok (advanced (record f { rest = rest }) (scan_of part) next t)) found (Err (misfit t)) ≡ Ok next → Moved f t next
moved_into f t next part rest None e = absurd (err_is (misfit t) next e)
moved_into f t next part rest (Some to) e = is_moved f t (record f { rest = rest }) next (scan_of part) to refl refl (ok_is _ next e)

moved_part : (f : Form) (t : Lexeme) (next : Form) (rest : List Part) → next_part f rest t ≡ Ok next → Moved f t next
unfolding next_part
moved_part f t next [] e = absurd (err_is (misfit t) next e)
moved_part f t next (part ∷ rest) e = moved_into f t next part rest (next_of (scan_of part) t) e

moved_on : (f : Form) (t : Lexeme) (next : Form) (found : Option Scan) → option_map_or (λ next. Ok (advanced f f.scan next t)) found (cond (may_end f.scan) (next_part f f.rest t) (Err (misfit t))) ≡ Ok next → Moved f t next
moved_on f t next None e = moved_part f t next f.rest (tested_ok (may_end f.scan) (next_part f f.rest t) (misfit t) next e).1
moved_on f t next (Some to) e = is_moved f t f next f.scan to refl refl (ok_is _ next e)

pub moved : (f : Form) (t : Lexeme) (next : Form) → form_step f t ≡ Ok next → Moved f t next
unfolding form_step
moved f t next e = moved_on f t next (next_of f.scan t) e
