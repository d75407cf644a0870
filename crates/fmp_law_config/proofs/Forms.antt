-- A statement whose tokens are spelled is read to its end.
use Rattle.std.proofs.Common.{◌≡◌, ℕ, ◌≤◌, Bool, true, false, not, ◌&&◌, ◌||◌, ◌⊎◌, eqb, inl, inr, List, [], ◌∷◌, ◌++◌, length, Some, None, refl, sym, ap, subst, ◌∙◌, arith}
use Rattle.std.specs.Prelude.{codes}
use Rattle.std.specs.List.{list_all}
use Rattle.std.proofs.lemmas.Bool.{cases_Bool, false≢true, eqb-true, and_parts, or_cases}
use Rattle.fmp_bytes.specs.Bytes.{is_of}
use Rattle.fmp_config_statements.specs.Lexing.{Lexeme}
use Rattle.fmp_codes.specs.declared.kinds.ObjectKind.TheVariants.{Task, Semaphore, Eventflag, DataQueue, Pool, Cyclic, Alarm, SpinLock}
use Rattle.fmp_config_statements.specs.declared.parts.Item.{Item}
use Rattle.fmp_config_statements.specs.declared.parts.Item.TheVariants as items
use Rattle.fmp_config_statements.specs.declared.parts.Part.{Part}
use Rattle.fmp_config_statements.specs.declared.parts.Part.TheVariants as parts
use Rattle.fmp_config_statements.specs.declared.parts.Scan.{Scan}
use Rattle.fmp_config_statements.specs.declared.parts.Scan.TheVariants.{Mark, One, Next, More, Free, Method, Master, Nothing}
use Rattle.fmp_config_statements.specs.declared.table.StatementName.{StatementName}
use Rattle.fmp_config_statements.specs.declared.table.StatementName.TheVariants as statements
use Rattle.fmp_config_statements.specs.Parts.{is_item, is_barred, is_stop, next_free, next_method, scan_of, next_of, may_end}
use Rattle.fmp_config_statements.specs.Pieces.{Pieces, kept_from}
use Rattle.fmp_config_statements.specs.Table.{parts_of}
use Rattle.fmp_config_statements.specs.Words.{word_of, is_mark}
use Rattle.fmp_law_config.specs.Tokens.{Glyph, glyph_of}
use Rattle.fmp_law_config.specs.Elements.{symbol}
use Rattle.fmp_law_config.specs.Phrases.{Phrase, with_word, with_words, may_be, separated, SpellsParts}
use Rattle.fmp_law_config.proofs.Stages.{phrase_of}
use Rattle.fmp_law_config.proofs.Glyphs.{lexeme, is_glyph, is_mark-same}
use Rattle.fmp_law_config.proofs.Nested.{Nested, steps}
use Rattle.fmp_law_config.proofs.Scans.{after_first, SpellsScan, item_kept, item_is, first_and_rest}

-- ---- parts that end before what follows them

-- another mark follows
abbrev pub is_apart : ℕ → List Part → Bool
is_apart byte (parts.Mark c ∷ rest) = not (eqb c byte)
is_apart byte _ = false

-- a mark follows that no free field has outside parentheses
abbrev pub is_barrier : List Part → Bool
is_barrier (parts.Mark c ∷ rest) = eqb c 44 || eqb c 125
is_barrier _ = false

abbrev pub is_after : Scan → List Part → Bool
is_after (Next byte item) rest = is_apart byte rest
is_after (More byte item) rest = is_apart byte rest
is_after (Free depth taken) rest = is_barrier rest
is_after _ rest = true

abbrev pub is_sound : List Part → Bool
is_sound [] = true
is_sound (part ∷ rest) = is_after (scan_of part) rest && is_sound rest

-- so do those of each statement
pub sound : (name : StatementName) → is_sound (parts_of name) ≡ true
sound statements.Include = refl
sound statements.Processors = refl
sound statements.Timer = refl
sound statements.Limits = refl
sound statements.DefClass = refl
sound statements.Class = refl
sound (statements.Create Task) = refl
sound (statements.Create Semaphore) = refl
sound (statements.Create Eventflag) = refl
sound (statements.Create DataQueue) = refl
sound (statements.Create Pool) = refl
sound (statements.Create Cyclic) = refl
sound (statements.Create Alarm) = refl
sound (statements.Create SpinLock) = refl

-- ---- one token of a part

pub mark_at : (byte : ℕ) (t : Lexeme) → glyph_of t ≡ symbol byte → is_mark byte t ≡ true
mark_at byte t e = subst (λ (g : Glyph). is_mark byte (lexeme g t.line) ≡ true) (sym e) (is_mark-same byte t.line)

module _ (Follows : Phrase → List Glyph → Type 0) (t : Lexeme) (is : is_glyph (glyph_of t) ≡ true) (pieces : Pieces) (glyphs : List Glyph) where
  -- the part goes on with the token
  abbrev pub GoesOn : Scan → Type 0
  GoesOn scan =
      (next : Scan) × (next_of scan t ≡ Some next) × SpellsScan next Follows (phrase_of (kept_from scan (word_of t) pieces)) glyphs × ((rest : List Part) → is_after scan rest ≡ true → is_after next rest ≡ true)

  -- or has ended before it
  abbrev pub Takes : Scan → Type 0
  Takes scan = GoesOn scan ⊎ ((may_end scan ≡ true) × Follows (phrase_of pieces) (glyph_of t ∷ glyphs))

  mark_takes : (byte : ℕ) → SpellsScan (Mark byte) Follows (phrase_of pieces) (glyph_of t ∷ glyphs) → GoesOn (Mark byte)
  unfolding next_of
  mark_takes byte s =
      let e = s.1 in
      let here : glyph_of t ≡ symbol byte = cc in
      let others : s.0 ≡ glyphs = cc in
      let test = mark_at byte t here in
      (Nothing, rw test refl, subst (λ (gs : List Glyph). Follows (phrase_of pieces) gs) others s.2, λ rest b. refl)

  one_takes : (item : Item) → SpellsScan (One item) Follows (phrase_of pieces) (glyph_of t ∷ glyphs) → GoesOn (One item)
  unfolding next_of
  one_takes item s =
      let e = s.2 in
      let here : s.0 ≡ glyph_of t = cc in
      let others : s.1 ≡ glyphs = cc in
      let test : is_item item t ≡ true = item_is item t ∙ ap (may_be item) (sym here) ∙ s.3 in
      let following = subst (λ (g : Glyph). Follows (with_word item g.text (phrase_of pieces)) s.1) here s.4 in
      let kept = subst (λ (p : Phrase). Follows p s.1) (sym (item_kept item (word_of t) pieces)) following in
      (Nothing, rw test refl, subst (λ (gs : List Glyph). Follows (phrase_of (kept_from (One item) (word_of t) pieces)) gs) others kept, λ rest b. refl)

  next_takes : (byte : ℕ) (item : Item) (words others : List Glyph) → glyph_of t ∷ glyphs ≡ separated (symbol byte) words ++ others → 1 ≤ length words → list_all (may_be item) words ≡ true
      → Follows (with_words item words (phrase_of pieces)) others → GoesOn (Next byte item)
  unfolding next_of
  next_takes byte item [] others e some all k = absurd (omega (arith, some))
  next_takes byte item (w ∷ words) others e some all k =
      let whole = e ∙ ap (λ (gs : List Glyph). gs ++ others) (first_and_rest (symbol byte) w words) in
      let here : w ≡ glyph_of t = cc in
      let following : glyphs ≡ after_first (symbol byte) words ++ others = cc in
      let each_is = and_parts (may_be item w) (list_all (may_be item) words) all in
      let test : is_item item t ≡ true = item_is item t ∙ ap (may_be item) (sym here) ∙ each_is.0 in
      let said = subst (λ (g : Glyph). Follows (with_words item words (with_word item g.text (phrase_of pieces))) others) here k in
      let kept = subst (λ (p : Phrase). Follows (with_words item words p) others) (sym (item_kept item (word_of t) pieces)) said in
      (More byte item, rw test refl, (words, others, following, each_is.1, kept), λ rest b. b)

  more_takes : (byte : ℕ) (item : Item) (words others : List Glyph) → glyph_of t ∷ glyphs ≡ after_first (symbol byte) words ++ others → list_all (may_be item) words ≡ true
      → Follows (with_words item words (phrase_of pieces)) others → Takes (More byte item)
  unfolding next_of
  more_takes byte item [] others e all k = inr (refl, subst (λ (gs : List Glyph). Follows (phrase_of pieces) gs) (sym e) k)
  more_takes byte item (w ∷ words) others e all k =
      let here : glyph_of t ≡ symbol byte = cc in
      let following : glyphs ≡ separated (symbol byte) (w ∷ words) ++ others = cc in
      let test = mark_at byte t here in
      inl (Next byte item, rw test refl, (w ∷ words, others, following, omega arith, all, k), λ rest b. b)

  free_takes : (depth : ℕ) (taken : Bool) (piece others : List Glyph) → glyph_of t ∷ glyphs ≡ piece ++ others → Nested depth piece → (taken ≡ true) ⊎ (1 ≤ length piece)
      → Follows (phrase_of pieces) others → Takes (Free depth taken)
  unfolding next_of
  free_takes depth taken [] others e n some k =
      let zero : depth ≡ 0 = (let h = n.balanced in omega (arith, h)) in
      let yes : taken ≡ true = (elim some [ inl x ↦ x | inr x ↦ absurd (omega (arith, x)) ]) in
      inr (rw (zero, yes) refl, subst (λ (gs : List Glyph). Follows (phrase_of pieces) gs) (sym e) k)
  free_takes depth taken (w ∷ piece) others e n some k =
      let here : w ≡ glyph_of t = cc in
      let following : glyphs ≡ piece ++ others = cc in
      let step = steps depth t.line piece (glyph_of t) is (subst (λ (g : Glyph). Nested depth (g ∷ piece)) here n) in
      inl (Free step.0 true, step.1, (piece, others, following, step.2, inl refl, k), λ rest b. b)

  method_takes : SpellsScan Method Follows (phrase_of pieces) (glyph_of t ∷ glyphs) → GoesOn Method
  unfolding next_of next_method
  method_takes s =
      elim s [
        | inl local ↦
            let e = local.2 in
            let others : local.0 ≡ glyphs = cc in
            let text : t.text ≡ codes "LOCAL" = (let here : glyph_of t ≡ local.1 = cc in ap (λ (g : Glyph). g.text) here ∙ local.3) in
            (Nothing, rw text refl, subst (λ (gs : List Glyph). Follows (phrase_of pieces) gs) others local.4, λ rest b. refl)
        | inr global ↦
            let e = global.3 in
            let others : glyphs ≡ symbol 44 ∷ global.2 ∷ global.0 = cc in
            let text : t.text ≡ codes "GLOBAL" = (let here : glyph_of t ≡ global.1 = cc in ap (λ (g : Glyph). g.text) here ∙ global.4) in
            (Master, rw text refl, (global.2, global.0, others, global.5, global.6), λ rest b. refl)
      ]

  master_takes : SpellsScan Master Follows (phrase_of pieces) (glyph_of t ∷ glyphs) → GoesOn Master
  unfolding next_of
  master_takes s =
      let e = s.2 in
      let here : glyph_of t ≡ symbol 44 = cc in
      let others : glyphs ≡ s.0 ∷ s.1 = cc in
      let test = mark_at 44 t here in
      (One items.First, rw test refl, (s.0, s.1, others, s.3, s.4), λ rest b. refl)

  pub takes : (scan : Scan) → SpellsScan scan Follows (phrase_of pieces) (glyph_of t ∷ glyphs) → Takes scan
  takes (Mark byte) s = inl (mark_takes byte s)
  takes (One item) s = inl (one_takes item s)
  takes (Next byte item) s = inl (next_takes byte item s.0 s.1 s.2 s.3 s.4 s.5)
  takes (More byte item) s = more_takes byte item s.0 s.1 s.2 s.3 s.4
  takes (Free depth taken) s = free_takes depth taken s.0 s.1 s.2 s.3 s.4 s.5
  takes Method s = inl (method_takes s)
  takes Master s = inl (master_takes s)
  takes Nothing s = inr (refl, s)

-- ---- a part has ended before the next one

pub fresh : (part : Part) → may_end (scan_of part) ≡ true → ⊥
fresh (parts.Mark byte) e = false≢true e
fresh (parts.One item) e = false≢true e
fresh (parts.Series byte item) e = false≢true e
fresh parts.Free e = false≢true e
fresh parts.Method e = false≢true e

other_mark : (byte c line : ℕ) → not (eqb c byte) ≡ true → is_mark byte (lexeme (symbol c) line) ≡ false
other_mark byte c line e =
    elim (cases_Bool (eqb c byte)) [
      | inl t ↦ absurd (false≢true (ap not (sym t) ∙ e))
      | inr f ↦ f
    ]

barrier_stops : (c line : ℕ) → (eqb c 44 || eqb c 125) ≡ true → next_free 0 (lexeme (symbol c) line) ≡ None
unfolding next_free is_barred is_stop is_of
barrier_stops c line stop =
    elim (or_cases (eqb c 44) (eqb c 125) stop) [
      | inl t ↦ rw (eqb-true c 44 t) refl
      | inr t ↦ rw (eqb-true c 125 t) refl
    ]

-- the mark that follows
marked : (rest : List Part) (before after : Phrase) (t : Lexeme) (glyphs : List Glyph) (byte : ℕ) (others : List Part) → rest ≡ parts.Mark byte ∷ others → SpellsParts rest before after (glyph_of t ∷ glyphs) → glyph_of t ≡ symbol byte
marked rest before after t glyphs byte others e s = let s2 = rw e at s in let f = s2.1 in cc

module _ (before after : Phrase) (t : Lexeme) (glyphs : List Glyph) where
  apart_stops : (byte : ℕ) (rest : List Part) → is_apart byte rest ≡ true → SpellsParts rest before after (glyph_of t ∷ glyphs) → is_mark byte t ≡ false
  apart_stops byte [] b s = absurd (false≢true b)
  apart_stops byte (parts.Mark c ∷ rest) b s =
      let here = marked (parts.Mark c ∷ rest) before after t glyphs c rest refl s in
      subst (λ (g : Glyph). is_mark byte (lexeme g t.line) ≡ false) (sym here) (other_mark byte c t.line b)
  apart_stops byte (parts.One item ∷ rest) b s = absurd (false≢true b)
  apart_stops byte (parts.Series c item ∷ rest) b s = absurd (false≢true b)
  apart_stops byte (parts.Free ∷ rest) b s = absurd (false≢true b)
  apart_stops byte (parts.Method ∷ rest) b s = absurd (false≢true b)

  free_stops : (rest : List Part) → is_barrier rest ≡ true → SpellsParts rest before after (glyph_of t ∷ glyphs) → next_free 0 t ≡ None
  free_stops [] b s = absurd (false≢true b)
  free_stops (parts.Mark c ∷ rest) b s =
      let here = marked (parts.Mark c ∷ rest) before after t glyphs c rest refl s in
      subst (λ (g : Glyph). next_free 0 (lexeme g t.line) ≡ None) (sym here) (barrier_stops c t.line b)
  free_stops (parts.One item ∷ rest) b s = absurd (false≢true b)
  free_stops (parts.Series c item ∷ rest) b s = absurd (false≢true b)
  free_stops (parts.Free ∷ rest) b s = absurd (false≢true b)
  free_stops (parts.Method ∷ rest) b s = absurd (false≢true b)

  pub stops : (scan : Scan) (rest : List Part) → may_end scan ≡ true → is_after scan rest ≡ true → SpellsParts rest before after (glyph_of t ∷ glyphs) → next_of scan t ≡ None
  unfolding next_of
  stops (Mark byte) rest e b s = absurd (false≢true e)
  stops (One item) rest e b s = absurd (false≢true e)
  stops (Next byte item) rest e b s = absurd (false≢true e)
  stops (More byte item) rest e b s = let test = apart_stops byte rest b s in rw test refl
  stops (Free depth taken) rest e b s =
      let zero = eqb-true depth 0 (and_parts (eqb depth 0) taken e).0 in
      ap (λ (n : ℕ). next_free n t) zero ∙ free_stops rest b s
  stops Method rest e b s = absurd (false≢true e)
  stops Master rest e b s = absurd (false≢true e)
  stops Nothing rest e b s = refl
