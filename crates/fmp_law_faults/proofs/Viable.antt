-- Whatever was read of a statement, something can follow.
use Rattle.std.proofs.Common.{◌≡◌, ℕ, zero, suc, ◌+◌, ◌-◌, ◌≤◌, ◌<◌, eqb, true, false, inl, inr, List, [], ◌∷◌, ◌++◌, Some, refl, ap, subst, arith}
use Rattle.std.specs.Prelude.{codes}
use Rattle.std.proofs.lemmas.Bool.{ne_eqb}
use Rattle.std.proofs.Math.Bool.{and-false}
use Rattle.fmp_bytes.specs.Bytes.{is_of}
use Rattle.fmp_names.specs.Names.{is_name}
use Rattle.fmp_config_statements.specs.declared.parts.Item.{Item}
use Rattle.fmp_config_statements.specs.declared.parts.Item.TheVariants as items
use Rattle.fmp_config_statements.specs.declared.parts.Part.{Part}
use Rattle.fmp_config_statements.specs.declared.parts.Scan.{Scan}
use Rattle.fmp_config_statements.specs.declared.parts.Scan.TheVariants.{Mark, One, Next, More, Free, Method, Master, Nothing}
use Rattle.fmp_config_statements.specs.Forms.{Form}
use Rattle.fmp_config_statements.specs.Parts.{is_barred, is_stop, next_free, scan_of}
use Rattle.fmp_config_statements.specs.declared.tokens.TokenKind.TheVariants as kinds
use Rattle.fmp_law_config.specs.Elements.{identifier, symbol}
use Rattle.fmp_law_config.specs.Phrases.{Phrase, SpellsParts, may_be, with_word, with_words}
use Rattle.fmp_law_config.specs.Tokens.{Glyph}
use Rattle.fmp_law_config.proofs.Glyphs.{is_glyph, lexeme}
use Rattle.fmp_law_config.proofs.Nested.{Nested, closes, opens, stepped}
use Rattle.fmp_law_config.proofs.Scans.{Remains, SpellsForm, part_from}
use Rattle.fmp_law_config.proofs.Stages.{phrase_of}

-- ---- words

abbrev word : Glyph
word = identifier (codes "a")

abbrev glyph_for : Item → Glyph
glyph_for items.Text = record { kind = kinds.Text; text = [] }
glyph_for _ = word

may_so : (item : Item) → may_be item (glyph_for item) ≡ true
unfolding is_name is_of
may_so items.Name = refl
may_so items.Function = refl
may_so items.Attribute = refl
may_so items.First = refl
may_so items.Second = refl
may_so items.Member = refl
may_so items.Text = refl

-- ---- free fields

word_so : is_glyph word ≡ true
unfolding is_of
word_so = refl

none_nested : Nested 0 []
none_nested = record { allowed = refl; prefixes = prefixes; balanced = omega arith; commas = commas } where
  prefixes : (prefix rest : List Glyph) → [] ≡ prefix ++ rest → closes prefix ≤ 0 + opens prefix
  prefixes [] rest e = omega arith
  prefixes (g ∷ prefix) rest e = absurd cc

  commas : (prefix rest : List Glyph) → [] ≡ prefix ++ (symbol 44 ∷ rest) → closes prefix < 0 + opens prefix
  commas [] rest e = absurd cc
  commas (g ∷ prefix) rest e = absurd cc

close_read : (depth : ℕ) → next_free (suc depth) (lexeme (symbol 41) 0) ≡ Some (Free depth true)
unfolding next_free is_barred is_stop is_of
close_read depth =
    let more : eqb (suc depth) 0 ≡ false = ne_eqb (suc depth) 0 (λ e. omega (arith, e)) in
    let less : suc depth - 1 ≡ depth = omega arith in
    rw more (ap (λ (n : ℕ). Some (Free n true)) less)

word_read : (depth : ℕ) → next_free depth (lexeme word 0) ≡ Some (Free depth true)
unfolding next_free is_barred is_stop is_name is_of
word_read depth = let none = and-false (eqb depth 0) in rw none refl

-- the parentheses that are open
abbrev closers : ℕ → List Glyph
closers zero = []
closers (suc depth) = symbol 41 ∷ closers depth

same_depth : (a b : ℕ) → ◌≡◌ {A = Scan} (Free a true) (Free b true) → a ≡ b
same_depth a b e = cc

closers_nested : (depth : ℕ) → Nested depth (closers depth)
unfolding is_of
closers_nested zero = none_nested
closers_nested (suc depth) =
    let s = stepped (suc depth) 0 (Free depth true) (symbol 41) refl (close_read depth) in
    s.2 (closers depth) (subst (λ (n : ℕ). Nested n (closers depth)) (same_depth depth s.0 s.1) (closers_nested depth))

word_nested : (depth : ℕ) → Nested depth (word ∷ closers depth)
word_nested depth =
    let s = stepped depth 0 (Free depth true) word (word_so) (word_read depth) in
    s.2 (closers depth) (subst (λ (n : ℕ). Nested n (closers depth)) (same_depth depth s.0 s.1) (closers_nested depth))

-- ---- parts

-- the words are those of a statement, with what follows
abbrev Can : List Part → Type 0
Can rest = (before : Phrase) → (after : Phrase) × (others : List Glyph) × SpellsParts rest before after others

form_can : (scan : Scan) (rest : List Part) → Can rest → (before : Phrase) → (after : Phrase) × (glyphs : List Glyph) × SpellsForm scan rest before after glyphs
form_can (Mark byte) rest can before = let r = can before in (r.0, symbol byte ∷ r.1, (r.1, refl, r.2))
form_can (One item) rest can before = let r = can (with_word item (glyph_for item).text before) in (r.0, glyph_for item ∷ r.1, (glyph_for item, r.1, refl, may_so item, r.2))
form_can (Next byte item) rest can before =
    let r = can (with_words item (glyph_for item ∷ []) before) in
    let may = may_so item in
    (r.0, glyph_for item ∷ r.1, (glyph_for item ∷ [], r.1, refl, omega arith, rw may refl, r.2))
form_can (More byte item) rest can before = let r = can before in (r.0, r.1, ([], r.1, refl, refl, r.2))
form_can (Free depth taken) rest can before =
    let r = can before in
    (r.0, (word ∷ closers depth) ++ r.1, (word ∷ closers depth, r.1, refl, word_nested depth, inr (omega arith), r.2))
form_can Method rest can before = let r = can before in (r.0, identifier (codes "LOCAL") ∷ r.1, inl (r.1, identifier (codes "LOCAL"), refl, refl, r.2))
form_can Master rest can before =
    let r = can (with_word items.First word.text before) in
    (r.0, symbol 44 ∷ word ∷ r.1, (word, r.1, refl, may_so items.First, r.2))
form_can Nothing rest can before = can before

parts_can : (rest : List Part) → Can rest
parts_can [] before = (before, [], (refl, refl))
parts_can (part ∷ rest) before =
    let r = form_can (scan_of part) rest (parts_can rest) before in
    (r.0, r.1, part_from part rest before r.0 r.1 r.2)

pub can_follow : (f : Form) → (phrase : Phrase) × (glyphs : List Glyph) × Remains f phrase glyphs
can_follow f = form_can f.scan f.rest (parts_can f.rest) (phrase_of f.pieces)
