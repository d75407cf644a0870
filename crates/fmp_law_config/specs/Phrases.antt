-- believed: see docs/PROOF.md, "What has to be believed"
-- The parts of statements, apart from how they are read: which tokens may stand in them.
use Rattle.std.specs.Prelude.{◌≡◌, ℕ, ◌≤◌, ◌<◌, Bool, true, not, ◌&&◌, ◌||◌, List, [], ◌∷◌, ◌++◌, ◌⊎◌, length, map, codes}
use Rattle.std.specs.List.{list_all}
use Rattle.std.specs.Str.{bytes_eq}
use Rattle.fmp_bytes.specs.Bytes.{is_identifier, comma}
use Rattle.fmp_names.specs.Names.{is_name, times}
use Rattle.fmp_config_statements.specs.declared.parts.Item.{Item}
use Rattle.fmp_config_statements.specs.declared.parts.Item.TheVariants as items
use Rattle.fmp_config_statements.specs.declared.parts.Part.{Part}
use Rattle.fmp_config_statements.specs.declared.parts.Part.TheVariants as parts
use Rattle.fmp_config_statements.specs.Words.{is_digits_kind, is_text_kind}
use Rattle.fmp_law_config.specs.Tokens.{Glyph}
use Rattle.fmp_law_config.specs.Elements.{symbol}

-- what the words of a statement are: its name, its function, its two numbers, and its attributes or listed numbers; none where it has no such word
pub record Phrase : Type 0 where
  pub name : List ℕ
  pub function : List ℕ
  pub first : List ℕ
  pub second : List ℕ
  pub series : List (List ℕ)

abbrev pub no_words : Phrase
no_words = record { name = []; function = []; first = []; second = []; series = [] }

-- one word more, by what it stands for; that of a string is not kept
abbrev pub with_word : Item → List ℕ → Phrase → Phrase
with_word items.Name word phrase = record phrase { name = word }
with_word items.Function word phrase = record phrase { function = word }
with_word items.First word phrase = record phrase { first = word }
with_word items.Second word phrase = record phrase { second = word }
with_word items.Attribute word phrase = record phrase { series = phrase.series ++ word ∷ [] }
with_word items.Member word phrase = record phrase { series = phrase.series ++ word ∷ [] }
with_word items.Text word phrase = phrase

abbrev pub with_words : Item → List Glyph → Phrase → Phrase
with_words item [] phrase = phrase
with_words item (g ∷ words) phrase = with_words item words (with_word item g.text phrase)

-- digits, or an identifier of at most 64 bytes
abbrev pub may_be_number : Glyph → Bool
may_be_number g = is_digits_kind g.kind || is_name g.text

-- a token may be such a word
abbrev pub may_be : Item → Glyph → Bool
may_be items.Name g = is_name g.text
may_be items.Function g = is_name g.text
may_be items.Attribute g = is_name g.text
may_be items.First g = may_be_number g
may_be items.Second g = may_be_number g
may_be items.Member g = may_be_number g
may_be items.Text g = is_text_kind g.kind

-- tokens with this one between them
abbrev pub separated : Glyph → List Glyph → List Glyph
separated mark [] = []
separated mark (g ∷ []) = g ∷ []
separated mark (g ∷ next ∷ glyphs) = g ∷ mark ∷ separated mark (next ∷ glyphs)

-- the bytes of the tokens
abbrev pub texts : List Glyph → List (List ℕ)
texts glyphs = map (λ g. g.text) glyphs

-- neither a brace nor an identifier of more than 64 bytes
abbrev pub may_be_free : Glyph → Bool
may_be_free g = not (bytes_eq g.text (codes "{") || bytes_eq g.text (codes "}")) && (not (is_identifier g.text) || is_name g.text)

-- one or more tokens with balanced parentheses: no prefix closes more than it opens, and all of them close as many as they open.
-- A comma stands inside parentheses alone: before it more are open than closed
pub record IsFree (glyphs : List Glyph) : Type 0 where
  pub some : 1 ≤ length glyphs
  pub allowed : list_all may_be_free glyphs ≡ true
  pub prefixes : (prefix rest : List Glyph) → glyphs ≡ prefix ++ rest → times (codes ")") (texts prefix) ≤ times (codes "(") (texts prefix)
  pub balanced : times (codes "(") (texts glyphs) ≡ times (codes ")") (texts glyphs)
  pub commas : (prefix rest : List Glyph) → glyphs ≡ prefix ++ (symbol comma ∷ rest) → times (codes ")") (texts prefix) < times (codes "(") (texts prefix)

-- `LOCAL`, or `GLOBAL`, a comma and a number
abbrev pub SpellsMethod : (Phrase → List Glyph → Type 0) → Phrase → List Glyph → Type 0
SpellsMethod Follows before glyphs =
    ((rest : List Glyph) × (word : Glyph) × (glyphs ≡ word ∷ rest) × (word.text ≡ codes "LOCAL") × Follows before rest)
    ⊎ ((rest : List Glyph) × (word : Glyph) × (number : Glyph) × (glyphs ≡ word ∷ symbol comma ∷ number ∷ rest) × (word.text ≡ codes "GLOBAL")
    × (may_be items.First number ≡ true)
    × Follows (with_word items.First number.text before) rest)

-- the tokens of some parts, and the words with theirs
abbrev pub SpellsParts : List Part → Phrase → Phrase → List Glyph → Type 0
SpellsParts [] before after glyphs = (glyphs ≡ []) × (after ≡ before)
SpellsParts (parts.Mark byte ∷ rest) before after glyphs = (others : List Glyph) × (glyphs ≡ symbol byte ∷ others) × SpellsParts rest before after others
SpellsParts (parts.One item ∷ rest) before after glyphs =
    (word : Glyph) × (others : List Glyph) × (glyphs ≡ word ∷ others) × (may_be item word ≡ true) × SpellsParts rest (with_word item word.text before) after others
SpellsParts (parts.Series byte item ∷ rest) before after glyphs =
    (words : List Glyph) × (others : List Glyph) × (glyphs ≡ separated (symbol byte) words ++ others) × (1 ≤ length words) × (list_all (may_be item) words ≡ true)
    × SpellsParts rest (with_words item words before) after others
SpellsParts (parts.Free ∷ rest) before after glyphs = (free : List Glyph) × (others : List Glyph) × (glyphs ≡ free ++ others) × IsFree free
    × SpellsParts rest before after others
SpellsParts (parts.Method ∷ rest) before after glyphs = SpellsMethod (λ words others. SpellsParts rest words after others) before glyphs
