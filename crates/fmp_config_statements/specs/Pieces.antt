-- The words of a statement.
use Rattle.std.specs.Prelude.{List, [], ◌∷◌, ◌++◌}
use Rattle.fmp_config_statements.specs.declared.parts.Item.{Item}
use Rattle.fmp_config_statements.specs.declared.parts.Item.TheVariants as items
use Rattle.fmp_config_statements.specs.declared.parts.Scan.{Scan}
use Rattle.fmp_config_statements.specs.declared.parts.Scan.TheVariants.{One, Next}
use Rattle.fmp_config_statements.specs.Words.{Word, no_word}

-- the words of a statement that say something, and its attributes or listed numbers in their order
pub record Pieces : Type 0 where
  pub name : Word
  pub function : Word
  pub first : Word
  pub second : Word
  pub series : List Word

abbrev pub no_pieces : Pieces
no_pieces = record { name = no_word; function = no_word; first = no_word; second = no_word; series = [] }

-- one word more, by what it stands for
abbrev pub with_item : Item → Word → Pieces → Pieces
with_item items.Name word pieces = record pieces { name = word }
with_item items.Function word pieces = record pieces { function = word }
with_item items.First word pieces = record pieces { first = word }
with_item items.Second word pieces = record pieces { second = word }
with_item items.Attribute word pieces = record pieces { series = pieces.series ++ word ∷ [] }
with_item items.Member word pieces = record pieces { series = pieces.series ++ word ∷ [] }
with_item items.Text word pieces = pieces

-- a word that goes on with a part is kept where it is one of its words
abbrev pub kept_from : Scan → Word → Pieces → Pieces
kept_from (One item) word pieces = with_item item word pieces
kept_from (Next byte item) word pieces = with_item item word pieces
kept_from _ word pieces = pieces
