-- believed: see docs/PROOF.md, "What has to be believed"
-- How far a text has come, the names that stand for numbers, and the numbers for which words stand.
use Rattle.std.specs.Prelude.{ℕ, ◌≡◌, ◌≤◌, ◌⊎◌, Bool, true, false, ◌&&◌, List, [], ◌∷◌, Option, Some, None, nat_le}
use Rattle.fmp_bytes.specs.Spelling.{SpellsUnsigned}
use Rattle.fmp_names.specs.Names.{NameLists, is_name, number_defined, has_room_to_define}
use Rattle.fmp_config_statements.specs.declared.table.Range.{Range}
use Rattle.fmp_config_statements.specs.declared.table.StatementName.{StatementName}
use Rattle.fmp_config_statements.specs.Table.{first_range, second_range}
use Rattle.fmp_config.specs.declared.draft.Phase.{Phase}
use Rattle.fmp_config.specs.declared.draft.Phase.TheVariants as phases
use Rattle.fmp_config.specs.declared.numbers.Numbers.{Numbers}
use Rattle.fmp_setup.specs.declared.setup.Class.{Class}
use Rattle.fmp_setup.specs.Building.{of_processors, is_refused, with_defined}
use Rattle.fmp_setup.specs.Setup.{Setup}
use Rattle.fmp_law_config.specs.Elements.{Definition}
use Rattle.fmp_law_config.specs.Phrases.{Phrase}

-- the configuration so far, the class whose statements follow, how far the text has come, and which statements stood
pub record Stage : Type 0 where
  pub setup : Setup
  pub class : Option Class
  pub phase : Phase
  pub timer_stood : Bool
  pub limits_stood : Bool

-- nothing is said yet
abbrev pub no_stage : Stage
no_stage = record { setup = of_processors 1; class = None; phase = phases.Start; timer_stood = false; limits_stood = false }

-- after the number of processors, before the first class is opened
abbrev pub is_head : Phase → Bool
is_head phases.Head = true
is_head _ = false

-- ---- definitions

-- a name with the same number says nothing; else the name is new, and one of at most 1024
abbrev pub Adds : Stage → Definition → Stage → Type 0
Adds s d next =
    ((number_defined s.setup.names d.name ≡ Some d.number) × (next ≡ s))
    ⊎ ((number_defined s.setup.names d.name ≡ None) × (is_refused s.setup d.name ≡ false) × (has_room_to_define s.setup.names ≡ true)
    × (next ≡ record s { setup = with_defined s.setup d.name d.number }))

abbrev pub AddsAll : Stage → List Definition → Stage → Type 0
AddsAll s [] next = next ≡ s
AddsAll s (d ∷ definitions) next = (between : Stage) × Adds s d between × AddsAll between definitions next

-- ---- numbers

-- a numeral, or a name that stands for the number
abbrev pub SpellsNumber : NameLists → List ℕ → ℕ → Type 0
SpellsNumber names word n = SpellsUnsigned word n ⊎ ((is_name word ≡ true) × (number_defined names word ≡ Some n))

-- a number of the range, or 0 where there is none
abbrev pub SaysNumber : NameLists → Option Range → List ℕ → ℕ → Type 0
SaysNumber names None word n = n ≡ 0
SaysNumber names (Some range) word n = SpellsNumber names word n × (range.least ≤ n) × (n ≤ range.most)

pub record SayNumbers (c : Setup) (name : StatementName) (phrase : Phrase) (n : Numbers) : Type 0 where
  pub first : SaysNumber c.names (first_range name c.processors c.limits.priorities) phrase.first n.first
  pub second : SaysNumber c.names (second_range name) phrase.second n.second

-- each word stands for its number
abbrev pub SpellNumbers : NameLists → List (List ℕ) → List ℕ → Type 0
SpellNumbers names [] [] = Unit {0}
SpellNumbers names (word ∷ words) (n ∷ numbers) = SpellsNumber names word n × SpellNumbers names words numbers
SpellNumbers names _ _ = ⊥

-- the number of a processor of the machine
abbrev pub is_processor : ℕ → ℕ → Bool
is_processor processors n = nat_le 1 n && nat_le n processors
