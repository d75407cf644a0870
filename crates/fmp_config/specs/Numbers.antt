-- The numbers of a statement, and classes.
use Rattle.std.specs.Prelude.{◌≡◌, ℕ, ◌≤◌, ◌-◌, Bool, true, false, ◌&&◌, List, replicate, slice_set, nat_le, Option, Some, None, Result, Ok, Err, if◌then◌else◌}
use Rattle.std.specs.Option.{ok_or, option_or}
use Rattle.fmp_bytes.specs.Results.{◌>>=◌}
use Rattle.fmp_codes.specs.Numbers.{as_proc}
use Rattle.fmp_codes.specs.declared.numbers.Proc.{Proc}
use Rattle.fmp_names.specs.Names.{NameLists, number_defined}
use Rattle.fmp_config_statements.specs.declared.fault.ConfigKind.TheVariants.{OutOfRange, BadClass}
use Rattle.fmp_config_statements.specs.declared.table.Range.{Range}
use Rattle.fmp_config_statements.specs.declared.table.StatementName.{StatementName}
use Rattle.fmp_config_statements.specs.Faults.{Fault, fault_at, fault_in}
use Rattle.fmp_config_statements.specs.Folds.{each}
use Rattle.fmp_config_statements.specs.Numbers.{numeral}
use Rattle.fmp_config_statements.specs.Pieces.{Pieces}
use Rattle.fmp_config_statements.specs.Table.{first_range, second_range}
use Rattle.fmp_config_statements.specs.Words.{Word}
use Rattle.fmp_config.specs.declared.numbers.Numbers.{Numbers}
use Rattle.fmp_setup.specs.declared.setup.Class.{Class}
use Rattle.fmp_setup.specs.Setup.{Setup}
use Rattle.fmp_setup.specs.Valid.{is_class_of}

-- what a word stands for: a numeral, or a defined name
unfoldable pub value_of : NameLists → List ℕ → Option ℕ
value_of names text = option_or (numeral text) (number_defined names text)

-- the number of a word
unfoldable pub value_at : NameLists → Word → Result ℕ Fault
value_at names word = ok_or (value_of names word.text) (fault_at OutOfRange word)

abbrev pub is_within : Range → ℕ → Bool
is_within range n = nat_le range.least n && nat_le n range.most

-- the same in a range
unfoldable pub number_within : NameLists → Range → Word → Result ℕ Fault
number_within names range word = value_at names word >>= λ n. if is_within range n then Ok n else Err (fault_at OutOfRange word)

-- the same where the statement has such a number, else 0
unfoldable pub number_at : NameLists → Option Range → Word → Result ℕ Fault
number_at names None word = Ok 0
number_at names (Some range) word = number_within names range word

-- both numbers of a statement, from left to right
unfoldable pub numbers_of : Setup → StatementName → Pieces → Result Numbers Fault
numbers_of c name pieces = do
  first ← number_at c.names (first_range name c.processors c.limits.priorities) pieces.first
  second ← number_at c.names (second_range name) pieces.second
  Ok (record { first = first; second = second })

-- the numbers of a statement are in their ranges
abbrev pub IsInRange : Option Range → ℕ → Type 0
IsInRange None n = n ≡ 0
IsInRange (Some range) n = (range.least ≤ n) × (n ≤ range.most)

abbrev pub AreInRanges : Setup → StatementName → Numbers → Type 0
AreInRanges c name n = IsInRange (first_range name c.processors c.limits.priorities) n.first × IsInRange (second_range name) n.second

-- ---- classes

-- the processor of a number, from 1 to how many there are
unfoldable pub numbered_processor : ℕ → ℕ → Option Proc
numbered_processor processors n = if nat_le 1 n && nat_le n processors then Some (as_proc n) else None

-- the processor of a word; its fault has the line of the statement
unfoldable pub processor_at : Setup → ℕ → Word → Result Proc Fault
processor_at c line word = value_at c.names word >>= λ n. ok_or (numbered_processor c.processors n) (fault_in BadClass line word)

-- a word of a list that has to be a number
unfoldable pub number_step : Setup → Unit {0} → Word → Result (Unit {0}) Fault
number_step c so_far word = value_at c.names word >>= λ n. Ok tt

-- the first fault of words that have to be numbers
unfoldable pub all_numbers : Setup → List Word → Result (Unit {0}) Fault
all_numbers c words = each (number_step c) tt words

-- a list of processors with that of one word more
unfoldable pub member_step : Setup → ℕ → List Bool → Word → Result (List Bool) Fault
member_step c line members word = processor_at c line word >>= λ p. Ok (slice_set members (p.number - 1) true)

-- the processors of a list
unfoldable pub members_in : Setup → ℕ → List Word → Result (List Bool) Fault
members_in c line words = each (member_step c line) (replicate 8 false) words

-- a class that begins on one of its processors
unfoldable pub sound_class : ℕ → ℕ → Word → Class → Result Class Fault
sound_class processors line initial class = if is_class_of processors class then Ok class else Err (fault_in BadClass line initial)

-- the class of a definition: first all its words have to be numbers, then the initial processor and each listed one a processor, then the
-- initial one has to be listed
unfoldable pub class_of : Setup → ℕ → Pieces → Result Class Fault
class_of c line pieces = do
  number ← value_at c.names pieces.first
  unit ← all_numbers c pieces.series
  initial ← processor_at c line pieces.first
  members ← members_in c line pieces.series
  sound_class c.processors line pieces.first (record { initial = initial; members = members })
