-- believed: see docs/PROOF.md, "What has to be believed"
-- The table of the statements: words, parts, attributes and ranges.
use Rattle.std.specs.Prelude.{ℕ, ◌-◌, ◌^◌, List, find, Option, Some, None, codes}
use Rattle.std.specs.Str.{bytes_eq}
use Rattle.fmp_codes.specs.declared.kinds.ObjectKind.{ObjectKind}
use Rattle.fmp_codes.specs.declared.kinds.ObjectKind.TheVariants.{Task, Semaphore, Eventflag, DataQueue, Pool, Cyclic, Alarm, SpinLock}
use Rattle.fmp_config_statements.specs.declared.attributes.Attribute.{Attribute}
use Rattle.fmp_config_statements.specs.declared.parts.Part.{Part}
use Rattle.fmp_config_statements.specs.declared.table.Range.{Range}
use Rattle.fmp_config_statements.specs.declared.table.StatementName.{StatementName}
use Rattle.fmp_config_statements.specs.declared.table.StatementName.TheVariants.{Include, Processors, Timer, Limits, DefClass, Class, Create}
use Rattle.fmp_config_statements.specs.declared.table.TheConstants as table

-- the word that begins a statement
abbrev pub text_of : StatementName → List ℕ
text_of Include = codes "INCLUDE"
text_of Processors = codes "PROCESSORS"
text_of Timer = codes "TIMER"
text_of Limits = codes "LIMITS"
text_of DefClass = codes "DEF_CLASS"
text_of Class = codes "CLASS"
text_of (Create Task) = codes "CRE_TSK"
text_of (Create Semaphore) = codes "CRE_SEM"
text_of (Create Eventflag) = codes "CRE_FLG"
text_of (Create DataQueue) = codes "CRE_DTQ"
text_of (Create Pool) = codes "CRE_MPF"
text_of (Create Cyclic) = codes "CRE_CYC"
text_of (Create Alarm) = codes "CRE_ALM"
text_of (Create SpinLock) = codes "CRE_SPN"

-- the parts that follow it
abbrev pub parts_of : StatementName → List Part
parts_of Include = table.INCLUDE
parts_of Processors = table.PROCESSORS
parts_of Timer = table.TIMER
parts_of Limits = table.LIMITS
parts_of DefClass = table.DEF_CLASS
parts_of Class = table.CLASS
parts_of (Create Task) = table.TASK
parts_of (Create Semaphore) = table.SEMAPHORE
parts_of (Create Eventflag) = table.EVENTFLAG
parts_of (Create DataQueue) = table.DATA_QUEUE
parts_of (Create Pool) = table.POOL
parts_of (Create Cyclic) = table.CYCLIC
parts_of (Create Alarm) = table.ALARM
parts_of (Create SpinLock) = table.SPIN_LOCK

-- the attributes that a statement allows which creates such an object
abbrev pub allowed_of : ObjectKind → List Attribute
allowed_of Task = table.STARTED_TASK
allowed_of Semaphore = table.ORDERED
allowed_of Eventflag = table.FLAGGED
allowed_of DataQueue = table.ORDERED
allowed_of Pool = table.ORDERED
allowed_of Cyclic = table.STARTED_CYCLIC
allowed_of Alarm = table.PLAIN
allowed_of SpinLock = table.PLAIN

abbrev pub from_to : ℕ → ℕ → Option Range
from_to least most = Some (record { least = least; most = most })

-- any number: what is more than this counts as this
abbrev pub any_number : Option Range
any_number = from_to 0 (2 ^ 64 - 1)

-- the range of the first number of a statement that has one, on so many processors and with so many priorities
abbrev pub first_range : StatementName → ℕ → ℕ → Option Range
first_range Processors processors priorities = from_to 1 8
first_range Timer processors priorities = from_to 1 processors
first_range Limits processors priorities = from_to 1 255
first_range DefClass processors priorities = any_number
first_range (Create Task) processors priorities = from_to 1 priorities
first_range (Create Semaphore) processors priorities = any_number
first_range (Create Eventflag) processors priorities = from_to 0 4294967295
first_range (Create DataQueue) processors priorities = from_to 0 1024
first_range (Create Pool) processors priorities = from_to 1 64
first_range (Create Cyclic) processors priorities = from_to 1 2147483647
first_range _ processors priorities = None

-- the range of the second number of a statement that has one
abbrev pub second_range : StatementName → Option Range
second_range Limits = from_to 16 32
second_range (Create Semaphore) = from_to 1 65535
second_range (Create Cyclic) = from_to 0 2147483647
second_range _ = None

-- the statement of a word
unfoldable pub statement_of : List ℕ → Option StatementName
statement_of word = find (λ name. bytes_eq (text_of name) word) table.STATEMENT_NAMES
