-- Faults, and how their kinds are printed.
use Rattle.std.specs.Prelude.{ℕ, Bool, true, false, List, [], codes}
use Rattle.fmp_config_statements.specs.declared.fault.ConfigKind.{ConfigKind}
use Rattle.fmp_config_statements.specs.declared.fault.ConfigKind.TheVariants.{Syntax, CutShort, Unsupported, OutsideClass, UnknownClass, NameTaken, OutOfRange}
use Rattle.fmp_config_statements.specs.declared.fault.ConfigKind.TheVariants.{BadAttribute, TooMany, NoProcessors, BadClass, Memory, ForeignHandler}
use Rattle.fmp_config_statements.specs.Words.{Word}

-- a fault: its kind, its line, and the bytes of the token at fault, none where no token is; a mark says that it is the name of a directive
pub record Fault : Type 0 where
  pub kind : ConfigKind
  pub line : ℕ
  pub marked : Bool
  pub word : List ℕ

-- a fault's number
abbrev pub code_of : ConfigKind → List ℕ
code_of Syntax = codes "F1"
code_of CutShort = codes "F2"
code_of Unsupported = codes "F3"
code_of OutsideClass = codes "F4"
code_of UnknownClass = codes "F5"
code_of NameTaken = codes "F6"
code_of OutOfRange = codes "F7"
code_of BadAttribute = codes "F8"
code_of TooMany = codes "F9"
code_of NoProcessors = codes "F10"
code_of BadClass = codes "F11"
code_of Memory = codes "F12"
code_of ForeignHandler = codes "F13"

-- a fault in words
abbrev pub words_of : ConfigKind → List ℕ
words_of Syntax = codes "syntax"
words_of CutShort = codes "cut short"
words_of Unsupported = codes "unsupported API"
words_of OutsideClass = codes "outside a class"
words_of UnknownClass = codes "unknown class"
words_of NameTaken = codes "name taken"
words_of OutOfRange = codes "value out of range"
words_of BadAttribute = codes "attribute not allowed"
words_of TooMany = codes "too many"
words_of NoProcessors = codes "no PROCESSORS line"
words_of BadClass = codes "bad class"
words_of Memory = codes "want of memory"
words_of ForeignHandler = codes "handler outside the time master"

-- a fault of a word, in the word's line
abbrev pub fault_at : ConfigKind → Word → Fault
fault_at kind word = record { kind = kind; line = word.line; marked = false; word = word.text }

-- a fault of a word, in the line of its statement or directive
abbrev pub fault_in : ConfigKind → ℕ → Word → Fault
fault_in kind line word = record { kind = kind; line = line; marked = false; word = word.text }

-- a fault in a line, of no word
abbrev pub fault_of_line : ConfigKind → ℕ → Fault
fault_of_line kind line = record { kind = kind; line = line; marked = false; word = [] }

-- a directive of another name than those that are read
abbrev pub unknown_directive : ℕ → List ℕ → Fault
unknown_directive line name = record { kind = Unsupported; line = line; marked = true; word = name }
