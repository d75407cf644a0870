-- How faults are printed.
use Rattle.std.specs.Prelude.{ℕ, List, ◌++◌, codes, decimal}
use Rattle.fmp_text.specs.declared.fault.TextFault.{TextFault}
use Rattle.fmp_text.specs.declared.fault.TextKind.{TextKind}
use Rattle.fmp_text.specs.declared.fault.TextKind.TheVariants.{BadByte, BadWord, UnknownName, WrongArguments, NumberOutOfRange, CutShort, TooMany, Memory}

-- a fault's number
abbrev pub code_of : TextKind → List ℕ
code_of BadByte = codes "E1"
code_of BadWord = codes "E2"
code_of UnknownName = codes "E3"
code_of WrongArguments = codes "E4"
code_of NumberOutOfRange = codes "E5"
code_of CutShort = codes "E6"
code_of TooMany = codes "E7"
code_of Memory = codes "E8"

-- a fault in words
abbrev pub words_of : TextKind → List ℕ
words_of BadByte = codes "bad byte"
words_of BadWord = codes "bad word"
words_of UnknownName = codes "unknown name"
words_of WrongArguments = codes "wrong arguments"
words_of NumberOutOfRange = codes "number out of range"
words_of CutShort = codes "cut short"
words_of TooMany = codes "too many"
words_of Memory = codes "want of memory"

-- a fault as it is told to a user
abbrev pub text_of : TextFault → List ℕ
text_of fault = codes "line " ++ decimal fault.line ++ codes ": " ++ code_of fault.kind ++ codes " " ++ words_of fault.kind
