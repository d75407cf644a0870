-- What a reader returns, beside what reading gives, and how it is told.
use Rattle.std.specs.Prelude.{◌≡◌, ℕ, ◌⊎◌, Bool, List, [], ◌∷◌, ◌++◌, length, nat_le, if◌then◌else◌, Result, Ok, Err, codes, decimal}
use Rattle.std.specs.Str.{is_utf8}
use Rattle.fmp_bytes.specs.Bytes.{is_identifier, number_sign}
use Rattle.fmp_config_statements.specs.declared.fault.ConfigKind.TheVariants.{Memory}
use Rattle.fmp_config_statements.specs.declared.fault.ReadError.{ReadError}
use Rattle.fmp_config_statements.specs.declared.fault.ReadError.TheVariants as errors
use Rattle.fmp_config_statements.specs.Faults.{Fault, code_of, words_of}
use Rattle.fmp_config.specs.declared.fault.ConfigFault.{ConfigFault}
use Rattle.fmp_config.specs.Reading.{config_in}

-- the name of a directive has its `#` before it
abbrev pub spelled : Bool → List ℕ → List ℕ
spelled marked text = if marked then number_sign ∷ text else text

-- a word of at most 64 bytes, or none
abbrev pub fitting : Bool → List ℕ → List ℕ
fitting marked text = if nat_le (length (spelled marked text)) 64 then spelled marked text else []

-- bytes as a word: an identifier of at most 64 bytes, or none
abbrev pub shown : Bool → List ℕ → List ℕ
shown marked text = if is_identifier text then (if is_utf8 text then fitting marked text else []) else []

-- a fault that is told has the kind, the line and the word
pub record IsReported (report : ConfigFault) (fault : Fault) : Type 0 where
  pub kind : report.kind ≡ fault.kind
  pub line : report.line ≡ fault.line
  pub word : report.word.bytes ≡ shown fault.marked fault.word

-- want of memory, which has no line and no word
abbrev pub IsMemory : ConfigFault → Type 0
IsMemory report = (report.kind ≡ Memory) × (report.line ≡ 0) × (report.word.bytes ≡ [])

abbrev pub Tells : ConfigFault → ReadError → Type 0
Tells report errors.Memory = IsMemory report
Tells report (errors.Fault fault) = IsReported report fault

-- the fault that reading gives
abbrev pub FaultIs : {Y : Type 0} → ConfigFault → Result Y Fault → Type 0
FaultIs report read = (fault : Fault) × (read ≡ Err fault) × IsReported report fault

-- what a reader returned is what reading gives, or memory ran out
abbrev pub GivesOrFails : {Y : Type 0} → Result Y ConfigFault → Result Y Fault → Type 0
GivesOrFails (Ok y) read = read ≡ Ok y
GivesOrFails (Err e) read = FaultIs e read ⊎ IsMemory e

-- the first fault of a text, or want of memory
abbrev pub IsFirstFault : List ℕ → ConfigFault → Type 0
IsFirstFault text report = FaultIs report (config_in text) ⊎ IsMemory report

-- the word at fault after a blank, where there is one
abbrev pub with_blank : List ℕ → List ℕ
with_blank [] = []
with_blank (c ∷ cs) = codes " " ++ c ∷ cs

-- a fault as it is told to a user
abbrev pub text_of : ConfigFault → List ℕ
text_of fault =
    codes "line " ++ decimal fault.line ++ codes ": " ++ code_of fault.kind ++ codes " " ++ words_of fault.kind ++ with_blank fault.word.bytes
