-- Which texts print which records, and the first fault of a text that prints none.
use Rattle.std.specs.Prelude.{◌≡◌, ℕ, ◌+◌, ◌<◌, ◌≤◌, ◌⊎◌, true, false, not, ◌==◌, List, ◌∷◌, ◌++◌, length}
use Rattle.std.specs.List.{list_all}
use Rattle.fmp_bytes.specs.declared.classes.Class.TheVariants.{Printed}
use Rattle.fmp_bytes.specs.Bytes.{is_of, line_feed}
use Rattle.fmp_codes.specs.declared.records.Record.{Record}
use Rattle.fmp_text.specs.Limits.{most_bytes, most_events}
use Rattle.fmp_text.specs.declared.fault.TextFault.{TextFault}
use Rattle.fmp_text.specs.declared.fault.TextKind.{TextKind}
use Rattle.fmp_text.specs.declared.fault.TextKind.TheVariants.{BadByte, BadWord, CutShort, TooMany}
use Rattle.fmp_names.specs.Names.{NameLists}
use Rattle.fmp_trace.specs.Lines.{core_text, lines_from}
use Rattle.fmp_trace.specs.Fits.{FitsNames, AllFit}

-- line n, without its line feed, prints the record
abbrev pub PrintsLine : NameLists → ℕ → List ℕ → Record → Type 0
PrintsLine names n line r = (line ≡ core_text names n r) × FitsNames names r

-- the text prints these records
pub record Prints (names : NameLists) (text : List ℕ) (records : List Record) : Type 0 where
  pub lines : text ≡ lines_from names 1 records
  pub fit : AllFit names records

-- the same, within the limits of texts
pub record PrintsWithin (names : NameLists) (text : List ℕ) (records : List Record) : Type 0 where
  pub prints : Prints names text records
  pub few : length records ≤ most_events
  pub short : length text ≤ most_bytes

-- the text has no line feed
abbrev pub IsUnended : List ℕ → Type 0
IsUnended text = list_all (λ b. not (b == line_feed)) text ≡ true

-- what is wrong with line n, which has a line feed
abbrev pub LineFault : NameLists → ℕ → List ℕ → TextKind → Type 0
LineFault names n line BadByte = list_all (is_of Printed) line ≡ false
LineFault names n line BadWord = (list_all (is_of Printed) line ≡ true) × ((r : Record) → PrintsLine names n line r → ⊥)
LineFault names n line TooMany = (most_events < n) × ((r : Record) × PrintsLine names n line r)
LineFault names n line _ = ⊥

-- what is wrong with the first line of a text, which is line n
abbrev pub FaultAt : NameLists → ℕ → List ℕ → TextKind → Type 0
FaultAt names n text CutShort = (0 < length text) × IsUnended text
FaultAt names n text kind = (line : List ℕ) × (rest : List ℕ) × (text ≡ line ++ (line_feed ∷ rest)) × IsUnended line × LineFault names n line kind

-- a line of the text is at fault, and those before it print records
pub record FaultAfter (names : NameLists) (text : List ℕ) (fault : TextFault) : Type 0 where
  pub before : List Record
  pub rest : List ℕ
  pub short : length text ≤ most_bytes
  pub parts : text ≡ lines_from names 1 before ++ rest
  pub fit : AllFit names before
  pub few : length before ≤ most_events
  pub line : fault.line ≡ length before + 1
  pub here : FaultAt names (length before + 1) rest fault.kind

-- the text is too long, or else the first line at fault has this fault
abbrev pub FirstFault : NameLists → List ℕ → TextFault → Type 0
FirstFault names text fault = ((most_bytes < length text) × (fault ≡ record { kind = TooMany; line = 0 })) ⊎ FaultAfter names text fault
