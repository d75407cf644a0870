-- Which texts partly print which records, and the first fault of a text that partly prints none.
use Rattle.std.specs.Prelude.{◌≡◌, ℕ, ◌+◌, ◌<◌, ◌≤◌, ◌⊎◌, true, false, List, [], ◌∷◌, ◌++◌, length, Option}
use Rattle.std.specs.List.{list_all}
use Rattle.fmp_bytes.specs.declared.classes.Class.TheVariants.{Printed}
use Rattle.fmp_bytes.specs.Bytes.{is_of, line_feed}
use Rattle.fmp_codes.specs.declared.records.Record.{Record}
use Rattle.fmp_text.specs.Limits.{most_bytes, most_events}
use Rattle.fmp_text.specs.declared.fault.TextFault.{TextFault}
use Rattle.fmp_text.specs.declared.fault.TextKind.{TextKind}
use Rattle.fmp_text.specs.declared.fault.TextKind.TheVariants.{BadByte, BadWord, CutShort, TooMany}
use Rattle.fmp_names.specs.Names.{NameLists}
use Rattle.fmp_trace.specs.Fits.{FitsNames}
use Rattle.fmp_trace.specs.Prints.{IsUnended}
use Rattle.fmp_trace_partial.specs.Partial.{bounded_text, IsBound}
use Rattle.fmp_trace_partial.specs.declared.kept.Kept.{Kept}

-- line n, without its line feed, is what is printed of the record, where some parts may be left out, and then its bound, if it has one
pub record PartlyPrints (names : NameLists) (n : ℕ) (line : List ℕ) (r : Record) : Type 0 where
  pub kept : Kept
  pub bound : Option ℕ
  pub printed : line ≡ bounded_text names n kept bound r
  pub fits : FitsNames names r
  pub is_bound : IsBound n bound

-- a text is this line and the rest
pub record BeginsWith (text line rest : List ℕ) : Type 0 where
  pub parts : text ≡ line ++ (line_feed ∷ rest)
  pub unended : IsUnended line

-- the lines of the text, from line n on, partly print these records
abbrev pub PartlyPrintsFrom : NameLists → ℕ → List ℕ → List Record → Type 0
PartlyPrintsFrom names n text [] = text ≡ []
PartlyPrintsFrom names n text (r ∷ rs) =
    (line : List ℕ) × (rest : List ℕ) × BeginsWith text line rest × PartlyPrints names n line r × PartlyPrintsFrom names (n + 1) rest rs

-- the same of a whole text, within the limits of texts
pub record PartlyPrintsWithin (names : NameLists) (text : List ℕ) (records : List Record) : Type 0 where
  pub prints : PartlyPrintsFrom names 1 text records
  pub few : length records ≤ most_events
  pub short : length text ≤ most_bytes

-- what is wrong with line n, which has a line feed
abbrev pub LineFault : NameLists → ℕ → List ℕ → TextKind → Type 0
LineFault names n line BadByte = list_all (is_of Printed) line ≡ false
LineFault names n line BadWord = (list_all (is_of Printed) line ≡ true) × ((r : Record) → PartlyPrints names n line r → ⊥)
LineFault names n line TooMany = (most_events < n) × ((r : Record) × PartlyPrints names n line r)
LineFault names n line _ = ⊥

-- what is wrong with the first line of a text, which is line n
abbrev pub FaultAt : NameLists → ℕ → List ℕ → TextKind → Type 0
FaultAt names n text CutShort = (0 < length text) × IsUnended text
FaultAt names n text kind = (line : List ℕ) × (rest : List ℕ) × BeginsWith text line rest × LineFault names n line kind

-- a line of the text is at fault, and those before it partly print records
pub record FaultAfter (names : NameLists) (text : List ℕ) (fault : TextFault) : Type 0 where
  pub before : List Record
  pub lines : List ℕ
  pub rest : List ℕ
  pub short : length text ≤ most_bytes
  pub parts : text ≡ lines ++ rest
  pub prints : PartlyPrintsFrom names 1 lines before
  pub few : length before ≤ most_events
  pub line : fault.line ≡ length before + 1
  pub here : FaultAt names (length before + 1) rest fault.kind

-- the text is too long, or else the first line at fault has this fault
abbrev pub FirstFault : NameLists → List ℕ → TextFault → Type 0
FirstFault names text fault = ((most_bytes < length text) × (fault ≡ record { kind = TooMany; line = 0 })) ⊎ FaultAfter names text fault
