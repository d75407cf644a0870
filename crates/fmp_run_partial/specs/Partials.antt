-- What a run that judges a partial trace reads and writes.
use Rattle.std.specs.Prelude.{◌≡◌, ◌<◌, ◌≤◌, ◌⊎◌, ℕ, ◌+◌, List, Option, Ok, length}
use Rattle.fmp_codes.specs.declared.records.Event.{Event}
use Rattle.fmp_run_texts.specs.Texts.{FaultOver, SaysConfig}
use Rattle.fmp_run_texts.specs.declared.fault.RunFault.{RunFault}
use Rattle.fmp_names.specs.Names.{NameLists}
use Rattle.fmp_setup.specs.Setup.{Setup}
use Rattle.fmp_text.specs.Events.{IsMemory}
use Rattle.fmp_text.specs.Limits.{most_bytes}
use Rattle.fmp_text.specs.declared.fault.TextFault.{TextFault}
use Rattle.fmp_text.specs.declared.fault.TextKind.TheVariants.{TooMany}
use Rattle.fmp_search_lines.specs.Crowds.{IsFirstCrowded}
use Rattle.fmp_search_lines.specs.Lasts.{last_at}
use Rattle.fmp_trace_orders.specs.Lines.{lasts_from}
use Rattle.fmp_trace_partial.specs.Saying.{said_in}
use Rattle.fmp_trace_partial.specs.declared.telling.Said.{Said}
use Rattle.fmp_run_partial.specs.Endings.{IsBody}
use Rattle.fmp_run_partial.specs.Verdicts.{JudgesText, PartlyPrintsAnswers}
use Rattle.fmp_run_partial.specs.declared.showing.PartialShown.{PartialShown}
use Rattle.fmp_run_partial.specs.declared.showing.Shown.{Shown}
use Rattle.fmp_trace_partial.specs.Partly.{FaultAfter}

-- the verdict on a partial trace, and what is written of it, by the answers of the one text's machine to the events of the other
pub record CheckedPartly (asked : PartialShown) (config_text trace_text : List ℕ) (shown : Shown) : Type 0 where
  pub config : Setup
  pub says : SaysConfig config_text config
  pub judges : JudgesText asked config trace_text shown

-- the trace is one of the machine's own of which parts may be left out, within the limits: the one text's machine answers to some
-- events so
pub record IsPartlyOwn (config_text trace_text : List ℕ) : Type 0 where
  pub config : Setup
  pub events : List Event
  pub says : SaysConfig config_text config
  pub prints : PartlyPrintsAnswers config trace_text events

-- the text is what the machine answers to some events, of which parts may be left out, within the limits
abbrev pub IsPartlyOfMachine : Setup → List ℕ → Type 0
IsPartlyOfMachine c text = (events : List Event) × PartlyPrintsAnswers c text events

-- a line before the last one that says at which line of its log the text ends, or of all lines, is the first at fault
pub record IsFaultOfBody (names : NameLists) (text : List ℕ) (fault : TextFault) : Type 0 where
  pub short : length text ≤ most_bytes
  pub body : List ℕ
  pub ends : Option ℕ
  pub is_body : IsBody text body ends
  pub here : FaultAfter names body fault

-- of lines that are not at fault this is the first at which more than 16 lines before it may still come after it
pub record IsOfOrders (names : NameLists) (body : List ℕ) (fault : TextFault) : Type 0 where
  pub said : List Said
  pub read : said_in names body ≡ Ok said
  pub line : ℕ
  pub crowded : IsFirstCrowded (last_at (lasts_from 0 said)) (length said) line
  pub is : fault ≡ record { kind = TooMany; line = line + 1 }

-- the same of the lines of a text
pub record IsCrowded (names : NameLists) (text : List ℕ) (fault : TextFault) : Type 0 where
  pub short : length text ≤ most_bytes
  pub body : List ℕ
  pub ends : Option ℕ
  pub is_body : IsBody text body ends
  pub at : IsOfOrders names body fault

-- the text is too long, or else its first line at fault has this fault, or else there is such a line
abbrev pub FirstFaultOfText : NameLists → List ℕ → TextFault → Type 0
FirstFaultOfText names text fault =
    ((most_bytes < length text) × (fault ≡ record { kind = TooMany; line = 0 })) ⊎ (IsFaultOfBody names text fault ⊎ IsCrowded names text fault)

-- a fault of the trace is the first one of its text, or want of memory
abbrev pub IsFirstOfPartial : NameLists → List ℕ → TextFault → Type 0
IsFirstOfPartial names text fault = FirstFaultOfText names text fault ⊎ IsMemory fault

-- the same, for the names of a right configuration
abbrev pub FirstPartialFault : List ℕ → List ℕ → RunFault → Type 0
FirstPartialFault = FaultOver (λ c. IsFirstOfPartial c.names)
