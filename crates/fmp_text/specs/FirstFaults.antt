-- Where the first fault of an event text stands: what the lines before it spell, and which texts have the same fault.
use Rattle.std.specs.Prelude.{◌≡◌, ◌<◌, ◌≤◌, ℕ, ◌+◌, ◌⊎◌, ◌==◌, not, true, List, [], ◌∷◌, ◌++◌, length, Some}
use Rattle.std.specs.List.{list_all}
use Rattle.fmp_bytes.specs.Bytes.{line_feed}
use Rattle.fmp_codes.specs.declared.records.Event.{Event}
use Rattle.fmp_names.specs.Names.{NameLists}
use Rattle.fmp_text.specs.Limits.{most_bytes, most_events}
use Rattle.fmp_text.specs.declared.fault.TextFault.{TextFault}
use Rattle.fmp_text.specs.declared.fault.TextKind.{TextKind}
use Rattle.fmp_text.specs.declared.fault.TextKind.TheVariants.{CutShort, TooMany}
use Rattle.fmp_text.specs.EventFaults.{EventFault}
use Rattle.fmp_text.specs.Events.{reading_of}
use Rattle.fmp_text.specs.TextGrammar.{IsRest, SpellsOne, SpellsText}

-- whole lines, one after the other, each with its line feed
abbrev pub lines_text : List (List ℕ) → List ℕ
lines_text [] = []
lines_text (line ∷ lines) = line ++ (line_feed ∷ lines_text lines)

-- no line feed stands within a line
abbrev pub AreApart : List (List ℕ) → Type 0
AreApart lines = list_all (list_all (λ b. not (b == line_feed))) lines ≡ true

-- what is wrong with a line after these events: the first row of the table of faults that fits, or it spells one event more than a text may have
abbrev pub IsFaultOfLine : NameLists → List Event → List ℕ → TextKind → Type 0
IsFaultOfLine names events line kind =
    EventFault names line kind ⊎ ((kind ≡ TooMany) × (length events ≡ most_events) × ((event : Event) × SpellsOne names line event))

-- the fault stands in a whole line: the lines before it spell the events that were given, no text that goes on from this line spells any, and each that
-- does, within the limit, has this fault
pub record FaultInLine (names : NameLists) (text : List ℕ) (events : List Event) (fault : TextFault) : Type 0 where
  pub before : List (List ℕ)
  pub line : List ℕ
  pub rest : List ℕ
  pub parts : text ≡ lines_text before ++ (line ++ (line_feed ∷ rest))
  pub apart : AreApart (line ∷ before)
  pub number : fault.line ≡ length before + 1
  pub kind : IsFaultOfLine names events line fault.kind
  pub spelled : SpellsText names (lines_text before) events
  pub never : (more : List ℕ) (others : List Event) → SpellsText names (lines_text before ++ (line ++ (line_feed ∷ more))) others → ⊥
  pub report : (more : List ℕ) → length (lines_text before ++ (line ++ (line_feed ∷ more))) ≤ most_bytes
      → reading_of names (lines_text before ++ (line ++ (line_feed ∷ more))) ≡ record { events = events; fault = Some fault }

-- the text is cut short: its whole lines spell the events that were given, and what stands after them is neither blank nor a comment
pub record FaultAtEnd (names : NameLists) (text : List ℕ) (events : List Event) (fault : TextFault) : Type 0 where
  pub before : List (List ℕ)
  pub last : List ℕ
  pub parts : text ≡ lines_text before ++ last
  pub apart : AreApart (last ∷ before)
  pub is : fault ≡ record { kind = CutShort; line = length before + 1 }
  pub spelled : SpellsText names (lines_text before) events
  pub unended : IsRest last → ⊥

-- the text is too long, or its fault stands in a whole line or at its end
abbrev pub FirstFault : NameLists → List ℕ → List Event → TextFault → Type 0
FirstFault names text events fault =
    ((most_bytes < length text) × (events ≡ []) × (fault ≡ record { kind = TooMany; line = 0 }))
    ⊎ ((length text ≤ most_bytes) × (FaultInLine names text events fault ⊎ FaultAtEnd names text events fault))
