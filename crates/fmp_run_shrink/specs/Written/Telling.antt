-- What is written of events: a line each, as docs/FORMATS.md has the form of a list of events. And what a reader of it gives.
use Rattle.std.specs.Prelude.{◌≡◌, ℕ, List, [], ◌∷◌, ◌++◌, codes, decimal}
use Rattle.fmp_codes.specs.Records.{processor_of}
use Rattle.fmp_codes.specs.declared.records.Event.{Event}
use Rattle.fmp_names.specs.Names.{NameLists}
use Rattle.fmp_text.specs.Events.{faultless, reading_by_line, reading_of}
use Rattle.fmp_text.specs.TextGrammar.{SpellsText}
use Rattle.fmp_trace.specs.Lines.{event_text}

unfoldable pub event_line : NameLists → Event → List ℕ
event_line names e = codes "P" ++ decimal (processor_of e).number ++ codes " " ++ event_text names e ++ codes "\n"

abbrev pub event_lines : NameLists → List Event → List ℕ
event_lines names [] = []
event_lines names (e ∷ es) = event_line names e ++ event_lines names es

-- A text is a list of these events. Whoever reads it gets them and no fault: as a whole text, and line by line as events are answered.
pub record IsReadBack (names : NameLists) (text : List ℕ) (es : List Event) : Type 0 where
  pub spells : SpellsText names text es
  pub whole : reading_of names text ≡ faultless es
  pub by_line : reading_by_line names text ≡ faultless es
