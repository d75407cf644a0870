-- What is read of a line leaves an end of it, and there is a place at fault exactly where the line is refused.
use Rattle.std.proofs.Common.{◌≡◌, ℕ, List, Option, Result, Ok, Err, refl, sym, ap}
use Rattle.std.specs.Prelude.{is_err, is_some}
use Rattle.std.proofs.lemmas.List.{append-nil}
use Rattle.fmp_codes.specs.declared.records.Event.{Event}
use Rattle.fmp_cli_hints.specs.Places.{event_place, walked}
use Rattle.fmp_names.specs.Names.{NameLists}
use Rattle.fmp_text.specs.declared.fault.TextKind.{TextKind}
use Rattle.fmp_text.specs.Lines.{line_event, without_return}
use Rattle.fmp_text.specs.Places.{Place, IsEnd}
use Rattle.fmp_text.specs.Places.{line_event as placed_line_event}
use Rattle.fmp_text.proofs.Ends.{places_within}
use Rattle.fmp_text.proofs.PlacedFaults.{fault_of, line_same}

pub event_within : (names : NameLists) (line : List ℕ) → IsEnd (event_place names line).rest (without_return line)
unfolding event_place
event_within names line = by (placed_line_event names line) refl
  where
    by : (read : Result (Option Event) Place) → placed_line_event names line ≡ read → IsEnd (walked read).rest (without_return line)
    by (Ok event) is = (without_return line, sym (append-nil (without_return line)))
    by (Err place) is = places_within names line place is

pub refused_there : (names : NameLists) (line : List ℕ) → is_some (event_place names line).wanted ≡ is_err (line_event names line)
unfolding event_place
refused_there names line = by (placed_line_event names line) (line_event names line) (line_same names line)
  where
    by : (read : Result (Option Event) Place) (said : Result (Option Event) TextKind) → fault_of read ≡ said → is_some (walked read).wanted ≡ is_err said
    by (Ok event) said same = ap (λ (r : Result (Option Event) TextKind). is_err r) same
    by (Err place) said same = ap (λ (r : Result (Option Event) TextKind). is_err r) same
