-- A line that is told of a text, and what the machine plays before it.
use Rattle.std.specs.Prelude.{◌≡◌, ℕ, ◌-◌, ◌≤◌, List, Option, length, option_map, slice_get}
use Rattle.fmp_codes.specs.declared.records.Event.{Event}
use Rattle.fmp_rules.specs.Arrivals.{State, numbered}
use Rattle.fmp_rules.specs.Boot.{booted}
use Rattle.fmp_rules.specs.Step.{replay}
use Rattle.fmp_setup.specs.Setup.{Setup}
use Rattle.fmp_show_state.specs.States.{state_text}
use Rattle.fmp_text.specs.Limits.{most_bytes, most_events}
use Rattle.fmp_trace_orders.specs.Playing.{line_from}
use Rattle.fmp_run_partial.specs.Playing.{played}
use Rattle.fmp_run_partial.specs.Showing.{diff_lines, pair_of, up_to_line}
use Rattle.fmp_run_partial.specs.declared.telling.Differing.{Differing}
use Rattle.fmp_run_partial.specs.declared.telling.Told.{Told}

-- the line as it stands, if there is such a line
abbrev pub line_told : List ℕ → Told → Option (List ℕ)
line_told text told = option_map (line_from text) told.start

-- the machine before it
abbrev pub state_told : Setup → Told → State
state_told c told = replay numbered (booted c) told.before.items

-- line k of these lines is told, after those before it as they stand or after an order of lines
pub record IsTold (text : List ℕ) (lines : List (List ℕ)) (events : List Event) (order : Option (List ℕ)) (k : ℕ) (told : Told) : Type 0 where
  pub number : told.number ≡ k
  pub line : line_told text told ≡ slice_get lines (k - 1)
  pub event : told.event ≡ slice_get events (k - 1)
  pub before : told.before.items ≡ played events (k - 1) order

-- no more is played before it than a text may have lines, and its text is no longer than it may be
pub record IsWithin (text : List ℕ) (told : Told) : Type 0 where
  pub short : length text ≤ most_bytes
  pub few : length told.before.items ≤ most_events

-- the machine before the line, and both lines: the line, and the machine's own
abbrev pub pair_told : Setup → List ℕ → Told → List ℕ
pair_told c text told = pair_of c.names told.number (state_told c told) (line_told text told) told.event

pub record Differs (c : Setup) (text : List ℕ) (told : Told) (d : Differing) : Type 0 where
  pub state : d.state.items ≡ state_text c.names (state_told c told)
  pub pair : d.pair.items ≡ pair_told c text told

-- each line of the text that differs, or the line that is told, as a diff has them below its head
abbrev pub lines_told : Setup → List ℕ → Option (List ℕ) → Told → List ℕ
lines_told c text order told = diff_lines c text order told.number (state_told c told) (line_told text told) told.event

-- the machine's own lines up to the line
abbrev pub up_to_told : Setup → List ℕ → Told → List ℕ
up_to_told c text told = up_to_line c told.number told.before.items (line_told text told)
