-- What a run writes that tells the state after each event, too, or what of it or of some things changed.
use Rattle.std.specs.Prelude.{ℕ, ◌+◌, List, [], ◌∷◌, ◌++◌, map}
use Rattle.std.specs.List.{flat_map}
use Rattle.fmp_codes.specs.declared.records.Event.{Event}
use Rattle.fmp_codes.specs.declared.records.Record.{Record}
use Rattle.fmp_names.specs.Names.{NameLists}
use Rattle.fmp_setup.specs.Setup.{Setup}
use Rattle.fmp_rules.specs.Boot.{booted}
use Rattle.fmp_rules.specs.Arrivals.{State, numbered}
use Rattle.fmp_rules.specs.Step.{step}
use Rattle.fmp_trace.specs.Lines.{line_text}
use Rattle.fmp_show_changes.specs.Changes.{changes_text}
use Rattle.fmp_show_changes.specs.Life.Lives.{renewed, report_since}
use Rattle.fmp_show_state.specs.States.{state_lines, state_text}
use Rattle.fmp_run_stream.specs.declared.stream.Detail.{Detail}
use Rattle.fmp_run_stream.specs.declared.stream.Detail.TheVariants as detail
use Rattle.fmp_run_stream.specs.Lives.{life_since, with_changes}
use Rattle.fmp_run_stream.specs.Runs.{Writing, trace_of}

-- what is written of the state at boot
abbrev pub boot_text : Detail → NameLists → State → List ℕ
boot_text detail.Line lists m = []
boot_text detail.State lists m = state_text lists m
boot_text (detail.Changes lines) lists m = state_text lists m
boot_text (detail.Life seen) lists m = flat_map (report_since lists m) seen

-- what is written of an event that led to this state, by its line
abbrev pub finished : Detail → NameLists → List ℕ → State → List ℕ
finished detail.Line lists line m = line
finished detail.State lists line m = line ++ state_text lists m
finished (detail.Changes lines) lists line m = line ++ changes_text lines (state_lines numbered lists m)
finished (detail.Life seen) lists line m = with_changes line (flat_map (report_since lists m) seen)

-- what is written of an event in line n, by what was done
abbrev pub entry_text : Detail → NameLists → ℕ → State × Record → List ℕ
entry_text d lists n did = finished d lists (line_text lists n did.1) did.0

-- what is kept in mind of what was told of a state
abbrev pub report_in : Detail → NameLists → State → Detail
report_in detail.Line lists m = detail.Line
report_in detail.State lists m = detail.State
report_in (detail.Changes lines) lists m = detail.Changes (state_lines numbered lists m)
report_in (detail.Life seen) lists m = detail.Life (map (renewed lists m) seen)

-- the lines of the events from line n on, each with the state that its event led to
abbrev pub states_from : NameLists → ℕ → State → List Event → List ℕ
states_from lists n m [] = []
states_from lists n m (e ∷ es) =
    (line_text lists n (step numbered m e).1 ++ state_text lists (step numbered m e).0) ++ states_from lists (n + 1) (step numbered m e).0 es

-- the state at boot, and the trace of what a machine answers to events, with the states that these lead to
unfoldable pub states_of : Setup → List Event → List ℕ
states_of config events = state_text config.names (booted config) ++ states_from config.names 1 (booted config) events

-- what of the state changed from the one to the other
abbrev pub changes_between : NameLists → State → State → List ℕ
changes_between lists before after = changes_text (state_lines numbered lists before) (state_lines numbered lists after)

-- the lines of the events from line n on, each with what of the state it changed
abbrev pub changes_from : NameLists → ℕ → State → List Event → List ℕ
changes_from lists n m [] = []
changes_from lists n m (e ∷ es) =
    (line_text lists n (step numbered m e).1 ++ changes_between lists m (step numbered m e).0) ++ changes_from lists (n + 1) (step numbered m e).0 es

-- the state at boot, and the trace of what a machine answers to events, with what of the state each of these changes
unfoldable pub changes_of : Setup → List Event → List ℕ
changes_of config events = state_text config.names (booted config) ++ changes_from config.names 1 (booted config) events

-- how a run writes that tells so much
abbrev pub detail_of : Detail → Writing
detail_of detail.Line = trace_of
detail_of detail.State = states_of
detail_of (detail.Changes lines) = changes_of
detail_of (detail.Life seen) = life_since seen
