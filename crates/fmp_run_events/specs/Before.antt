-- The state of the machine before a line of a trace.
use Rattle.std.specs.Prelude.{ℕ, zero, suc, ◌-◌, List, [], ◌∷◌, map, take}
use Rattle.fmp_codes.specs.declared.records.Record.{Record}
use Rattle.fmp_setup.specs.Setup.{Setup}
use Rattle.fmp_rules.specs.Arrivals.{State, numbered}
use Rattle.fmp_rules.specs.Boot.{booted}
use Rattle.fmp_rules.specs.Step.{replay}
use Rattle.fmp_names.specs.Names.{NameLists}
use Rattle.fmp_trace.specs.Heads.{event_of}
use Rattle.fmp_trace_check.specs.Walking.{following}
use Rattle.fmp_show_state.specs.States.{state_text}

-- what is told of the state before line n of a trace of these records: the one after the events of those before it
abbrev pub state_before : Setup → List Record → ℕ → List ℕ
state_before c records n = state_text c.names (replay numbered (booted c) (map (λ r. r.event) (take (n - 1) records)))

-- the state after the events of so many lines, as the code goes over them. The last line has no line feed
unfoldable pub after_lines : NameLists → ℕ → State → List (List ℕ) → State
after_lines names zero w lines = w
after_lines names (suc k) w [] = w
after_lines names (suc k) w (last ∷ []) = w
after_lines names (suc k) w (line ∷ next ∷ lines) = after_lines names k (following w (event_of names line)) (next ∷ lines)
