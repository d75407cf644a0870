-- Ticks that were taken, and positions as they are kept.
use Rattle.std.specs.Prelude.{◌≡◌, ℕ, ◌+◌, ◌<◌, Bool, ◌&&◌, List, slice_index}
use Rattle.std.specs.List.{count_by}
use Rattle.fmp_codes.specs.declared.records.Record.{Record}
use Rattle.fmp_codes.specs.Records.{is_taken}
use Rattle.fmp_text_scripts.specs.Scripts.{Steps}
use Rattle.fmp_setup.specs.Setup.{Setup}
use Rattle.fmp_smp_histories.specs.Positions.{is_tick_of, task_position, handler_position}

abbrev pub is_taken_tick : ℕ → Record → Bool
is_taken_tick n r = is_tick_of n r.event && is_taken r.answer

-- how many ticks the processor of this number has taken
abbrev pub taken : ℕ → List Record → ℕ
taken n h = count_by (is_taken_tick n) h

-- the positions of all tasks, and of the handlers on all processors, counted over the history
abbrev pub TasksAre : Setup → List Steps → List ℕ → List Record → Type 0
TasksAre c scripts ps h = (i : ℕ) → i < 64 → slice_index ps i ≡ task_position c scripts (i + 1) h

abbrev pub HandlersAre : Setup → List Steps → List ℕ → List Record → Type 0
HandlersAre c scripts ps h = (i : ℕ) → i < 8 → slice_index ps i ≡ handler_position c scripts (i + 1) h
