-- Positions of scripts without ways: how many calls were made.
use Rattle.std.specs.Prelude.{◌≡◌, ℕ, ◌==◌, ◌&&◌, List, if◌then◌else◌}
use Rattle.std.specs.List.{fold}
use Rattle.fmp_codes.specs.Records.{processor_of}
use Rattle.fmp_codes.specs.declared.records.Record.{Record}
use Rattle.fmp_text_scripts.specs.Scripts.{Steps}
use Rattle.fmp_setup.specs.Setup.{Setup}
use Rattle.fmp_smp_histories.specs.Positions.{is_task, is_handler, is_made, past, ends_task, renews_handler, task_position, handler_position}

-- the calls of a task that did not spin, since it ended last
abbrev pub task_counted : ℕ → ℕ → Record → ℕ
task_counted n at r = if ends_task n r then 0 else past (is_task n r.runner && is_made r) at

unfoldable pub task_count : ℕ → List Record → ℕ
task_count n h = fold (task_counted n) 0 h

-- the calls of handlers on a processor that did not spin, since the last handler returned there or the last tick was taken there
abbrev pub handler_counted : ℕ → ℕ → Record → ℕ
handler_counted n at r = if renews_handler n r then 0 else past (((processor_of r.event).number == n && is_handler r.runner) && is_made r) at

unfoldable pub handler_count : ℕ → List Record → ℕ
handler_count n h = fold (handler_counted n) 0 h

-- the positions of scripts are these counts
pub record AreCounts (c : Setup) (scripts : List Steps) : Type 0 where
  pub tasks : (n : ℕ) (h : List Record) → task_position c scripts n h ≡ task_count n h
  pub handlers : (n : ℕ) (h : List Record) → handler_position c scripts n h ≡ handler_count n h
