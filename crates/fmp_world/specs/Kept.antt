-- What the types of a history and of a world keep.
use Rattle.std.specs.Prelude.{◌≡◌, ℕ, ◌+◌, ◌<◌, ◌≤◌, ◌^◌, List, [], ◌∷◌, ◌++◌, length, slice_index, ◌⊎◌}
use Rattle.std.specs.Global.{Vec}
use Rattle.std.specs.Vec.{vec_capacity}
use Rattle.fmp_codes.specs.declared.records.Record.{Record}
use Rattle.fmp_text_scripts.specs.Scripts.{Steps}
use Rattle.fmp_setup.specs.Setup.{Setup}
use Rattle.fmp_setup.specs.Valid.{IsValid}
use Rattle.fmp_rules.specs.World.{World}
use Rattle.fmp_kernel_order.specs.Queues.{Queues}
use Rattle.fmp_law_lists.specs.Stands.{Stands}
use Rattle.fmp_world.specs.declared.history.Move.{Move}
use Rattle.fmp_smp_histories.specs.Histories.{IsRunOf, state_after}
use Rattle.fmp_smp_histories.specs.Counted.{TasksAre, HandlersAre}
use Rattle.fmp_smp_histories.specs.Scripted.{Scripted}
use Rattle.fmp_world.specs.Views.{History}

-- the history is a run of the machine, the kernel stands for its end, and its scripts made it
pub record KeepsHistory (c : Setup) (scripts : List Steps) (k : World Queues) (tasks handlers : List ℕ) (h : List Record) : Type 0 where
  pub valid : IsValid c
  pub run : IsRunOf c h
  pub stands : Stands k (state_after c h)
  pub tasks_placed : TasksAre c scripts tasks h
  pub handlers_placed : HandlersAre c scripts handlers h
  pub scripted : Scripted c scripts h

-- there is room for the rest of the moves, and the positions have their places
pub record IsSized (turns : ℕ) (tasks handlers : List ℕ) (moves : Vec Move) : Type 0 where
  pub within : length moves.items ≤ turns
  pub room : turns ≤ vec_capacity moves
  pub few : turns ≤ 2 ^ 31
  pub task_places : length tasks ≡ 64
  pub handler_places : length handlers ≡ 8

-- what is known of every history
pub record IsKnown (w : History) : Type 0 where
  pub valid : IsValid w.config
  pub run : IsRunOf w.config w.records
  pub scripted : Scripted w.config w.scripts w.records
  pub within : length w.records ≤ w.turns

-- the record is the last of the history, if that has one
abbrev pub IsLast : List Record → Record → Type 0
IsLast h last = (h ≡ []) ⊎ ((before : List Record) × (h ≡ before ++ last ∷ []))
