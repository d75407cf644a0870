-- What no event changes.
use Rattle.std.specs.Prelude.{ℕ, List, length}
use Rattle.fmp_setup.specs.declared.setup.Timer.{Timer}
use Rattle.fmp_setup.specs.declared.setup.Limits.{Limits}
use Rattle.fmp_setup.specs.declared.setup.DataQueueSetup.{DataQueueSetup}
use Rattle.fmp_rules.specs.World.{World}

-- the timer, the limits and the setup of the data queues, and how many there are of each thing
pub record Frame : Type 0 where
  pub timer : Timer
  pub limits : Limits
  pub data_queues : List DataQueueSetup
  pub tasks : ℕ
  pub waits_left : ℕ
  pub processors : ℕ
  pub due : ℕ
  pub semaphores : ℕ
  pub eventflags : ℕ
  pub contents : ℕ
  pub pools : ℕ
  pub cyclics : ℕ
  pub cyclics_left : ℕ
  pub alarms : ℕ
  pub alarms_left : ℕ
  pub holders : ℕ

abbrev pub frame : {Q : Type 0} → World Q → Frame
frame w = record {
  timer = w.timer;
  limits = w.limits;
  data_queues = w.data_queues;
  tasks = length w.tasks;
  waits_left = length w.waits_left;
  processors = length w.processors;
  due = length w.due;
  semaphores = length w.semaphores;
  eventflags = length w.eventflags;
  contents = length w.contents;
  pools = length w.pools;
  cyclics = length w.cyclics;
  cyclics_left = length w.cyclics_left;
  alarms = length w.alarms;
  alarms_left = length w.alarms_left;
  holders = length w.holders;
}
