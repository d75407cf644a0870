-- believed: see docs/PROOF.md, "What has to be believed"
-- What a configuration says: lists in the order of the numbers, which begin at 1.
use Rattle.std.specs.Prelude.{◌≡◌, ℕ, ◌-◌, ◌==◌, Bool, true, false, List, [], slice_index_or, slice_set, replicate}
use Rattle.fmp_codes.specs.Numbers.{as_proc}
use Rattle.fmp_codes.specs.declared.numbers.Proc.{Proc}
use Rattle.fmp_names.specs.Names.{NameLists, no_names}
use Rattle.fmp_setup.specs.declared.setup.Class.{Class}
use Rattle.fmp_setup.specs.declared.setup.Order.TheVariants as order
use Rattle.fmp_setup.specs.declared.setup.Timer.{Timer}
use Rattle.fmp_setup.specs.declared.setup.Timer.TheVariants as timer
use Rattle.fmp_setup.specs.declared.setup.Limits.{Limits}
use Rattle.fmp_setup.specs.declared.setup.TaskSetup.{TaskSetup}
use Rattle.fmp_setup.specs.declared.setup.SemaphoreSetup.{SemaphoreSetup}
use Rattle.fmp_setup.specs.declared.setup.EventflagSetup.{EventflagSetup}
use Rattle.fmp_setup.specs.declared.setup.DataQueueSetup.{DataQueueSetup}
use Rattle.fmp_setup.specs.declared.setup.PoolSetup.{PoolSetup}
use Rattle.fmp_setup.specs.declared.setup.CyclicSetup.{CyclicSetup}
use Rattle.fmp_setup.specs.declared.setup.AlarmSetup.{AlarmSetup}

pub record Setup : Type 0 where
  pub processors : ℕ
  pub timer : Timer
  pub limits : Limits
  pub classes : List Class
  pub class_names : List (List ℕ)
  pub tasks : List TaskSetup
  pub semaphores : List SemaphoreSetup
  pub eventflags : List EventflagSetup
  pub data_queues : List DataQueueSetup
  pub pools : List PoolSetup
  pub cyclics : List CyclicSetup
  pub alarms : List AlarmSetup
  pub spin_locks : ℕ
  pub names : NameLists  -- of the objects and the functions, and the defined ones

-- the configuration of so many processors, these classes, tasks and names, without any other object
abbrev pub of_parts : ℕ → List Class → List (List ℕ) → List TaskSetup → NameLists → Setup
of_parts n classes class_names tasks names = record {
  processors = n;
  timer = timer.Local;
  limits = record { wakeups = 1; priorities = 16 };
  classes = classes;
  class_names = class_names;
  tasks = tasks;
  semaphores = [];
  eventflags = [];
  data_queues = [];
  pools = [];
  cyclics = [];
  alarms = [];
  spin_locks = 0;
  names = names;
}

-- the configuration of so many processors and these tasks, without any name
abbrev pub of_tasks : ℕ → List TaskSetup → Setup
of_tasks n tasks = of_parts n [] [] tasks (no_names n)

-- the class has this processor
abbrev pub has_member : Class → Proc → Bool
has_member c p = slice_index_or c.members (p.number - 1) false

-- the members of a class that has this processor alone
abbrev pub alone : Proc → List Bool
alone p = slice_set (replicate 8 false) (p.number - 1) true

-- handlers may be of this class: of any, or under a global timer of one that has the master alone
abbrev pub MayHandle : Timer → Class → Type 0
MayHandle timer.Local class = Unit {0}
MayHandle (timer.Global master) class = class.members ≡ alone master

-- ticks on p count: those of all processors, or under a global timer those of the master
abbrev pub has_time : Timer → Proc → Bool
has_time timer.Local p = true
has_time (timer.Global master) p = p.number == master.number

-- a tick on p counts for what is assigned to q
abbrev pub counts_for : Timer → Proc → Proc → Bool
counts_for timer.Local p q = q.number == p.number
counts_for (timer.Global master) p q = p.number == master.number

-- what stands where there is no class
abbrev pub no_class : Class
no_class = record { initial = as_proc 1; members = replicate 8 false }

-- what stands where there is no object of a kind
abbrev pub no_semaphore : SemaphoreSetup
no_semaphore = record { order = order.First; initial = 0; most = 1 }

abbrev pub no_eventflag : EventflagSetup
no_eventflag = record { order = order.First; many = false; clears = false; initial = 0 }

abbrev pub no_data_queue : DataQueueSetup
no_data_queue = record { order = order.First; capacity = 0 }

abbrev pub no_pool : PoolSetup
no_pool = record { order = order.First; blocks = 1 }

abbrev pub no_cyclic : CyclicSetup
no_cyclic = record { class = no_class; handler = 1; period = 1; phase = 0; starts = false }

abbrev pub no_alarm : AlarmSetup
no_alarm = record { class = no_class; handler = 1 }
