-- The listing of a configuration: a line for each thing that it says.
use Rattle.std.specs.Prelude.{ℕ, zero, suc, ◌+◌, List, [], ◌∷◌, ◌++◌, length, codes, decimal}
use Rattle.fmp_codes.specs.declared.kinds.ObjectKind.{ObjectKind}
use Rattle.fmp_codes.specs.declared.kinds.ObjectKind.TheVariants.{Task, Semaphore, Eventflag, DataQueue, Pool, Cyclic, Alarm, SpinLock}
use Rattle.fmp_setup.specs.Setup.{Setup}
use Rattle.fmp_setup.specs.declared.setup.Limits.{Limits}
use Rattle.fmp_setup.specs.declared.setup.Timer.{Timer}
use Rattle.fmp_setup.specs.declared.setup.Timer.TheVariants as timers
use Rattle.fmp_trace.specs.Values.{named}
use Rattle.fmp_run_list.specs.Listing.Classes.{class_lines, processor_text}
use Rattle.fmp_run_list.specs.Listing.Fields.{field, fields}
use Rattle.fmp_run_list.specs.Listing.Functions.{functions_from}
use Rattle.fmp_run_list.specs.declared.listing.listing.TheConstants.{KINDS}

abbrev pub word : ObjectKind → List ℕ
word Task = codes "task"
word Semaphore = codes "sem"
word Eventflag = codes "flg"
word DataQueue = codes "dtq"
word Pool = codes "mpf"
word Cyclic = codes "cyc"
word Alarm = codes "alm"
word SpinLock = codes "spn"

module _ (c : Setup) where
  abbrev pub count : ObjectKind → ℕ
  count Task = length c.tasks
  count Semaphore = length c.semaphores
  count Eventflag = length c.eventflags
  count DataQueue = length c.data_queues
  count Pool = length c.pools
  count Cyclic = length c.cyclics
  count Alarm = length c.alarms
  count SpinLock = c.spin_locks

-- the object at a place: its kind, its number and its name
unfoldable pub object_head : Setup → ObjectKind → ℕ → List ℕ
object_head c kind i = word kind ++ codes " " ++ decimal (i + 1) ++ codes " " ++ named c.names kind (i + 1)

-- and its fields
unfoldable pub object_line : Setup → ObjectKind → ℕ → List ℕ
object_line c kind i = object_head c kind i ++ fields c kind i ++ codes "\n"

-- those of the first n places
unfoldable pub objects_to : Setup → ObjectKind → ℕ → List ℕ
objects_to c kind zero = []
objects_to c kind (suc i) = objects_to c kind i ++ object_line c kind i

-- those of some kinds
abbrev pub objects_over : Setup → List ObjectKind → List ℕ
objects_over c [] = []
objects_over c (kind ∷ kinds) = objects_to c kind (count c kind) ++ objects_over c kinds

unfoldable pub processors_line : ℕ → List ℕ
processors_line n = codes "processors " ++ decimal n ++ codes "\n"

-- the ticks of each processor count for itself, or those of one for all
abbrev pub timer_text : Timer → List ℕ
timer_text timers.Local = codes " local"
timer_text (timers.Global master) = codes " global" ++ processor_text master.number

unfoldable pub timer_line : Timer → List ℕ
timer_line timer = codes "timer" ++ timer_text timer ++ codes "\n"

unfoldable pub limits_line : Limits → List ℕ
limits_line limits = codes "limits" ++ field (codes "wupcnt") (decimal limits.wakeups) ++ field (codes "pri") (decimal limits.priorities) ++ codes "\n"

unfoldable pub listing_of : Setup → List ℕ
listing_of c =
    processors_line c.processors
    ++ timer_line c.timer
    ++ limits_line c.limits
    ++ class_lines c.class_names c.classes
    ++ objects_over c KINDS.now
    ++ functions_from 1 c.names.functions
