-- What stands after the number and the name of an object: the fields of its statement under their names.
use Rattle.std.specs.Prelude.{ℕ, Bool, if◌then◌else◌, unwrap_or, option_map, slice_get, List, [], ◌++◌, codes, decimal}
use Rattle.fmp_codes.specs.declared.kinds.ObjectKind.{ObjectKind}
use Rattle.fmp_codes.specs.declared.kinds.ObjectKind.TheVariants.{Task, Semaphore, Eventflag, DataQueue, Pool, Cyclic, Alarm, SpinLock}
use Rattle.fmp_setup.specs.Setup.{Setup}
use Rattle.fmp_setup.specs.declared.setup.Order.{Order}
use Rattle.fmp_setup.specs.declared.setup.Order.TheVariants.{First, Priority}
use Rattle.fmp_setup.specs.declared.setup.TaskSetup.{TaskSetup}
use Rattle.fmp_setup.specs.declared.setup.SemaphoreSetup.{SemaphoreSetup}
use Rattle.fmp_setup.specs.declared.setup.EventflagSetup.{EventflagSetup}
use Rattle.fmp_setup.specs.declared.setup.DataQueueSetup.{DataQueueSetup}
use Rattle.fmp_setup.specs.declared.setup.PoolSetup.{PoolSetup}
use Rattle.fmp_setup.specs.declared.setup.CyclicSetup.{CyclicSetup}
use Rattle.fmp_setup.specs.declared.setup.AlarmSetup.{AlarmSetup}
use Rattle.fmp_config_statements.specs.Attributes.{text_of}
use Rattle.fmp_config_statements.specs.declared.attributes.Attribute.{Attribute}
use Rattle.fmp_config_statements.specs.declared.attributes.Attribute.TheVariants as attributes
use Rattle.fmp_run_list.specs.Listing.Classes.{class_field}
use Rattle.fmp_run_list.specs.Listing.Functions.{function_name}

-- a word and a text, each after a blank
unfoldable pub field : List ℕ → List ℕ → List ℕ
field word text = codes " " ++ word ++ codes " " ++ text

-- whether a task or a cyclic handler is started at boot
abbrev pub activation : Bool → Attribute
activation starts = if starts then attributes.Activate else attributes.Null

abbrev pub start : Bool → Attribute
start starts = if starts then attributes.Start else attributes.Null

-- how tasks wait
abbrev pub order : Order → Attribute
order First = attributes.InOrder
order Priority = attributes.ByPriority

-- whether several may
abbrev pub waiters : Bool → Attribute
waiters many = if many then attributes.Many else attributes.Single

-- whether a release clears the eventflag
abbrev pub clear : Bool → List ℕ
clear clears = if clears then codes "|" ++ text_of attributes.Clear else []

unfoldable pub task_fields : Setup → TaskSetup → List ℕ
task_fields c t = class_field c t.class ++ field (codes "attr") (text_of (activation t.starts)) ++ field (codes "main") (function_name c t.main)
    ++ field (codes "itskpri") (decimal t.priority.number)

unfoldable pub semaphore_fields : SemaphoreSetup → List ℕ
semaphore_fields s = field (codes "attr") (text_of (order s.order)) ++ field (codes "isemcnt") (decimal s.initial) ++ field (codes "maxsem") (decimal s.most)

unfoldable pub eventflag_fields : EventflagSetup → List ℕ
eventflag_fields f = field (codes "attr") (text_of (order f.order)) ++ codes "|" ++ text_of (waiters f.many) ++ clear f.clears
    ++ field (codes "iflgptn") (decimal f.initial)

unfoldable pub data_queue_fields : DataQueueSetup → List ℕ
data_queue_fields d = field (codes "attr") (text_of (order d.order)) ++ field (codes "dtqcnt") (decimal d.capacity)

unfoldable pub pool_fields : PoolSetup → List ℕ
pool_fields m = field (codes "attr") (text_of (order m.order)) ++ field (codes "blkcnt") (decimal m.blocks)

unfoldable pub cyclic_fields : Setup → CyclicSetup → List ℕ
cyclic_fields c h = class_field c h.class ++ field (codes "attr") (text_of (start h.starts)) ++ field (codes "handler") (function_name c h.handler)
    ++ field (codes "cyctim") (decimal h.period) ++ field (codes "cycphs") (decimal h.phase)

unfoldable pub alarm_fields : Setup → AlarmSetup → List ℕ
alarm_fields c h = class_field c h.class ++ field (codes "handler") (function_name c h.handler)

-- of the object at this place of its kind
abbrev pub fields : Setup → ObjectKind → ℕ → List ℕ
fields c Task i = unwrap_or (option_map (task_fields c) (slice_get c.tasks i)) []
fields c Semaphore i = unwrap_or (option_map semaphore_fields (slice_get c.semaphores i)) []
fields c Eventflag i = unwrap_or (option_map eventflag_fields (slice_get c.eventflags i)) []
fields c DataQueue i = unwrap_or (option_map data_queue_fields (slice_get c.data_queues i)) []
fields c Pool i = unwrap_or (option_map pool_fields (slice_get c.pools i)) []
fields c Cyclic i = unwrap_or (option_map (cyclic_fields c) (slice_get c.cyclics i)) []
fields c Alarm i = unwrap_or (option_map (alarm_fields c) (slice_get c.alarms i)) []
fields c SpinLock i = []
