-- believed: see docs/PROOF.md, "What has to be believed"
-- A configuration grows by classes, objects and defined names.
use Rattle.std.specs.Prelude.{ℕ, ◌+◌, ◌<◌, ◌≤◌, ◌^◌, Bool, true, false, ◌||◌, List, [], ◌∷◌, ◌++◌, Option, Some, None, unwrap_or, if◌then◌else◌, IsTrue, Contains}
use Rattle.std.specs.Str.{bytes_eq}
use Rattle.fmp_codes.specs.declared.kinds.NameKind.TheVariants.{Object, Function}
use Rattle.fmp_codes.specs.declared.kinds.ObjectKind.{ObjectKind}
use Rattle.fmp_codes.specs.declared.kinds.ObjectKind.TheVariants as kinds
use Rattle.fmp_names.specs.Names.{NameLists, has_name, is_object, is_defined, is_reserved, no_names, number_of, with_name, with_defined_name, with_processor_count}
use Rattle.fmp_setup.specs.declared.parts.TaskFields.{TaskFields}
use Rattle.fmp_setup.specs.declared.parts.CyclicFields.{CyclicFields}
use Rattle.fmp_setup.specs.declared.parts.Fields.{Fields}
use Rattle.fmp_setup.specs.declared.parts.Fields.TheVariants as fields
use Rattle.fmp_setup.specs.declared.setup.Class.{Class}
use Rattle.fmp_setup.specs.declared.setup.Limits.{Limits}
use Rattle.fmp_setup.specs.declared.setup.Timer.{Timer}
use Rattle.fmp_setup.specs.declared.setup.TaskSetup.{TaskSetup}
use Rattle.fmp_setup.specs.declared.setup.CyclicSetup.{CyclicSetup}
use Rattle.fmp_setup.specs.Setup.{Setup, MayHandle, of_parts}
use Rattle.fmp_setup.specs.Valid.{AreTimes, IsPool, IsSemaphore, is_class_of}

-- so many processors, and nothing else yet
abbrev pub of_processors : ℕ → Setup
of_processors n = of_parts n [] [] [] (no_names n)

-- a name that no class, no object and no defined name may take: that of another, or a reserved one
unfoldable pub is_refused : Setup → List ℕ → Bool
is_refused c name = is_reserved name || has_name c.class_names name || is_object c.names name || is_defined c.names name

-- the class of a name
abbrev pub class_in : List (List ℕ) → List Class → List ℕ → Option Class
class_in [] classes name = None
class_in (n ∷ names) [] name = None
class_in (n ∷ names) (class ∷ classes) name = if bytes_eq name n then Some class else class_in names classes name

unfoldable pub class_named : Setup → List ℕ → Option Class
class_named c name = class_in c.class_names c.classes name

-- a class that is one of the classes, and of this machine
abbrev pub IsSoundClass : Setup → Class → Type 0
IsSoundClass c class = Contains c.classes class × IsTrue (is_class_of c.processors class)

-- one class more
unfoldable pub with_class : Setup → List ℕ → Class → Setup
with_class c name class = record c { classes = c.classes ++ class ∷ []; class_names = c.class_names ++ name ∷ [] }

-- the names with this function
unfoldable pub with_function : NameLists → List ℕ → NameLists
with_function names function = if has_name names.functions function then names else with_name names Function function

-- the number of a function
unfoldable pub function_number : NameLists → List ℕ → ℕ
function_number names function = unwrap_or (number_of names Function function) 0

-- the kind of the object that these fields are of
abbrev pub kind_of : Fields → ObjectKind
kind_of (fields.Task t) = kinds.Task
kind_of (fields.Semaphore s) = kinds.Semaphore
kind_of (fields.Eventflag f) = kinds.Eventflag
kind_of (fields.DataQueue d) = kinds.DataQueue
kind_of (fields.Pool m) = kinds.Pool
kind_of (fields.Cyclic h) = kinds.Cyclic
kind_of fields.Alarm = kinds.Alarm
kind_of fields.SpinLock = kinds.SpinLock

-- the kinds whose objects have a function: tasks and handlers
abbrev pub has_function : ObjectKind → Bool
has_function kinds.Task = true
has_function kinds.Cyclic = true
has_function kinds.Alarm = true
has_function _ = false

-- the fields are within the limits of the configuration, and a handler's class is one that the timer allows
abbrev pub FieldsInRange : Setup → Class → Fields → Type 0
FieldsInRange c class (fields.Task t) = t.priority.number ≤ c.limits.priorities
FieldsInRange c class (fields.Semaphore s) = IsSemaphore s
FieldsInRange c class (fields.Eventflag f) = f.initial < 2 ^ 32
FieldsInRange c class (fields.DataQueue d) = d.capacity ≤ 1024
FieldsInRange c class (fields.Pool m) = IsPool m
FieldsInRange c class (fields.Cyclic h) = AreTimes h.period h.phase × MayHandle c.timer class
FieldsInRange c class fields.Alarm = MayHandle c.timer class
FieldsInRange c class fields.SpinLock = Unit {0}

-- the names with one object more, and its function where its kind has one
unfoldable pub with_object_names : NameLists → ObjectKind → List ℕ → List ℕ → NameLists
with_object_names names kind name function =
    let named = with_name names (Object kind) name in
    if has_function kind then with_function named function else named

-- a task, and a cyclic handler, with the number of its function
abbrev pub task_setup : Class → ℕ → TaskFields → TaskSetup
task_setup class main t = record { class = class; main = main; priority = t.priority; starts = t.starts }

abbrev pub cyclic_setup : Class → ℕ → CyclicFields → CyclicSetup
cyclic_setup class handler h = record { class = class; handler = handler; period = h.period; phase = h.phase; starts = h.starts }

-- one object more at the end of its kind's list, with the number of its function where it has one
unfoldable pub with_setup : Setup → Class → ℕ → Fields → Setup
with_setup c class function (fields.Task t) = record c { tasks = c.tasks ++ task_setup class function t ∷ [] }
with_setup c class function (fields.Semaphore s) = record c { semaphores = c.semaphores ++ s ∷ [] }
with_setup c class function (fields.Eventflag f) = record c { eventflags = c.eventflags ++ f ∷ [] }
with_setup c class function (fields.DataQueue d) = record c { data_queues = c.data_queues ++ d ∷ [] }
with_setup c class function (fields.Pool m) = record c { pools = c.pools ++ m ∷ [] }
with_setup c class function (fields.Cyclic h) = record c { cyclics = c.cyclics ++ cyclic_setup class function h ∷ [] }
with_setup c class function fields.Alarm = record c { alarms = c.alarms ++ record { class = class; handler = function } ∷ [] }
with_setup c class function fields.SpinLock = record c { spin_locks = c.spin_locks + 1 }

-- one object more, and its names
unfoldable pub with_object : Setup → Class → List ℕ → List ℕ → Fields → Setup
with_object c class name function said =
    let names = with_object_names c.names (kind_of said) name function in
    record (with_setup c class (function_number names function) said) { names = names }

-- one defined name more
unfoldable pub with_defined : Setup → List ℕ → ℕ → Setup
with_defined c name number = record c { names = with_defined_name c.names name number }

-- another timer, or other limits
abbrev pub with_timer : Setup → Timer → Setup
with_timer c timer = record c { timer = timer }

abbrev pub with_limits : Setup → Limits → Setup
with_limits c limits = record c { limits = limits }

-- another number of processors
unfoldable pub with_processors : Setup → ℕ → Setup
with_processors c n = record c { processors = n; names = with_processor_count c.names n }
