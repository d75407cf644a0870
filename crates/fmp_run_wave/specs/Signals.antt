-- What a waveform shows of a processor, a task or an object, and the names of that.
use Rattle.std.specs.Prelude.{ℕ, Option, None, Some, List, ◌++◌, codes, decimal}
use Rattle.fmp_codes.specs.declared.kinds.ObjectKind.{ObjectKind}
use Rattle.fmp_codes.specs.declared.kinds.ObjectKind.TheVariants as objects
use Rattle.fmp_names.specs.Names.{NameLists}
use Rattle.fmp_trace.specs.Values.{named}
use Rattle.fmp_run_wave.specs.declared.signal.Scope.{Scope}
use Rattle.fmp_run_wave.specs.declared.signal.Scope.TheVariants as scopes
use Rattle.fmp_run_wave.specs.declared.signal.Signal.{Signal}
use Rattle.fmp_run_wave.specs.declared.signal.Signal.TheVariants.{Running, Call, Locked, Disabled, Latch, Due, Tick, State, Wait, Priority, Activations, Wakeups, Count}
use Rattle.fmp_run_wave.specs.declared.signal.Signal.TheVariants.{Pattern, Values, Free, Holder}

abbrev pub letter : Signal → List ℕ
letter Running = codes "r"
letter Call = codes "c"
letter Locked = codes "l"
letter Disabled = codes "d"
letter Latch = codes "i"
letter Due = codes "h"
letter Tick = codes "t"
letter State = codes "s"
letter Wait = codes "w"
letter Priority = codes "p"
letter Activations = codes "a"
letter Wakeups = codes "u"
letter Count = codes "S"
letter Pattern = codes "F"
letter Values = codes "D"
letter Free = codes "M"
letter Holder = codes "X"

-- the last word of its names. No two have the same, and none has a `_`, so a name tells its signal
abbrev pub word : Signal → List ℕ
word Running = codes "running"
word Call = codes "call"
word Locked = codes "locked"
word Disabled = codes "disabled"
word Latch = codes "latch"
word Due = codes "due"
word Tick = codes "tick"
word State = codes "state"
word Wait = codes "wait"
word Priority = codes "priority"
word Activations = codes "activations"
word Wakeups = codes "wakeups"
word Count = codes "count"
word Pattern = codes "pattern"
word Values = codes "values"
word Free = codes "free"
word Holder = codes "holder"

-- the kind of objects that have it, or none where processors have it
abbrev pub owner : Signal → Option ObjectKind
owner State = Some objects.Task
owner Wait = Some objects.Task
owner Priority = Some objects.Task
owner Activations = Some objects.Task
owner Wakeups = Some objects.Task
owner Count = Some objects.Semaphore
owner Pattern = Some objects.Eventflag
owner Values = Some objects.DataQueue
owner Free = Some objects.Pool
owner Holder = Some objects.SpinLock
owner _ = None

-- where that of the processor, task or object with this number stands
abbrev pub scope_of : Signal → ℕ → Scope
scope_of State n = scopes.Tasks
scope_of Wait n = scopes.Tasks
scope_of Priority n = scopes.Tasks
scope_of Activations n = scopes.Tasks
scope_of Wakeups n = scopes.Tasks
scope_of Count n = scopes.Objects
scope_of Pattern n = scopes.Objects
scope_of Values n = scopes.Objects
scope_of Free n = scopes.Objects
scope_of Holder n = scopes.Objects
scope_of _ n = scopes.Processor n

-- the signal of the processor, task or object with this number
unfoldable pub identifier : Signal → ℕ → List ℕ
identifier signal n = letter signal ++ decimal n

unfoldable pub processor_text : ℕ → List ℕ
processor_text n = codes "P" ++ decimal n

abbrev pub scope_text : Scope → List ℕ
scope_text (scopes.Processor n) = processor_text n
scope_text scopes.Tasks = codes "tasks"
scope_text scopes.Objects = codes "objects"

-- the name of what has it
abbrev pub owner_text : NameLists → Option ObjectKind → ℕ → List ℕ
owner_text lists None n = processor_text n
owner_text lists (Some kind) n = named lists kind n

-- its own name, which no other signal has
unfoldable pub name_text : NameLists → Signal → ℕ → List ℕ
name_text lists signal n = owner_text lists (owner signal) n ++ codes "_" ++ word signal

-- its scope and its name, as viewers find it
unfoldable pub path_text : NameLists → Signal → ℕ → List ℕ
path_text lists signal n = scope_text (scope_of signal n) ++ codes "." ++ name_text lists signal n
