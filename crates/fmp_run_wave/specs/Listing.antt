-- All signals in their order, each as a declaration of a waveform or as a trace of GTKWave's save file: those of each processor, of
-- each task, and of each object that has a number.
use Rattle.std.specs.Prelude.{ℕ, zero, suc, List, [], ◌++◌, length, codes}
use Rattle.fmp_names.specs.Names.{NameLists}
use Rattle.fmp_setup.specs.Setup.{Setup}
use Rattle.fmp_run_wave.specs.declared.listing.Form.{Form}
use Rattle.fmp_run_wave.specs.declared.listing.Form.TheVariants.{Declarations, Traces}
use Rattle.fmp_run_wave.specs.declared.resource.Resource.{Resource}
use Rattle.fmp_run_wave.specs.declared.resource.Resource.TheVariants as resources
use Rattle.fmp_run_wave.specs.declared.signal.Scope.{Scope}
use Rattle.fmp_run_wave.specs.declared.signal.Scope.TheVariants as scopes
use Rattle.fmp_run_wave.specs.declared.signal.Signal.{Signal}
use Rattle.fmp_run_wave.specs.declared.signal.Signal.TheVariants as signals
use Rattle.fmp_run_wave.specs.Resources.{count, signal_of}
use Rattle.fmp_run_wave.specs.Signals.{identifier, name_text, path_text, scope_text}

-- its kind and its width in bits. GTKWave and others have strings, which the standard has not
abbrev pub kind : Signal → List ℕ
kind signals.Running = codes "string 1"
kind signals.Call = codes "string 1"
kind signals.Locked = codes "wire 1"
kind signals.Disabled = codes "wire 1"
kind signals.Latch = codes "wire 1"
kind signals.Due = codes "string 1"
kind signals.Tick = codes "event 1"
kind signals.State = codes "string 1"
kind signals.Wait = codes "string 1"
kind _ = codes "integer 32"

-- how GTKWave shows it: in decimal, a pattern in hexadecimal, and bits and strings as they are
abbrev pub format : Signal → List ℕ
format signals.Count = codes "@24\n"
format signals.Pattern = codes "@22\n"
format signals.Values = codes "@24\n"
format signals.Free = codes "@24\n"
format signals.Holder = codes "@24\n"
format signals.Priority = codes "@24\n"
format signals.Activations = codes "@24\n"
format signals.Wakeups = codes "@24\n"
format _ = codes "@28\n"

-- its declaration in a waveform
unfoldable pub declaration : NameLists → Signal → ℕ → List ℕ
declaration lists signal n = codes "$var " ++ kind signal ++ codes " " ++ identifier signal n ++ codes " " ++ name_text lists signal n ++ codes " $end\n"

-- its trace in a save file
unfoldable pub trace : NameLists → Signal → ℕ → List ℕ
trace lists signal n = format signal ++ path_text lists signal n ++ codes "\n"

-- the signal of the processor, task or object with this number
abbrev pub line : Form → NameLists → Signal → ℕ → List ℕ
line Declarations lists signal n = declaration lists signal n
line Traces lists signal n = trace lists signal n

-- what stands before the signals of a scope: of traces a comment that names it
unfoldable pub scope_begin : Form → Scope → List ℕ
scope_begin Declarations scope = codes "$scope module " ++ scope_text scope ++ codes " $end\n"
scope_begin Traces scope = codes "@200\n-" ++ scope_text scope ++ codes "\n"

abbrev pub scope_end : Form → List ℕ
scope_end Declarations = codes "$upscope $end\n"
scope_end Traces = []

-- the texts of the numbers 1 to n
unfoldable pub each : (ℕ → List ℕ) → ℕ → List ℕ
each text zero = []
each text (suc n) = each text n ++ text (suc n)

module _ (form : Form) (lists : NameLists) where
  -- those of what is left of it, and all
  unfoldable pub last_signals : ℕ → List ℕ
  last_signals n = line form lists signals.Latch n ++ line form lists signals.Due n ++ line form lists signals.Tick n

  unfoldable pub processor_signals : ℕ → List ℕ
  processor_signals n =
      line form lists signals.Running n
      ++ line form lists signals.Call n
      ++ line form lists signals.Locked n
      ++ line form lists signals.Disabled n
      ++ last_signals n

  unfoldable pub processor_scope : ℕ → List ℕ
  processor_scope n = scope_begin form (scopes.Processor n) ++ processor_signals n ++ scope_end form

  unfoldable pub task_signals : ℕ → List ℕ
  task_signals n =
      line form lists signals.State n
      ++ line form lists signals.Wait n
      ++ line form lists signals.Priority n
      ++ line form lists signals.Activations n
      ++ line form lists signals.Wakeups n

  -- the scope of the first n tasks
  unfoldable pub tasks_scope : ℕ → List ℕ
  tasks_scope n = scope_begin form scopes.Tasks ++ each task_signals n ++ scope_end form

module _ (form : Form) (c : Setup) where
  -- the numbers of the objects of a kind
  abbrev pub resource_signals : Resource → List ℕ
  resource_signals r = each (line form c.names (signal_of r)) (count c r)

  -- the scope of all objects
  unfoldable pub objects_signals : List ℕ
  objects_signals =
      resource_signals resources.Semaphore
      ++ resource_signals resources.Eventflag
      ++ resource_signals resources.DataQueue
      ++ resource_signals resources.Pool
      ++ resource_signals resources.SpinLock

  unfoldable pub objects_scope : List ℕ
  objects_scope = scope_begin form scopes.Objects ++ objects_signals ++ scope_end form

  -- of all signals
  unfoldable pub listing : List ℕ
  listing = each (processor_scope form c.names) c.processors ++ tasks_scope form c.names (length c.tasks) ++ objects_scope
