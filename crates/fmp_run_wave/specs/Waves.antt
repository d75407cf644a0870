-- The waveform of what a machine does at events, as a Value Change Dump. An event is a unit of time.
use Rattle.std.specs.Prelude.{ℕ, ◌+◌, ◌==◌, Bool, ◌||◌, is_some, not, true, List, [], ◌∷◌, ◌++◌, filter, if◌then◌else◌, codes, decimal}
use Rattle.fmp_bytes.specs.Bytes.{space}
use Rattle.fmp_codes.specs.Records.{processor_of}
use Rattle.fmp_codes.specs.declared.records.Event.{Event}
use Rattle.fmp_codes.specs.declared.records.Event.TheVariants as events
use Rattle.fmp_codes.specs.declared.records.Record.{Record}
use Rattle.fmp_names.specs.Names.{NameLists}
use Rattle.fmp_rules.specs.Arrivals.{State, numbered}
use Rattle.fmp_rules.specs.Boot.{booted}
use Rattle.fmp_setup.specs.Setup.{Setup}
use Rattle.fmp_rules.specs.Step.{step}
use Rattle.fmp_law_footprint.specs.Frames.{moves_buffers, moves_locks, moves_sync, moves_tasks}
use Rattle.fmp_trace.specs.Lines.{answer_text, event_text}
use Rattle.fmp_run_wave.specs.declared.resource.Resource.TheVariants.{Semaphore, Eventflag, DataQueue, Pool, SpinLock}
use Rattle.fmp_run_wave.specs.declared.signal.Signal.TheVariants as signals
use Rattle.fmp_run_wave.specs.Changes.{changes_text}
use Rattle.fmp_run_wave.specs.Headers.{header_text}
use Rattle.fmp_run_wave.specs.Shown.{Shown, shown_numbers, shown_of, shown_processors, shown_tasks}
use Rattle.fmp_run_wave.specs.Values.{bit_value, text_value, values_text}

-- the time of event n
unfoldable pub time_text : ℕ → List ℕ
time_text n = codes "#" ++ decimal n ++ codes "\n"

-- a tick of a processor's timer is marked
abbrev pub mark_text : Event → List ℕ
mark_text (events.Tick p) = bit_value signals.Tick p.number true
mark_text (events.Call p call) = []
mark_text (events.Ipi p) = []

-- a text without its blanks, which no value may have
abbrev pub joined : List ℕ → List ℕ
joined text = filter (λ byte. not (byte == space)) text

-- an event and its answer, as a trace prints them
unfoldable pub call_text : NameLists → Record → List ℕ
call_text lists r = joined (event_text lists r.event) ++ codes "=" ++ answer_text r.answer

-- they are the last ones of the event's processor
abbrev pub call_value : NameLists → Record → List ℕ
call_value lists r = text_value signals.Call (processor_of r.event).number (call_text lists r)

-- event n, by what is told of it and what is shown before and after it: its time, its mark, itself with its answer, and a line for
-- each other signal whose value it changed
unfoldable pub change_text : NameLists → ℕ → Record → Shown → Shown → List ℕ
change_text lists n r before after = time_text n ++ mark_text r.event ++ call_value lists r ++ changes_text lists before after

-- the events from event n on
unfoldable pub events_text : NameLists → ℕ → State → List Event → List ℕ
events_text lists n w [] = []
events_text lists n w (e ∷ es) = let done = step numbered w e in change_text lists n done.1 (shown_of w) (shown_of done.0) ++ events_text lists (n + 1) done.0 es

unfoldable pub start_begin : List ℕ
start_begin = codes "#0\n$dumpvars\n"

unfoldable pub start_end : List ℕ
start_end = codes "$end\n"

-- the declarations of the signals, and their values at time 0
unfoldable pub start_text : Setup → Shown → List ℕ
start_text c s = header_text c ++ start_begin ++ values_text c.names s ++ start_end

-- the whole waveform of a machine at these events
abbrev pub wave_of : Setup → List Event → List ℕ
wave_of c events = start_text c (shown_of (booted c)) ++ events_text c.names 1 (booted c) events

-- what is shown of a state, and the waveform up to it
pub record Picture : Type 0 where
  pub shown : Shown
  pub wave : List ℕ

-- before the first event
abbrev pub start_of : Setup → Picture
start_of c = let s = shown_of (booted c) in record { shown = s; wave = start_text c s }

-- the states of tasks, what they wait for, or their numbers may be others after an event of which this is told
abbrev pub moves_states : Record → Bool
moves_states r = moves_tasks r || is_some r.run_change

-- what is shown of a state to which an event led of which this is told: what the event left is shown as before
abbrev pub objects_by : Shown → Record → State → Shown
objects_by s r w = record s {
  semaphores = if moves_sync r then shown_numbers w Semaphore else s.semaphores;
  eventflags = if moves_sync r then shown_numbers w Eventflag else s.eventflags;
  data_queues = if moves_buffers r then shown_numbers w DataQueue else s.data_queues;
  pools = if moves_buffers r then shown_numbers w Pool else s.pools;
  holders = if moves_locks r then shown_numbers w SpinLock else s.holders;
}

abbrev pub shown_by : Shown → Record → State → Shown
shown_by s r w = record (objects_by s r w) { processors = shown_processors w; tasks = if moves_states r then shown_tasks w else s.tasks }

-- after event n, of which this is told and which led to this state
abbrev pub following : Picture → NameLists → ℕ → Record → State → Picture
following d names n r w = let s = shown_by d.shown r w in record { shown = s; wave = d.wave ++ change_text names n r d.shown s }
