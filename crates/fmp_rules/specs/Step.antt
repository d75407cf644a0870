-- believed: see docs/PROOF.md, "What has to be believed"
-- One step of the machine, and runs.
use Rattle.std.specs.Prelude.{Bool, true, false, not, ◌&&◌, ◌||◌, Option, None, Some, List, [], ◌∷◌, ◌==◌, if◌then◌else◌, filter, map, is_some}
use Rattle.fmp_codes.specs.Records.{answer_record}
use Rattle.fmp_codes.specs.declared.numbers.Proc.{Proc}
use Rattle.fmp_codes.specs.declared.numbers.Task.{Task}
use Rattle.fmp_codes.specs.declared.calls.Call.{Call}
use Rattle.fmp_codes.specs.declared.calls.Call.TheVariants as call
use Rattle.fmp_codes.specs.declared.records.Event.{Event}
use Rattle.fmp_codes.specs.declared.records.Event.TheVariants as event
use Rattle.fmp_codes.specs.declared.records.Answer.{Answer}
use Rattle.fmp_codes.specs.declared.records.Answer.TheVariants as answer
use Rattle.fmp_codes.specs.declared.records.Record.{Record}
use Rattle.fmp_codes.specs.declared.records.Runner.{Runner}
use Rattle.fmp_rules.specs.Effects.{Effect}
use Rattle.fmp_setup.specs.Setup.{has_time}
use Rattle.fmp_rules.specs.World.{World, processor, with_processor, handler, runner_of, is_held, item, processors_of}
use Rattle.fmp_rules.specs.Ordering.{Ordering, top}
use Rattle.fmp_rules.specs.Rows.{Row, called, plain}
use Rattle.fmp_rules.specs.TaskCalls.{task_row}
use Rattle.fmp_rules.specs.SyncCalls.{sync_row}
use Rattle.fmp_rules.specs.BufferCalls.{buffer_row}
use Rattle.fmp_rules.specs.TimeCalls.{time_row}
use Rattle.fmp_rules.specs.SystemCalls.{system_row}
use Rattle.fmp_rules.specs.SpinCalls.{spin_row, ret_hdr}
use Rattle.fmp_rules.specs.Tick.{tick}

-- two places have the same task or none
abbrev pub is_same : Option Task → Option Task → Bool
is_same None None = true
is_same (Some t) (Some u) = t.number == u.number
is_same _ _ = false

abbrev pub changed_run : Option Task → Option Task → Option (Option Task)
changed_run before after = if is_same before after then None else Some after

-- what is remembered of the state before an event
pub record Before : Type 0 where
  pub event : Event
  pub processor : Proc
  pub runner : Option Runner
  pub running : Option Task
  pub tops : List (Option Task)

module _ {Q : Type 0} where
  -- the latches of these processors are set
  abbrev pub latched : World Q → List Proc → World Q
  latched w [] = w
  latched w (p ∷ ps) = latched (with_processor w p (record (processor w p) { latch = true })) ps

  -- the state and the record after an event that changes nothing
  unfoldable pub unchanged : World Q → Event → Proc → Answer → World Q × Record
  unchanged w e q a = (w, answer_record e (runner_of w q) a)

module _ {Q : Type 0} (k : Ordering Q) where
  -- what is written of a call, by its family
  abbrev pub row_of : World Q → Proc → Call → Row Q
  row_of w p (call.Task c) = task_row k w p c
  row_of w p (call.Sync c) = sync_row k w p c
  row_of w p (call.Buffer c) = buffer_row k w p c
  row_of w p (call.Time c) = time_row w c
  row_of w p (call.System c) = system_row k w p c
  row_of w p (call.Spin c) = spin_row w p c
  row_of w p call.RetHdr = ret_hdr w p

  -- the top of each processor
  abbrev pub tops : World Q → List (Option Task)
  tops w = map (top k w) (processors_of w)

  -- an event on q sends p a request: p is another, and its top is not what it was
  abbrev pub is_requested : List (Option Task) → World Q → Proc → Proc → Bool
  is_requested before w q p = not (p.number == q.number) && not (is_same (item None before p.number) (top k w p))

  -- the processors to which an event on q sends a request, where these were the tops before it
  abbrev pub requests : List (Option Task) → World Q → Proc → List Proc
  requests before w q = filter (is_requested before w q) (processors_of w)

  -- a processor that is not held runs its top, and its latch is cleared
  abbrev pub dispatched : World Q → Proc → World Q
  dispatched w q = if is_held w q then w else with_processor w q (record (processor w q) { running = top k w q; latch = false })

  -- the end of an event on q
  abbrev pub settle : List (Option Task) → World Q → Proc → World Q
  settle before w q = dispatched (latched w (requests before w q)) q

  unfoldable pub before_event : World Q → Event → Proc → Before
  before_event w e q = record { event = e; processor = q; runner = runner_of w q; running = (processor w q).running; tops = tops w }

  -- the state and the record after an event that did this
  unfoldable pub settled : Before → (World Q × Effect) → World Q × Record
  settled before did =
      let after = settle before.tops did.0 before.processor in (
        after,
        record {
          event = before.event;
          runner = before.runner;
          answer = did.1.answer;
          releases = did.1.releases;
          lost = did.1.lost;
          run_change = changed_run before.running (processor after before.processor).running;
          requests = requests before.tops did.0 before.processor;
        },
      )

  abbrev pub step : World Q → Event → World Q × Record
  step w (event.Call p c) =
      if is_some (runner_of w p)
      then settled (before_event w (event.Call p c) p) (called w p (row_of w p c))
      else unchanged w (event.Call p c) p answer.Idle
  step w (event.Tick p) =
      if has_time w.timer p
      then (
      if (processor w p).locked || is_some (handler w p)
      then unchanged w (event.Tick p) p answer.Held
      else settled (before_event w (event.Tick p) p) (tick k w p)
      )
      else unchanged w (event.Tick p) p answer.Nothing
  step w (event.Ipi p) =
      if is_held w p
      then unchanged w (event.Ipi p) p answer.Held
      else settled (before_event w (event.Ipi p) p) (w, plain (if (processor w p).latch then answer.Taken else answer.Nothing))

  -- the state after a list of events
  abbrev pub replay : World Q → List Event → World Q
  replay w [] = w
  replay w (e ∷ es) = replay (step w e).0 es

  -- its records
  abbrev pub answers : World Q → List Event → List Record
  answers w [] = []
  answers w (e ∷ es) = (step w e).1 ∷ answers (step w e).0 es
