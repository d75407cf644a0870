-- What an event left has the values that it had, and no line.
use Rattle.std.proofs.Common.{◌≡◌, ℕ, zero, suc, ℤ, ◌+◌, ◌-◌, Bool, true, false, ◌&&◌, ◌||◌, not, List, [], ◌++◌, Option, None, Some, length, refl, sym, ap, ap₂, ◌∙◌, append-nil}
use Rattle.std.specs.Prelude.{decimal, is_some, option_map}
use Rattle.std.proofs.lemmas.Bool.{true≢false}
use Rattle.std.proofs.lemmas.Slice.Eq.{bytes_eq-Decides}
use Rattle.fmp_out.specs.Putting.{Adds, Putting}
use Rattle.fmp_codes.specs.Numbers.{as_object, as_proc, as_task, task_number}
use Rattle.fmp_codes.specs.declared.numbers.Object.{Object}
use Rattle.fmp_codes.specs.declared.numbers.Proc.{Proc}
use Rattle.fmp_codes.specs.declared.numbers.Task.{Task}
use Rattle.fmp_codes.specs.declared.records.Answer.{Answer}
use Rattle.fmp_codes.specs.declared.records.Answer.TheVariants as answer
use Rattle.fmp_codes.specs.declared.records.Event.{Event}
use Rattle.fmp_codes.specs.declared.records.Event.TheVariants as event
use Rattle.fmp_codes.specs.declared.records.Record.{Record}
use Rattle.fmp_codes.specs.declared.records.Runner.{Runner}
use Rattle.fmp_setup.specs.Setup.{Setup}
use Rattle.fmp_setup.specs.declared.setup.Timer.{Timer}
use Rattle.fmp_rules.specs.Arrivals.{State, numbered}
use Rattle.fmp_rules.specs.Objects.{blank_eventflag, blank_pool, blank_semaphore, free_blocks, no_alarm, no_cyclic}
use Rattle.fmp_rules.specs.Step.{step}
use Rattle.fmp_rules.specs.TaskStates.{task_state}
use Rattle.fmp_rules.specs.World.{item, no_processor, no_task, task}
use Rattle.fmp_rules.specs.declared.machine.Alarm.{Alarm}
use Rattle.fmp_rules.specs.declared.machine.Cyclic.{Cyclic}
use Rattle.fmp_rules.specs.declared.machine.Eventflag.{Eventflag}
use Rattle.fmp_rules.specs.declared.machine.Pool.{Pool}
use Rattle.fmp_rules.specs.declared.machine.Processor.{Processor}
use Rattle.fmp_rules.specs.declared.machine.Semaphore.{Semaphore}
use Rattle.fmp_rules.specs.declared.machine.TaskRecord.{TaskRecord}
use Rattle.fmp_plain_machine.proofs.DataQueues.{mapped_or}
use Rattle.fmp_law_footprint.specs.Frames.{Frame, is_idle, is_on_time, moves_tasks, moves_time, moves_waits, running_of}
use Rattle.fmp_law_footprint.proofs.FramedSteps.{framed_step, report_event}
use Rattle.fmp_run_view.specs.declared.signal.Signal.{Signal}
use Rattle.fmp_run_view.specs.declared.signal.Signal.TheVariants as signals
use Rattle.fmp_run_view.specs.Changes.{Change, change_if, changes_to, lines_of}
use Rattle.fmp_run_view.specs.Leaving.{Leaves}
use Rattle.fmp_run_view.specs.Moments.{Moment, following, clock_of, ticked}
use Rattle.fmp_run_view.specs.Ticks.{started_text}
use Rattle.fmp_run_view.specs.Values.{due_text, proc_number, state_text, value_text, text_of, rest_of}

-- of a value that is the same no line is told
no_change : (signal : Signal) (i : ℕ) (old new : List ℕ) → old ≡ new → change_if false signal i old new ≡ []
no_change signal i old new same = let equal = (bytes_eq-Decides new new).1 refl in rw (same, equal) refl

module _ (c : Setup) (before after : Moment) (signal : Signal) (same : (i : ℕ) → value_text before signal i ≡ value_text after signal i) where
  none_changed : (n : ℕ) → changes_to c false before after signal n ≡ []
  unfolding changes_to
  none_changed zero = refl
  none_changed (suc i) = ap₂ (λ (xs ys : List Change). xs ++ ys) (none_changed i) (no_change signal i (value_text before signal i) (value_text after signal i) (same i))

  pub no_line : (all : Bool) (n : ℕ) (out : Putting) → all ≡ false → Adds (lines_of (changes_to c all before after signal n)) out out
  no_line all n out none whole = (whole, rw (none, none_changed n) (sym (append-nil out.bytes)))

-- a tick that was taken is on time
ticks_stay : (ticks : List ℕ) (e : Event) (a : Answer) → (not (is_idle a) && is_on_time e) ≡ false → ticked ticks e a ≡ ticks
ticks_stay ticks (event.Tick p) answer.Taken quiet = absurd (true≢false quiet)
ticks_stay ticks e a quiet = refl

or_none : (a b : Bool) → (a || b) ≡ false → (a ≡ false) × (b ≡ false)
or_none false b h = (refl, h)
or_none true b h = absurd (true≢false h)

no_change_reported : (o : Option (Option Task)) → is_some o ≡ false → o ≡ None
no_change_reported None h = refl
no_change_reported (Some x) h = absurd (true≢false h)

-- the texts, by the parts of a state that they stand for
until_by : Timer → List ℕ → Proc → Option ℕ → Option ℕ
until_by timer ticks p left = option_map (λ (n : ℕ). n + item 0 ticks (clock_of timer p).number) left

started_by : Object → List (Option ℕ) → Timer → List ℕ → Proc → List ℕ
unfolding started_text
started_by o lefts timer ticks p = started_text p (until_by timer ticks p (item None lefts o.number))

state_by : Task → List TaskRecord → List (Option Task) → Timer → List ℕ → List (Option ℕ) → List ℕ
state_by t tasks running timer ticks lefts =
    let x = item no_task tasks t.number in
    state_text (task_state t x (item None running x.assigned.number)) x.wait (until_by timer ticks x.assigned (item None lefts t.number))

same_started : (o : Object) (ns ns' : List (Option ℕ)) (timer timer' : Timer) (ticks ticks' : List ℕ) (p p' : Proc) → ns ≡ ns' → timer ≡ timer' → ticks ≡ ticks' → p
    ≡ p'
    → started_by o ns timer ticks p ≡ started_by o ns' timer' ticks' p'
same_started o ns ns' timer timer' ticks ticks' p p' a b c d = rw (a, b, c, d) refl

same_state : (t : Task) (xs xs' : List TaskRecord) (os os' : List (Option Task)) (timer timer' : Timer) (ticks ticks' : List ℕ) (ns ns' : List (Option ℕ)) → xs
    ≡ xs' → os ≡ os' → timer ≡ timer' → ticks ≡ ticks' → ns ≡ ns'
    → state_by t xs os timer ticks ns ≡ state_by t xs' os' timer' ticks' ns'
same_state t xs xs' os os' timer timer' ticks ticks' ns ns' a b c d f = rw (a, b, c, d, f) refl

shown_state : (n : Moment) (i : ℕ) → value_text n signals.State i
    ≡ state_by (as_task (i + 1)) n.state.tasks (running_of n.state) n.state.timer n.ticks n.state.waits_left
unfolding until_by state_by state_text
shown_state n i =
    let t : Task = as_task (i + 1) in
    let x : TaskRecord = task n.state t in
    ap (λ (o : Option Task). state_text (task_state t x o) x.wait (until_by n.state.timer n.ticks x.assigned (item None n.state.waits_left t.number)))
    (sym (mapped_or (λ (c : Processor). c.running) n.state.processors (x.assigned.number - 1) no_processor))

shown_running : (n : Moment) (i : ℕ) → value_text n signals.Running i ≡ decimal (task_number (item None (running_of n.state) (as_proc (i + 1)).number))
shown_running n i =
    ap (λ (o : Option Task). decimal (task_number o)) (sym (mapped_or (λ (c : Processor). c.running) n.state.processors ((as_proc (i + 1)).number - 1) no_processor))

module _ (m : Moment) (e : Event) where
  abbrev did : State × Record
  did = step numbered m.state e

  abbrev after : Moment
  after = following m e

  frame : Frame m.state did.1 did.0
  frame = framed_step numbered m.state e

  still : moves_time did.1 ≡ false → after.ticks ≡ m.ticks
  still quiet = ticks_stay m.ticks e did.1.answer (ap (λ (x : Event). not (is_idle did.1.answer) && is_on_time x)
      (sym (report_event numbered m.state e)) ∙ quiet)

  left_alone : Leaves did.1 m after
  unfolding started_by until_by
  left_alone signals.State quiet i =
      let parts = or_none (moves_waits did.1) (is_some did.1.run_change) quiet in
      let waits = or_none (moves_tasks did.1) (moves_time did.1) parts.0 in
      shown_state m i
      ∙ same_state (as_task (i + 1)) _ _ _ _ _ _ _ _ _ _ (sym (frame.tasks waits.0)) (sym (frame.running waits.0 (no_change_reported did.1.run_change parts.1)))
      (sym (frame.timer waits.1)) (sym (still waits.1)) (sym (frame.waits_left parts.0))
      ∙ sym (shown_state after i)
  left_alone signals.Place quiet i = ap (λ (xs : List ℕ). decimal (item 0 xs (as_task (i + 1)).number)) (ap (λ q. q.ready) (sym (frame.order quiet)))
  left_alone signals.Rest quiet i = ap (λ (xs : List TaskRecord). text_of (rest_of (item no_task xs (as_task (i + 1)).number))) (sym (frame.tasks quiet))
  left_alone signals.Semaphore quiet i = ap (λ (xs : List Semaphore). decimal (item blank_semaphore xs (as_object (i + 1)).number).count) (sym (frame.semaphores quiet))
  left_alone signals.Eventflag quiet i = ap (λ (xs : List Eventflag). decimal (item blank_eventflag xs (as_object (i + 1)).number).pattern)
      (sym (frame.eventflags quiet))
  left_alone signals.DataQueue quiet i = ap (λ (xs : List (List ℤ)). decimal (length (item [] xs (as_object (i + 1)).number))) (sym (frame.contents quiet))
  left_alone signals.Pool quiet i = ap (λ (xs : List Pool). decimal (free_blocks (item blank_pool xs (as_object (i + 1)).number))) (sym (frame.pools quiet))
  left_alone signals.Cyclic quiet i =
      same_started (as_object (i + 1)) _ _ _ _ _ _ _ _ (sym (frame.cyclics_left quiet)) (sym (frame.timer quiet)) (sym (still quiet))
      (ap (λ (xs : List Cyclic). (item (record { setup = no_cyclic; assigned = as_proc 1 }) xs (as_object (i + 1)).number).assigned) (sym (frame.cyclics quiet)))
  left_alone signals.Alarm quiet i =
      same_started (as_object (i + 1)) _ _ _ _ _ _ _ _ (sym (frame.alarms_left quiet)) (sym (frame.timer quiet)) (sym (still quiet))
      (ap (λ (xs : List Alarm). (item (record { setup = no_alarm; assigned = as_proc 1 }) xs (as_object (i + 1)).number).assigned) (sym (frame.alarms quiet)))
  left_alone signals.Running quiet i =
      let parts = or_none (moves_tasks did.1) (is_some did.1.run_change) quiet in
      shown_running m i
      ∙ ap (λ (os : List (Option Task)). decimal (task_number (item None os (as_proc (i + 1)).number))) (sym (frame.running parts.0 (no_change_reported did.1.run_change parts.1)))
      ∙ sym (shown_running after i)
  left_alone signals.Due quiet i = ap (λ (xs : List (List Runner)). due_text (item [] xs (as_proc (i + 1)).number)) (sym (frame.due quiet))
  left_alone signals.SpinLock quiet i = ap (λ (xs : List (Option Proc)). decimal (proc_number (item None xs (as_object (i + 1)).number))) (sym (frame.holders quiet))
  left_alone signals.Flags quiet i = absurd (true≢false quiet)

  -- so it is of a record and a moment that are these
  pub leaves : (r : Record) (then : Moment) → r ≡ did.1 → then ≡ after → Leaves r m then
  leaves r then report is = rw (report, is) left_alone
