-- What an event left is shown as before it.
use Rattle.std.proofs.Common.{◌≡◌, ℕ, ℤ, ◌-◌, Bool, true, false, ◌||◌, List, [], Option, None, Some, length, map, refl, sym, ap, ap₂, ◌∙◌}
use Rattle.std.specs.Prelude.{if◌then◌else◌, is_some}
use Rattle.std.specs.List.{range_with_len}
use Rattle.std.proofs.Math.Path.{fun_ext}
use Rattle.std.proofs.lemmas.Bool.{cond_both, true≢false}
use Rattle.fmp_codes.specs.Numbers.{as_object, as_task}
use Rattle.fmp_codes.specs.declared.numbers.Proc.{Proc}
use Rattle.fmp_codes.specs.declared.numbers.Task.{Task}
use Rattle.fmp_codes.specs.declared.records.Event.{Event}
use Rattle.fmp_codes.specs.declared.records.Record.{Record}
use Rattle.fmp_setup.specs.declared.setup.DataQueueSetup.{DataQueueSetup}
use Rattle.fmp_rules.specs.Arrivals.{State, numbered}
use Rattle.fmp_rules.specs.Objects.{blank_eventflag, blank_pool, blank_semaphore, free_blocks}
use Rattle.fmp_rules.specs.Step.{step}
use Rattle.fmp_rules.specs.TaskStates.{task_state}
use Rattle.fmp_rules.specs.World.{item, no_processor, no_task, task}
use Rattle.fmp_rules.specs.declared.machine.Eventflag.{Eventflag}
use Rattle.fmp_rules.specs.declared.machine.Pool.{Pool}
use Rattle.fmp_rules.specs.declared.machine.Processor.{Processor}
use Rattle.fmp_rules.specs.declared.machine.Semaphore.{Semaphore}
use Rattle.fmp_rules.specs.declared.machine.TaskRecord.{TaskRecord}
use Rattle.fmp_plain_machine.proofs.DataQueues.{mapped_or}
use Rattle.fmp_law_footprint.specs.Frames.{Frame, moves_buffers, moves_locks, moves_sync, moves_tasks, running_of}
use Rattle.fmp_law_footprint.proofs.FramedSteps.{framed_step}
use Rattle.fmp_run_wave.specs.Resources.{holder_number}
use Rattle.fmp_run_wave.specs.declared.snapshot.ShownTask.{ShownTask}
use Rattle.fmp_run_wave.specs.Shown.{shown_of, shown_task, shown_tasks, task_numbers}
use Rattle.fmp_run_wave.specs.Waves.{moves_states, shown_by}
use Rattle.fmp_run_wave.proofs.Equal.{same_shown}

or_none : (a b : Bool) → (a || b) ≡ false → (a ≡ false) × (b ≡ false)
or_none false b h = (refl, h)
or_none true b h = absurd (true≢false h)

no_change_reported : (o : Option (Option Task)) → is_some o ≡ false → o ≡ None
no_change_reported None h = refl
no_change_reported (Some x) h = absurd (true≢false h)

-- what is shown of tasks, by their records and by what runs on each processor
task_by : List TaskRecord → List (Option Task) → Task → ShownTask
task_by tasks running t =
    let x = item no_task tasks t.number in
    record { state = task_state t x (item None running x.assigned.number); wait = x.wait; numbers = task_numbers x }

shown_so : (w : State) (t : Task) → shown_task w t ≡ task_by w.tasks (running_of w) t
unfolding task_by
shown_so w t =
    let x : TaskRecord = task w t in
    let made : Option Task → ShownTask = λ o. record { state = task_state t x o; wait = x.wait; numbers = task_numbers x } in
    ap made (sym (mapped_or (λ (c : Processor). c.running) w.processors (x.assigned.number - 1) no_processor))

all_so : (w : State) → shown_tasks w ≡ map (λ n. task_by w.tasks (running_of w) (as_task n)) (range_with_len 1 (length w.tasks))
all_so w =
    let same : (λ (n : ℕ). shown_task w (as_task n)) ≡ (λ (n : ℕ). task_by w.tasks (running_of w) (as_task n)) = fun_ext (λ (n : ℕ). shown_so w (as_task n)) in
    ap (λ (f : ℕ → ShownTask). map f (range_with_len 1 (length w.tasks))) same

module _ (w : State) (e : Event) where
  abbrev did : State × Record
  did = step numbered w e

  frame : Frame w did.1 did.0
  frame = framed_step numbered w e

  -- where nothing moved it is the same
  either : {X : Type 0} (moved : Bool) (now before : X) → (moved ≡ false → now ≡ before) → (if moved then now else before) ≡ now
  either {X} moved now before same = cond_both moved now before (λ (x : X). x ≡ now) (λ _. refl) (λ none. sym (same none))

  tasks_left : moves_states did.1 ≡ false → shown_tasks did.0 ≡ shown_tasks w
  tasks_left none =
      let parts = or_none (moves_tasks did.1) (is_some did.1.run_change) none in
      all_so did.0
      ∙ ap₂ (λ (ts : List TaskRecord) (os : List (Option Task)). map (λ n. task_by ts os (as_task n)) (range_with_len 1 (length ts))) (frame.tasks parts.0)
      (frame.running parts.0 (no_change_reported did.1.run_change parts.1))
      ∙ sym (all_so w)

  pub left_shown : shown_by (shown_of w) did.1 did.0 ≡ shown_of did.0
  left_shown =
      same_shown _ _ refl
      (either (moves_states did.1) _ _ tasks_left)
      (either (moves_sync did.1) _ _ (λ none. ap (λ (xs : List Semaphore). map (λ n. (item blank_semaphore xs (as_object n).number).count) (range_with_len 1 (length xs))) (frame.semaphores none)))
      (either (moves_sync did.1) _ _ (λ none. ap (λ (xs : List Eventflag). map (λ n. (item blank_eventflag xs (as_object n).number).pattern) (range_with_len 1 (length xs))) (frame.eventflags none)))
      (either (moves_buffers did.1) _ _
      (λ none. ap₂ (λ (xs : List DataQueueSetup) (vs : List (List ℤ)). map (λ n. length (item [] vs (as_object n).number)) (range_with_len 1 (length xs))) (frame.data_queues none) (frame.contents none)))
      (either (moves_buffers did.1) _ _ (λ none. ap (λ (xs : List Pool). map (λ n. free_blocks (item blank_pool xs (as_object n).number)) (range_with_len 1 (length xs))) (frame.pools none)))
      (either (moves_locks did.1) _ _ (λ none. ap (λ (xs : List (Option Proc)). map (λ n. holder_number (item None xs (as_object n).number)) (range_with_len 1 (length xs))) (frame.holders none)))
