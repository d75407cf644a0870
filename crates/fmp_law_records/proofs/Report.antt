-- A law of a task that says nothing of its wait, from what calls on tasks make of it.
use Rattle.std.proofs.Common.{◌≡◌, ◌≤◌, Bool, true, false, ◌&&◌, List, length, refl, subst, Option}
use Rattle.std.specs.Prelude.{if◌then◌else◌}
use Rattle.fmp_codes.specs.declared.numbers.Proc.{Proc}
use Rattle.fmp_codes.specs.declared.numbers.Task.{Task}
use Rattle.fmp_codes.specs.declared.calls.Call.{Call}
use Rattle.fmp_codes.specs.declared.calls.Call.TheVariants as call
use Rattle.fmp_codes.specs.declared.calls.TaskCall.{TaskCall}
use Rattle.fmp_codes.specs.declared.calls.TaskCall.TheVariants as tasks
use Rattle.fmp_codes.specs.declared.records.Answer.TheVariants as answer
use Rattle.fmp_codes.specs.declared.records.Event.{Event}
use Rattle.fmp_codes.specs.declared.records.Event.TheVariants as event
use Rattle.fmp_codes.specs.declared.records.Record.{Record}
use Rattle.fmp_rules.specs.Effects.{Effect}
use Rattle.fmp_rules.specs.declared.machine.TaskRecord.{TaskRecord}
use Rattle.fmp_rules.specs.World.{World, task, runner_of}
use Rattle.fmp_rules.specs.Ordering.{Ordering}
use Rattle.fmp_rules.specs.Rows.{called, plain}
use Rattle.fmp_rules.specs.Tick.{tick}
use Rattle.fmp_rules.specs.Step.{row_of, step}
use Rattle.fmp_law_balance.proofs.Steps.{report}
use Rattle.fmp_law_balance.proofs.waits.Events.{by_event}
use Rattle.fmp_law_records.proofs.Leaving.{besides, Leaves, is_on_tasks, call_leaves, tick_leaves}
use Rattle.std.proofs.lemmas.Bool.{and_parts, both_ways}
use Rattle.fmp_law_records.specs.Accepting.{is_about}
use Rattle.fmp_law_records.specs.Line.{is_done}
use Rattle.fmp_law_records.proofs.Edits.{edited, task_edits}
use Rattle.fmp_law_records.proofs.Allows.{allows, task_allows}

-- the event is a call on tasks
abbrev pub is_of_tasks : Event → Bool
is_of_tasks (event.Call p c) = is_on_tasks c
is_of_tasks other = false

-- what is so where a test passes, and where it fails
pub either : (b : Bool) (P : Bool → Type 0) → P true → P false → P b
either true P passes fails = passes
either false P passes fails = fails

-- two tests in one order and in the other
pub swapped : (a b : Bool) (P : Bool → Bool → Type 0) → P true true → P false false → P (a && b) (b && a)
swapped true true P both neither = both
swapped true false P both neither = neither
swapped false true P both neither = neither
swapped false false P both neither = neither

pub idle_undone : (c : TaskCall) → is_done c answer.Idle ≡ false
idle_undone tasks.ExtTsk = refl
idle_undone c = refl

-- What is told of a task is x where R x holds of it; R does not ask for its wait. Each record makes of it what `after` says, which
-- does not ask for the change of the running task and for requests, and is the same after all that is no call on tasks.
module _ {X : Type 0} (R : X → TaskRecord → Type 0) (after : Record → X → X)
    (blind : (x : X) (r s : TaskRecord) → besides r ≡ besides s → R x s → R x r)
    (deaf : (r : Record) (y : Option (Option Task)) (ps : List Proc) (x : X) → after r x ≡ after (record r { run_change = y; requests = ps }) x)
    (others : (r : Record) → is_of_tasks r.event ≡ false → (x : X) → x ≡ after r x)
    {Q : Type 0} (k : Ordering Q) (w : World Q) (t : Task) (few : length w.tasks ≤ 64) (here : t.number ≤ length w.tasks) where
  -- what calls on tasks make of it is told
  abbrev pub EditsReported : X → Type 0
  EditsReported x =
      (p : Proc) (c : TaskCall) (did : Effect) → ((is_done c did.answer && is_about t (runner_of w p) c) ≡ true → allows w p c (task w t) ≡ true) →
      R (after (report (event.Call p (call.Task c)) (runner_of w p) did) x) (if is_done c did.answer && is_about t (runner_of w p) c then edited w c (task w t) else task w t)

  module _ (x : X) (old : R x (task w t)) (edits : EditsReported x) where
    unasked : (v : World Q) (r : Record) → is_of_tasks r.event ≡ false → Leaves t w v → R (after r x) (task v t)
    unasked v r no_call h = subst (λ y. R y (task v t)) (others r no_call x) (blind x (task v t) (task w t) h.rest old)

    called_reported : (p : Proc) (c : Call) → R (after (report (event.Call p c) (runner_of w p) (called w p (row_of k w p c)).1) x) (task (called w p (row_of k w p c)).0 t)
    called_reported p (call.Task c) = blind _ _ _ (task_edits k w p t few here c).rest (edits p c (called w p (row_of k w p (call.Task c))).1 (task_allows k w p t few c).found)
    called_reported p c = unasked _ (report (event.Call p c) (runner_of w p) _) refl (call_leaves k w p t c refl)

    idle_reported : (p : Proc) (c : Call) → R (after (report (event.Call p c) (runner_of w p) (plain answer.Idle)) x) (task w t)
    idle_reported p (call.Task c) =
        subst (λ (b : Bool). R (after (report (event.Call p (call.Task c)) (runner_of w p) (plain answer.Idle)) x) (if b && is_about t (runner_of w p) c then edited w c (task w t) else task w t))
        (idle_undone c) (edits p c (plain answer.Idle) (λ e. absurd (both_ways _ (idle_undone c) (and_parts (is_done c answer.Idle) _ e).0)))
    idle_reported p c = unasked w (report (event.Call p c) (runner_of w p) (plain answer.Idle)) refl (record { rest = refl })

    -- it is told after each step
    pub report_step : (e : Event) → R (after (step k w e).1 x) (task (step k w e).0 t)
    report_step e =
        by_event k w (λ v r. R (after r x) (task v t)) (λ v cs r y ps h. subst (λ z. R z (task v t)) (deaf r y ps x) h)
        called_reported idle_reported
        (λ p. unasked (tick k w p).0 (report (event.Tick p) (runner_of w p) (tick k w p).1) refl (tick_leaves k w p t))
        (λ p. unasked w (report (event.Tick p) (runner_of w p) (plain answer.Held)) refl (record { rest = refl }))
        (λ p. unasked w (report (event.Tick p) (runner_of w p) (plain answer.Nothing)) refl (record { rest = refl }))
        (λ p a h. unasked w (report (event.Ipi p) (runner_of w p) (plain a)) refl (record { rest = refl })) e
