-- What each step does to the suspension of a task is what its record says.
use Rattle.std.proofs.Common.{◌≡◌, ◌≤◌, ℤ, Bool, true, false, not, ◌&&◌, length, refl, sym, ap, ◌∙◌, subst, Option, Some, None}
use Rattle.std.specs.Prelude.{if◌then◌else◌, nat_lt, unwrap_or}
use Rattle.std.proofs.lemmas.Bool.{cond_both, and_parts, and_from, false≢true, both_ways}
use Rattle.fmp_codes.specs.declared.numbers.Proc.{Proc}
use Rattle.fmp_codes.specs.declared.numbers.Task.{Task}
use Rattle.fmp_codes.specs.declared.calls.Call.{Call}
use Rattle.fmp_codes.specs.declared.calls.Call.TheVariants as call
use Rattle.fmp_codes.specs.declared.calls.TaskCall.{TaskCall}
use Rattle.fmp_codes.specs.declared.calls.TaskCall.TheVariants as tasks
use Rattle.fmp_codes.specs.declared.records.Answer.{Answer}
use Rattle.fmp_codes.specs.declared.records.Answer.TheVariants as answer
use Rattle.fmp_codes.specs.declared.records.Event.{Event}
use Rattle.fmp_codes.specs.declared.records.Event.TheVariants as event
use Rattle.fmp_codes.specs.declared.records.Record.{Record}
use Rattle.fmp_codes.specs.Records.{is_gone}
use Rattle.fmp_rules.specs.Effects.{Effect}
use Rattle.fmp_rules.specs.declared.machine.TaskRecord.{TaskRecord}
use Rattle.fmp_rules.specs.World.{World, no_task, task, runner_of}
use Rattle.fmp_rules.specs.Ordering.{Ordering}
use Rattle.fmp_rules.specs.Tasks as words
use Rattle.fmp_rules.specs.Step.{row_of, step}
use Rattle.fmp_rules.specs.TaskCalls.{is_dormant, is_sleep, sus_tsk, task_row}
use Rattle.fmp_rules.specs.Rows.{Row, is_refused_context, check, called, called_by, plain}
use Rattle.fmp_rules.specs.Arguments.{task_or_caller}
use Rattle.fmp_codes.specs.declared.codes.Code.{Code}
use Rattle.fmp_codes.specs.declared.codes.Code.TheVariants as code
use Rattle.fmp_law_balance.proofs.waits.Events.{by_event}
use Rattle.fmp_codes.specs.Numbers.{as_task}
use Rattle.fmp_codes.proofs.Same.{tasks_same}
use Rattle.fmp_law_safety.proofs.Calls.{from_task}
use Rattle.fmp_law_records.proofs.counts.Tasks.{named_or_caller_is}
use Rattle.std.proofs.lemmas.Bool.{not-false, eqb-true}
use Rattle.fmp_law_safety.specs.Safe.{Safe}
use Rattle.fmp_law_safety.proofs.Items.{item_holds}
use Rattle.fmp_law_balance.specs.Accepted.{is_accepted}
use Rattle.fmp_law_balance.specs.Queues.{is_task}
use Rattle.fmp_law_balance.proofs.Steps.{report}
use Rattle.fmp_law_balance.specs.Waits.Waits.{is_number_of}
use Rattle.fmp_law_records.specs.Counts.Naming.{names_task}
use Rattle.fmp_law_records.specs.Suspensions.{suspends, resumes, suspended_after, is_overflow}
use Rattle.fmp_law_records.specs.Accepting.{is_about}
use Rattle.fmp_law_records.specs.Line.{is_done}
use Rattle.fmp_law_records.proofs.Edits.{activated_as, edited}
use Rattle.fmp_law_records.proofs.Allows.{allows, task_allows}
use Rattle.fmp_law_records.proofs.Report.{is_of_tasks, either, swapped, report_step}

-- this is suspended, or not
abbrev pub IsSo : Bool → TaskRecord → Type 0
IsSo x r = r.suspended ≡ x

pub others_leave : (t : Task) (r : Record) → is_of_tasks r.event ≡ false → (x : Bool) → x ≡ suspended_after t r x
others_leave t r no_call x = go r.event no_call
  where
    go : (e : Event) → is_of_tasks e ≡ false → x ≡ suspended_after t (record r { event = e }) x
    go (event.Call p (call.Task c)) h = absurd (false≢true (sym h))
    go (event.Call p c) h = refl
    go e h = refl

module _ {Q : Type 0} (w : World Q) (t : Task) where
  -- a dormant task is not suspended
  pub dormant_is_not : {k : Ordering Q} → Safe k w → (task w t).active ≡ false → (task w t).suspended ≡ false
  dormant_is_not s =
      item_holds (λ (r : TaskRecord). r.active ≡ false → r.suspended ≡ false) no_task w.tasks t.number (λ _. refl) (λ i d b e. ((s.in_range.tasks i d b).dormant e).2)

  module _ (x : Bool) (old : (task w t).suspended ≡ x) (rests : (task w t).active ≡ false → (task w t).suspended ≡ false) where
    abbrev o : TaskRecord
    o = task w t

    -- an edit that leaves it
    kept : (b : Bool) (r : TaskRecord) → r.suspended ≡ x → (if b then r else o).suspended ≡ x
    kept b r h = cond_both b r o (IsSo x) (λ _. h) (λ _. old)

    activated : (to : Proc) (on : Option Proc) → (activated_as o to on).suspended ≡ x
    activated to on = cond_both o.active _ _ (IsSo x) (λ _. old) (λ dormant. sym (rests dormant) ∙ old)

    none_at_end : (words.ended o).suspended ≡ false
    none_at_end = cond_both (nat_lt 0 o.activations) _ _ (IsSo false) (λ _. refl) (λ _. refl)

    suspension_edits : (p : Proc) (c : TaskCall) (did : Effect) → ((is_done c did.answer && is_about t (runner_of w p) c) ≡ true → allows w p c o ≡ true) →
        (if is_done c did.answer && is_about t (runner_of w p) c then edited w c o else o).suspended ≡ suspended_after t (report (event.Call p (call.Task c)) (runner_of w p) did) x
    suspension_edits p (tasks.ActTsk id) did may = kept _ _ (activated _ _)
    suspension_edits p (tasks.IactTsk id) did may = kept _ _ (activated _ _)
    suspension_edits p (tasks.MactTsk id to) did may = kept _ _ (activated _ _)
    suspension_edits p (tasks.ImactTsk id to) did may = kept _ _ (activated _ _)
    suspension_edits p (tasks.MigTsk id to) did may = kept _ (edited w (tasks.MigTsk id to) o) (cond_both _ o _ (IsSo x) (λ _. old) (λ _. old))
    suspension_edits p tasks.ExtTsk did may =
        either (is_gone did.answer && is_task t (runner_of w p)) (λ b. (if b then words.ended o else o).suspended ≡ (if b then false else x)) none_at_end old
    suspension_edits p (tasks.TerTsk id) did may =
        either (is_accepted did.answer && is_number_of t id) (λ b. (if b then words.ended o else o).suspended ≡ (if b then false else x)) none_at_end old
    suspension_edits p (tasks.WupTsk id) did may = kept _ (edited w (tasks.WupTsk id) o) (cond_both (is_sleep o.wait) o _ (IsSo x) (λ _. old) (λ _. old))
    suspension_edits p (tasks.IwupTsk id) did may = kept _ (edited w (tasks.IwupTsk id) o) (cond_both (is_sleep o.wait) o _ (IsSo x) (λ _. old) (λ _. old))
    suspension_edits p (tasks.SusTsk id) did may =
        swapped (is_accepted did.answer) (names_task t (runner_of w p) id) (λ a b. (if a then record o { suspended = true } else o).suspended ≡ (if b then true else x)) refl old
    suspension_edits p (tasks.RsmTsk id) did may =
        swapped (is_accepted did.answer) (is_number_of t id) (λ a b. (if a then record o { suspended = false } else o).suspended ≡ (if b then false else x)) refl old
    suspension_edits p c did may = kept _ (edited w c o) old

pub suspension_step : {Q : Type 0} (k : Ordering Q) (w : World Q) (t : Task) (x : Bool) → (task w t).suspended ≡ x → Safe k w → length w.tasks ≤ 64 → t.number ≤ length w.tasks → (e : Event) →
    (task (step k w e).0 t).suspended ≡ suspended_after t (step k w e).1 x
suspension_step k w t x old s few here e =
    report_step IsSo (suspended_after t) (λ y r q same h. ap (λ (z : TaskRecord). z.suspended) same ∙ h) (λ r y ps z. refl) (others_leave t) k w t few here x old
    (suspension_edits w t x old (dormant_is_not w t s)) e

-- A suspension begins only where there is none, is refused only where there is one, and ends only where there is one.

-- a call is refused since a count is at its limit
abbrev over : Option Code → Bool
over None = false
over (Some c) = is_overflow (answer.Done c None)

next_test : (b : Bool) (x : Code) (o : Option Code) → over (Some x) ≡ false → over (if b then Some x else o) ≡ true → (b ≡ false) × (over o ≡ true)
next_test true x o other h = absurd (both_ways _ other h)
next_test false x o other h = (refl, h)

last_test : (b : Bool) → over (if b then Some code.QueueOverflow else None) ≡ true → b ≡ true
last_test true h = refl
last_test false h = absurd (false≢true h)

-- of a record without what runs at the end
pub record Fits (t : Task) (x : Bool) (r : Record) : Type 0 where
  pub begun : (suspends t r.runner r.event && is_accepted r.answer) ≡ true → x ≡ false
  pub twice : (suspends t r.runner r.event && is_overflow r.answer) ≡ true → x ≡ true
  pub ended : (resumes t r.event && is_accepted r.answer) ≡ true → x ≡ true

nothing_fits : (t : Task) (x : Bool) (r : Record) → is_of_tasks r.event ≡ false → Fits t x r
nothing_fits t x r no_call = record {
  begun = λ h. absurd (both_ways _ (no_suspends r.event no_call) (and_parts (suspends t r.runner r.event) _ h).0);
  twice = λ h. absurd (both_ways _ (no_suspends r.event no_call) (and_parts (suspends t r.runner r.event) _ h).0);
  ended = λ h. absurd (both_ways _ (no_resumes r.event no_call) (and_parts (resumes t r.event) _ h).0);
}
  where
    no_suspends : (e : Event) → is_of_tasks e ≡ false → suspends t r.runner e ≡ false
    no_suspends (event.Call p (call.Task c)) h = absurd (false≢true (sym h))
    no_suspends (event.Call p c) h = refl
    no_suspends e h = refl

    no_resumes : (e : Event) → is_of_tasks e ≡ false → resumes t e ≡ false
    no_resumes (event.Call p (call.Task c)) h = absurd (false≢true (sym h))
    no_resumes (event.Call p c) h = refl
    no_resumes e h = refl

module _ {Q : Type 0} (k : Ordering Q) (w : World Q) (p : Proc) (t : Task) (x : Bool) (old : (task w t).suspended ≡ x) (few : length w.tasks ≤ 64) where
  abbrev report_of : TaskCall → Effect → Record
  report_of c did = report (event.Call p (call.Task c)) (runner_of w p) did

  not_so : (b : Bool) → not b ≡ true → b ≡ false
  not_so false h = refl
  not_so true h = absurd (false≢true h)

  abbrev row_at : ℤ → Row Q
  row_at id = sus_tsk k w p (task_or_caller w p id)

  -- who is named is suspended already
  twice_suspended : (id : ℤ) → (names_task t (runner_of w p) id && is_overflow (called w p (sus_tsk k w p (task_or_caller w p id))).1.answer) ≡ true → x ≡ true
  unfolding sus_tsk
  twice_suspended id = go (check w p (row_at id)) refl
    where
      go : (found : Option Code) → check w p (row_at id) ≡ found → (names_task t (runner_of w p) id && is_overflow (called_by w (row_at id).effect found).1.answer) ≡ true → x ≡ true
      go None e h = absurd (false≢true (and_parts (names_task t (runner_of w p) id) false h).1)
      go (Some c) e h =
          let o : Option Task = task_or_caller w p id in
          let both = and_parts (names_task t (runner_of w p) id) (is_overflow (answer.Done c None)) h in
          let one = next_test (is_refused_context w p (row_at id).rule) code.Context _ refl (ap over e ∙ both.1) in
          let two = next_test (not (row_at id).known) code.Identifier _ refl one.1 in
          let three = next_test (not (row_at id).proper) code.Parameter _ refl two.1 in
          let four = next_test (is_dormant w (unwrap_or o (as_task 1))) code.ObjectState _ refl three.1 in
          let named = named_or_caller_is w p t id few (from_task w p false _ one.0) (not-false _ two.0) in
          let u : Task = unwrap_or o (as_task 1) in
          sym old ∙ subst (λ (y : Task). (task w y).suspended ≡ true) (tasks_same u t (eqb-true u.number t.number (sym named ∙ both.0))) (last_test (task w u).suspended four.1)

  fits_task : (c : TaskCall) → Fits t x (report_of c (called w p (task_row k w p c)).1)
  fits_task (tasks.SusTsk id) =
      let a : Answer = (called w p (task_row k w p (tasks.SusTsk id))).1.answer in
      record {
        begun = λ h.
            let parts = and_parts (names_task t (runner_of w p) id) (is_accepted a) h in
            sym old ∙ not_so _ (and_parts (task w t).active _ ((task_allows k w p t few (tasks.SusTsk id)).found (and_from (is_accepted a) _ parts.1 parts.0))).1;
        twice = twice_suspended id;
        ended = λ h. absurd (false≢true h);
      }
  fits_task (tasks.RsmTsk id) =
      let a : Answer = (called w p (task_row k w p (tasks.RsmTsk id))).1.answer in
      record {
        begun = λ h. absurd (false≢true h);
        twice = λ h. absurd (false≢true h);
        ended = λ h.
            let parts = and_parts (is_number_of t id) (is_accepted a) h in
            sym old ∙ (task_allows k w p t few (tasks.RsmTsk id)).found (and_from (is_accepted a) _ parts.1 parts.0);
      }
  fits_task c = record { begun = λ h. absurd (false≢true h); twice = λ h. absurd (false≢true h); ended = λ h. absurd (false≢true h) }

  idle_fits : (c : TaskCall) → Fits t x (report_of c (plain answer.Idle))
  idle_fits c = record {
    begun = λ h. absurd (false≢true (and_parts (suspends t (runner_of w p) (event.Call p (call.Task c))) false h).1);
    twice = λ h. absurd (false≢true (and_parts (suspends t (runner_of w p) (event.Call p (call.Task c))) false h).1);
    ended = λ h. absurd (false≢true (and_parts (resumes t (event.Call p (call.Task c))) false h).1);
  }

  fits_call : (c : Call) → Fits t x (report (event.Call p c) (runner_of w p) (called w p (row_of k w p c)).1)
  fits_call (call.Task c) = fits_task c
  fits_call c = nothing_fits t x _ refl

  fits_idle : (c : Call) → Fits t x (report (event.Call p c) (runner_of w p) (plain answer.Idle))
  fits_idle (call.Task c) = idle_fits c
  fits_idle c = nothing_fits t x _ refl

pub fits_step : {Q : Type 0} (k : Ordering Q) (w : World Q) (t : Task) (x : Bool) → (task w t).suspended ≡ x → length w.tasks ≤ 64 → (e : Event) → Fits t x (step k w e).1
fits_step k w t x old few e =
    by_event k w (λ v r. Fits t x r) (λ v cs r y ps h. record { begun = h.begun; twice = h.twice; ended = h.ended })
    (λ p c. fits_call k w p t x old few c) (λ p c. fits_idle k w p t x old few c) (λ p. nothing_fits t x _ refl) (λ p. nothing_fits t x _ refl) (λ p. nothing_fits t x _ refl)
    (λ p a h. nothing_fits t x _ refl) e
