-- What each step does to the priority of a task is what its record says.
use Rattle.std.proofs.Common.{◌≡◌, ◌≤◌, ℤ, pos, negsuc, Bool, true, false, ◌&&◌, length, refl, sym, ap, ◌∙◌, subst, Option, Some, None}
use Rattle.std.specs.Prelude.{if◌then◌else◌, nat_lt, unwrap_or}
use Rattle.std.proofs.lemmas.Bool.{cond_both, and_parts, false≢true, true≢false, both_ways}
use Rattle.fmp_codes.specs.declared.numbers.Proc.{Proc}
use Rattle.fmp_codes.specs.declared.numbers.Task.{Task}
use Rattle.fmp_codes.specs.declared.numbers.Pri.{Pri}
use Rattle.fmp_codes.specs.declared.calls.Call.{Call}
use Rattle.fmp_codes.specs.declared.calls.Call.TheVariants as call
use Rattle.fmp_codes.specs.declared.calls.TaskCall.{TaskCall}
use Rattle.fmp_codes.specs.declared.calls.TaskCall.TheVariants as tasks
use Rattle.fmp_codes.specs.declared.records.Answer.{Answer}
use Rattle.fmp_codes.specs.declared.records.Event.{Event}
use Rattle.fmp_codes.specs.declared.records.Event.TheVariants as event
use Rattle.fmp_codes.specs.declared.records.Record.{Record}
use Rattle.fmp_codes.specs.Records.{is_gone}
use Rattle.fmp_rules.specs.Effects.{Effect}
use Rattle.fmp_rules.specs.declared.machine.TaskRecord.{TaskRecord}
use Rattle.fmp_rules.specs.World.{World, task, runner_of}
use Rattle.fmp_rules.specs.Ordering.{Ordering}
use Rattle.fmp_rules.specs.Tasks as words
use Rattle.fmp_rules.specs.Step.{row_of, step}
use Rattle.fmp_rules.specs.TaskCalls.{is_sleep, get_pri, task_row}
use Rattle.fmp_rules.specs.Rows.{called, plain}
use Rattle.fmp_codes.specs.Numbers.{as_task}
use Rattle.fmp_codes.specs.declared.records.Answer.TheVariants as answer
use Rattle.fmp_codes.proofs.Same.{tasks_same}
use Rattle.fmp_law_safety.proofs.Calls.{from_task}
use Rattle.fmp_law_balance.proofs.Called.{by_called, not_accepted}
use Rattle.fmp_law_records.proofs.counts.Tasks.{named_or_caller_is}
use Rattle.fmp_law_balance.proofs.waits.Events.{by_event}
use Rattle.std.proofs.lemmas.Bool.{not-false, eqb-true}
use Rattle.fmp_rules.specs.Arguments.{priority_or, task_or_caller}
use Rattle.fmp_law_balance.specs.Accepted.{is_accepted, accepted_value}
use Rattle.fmp_law_balance.specs.Queues.{is_task}
use Rattle.fmp_law_balance.proofs.Steps.{report}
use Rattle.fmp_law_balance.specs.Waits.Waits.{is_number_of}
use Rattle.fmp_law_records.specs.Counts.Naming.{names_task}
use Rattle.fmp_law_records.specs.Priorities.{given_by, given_or, asks_priority, priority_after, TellsPriority}
use Rattle.fmp_law_records.proofs.Leaving.{besides}
use Rattle.fmp_law_records.specs.Accepting.{is_about}
use Rattle.fmp_law_records.specs.Line.{is_done}
use Rattle.fmp_law_records.proofs.Edits.{activated_as, edited}
use Rattle.fmp_law_records.proofs.Allows.{allows}
use Rattle.fmp_law_records.proofs.Report.{is_of_tasks, either, report_step}

-- An active task has this priority, and of a dormant one the next life begins with it. Its initial one is this
pub record HasPriority (initial x : Pri) (r : TaskRecord) : Type 0 where
  pub active : r.active ≡ true → r.priority ≡ x
  pub dormant : r.active ≡ false → x ≡ initial
  pub setup : r.setup.priority ≡ initial

pub others_leave : (initial : Pri) (t : Task) (r : Record) → is_of_tasks r.event ≡ false → (x : Pri) → x ≡ priority_after initial t r x
others_leave initial t r no_call x = go r.event no_call
  where
    same : (a : Answer) → x ≡ (if is_accepted a then x else x)
    same a = cond_both (is_accepted a) x x (λ y. x ≡ y) (λ _. refl) (λ _. refl)

    go : (e : Event) → is_of_tasks e ≡ false → x ≡ priority_after initial t (record r { event = e }) x
    go (event.Call p (call.Task c)) h = absurd (false≢true (sym h))
    go (event.Call p c) h = same r.answer
    go e h = same r.answer

-- what a call gives is what the machine takes
pub given_same : (initial : Pri) (n : ℤ) → priority_or initial n ≡ given_by initial n
given_same initial (pos n) = refl
given_same initial (negsuc n) = refl

besides_have : (initial x : Pri) (r s : TaskRecord) → besides r ≡ besides s → HasPriority initial x s → HasPriority initial x r
besides_have initial x r s same h =
    record {
      active = λ e. ap (λ (z : TaskRecord). z.priority) same ∙ h.active (sym (ap (λ (z : TaskRecord). z.active) same) ∙ e);
      dormant = λ e. h.dormant (sym (ap (λ (z : TaskRecord). z.active) same) ∙ e);
      setup = ap (λ (z : TaskRecord). z.setup.priority) same ∙ h.setup;
    }

module _ {Q : Type 0} (w : World Q) (t : Task) (initial x : Pri) (old : HasPriority initial x (task w t)) where
  abbrev o : TaskRecord
  o = task w t

  abbrev Has : TaskRecord → Type 0
  Has r = HasPriority initial x r

  -- the priority after a record that gives none
  abbrev Then : Answer → TaskRecord → Type 0
  Then a r = HasPriority initial (if is_accepted a then x else x) r

  unchanged : (a : Answer) (r : TaskRecord) → Has r → Then a r
  unchanged a r h = cond_both (is_accepted a) x x (λ y. HasPriority initial y r) (λ _. h) (λ _. h)

  -- other fields change
  noted : (r : TaskRecord) → r.active ≡ o.active → r.priority ≡ o.priority → r.setup ≡ o.setup → Has r
  noted r a b c = record { active = λ e. b ∙ old.active (sym a ∙ e); dormant = λ e. old.dormant (sym a ∙ e); setup = ap (λ s. s.priority) c ∙ old.setup }

  changed : (a b : Bool) (n : ℤ) → ((a && b) ≡ true → o.active ≡ true) →
      HasPriority initial (if a then given_or (if b then Some (given_by initial n) else None) x else x) (if a && b then record o { priority = priority_or o.setup.priority n } else o)
  changed true true n may = record {
    active = λ _. ap (λ y. priority_or y n) old.setup ∙ given_same initial n;
    dormant = λ e. absurd (both_ways _ e (may refl));
    setup = old.setup;
  }
  changed true false n may = old
  changed false b n may = old

  -- an edit that leaves it
  kept : (a : Answer) (b : Bool) (r : TaskRecord) → Has r → Then a (if b then r else o)
  kept a b r h = unchanged a _ (cond_both b r o Has (λ _. h) (λ _. old))

  activated : (to : Proc) (on : Option Proc) → Has (activated_as o to on)
  activated to on =
      cond_both o.active _ _ Has (λ active. record { active = old.active; dormant = old.dormant; setup = old.setup })
      (λ dormant. record { active = λ _. old.setup ∙ sym (old.dormant dormant); dormant = λ e. absurd (true≢false e); setup = old.setup })

  initial_at_end : HasPriority initial initial (words.ended o)
  initial_at_end =
      cond_both (nat_lt 0 o.activations) _ _ (HasPriority initial initial) (λ _. record { active = λ _. old.setup; dormant = λ _. refl; setup = old.setup })
      (λ _. record { active = λ e. absurd (false≢true e); dormant = λ _. refl; setup = old.setup })

  priority_edits : (p : Proc) (c : TaskCall) (did : Effect) → ((is_done c did.answer && is_about t (runner_of w p) c) ≡ true → allows w p c o ≡ true) →
      HasPriority initial (priority_after initial t (report (event.Call p (call.Task c)) (runner_of w p) did) x) (if is_done c did.answer && is_about t (runner_of w p) c then edited w c o else o)
  priority_edits p (tasks.ActTsk id) did may = kept _ _ _ (activated _ _)
  priority_edits p (tasks.IactTsk id) did may = kept _ _ _ (activated _ _)
  priority_edits p (tasks.MactTsk id to) did may = kept _ _ _ (activated _ _)
  priority_edits p (tasks.ImactTsk id to) did may = kept _ _ _ (activated _ _)
  priority_edits p (tasks.MigTsk id to) did may = kept _ _ (edited w (tasks.MigTsk id to) o) (cond_both _ o _ Has (λ _. old) (λ _. noted _ refl refl refl))
  priority_edits p tasks.ExtTsk did may =
      either (is_gone did.answer && is_task t (runner_of w p)) (λ b. HasPriority initial (if b then initial else if is_accepted did.answer then x else x) (if b then words.ended o else o)) initial_at_end (unchanged did.answer o old)
  priority_edits p (tasks.TerTsk id) did may =
      either (is_accepted did.answer && is_number_of t id) (λ b. HasPriority initial (if b then initial else if is_accepted did.answer then x else x) (if b then words.ended o else o)) initial_at_end (unchanged did.answer o old)
  priority_edits p (tasks.ChgPri id n) did may = changed (is_accepted did.answer) (names_task t (runner_of w p) id) n may
  priority_edits p (tasks.WupTsk id) did may = kept _ _ (edited w (tasks.WupTsk id) o) (cond_both (is_sleep o.wait) o _ Has (λ _. old) (λ _. noted _ refl refl refl))
  priority_edits p (tasks.IwupTsk id) did may = kept _ _ (edited w (tasks.IwupTsk id) o) (cond_both (is_sleep o.wait) o _ Has (λ _. old) (λ _. noted _ refl refl refl))
  priority_edits p c did may = kept _ _ (edited w c o) (noted _ refl refl refl)

pub priority_step : {Q : Type 0} (k : Ordering Q) (w : World Q) (t : Task) (initial x : Pri) → HasPriority initial x (task w t) → length w.tasks ≤ 64 → t.number ≤ length w.tasks → (e : Event) →
    HasPriority initial (priority_after initial t (step k w e).1 x) (task (step k w e).0 t)
priority_step k w t initial x old few here e =
    report_step (HasPriority initial) (priority_after initial t) (λ y r q same h. besides_have initial y r q same h) (λ r y ps z. refl) (others_leave initial t) k w t few here x old
    (priority_edits w t initial x old) e

-- Who asks is told.

module _ {Q : Type 0} (k : Ordering Q) (w : World Q) (p : Proc) (t : Task) (initial x : Pri) (old : HasPriority initial x (task w t)) (few : length w.tasks ≤ 64) where
  abbrev AskTells : Bool → Answer → Type 0
  AskTells b a = (b && is_accepted a) ≡ true → accepted_value a ≡ Some (pos x.number)

  asked_tells : (id : ℤ) → AskTells (names_task t (runner_of w p) id) (called w p (get_pri w (task_or_caller w p id))).1.answer
  asked_tells id =
      let o : Option Task = task_or_caller w p id in
      let u : Task = unwrap_or o (as_task 1) in
      by_called w p (λ did. AskTells (names_task t (runner_of w p) id) did.1.answer) (get_pri w o) (refl, tt)
      (λ c e h. absurd (both_ways _ (not_accepted c e) (and_parts (names_task t (runner_of w p) id) _ h).1))
      (λ a h.
      let named = named_or_caller_is w p t id few (from_task w p false false a.rule) a.known in
      let here : u ≡ t = tasks_same u t (eqb-true u.number t.number (sym named ∙ (and_parts (names_task t (runner_of w p) id) true h).0)) in
      let active : (task w u).active ≡ true = not-false _ a.errors.0 in
      ap (λ (y : Pri). Some (pos y.number)) (subst (λ (y : Task). (task w y).active ≡ true → (task w y).priority ≡ x) (sym here) old.active active))

  tells_task : (c : TaskCall) → TellsPriority t x (report (event.Call p (call.Task c)) (runner_of w p) (called w p (task_row k w p c)).1)
  tells_task (tasks.GetPri id) = asked_tells id
  tells_task c = λ h. absurd (false≢true h)

  tells_call : (c : Call) → TellsPriority t x (report (event.Call p c) (runner_of w p) (called w p (row_of k w p c)).1)
  tells_call (call.Task c) = tells_task c
  tells_call c = λ h. absurd (false≢true h)

  tells_idle : (c : Call) → TellsPriority t x (report (event.Call p c) (runner_of w p) (plain answer.Idle))
  tells_idle c = λ h. absurd (false≢true (and_parts (asks_priority t (runner_of w p) (event.Call p c)) false h).1)

pub tells_step : {Q : Type 0} (k : Ordering Q) (w : World Q) (t : Task) (initial x : Pri) → HasPriority initial x (task w t) → length w.tasks ≤ 64 → (e : Event) → TellsPriority t x (step k w e).1
tells_step k w t initial x old few e =
    by_event k w (λ v r. TellsPriority t x r) (λ v cs r y ps h. h) (λ p c. tells_call k w p t initial x old few c) (λ p c. tells_idle k w p t initial x old few c)
    (λ p h. absurd (false≢true h)) (λ p h. absurd (false≢true h)) (λ p h. absurd (false≢true h)) (λ p a none h. absurd (false≢true h)) e
