-- What each step does to the life of a task is what its record says.
use Rattle.std.proofs.Common.{◌≡◌, ◌≤◌, ◌-◌, ◌==◌, ℤ, Bool, true, false, ◌&&◌, length, refl, sym, ap, ◌∙◌, subst, Option, Some, None}
use Rattle.std.specs.Prelude.{if◌then◌else◌, nat_lt, unwrap_or, is_some, option_map}
use Rattle.std.proofs.lemmas.Bool.{cond_both, and_parts, false≢true, both_ways, eqb-true}
use Rattle.fmp_codes.specs.Numbers.{as_proc}
use Rattle.fmp_codes.specs.declared.numbers.Proc.{Proc}
use Rattle.fmp_codes.specs.declared.numbers.Task.{Task}
use Rattle.fmp_codes.specs.declared.calls.Call.TheVariants as call
use Rattle.fmp_codes.specs.declared.calls.TaskCall.{TaskCall}
use Rattle.fmp_codes.specs.declared.calls.TaskCall.TheVariants as tasks
use Rattle.fmp_codes.specs.declared.records.Answer.{Answer}
use Rattle.fmp_codes.specs.declared.records.Event.{Event}
use Rattle.fmp_codes.specs.declared.records.Event.TheVariants as event
use Rattle.fmp_codes.specs.declared.records.Record.{Record}
use Rattle.fmp_codes.specs.Records.{is_gone}
use Rattle.fmp_codes.proofs.Same.{processors_same}
use Rattle.fmp_setup.specs.declared.setup.Class.{Class}
use Rattle.fmp_rules.specs.Effects.{Effect}
use Rattle.fmp_rules.specs.declared.machine.TaskRecord.{TaskRecord}
use Rattle.fmp_rules.specs.World.{World, task, runner_of}
use Rattle.fmp_rules.specs.Ordering.{Ordering}
use Rattle.fmp_rules.specs.Arguments.{processor_or_initial}
use Rattle.fmp_rules.specs.Tasks as words
use Rattle.fmp_rules.specs.TaskCalls.{is_sleep}
use Rattle.fmp_rules.specs.Step.{step}
use Rattle.fmp_law_balance.specs.Accepted.{is_accepted}
use Rattle.fmp_law_balance.specs.Queues.{is_task}
use Rattle.fmp_law_balance.proofs.Steps.{report}
use Rattle.fmp_law_balance.specs.Waits.Waits.{is_number_of}
use Rattle.fmp_law_records.specs.Counts.Naming.{names_task}
use Rattle.fmp_law_records.specs.Handlers.{taken_to}
use Rattle.fmp_law_records.specs.Lives.{LifeReported, life_activated, life_ended, life_after, queued_count, queued_for}
use Rattle.fmp_law_records.proofs.Alarms.{taken_is}
use Rattle.fmp_law_records.proofs.Leaving.{besides}
use Rattle.fmp_law_records.specs.Accepting.{is_about}
use Rattle.fmp_law_records.specs.Line.{is_done}
use Rattle.fmp_law_records.proofs.Edits.{activated_as, edited}
use Rattle.fmp_law_records.proofs.Allows.{allows}
use Rattle.fmp_law_records.proofs.Report.{is_of_tasks, either, report_step}

-- this life is told of a task of this class
pub record HasLife (class : Class) (x : LifeReported) (r : TaskRecord) : Type 0 where
  pub active : r.active ≡ x.active
  pub at : r.assigned ≡ x.at
  pub activations : r.activations ≡ queued_count x.queued
  pub kept : r.kept ≡ queued_for x.queued
  pub setup : r.setup.class ≡ class

others_leave : (class : Class) (t : Task) (r : Record) → is_of_tasks r.event ≡ false → (x : LifeReported) → x ≡ life_after class t r x
others_leave class t r no_call x = go r.event no_call
  where
    same : (a : Answer) → x ≡ (if is_accepted a then x else x)
    same a = cond_both (is_accepted a) x x (λ y. x ≡ y) (λ _. refl) (λ _. refl)

    go : (e : Event) → is_of_tasks e ≡ false → x ≡ life_after class t (record r { event = e }) x
    go (event.Call p (call.Task c)) h = absurd (false≢true (sym h))
    go (event.Call p c) h = same r.answer
    go e h = same r.answer

besides_have : (class : Class) (x : LifeReported) (r s : TaskRecord) → besides r ≡ besides s → HasLife class x s → HasLife class x r
besides_have class x r s same h =
    record {
      active = ap (λ (z : TaskRecord). z.active) same ∙ h.active;
      at = ap (λ (z : TaskRecord). z.assigned) same ∙ h.at;
      activations = ap (λ (z : TaskRecord). z.activations) same ∙ h.activations;
      kept = ap (λ (z : TaskRecord). z.kept) same ∙ h.kept;
      setup = ap (λ (z : TaskRecord). z.setup.class) same ∙ h.setup;
    }

-- the processor that is named is the one that is kept
named_is : {Q : Type 0} (w : World Q) (class : Class) (id : ℤ) (q : Proc) → is_some (processor_or_initial w class id) ≡ true → processor_or_initial w class id ≡ Some (taken_to class (Some id) q)
named_is w class id q known = go (processor_or_initial w class id) known (taken_is w class id q known)
  where
    go : (o : Option Proc) → is_some o ≡ true → unwrap_or o (as_proc 1) ≡ taken_to class (Some id) q → o ≡ Some (taken_to class (Some id) q)
    go None bad e = absurd (false≢true bad)
    go (Some p) there e = ap Some e

module _ (class : Class) where
  ended_has : (queued : Option (Option Proc)) (at : Proc) (r : TaskRecord) → r.assigned ≡ at → r.activations ≡ queued_count queued → r.kept ≡ queued_for queued → r.setup.class ≡ class →
      HasLife class (life_ended queued at) (words.ended r)
  ended_has None at r there count kept setup =
      cond_both (nat_lt 0 r.activations) _ _ (HasLife class (life_ended None at)) (λ some_. absurd (both_ways _ (ap (nat_lt 0) count) some_))
      (λ _. record { active = refl; at = there; activations = ap (λ n. n - 1) count; kept = refl; setup = setup })
  ended_has (Some to) at r there count kept setup =
      cond_both (nat_lt 0 r.activations) _ _ (HasLife class (life_ended (Some to) at))
      (λ _. record { active = refl; at = ap (λ o. unwrap_or o r.assigned) kept ∙ ap (unwrap_or to) there; activations = ap (λ n. n - 1) count; kept = refl; setup = setup })
      (λ none. absurd (both_ways _ none (ap (nat_lt 0) count)))

module _ {Q : Type 0} (w : World Q) (t : Task) (class : Class) (x : LifeReported) (old : HasLife class x (task w t)) where
  abbrev o : TaskRecord
  o = task w t

  abbrev Has : TaskRecord → Type 0
  Has r = HasLife class x r

  -- the life after a record that changes nothing of it
  abbrev Then : Answer → TaskRecord → Type 0
  Then a r = HasLife class (if is_accepted a then x else x) r

  unchanged : (a : Answer) (r : TaskRecord) → Has r → Then a r
  unchanged a r h = cond_both (is_accepted a) x x (λ y. HasLife class y r) (λ _. h) (λ _. h)

  kept : (a : Answer) (b : Bool) (r : TaskRecord) → Has r → Then a (if b then r else o)
  kept a b r h = unchanged a _ (cond_both b r o Has (λ _. h) (λ _. old))

  -- an accepted call that names it changes it
  changed : (a b : Bool) (y : LifeReported) (r : TaskRecord) → ((a && b) ≡ true → HasLife class y r) → HasLife class (if a then (if b then y else x) else x) (if a && b then r else o)
  changed true true y r h = h refl
  changed true false y r h = old
  changed false b y r h = old

  activated : (to : Option ℤ) (q : Proc) (on : Option Proc) → q ≡ taken_to class to x.at → on ≡ option_map (λ n. taken_to class (Some n) x.at) to → HasLife class (life_activated class to x) (activated_as o q on)
  activated to q on where_ for_ =
      subst (λ (b : Bool). HasLife class (life_activated class to x) (if b then record o { activations = 1; kept = on } else words.started o q)) (sym old.active)
      (either x.active
      (λ b. HasLife class (if b then record x { queued = Some (option_map (λ n. taken_to class (Some n) x.at) to) } else record x { active = true; at = taken_to class to x.at }) (if b then record o { activations = 1; kept = on } else words.started o q))
      (record { active = old.active; at = old.at; activations = refl; kept = for_; setup = old.setup })
      (record { active = refl; at = where_; activations = old.activations; kept = old.kept; setup = old.setup }))

  named : (id : ℤ) → is_some (processor_or_initial w o.setup.class id) ≡ true → processor_or_initial w o.setup.class id ≡ Some (taken_to class (Some id) x.at)
  named id there = named_is w o.setup.class id x.at there ∙ ap (λ (k : Class). Some (taken_to k (Some id) x.at)) old.setup

  activated_for : (id : ℤ) → is_some (processor_or_initial w o.setup.class id) ≡ true →
      HasLife class (life_activated class (Some id) x) (activated_as o (unwrap_or (processor_or_initial w o.setup.class id) (as_proc 1)) (processor_or_initial w o.setup.class id))
  activated_for id there = activated (Some id) _ _ (ap (λ (q : Option Proc). unwrap_or q (as_proc 1)) (named id there)) (named id there)

  ended_now : HasLife class (life_ended x.queued x.at) (words.ended o)
  ended_now = ended_has class x.queued x.at o old.at old.activations old.kept old.setup

  life_edits : (p : Proc) (c : TaskCall) (did : Effect) → ((is_done c did.answer && is_about t (runner_of w p) c) ≡ true → allows w p c o ≡ true) →
      HasLife class (life_after class t (report (event.Call p (call.Task c)) (runner_of w p) did) x) (if is_done c did.answer && is_about t (runner_of w p) c then edited w c o else o)
  life_edits p (tasks.ActTsk id) did may = changed _ _ _ _ (λ _. activated None o.assigned None old.at refl)
  life_edits p (tasks.IactTsk id) did may = changed _ _ _ _ (λ _. activated None o.assigned None old.at refl)
  life_edits p (tasks.MactTsk id to) did may = changed _ _ _ _ (λ e. activated_for to (and_parts _ _ (may e)).1)
  life_edits p (tasks.ImactTsk id to) did may = changed _ _ _ _ (λ e. activated_for to (and_parts _ _ (may e)).1)
  life_edits p (tasks.CanAct id) did may = changed _ _ _ _ (λ _. record { active = old.active; at = old.at; activations = refl; kept = refl; setup = old.setup })
  life_edits p (tasks.MigTsk id to) did may = moved (is_accepted did.answer) (names_task t (runner_of w p) id) (λ e. (and_parts _ _ (may e)).1)
    where
      there : is_some (processor_or_initial w o.setup.class to) ≡ true → HasLife class (record x { at = taken_to class (Some to) x.at }) (edited w (tasks.MigTsk id to) o)
      there known =
          let q : Proc = unwrap_or (processor_or_initial w o.setup.class to) (as_proc 1) in
          let is : q ≡ taken_to class (Some to) x.at = ap (λ (y : Option Proc). unwrap_or y (as_proc 1)) (named to known) in
          cond_both (o.assigned.number == q.number) o (record o { assigned = q }) (HasLife class (record x { at = taken_to class (Some to) x.at }))
          (λ same. record { active = old.active; at = processors_same o.assigned q (eqb-true o.assigned.number q.number same) ∙ is; activations = old.activations; kept = old.kept; setup = old.setup })
          (λ _. record { active = old.active; at = is; activations = old.activations; kept = old.kept; setup = old.setup })

      moved : (a b : Bool) → ((a && b) ≡ true → is_some (processor_or_initial w o.setup.class to) ≡ true) →
          HasLife class (if a then record x { at = taken_to class (if b then Some to else None) x.at } else x) (if a && b then edited w (tasks.MigTsk id to) o else o)
      moved true true h = there (h refl)
      moved true false h = old
      moved false b h = old
  life_edits p tasks.ExtTsk did may =
      either (is_gone did.answer && is_task t (runner_of w p)) (λ b. HasLife class (if b then life_ended x.queued x.at else if is_accepted did.answer then x else x) (if b then words.ended o else o)) ended_now (unchanged did.answer o old)
  life_edits p (tasks.TerTsk id) did may =
      either (is_accepted did.answer && is_number_of t id) (λ b. HasLife class (if b then life_ended x.queued x.at else if is_accepted did.answer then x else x) (if b then words.ended o else o)) ended_now (unchanged did.answer o old)
  life_edits p (tasks.WupTsk id) did may = kept _ _ (edited w (tasks.WupTsk id) o) (cond_both (is_sleep o.wait) o _ Has (λ _. old) (λ _. record { active = old.active; at = old.at; activations = old.activations; kept = old.kept; setup = old.setup }))
  life_edits p (tasks.IwupTsk id) did may = kept _ _ (edited w (tasks.IwupTsk id) o) (cond_both (is_sleep o.wait) o _ Has (λ _. old) (λ _. record { active = old.active; at = old.at; activations = old.activations; kept = old.kept; setup = old.setup }))
  life_edits p c did may = kept _ _ (edited w c o) (record { active = old.active; at = old.at; activations = old.activations; kept = old.kept; setup = old.setup })

pub life_step : {Q : Type 0} (k : Ordering Q) (w : World Q) (t : Task) (class : Class) (x : LifeReported) → HasLife class x (task w t) → length w.tasks ≤ 64 → t.number ≤ length w.tasks → (e : Event) →
    HasLife class (life_after class t (step k w e).1 x) (task (step k w e).0 t)
life_step k w t class x old few here e =
    report_step (HasLife class) (life_after class t) (λ y r q same h. besides_have class y r q same h) (λ r y ps z. refl) (others_leave class t) k w t few here x old
    (life_edits w t class x old) e
