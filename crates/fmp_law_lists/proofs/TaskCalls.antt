-- The calls on tasks do the same on lists and on numbers.
use Rattle.std.proofs.Common.{◌≡◌, ◌≤◌, ◌==◌, ℕ, ℤ, true, false, length, refl, sym, ◌∙◌, Option, Some, None}
use Rattle.std.specs.Prelude.{is_some, unwrap_or}
use Rattle.std.proofs.lemmas.Bool.{and_parts}
use Rattle.std.proofs.lemmas.Option.{none-some}
use Rattle.fmp_codes.specs.Numbers.{as_proc, as_task}
use Rattle.fmp_codes.specs.declared.numbers.Proc.{Proc}
use Rattle.fmp_codes.specs.declared.numbers.Task.{Task}
use Rattle.fmp_codes.specs.declared.calls.TaskCall.{TaskCall}
use Rattle.fmp_codes.specs.declared.calls.TaskCall.TheVariants as call
use Rattle.fmp_codes.specs.declared.codes.Code.TheVariants as code
use Rattle.fmp_rules.specs.Effects.{Effect}
use Rattle.fmp_rules.specs.declared.machine.Context.{Context}
use Rattle.fmp_rules.specs.declared.machine.Context.TheVariants as context
use Rattle.fmp_rules.specs.declared.machine.Wait.{Wait}
use Rattle.fmp_rules.specs.declared.machine.Wait.TheVariants as wait
use Rattle.fmp_rules.specs.World.{World, task}
use Rattle.fmp_rules.specs.Arrivals.{State, numbered}
use Rattle.fmp_rules.specs.Tasks.{started, activate}
use Rattle.fmp_rules.specs.Arguments.{caller, task_named, task_or_caller, class_of, processor_or_initial, forever, ticks_of}
use Rattle.fmp_rules.specs.Processors.{opened}
use Rattle.fmp_rules.specs.Rows.{called, done}
use Rattle.fmp_rules.specs.TaskCalls.{is_sleep, act, mact, can_act, mig_tsk, ext_tsk, ter_tsk, chg_pri, get_pri, tslp_tsk, wup, can_wup, rel_wai, sus_tsk, rsm_tsk, dly_tsk, task_row}
use Rattle.fmp_law_safety.specs.Safe.{IsNumberOf, Safe}
use Rattle.fmp_law_safety.proofs.Calls.{from, from_task}
use Rattle.fmp_kernel_order.specs.Queues.{Queues, Place, place_of, listed}
use Rattle.fmp_law_lists.specs.Stands.{with_order, AreListsOf, Matches}
use Rattle.fmp_law_lists.proofs.Words.{by_tests}
use Rattle.fmp_law_lists.proofs.Callers.{dormant_free, caller_within, caller_free, task_named_within, task_or_caller_within}
use Rattle.fmp_law_lists.proofs.Waiting.{does_or_waits}
use Rattle.fmp_law_lists.proofs.Matching.{matches, noted, placed_again, placed_free, wait_begun, released, finished, priority_changed, called_matches}

-- a wait that stands in no queue
nowhere : (x : Wait) → place_of x ≡ None → (at : Place) → place_of x ≡ Some at → (n : ℕ) → at.object.number ≤ n
nowhere x e at f n = absurd (none-some at (sym e ∙ f))

module _ (m : State) (q : Queues) (s : AreListsOf q m) (safe : Safe numbered m) where
  abbrev w : World Queues
  w = with_order m q

  -- an activation, on a processor that may be kept
  activated : (u : Task) → u.number ≤ length m.tasks → (to : Proc) (kept : Option Proc) (e : Effect) → Matches (activate listed w u to kept, e) (activate numbered m u to kept, e)
  activated u within to kept e =
      by_tests (λ x y. Matches (x, e) (y, e)) (task m u).active _ _ _ _
      (λ _. noted m q s u within (record (task m u) { activations = 1; kept = kept }) e refl refl refl refl)
      (λ dormant. placed_free m q s u within (started (task m u) to) e refl (dormant_free m safe u within dormant))

  module _ (p : Proc) (there : IsNumberOf m.processors p.number) where
    -- a task that an argument names is there
    abbrev IsThere : Option Task → Type 0
    IsThere t = is_some t ≡ true → (unwrap_or t (as_task 1)).number ≤ length m.tasks

    acts : (c : Context) (t : Option Task) → IsThere t → Matches (called w p (from c (act listed w t))) (called m p (from c (act numbered m t)))
    unfolding act
    acts c t within =
        called_matches m q s p (from c (act listed w t)) (from c (act numbered m t)) refl
        (λ a. activated (unwrap_or t (as_task 1)) (within a.known) (task m (unwrap_or t (as_task 1))).assigned None done)

    macts : (c : Context) (t : Option Task) (id : ℤ) → IsThere t → Matches (called w p (from c (mact listed w t id))) (called m p (from c (mact numbered m t id)))
    unfolding mact
    macts c t id within =
        let to : Option Proc = processor_or_initial m (class_of m t) id in
        called_matches m q s p (from c (mact listed w t id)) (from c (mact numbered m t id)) refl
        (λ a. activated (unwrap_or t (as_task 1)) (within (and_parts _ _ a.known).0) (unwrap_or to (as_proc 1)) to done)

    can_acts : (t : Option Task) → IsThere t → Matches (called w p (can_act w t)) (called m p (can_act m t))
    unfolding can_act
    can_acts t within = called_matches m q s p (can_act w t) (can_act m t) refl (λ a. noted m q s (unwrap_or t (as_task 1)) (within a.known) _ _ refl refl refl refl)

    migrates : (t : Option Task) (id : ℤ) → IsThere t → Matches (called w p (mig_tsk listed w p t id)) (called m p (mig_tsk numbered m p t id))
    unfolding mig_tsk
    migrates t id within =
        let u : Task = unwrap_or t (as_task 1) in
        let to : Proc = unwrap_or (processor_or_initial m (class_of m t) id) (as_proc 1) in
        called_matches m q s p (mig_tsk listed w p t id) (mig_tsk numbered m p t id) refl
        (λ a. by_tests (λ x y. Matches (x, done) (y, done)) ((task m u).assigned.number == to.number) _ _ _ _
        (λ _. matches m q s done) (λ _. placed_again m q s u (within (and_parts _ _ a.known).0) _ done refl refl))

    ends : Matches (called w p (ext_tsk listed w p)) (called m p (ext_tsk numbered m p))
    unfolding ext_tsk opened
    ends =
        called_matches m q s p (ext_tsk listed w p) (ext_tsk numbered m p) refl
        (λ a. finished (opened m p) q s (caller m p) (caller_within m safe p there (from_task m p true false a.rule)) _)

    terminates : (t : Option Task) → IsThere t → Matches (called w p (ter_tsk listed w p t)) (called m p (ter_tsk numbered m p t))
    unfolding ter_tsk
    terminates t within = called_matches m q s p (ter_tsk listed w p t) (ter_tsk numbered m p t) refl (λ a. finished m q s (unwrap_or t (as_task 1)) (within a.known) _)

    changes : (t : Option Task) (n : ℤ) → IsThere t → Matches (called w p (chg_pri listed w t n)) (called m p (chg_pri numbered m t n))
    unfolding chg_pri
    changes t n within = called_matches m q s p (chg_pri listed w t n) (chg_pri numbered m t n) refl (λ a. priority_changed m q s (unwrap_or t (as_task 1)) (within a.known) _ _)

    tells : (t : Option Task) → Matches (called w p (get_pri w t)) (called m p (get_pri m t))
    tells t = called_matches m q s p (get_pri w t) (get_pri m t) refl (λ _. matches m q s _)

    sleeps : (timeout : ℤ) → Matches (called w p (tslp_tsk listed w p timeout)) (called m p (tslp_tsk numbered m p timeout))
    unfolding tslp_tsk
    sleeps timeout =
        called_matches m q s p (tslp_tsk listed w p timeout) (tslp_tsk numbered m p timeout) refl
        (λ a.
        does_or_waits m q s safe p there a.rule _ _ _ wait.Sleep timeout (λ at e. nowhere wait.Sleep refl at e _)
        (noted m q s (caller m p) (caller_within m safe p there (from_task m p false true a.rule)) _ _ refl refl refl refl))

    wakes : (c : Context) (t : Option Task) → IsThere t → Matches (called w p (from c (wup listed w t))) (called m p (from c (wup numbered m t)))
    unfolding wup
    wakes c t within =
        let u : Task = unwrap_or t (as_task 1) in
        called_matches m q s p (from c (wup listed w t)) (from c (wup numbered m t)) refl
        (λ a. by_tests Matches (is_sleep (task m u).wait) _ _ _ _
        (λ _. released m q s u (within a.known) code.Accepted None) (λ _. noted m q s u (within a.known) _ _ refl refl refl refl))

    can_wakes : (t : Option Task) → IsThere t → Matches (called w p (can_wup w t)) (called m p (can_wup m t))
    unfolding can_wup
    can_wakes t within = called_matches m q s p (can_wup w t) (can_wup m t) refl (λ a. noted m q s (unwrap_or t (as_task 1)) (within a.known) _ _ refl refl refl refl)

    releases : (c : Context) (t : Option Task) → IsThere t → Matches (called w p (from c (rel_wai listed w t))) (called m p (from c (rel_wai numbered m t)))
    unfolding rel_wai
    releases c t within =
        called_matches m q s p (from c (rel_wai listed w t)) (from c (rel_wai numbered m t)) refl (λ a. released m q s (unwrap_or t (as_task 1)) (within a.known) code.WaitReleased None)

    suspends : (t : Option Task) → IsThere t → Matches (called w p (sus_tsk listed w p t)) (called m p (sus_tsk numbered m p t))
    unfolding sus_tsk
    suspends t within = called_matches m q s p (sus_tsk listed w p t) (sus_tsk numbered m p t) refl (λ a. placed_again m q s (unwrap_or t (as_task 1)) (within a.known) _ _ refl refl)

    resumes : (t : Option Task) → IsThere t → Matches (called w p (rsm_tsk listed w t)) (called m p (rsm_tsk numbered m t))
    unfolding rsm_tsk
    resumes t within = called_matches m q s p (rsm_tsk listed w t) (rsm_tsk numbered m t) refl (λ a. placed_again m q s (unwrap_or t (as_task 1)) (within a.known) _ _ refl refl)

    delays : (time : ℤ) → Matches (called w p (dly_tsk listed w p time)) (called m p (dly_tsk numbered m p time))
    unfolding dly_tsk
    delays time =
        called_matches m q s p (dly_tsk listed w p time) (dly_tsk numbered m p time) refl
        (λ a.
        let f = from_task m p false true a.rule in
        wait_begun m q s (caller m p) (caller_within m safe p there f) wait.Delay (ticks_of time) _ (caller_free m safe p there f) (λ at e. nowhere wait.Delay refl at e _))

    own : (id : ℤ) → IsThere (task_or_caller m p id)
    own id = task_or_caller_within m safe p there id

    other : (id : ℤ) → IsThere (task_named m id)
    other id = task_named_within m id

    pub task_matches : (c : TaskCall) → Matches (called w p (task_row listed w p c)) (called m p (task_row numbered m p c))
    unfolding act mact wup rel_wai
    task_matches (call.ActTsk id) = acts context.Task (task_or_caller m p id) (own id)
    task_matches (call.IactTsk id) = acts context.Handler (task_named m id) (other id)
    task_matches (call.MactTsk id to) = macts context.Task (task_or_caller m p id) to (own id)
    task_matches (call.ImactTsk id to) = macts context.Handler (task_named m id) to (other id)
    task_matches (call.CanAct id) = can_acts (task_or_caller m p id) (own id)
    task_matches (call.MigTsk id to) = migrates (task_or_caller m p id) to (own id)
    task_matches call.ExtTsk = ends
    task_matches (call.TerTsk id) = terminates (task_named m id) (other id)
    task_matches (call.ChgPri id n) = changes (task_or_caller m p id) n (own id)
    task_matches (call.GetPri id) = tells (task_or_caller m p id)
    task_matches call.SlpTsk = sleeps forever
    task_matches (call.TslpTsk timeout) = sleeps timeout
    task_matches (call.WupTsk id) = wakes context.Task (task_or_caller m p id) (own id)
    task_matches (call.IwupTsk id) = wakes context.Handler (task_named m id) (other id)
    task_matches (call.CanWup id) = can_wakes (task_or_caller m p id) (own id)
    task_matches (call.RelWai id) = releases context.Task (task_named m id) (other id)
    task_matches (call.IrelWai id) = releases context.Handler (task_named m id) (other id)
    task_matches (call.SusTsk id) = suspends (task_or_caller m p id) (own id)
    task_matches (call.RsmTsk id) = resumes (task_named m id) (other id)
    task_matches (call.DlyTsk time) = delays time
