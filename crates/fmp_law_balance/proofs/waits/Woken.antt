-- An accepted call that wakes up a task that sleeps, or breaks off a wait, releases it.
use Rattle.std.proofs.Common.{◌≡◌, ◌+◌, ℤ, ◌==◌, true, refl, sym, ap, ◌∙◌, Option, Some, None, ⊎_elim}
use Rattle.std.specs.Prelude.{is_some, option_map, unwrap_or}
use Rattle.std.proofs.lemmas.Bool.{cases_eq, cond_both, and_parts, both_ways, eqb-true, eq-eqb, false≢true}
use Rattle.std.proofs.Math.Bool.{or-false}
use Rattle.fmp_codes.specs.Numbers.{as_task}
use Rattle.fmp_codes.specs.declared.numbers.Proc.{Proc}
use Rattle.fmp_codes.specs.declared.numbers.Task.{Task}
use Rattle.fmp_codes.specs.declared.calls.Call.{Call}
use Rattle.fmp_codes.specs.declared.calls.Call.TheVariants as calls
use Rattle.fmp_codes.specs.declared.calls.TaskCall.{TaskCall}
use Rattle.fmp_codes.specs.declared.calls.TaskCall.TheVariants as call
use Rattle.fmp_codes.specs.declared.codes.Code.{Code}
use Rattle.fmp_codes.specs.declared.codes.Code.TheVariants as code
use Rattle.fmp_codes.specs.declared.records.Event.{Event}
use Rattle.fmp_codes.specs.declared.records.Event.TheVariants as event
use Rattle.fmp_codes.specs.declared.records.Record.{Record}
use Rattle.fmp_codes.proofs.Same.{tasks_same}
use Rattle.fmp_setup.specs.Setup.{Setup}
use Rattle.fmp_rules.specs.Effects.{Effect}
use Rattle.fmp_rules.specs.World.{World, task}
use Rattle.fmp_rules.specs.Ordering.{Ordering, with_task}
use Rattle.fmp_rules.specs.Rows.{in_handler, called, refused, done, release}
use Rattle.fmp_rules.specs.Arguments.{task_named, task_or_caller}
use Rattle.fmp_rules.specs.TaskCalls.{is_sleep, wup, rel_wai, task_row}
use Rattle.fmp_rules.specs.Step.{row_of, step}
use Rattle.fmp_law_safety.specs.Safe.{Safe}
use Rattle.fmp_law_balance.specs.Accepted.{is_accepted}
use Rattle.fmp_law_balance.proofs.Called.{refuses, not_accepted, by_called}
use Rattle.fmp_law_balance.proofs.Steps.{by_step}
use Rattle.fmp_law_balance.specs.Waits.Asked.{OpenWait}
use Rattle.fmp_law_balance.specs.Waits.Waits.{OpenWaits, is_number_of, is_released}
use Rattle.fmp_law_balance.specs.Waits.Releases.{must_end, ReleasesCalled}
use Rattle.fmp_law_balance.proofs.waits.Named.{task_known}
use Rattle.fmp_law_balance.proofs.waits.Words.{IsKept}
use Rattle.fmp_law_balance.proofs.waits.Follows.{Sound}
use Rattle.fmp_law_balance.proofs.waits.TaskCalls.{names_no_other}

module _ {Q : Type 0} (config : Setup) (k : Ordering Q) (w : World Q) (s : Safe k w) (sound : Sound config w) (pending : OpenWaits) (report : (t : Task) → IsKept config w t (pending t)) where
  module _ (p : Proc) (t : Task) (o : OpenWait) (waits : (task w t).wait ≡ Some o.wait) where
    -- what is so of a call that did this
    abbrev Releases : Call → World Q × Effect → Type 0
    Releases c did = is_accepted did.1.answer ≡ true → must_end t o.wait (event.Call p c) ≡ true → is_released t did.1.releases ≡ true

    refused_releases : (c : Call) (x : Code) → refuses x ≡ true → Releases c (w, refused x)
    refused_releases c x e accepted must = absurd (both_ways (is_accepted (refused x).answer) (not_accepted x e) accepted)

    -- a release of the task of this number
    releases_it : (c : Call) (u : Task) (x : Code) (value : Option ℤ) → (u.number == t.number) ≡ true → Releases c (release k w u x value)
    releases_it c u x value same accepted must = or-false (u.number == t.number) ∙ same

    is_own : (id : ℤ) → is_some (task_or_caller w p id) ≡ true → is_number_of t id ≡ true → ((unwrap_or (task_or_caller w p id) (as_task 1)).number == t.number) ≡ true
    is_own id known named =
        let u : Task = unwrap_or (task_or_caller w p id) (as_task 1) in
        ⊎_elim (λ (e : t.number ≡ u.number). eq-eqb u.number t.number (sym e))
        (λ (d : t.number ≡ u.number → ⊥). absurd (both_ways (is_number_of t id) (names_no_other config k w s sound pending report p id known t d) named)) (cases_eq t.number u.number)

    is_named : (id : ℤ) → is_some (task_named w id) ≡ true → is_number_of t id ≡ true → ((unwrap_or (task_named w id) (as_task 1)).number == t.number) ≡ true
    is_named id known named = sym (task_known w id sound.few_tasks known t) ∙ named

    -- a wakeup of the task of this number, where it sleeps
    wakes_it : (c : TaskCall) (x : Option Task) →
        (must_end t o.wait (event.Call p (calls.Task c)) ≡ true → (((unwrap_or x (as_task 1)).number == t.number) ≡ true) × (is_sleep (Some o.wait) ≡ true)) → Releases (calls.Task c) (wup k w x).effect
    unfolding wup
    wakes_it c x names =
        let u : Task = unwrap_or x (as_task 1) in
        cond_both (is_sleep (task w u).wait) (release k w u code.Accepted None) (with_task w u (record (task w u) { wakeups = (task w u).wakeups + 1 }), done) (Releases (calls.Task c))
        (λ _ accepted must. releases_it (calls.Task c) u code.Accepted None (names must).0 accepted must)
        (λ awake accepted must.
        let named = names must in
        let same : u ≡ t = tasks_same u t (eqb-true u.number t.number named.0) in
        absurd (both_ways (is_sleep (task w u).wait) awake (ap (λ (v : Task). is_sleep (task w v).wait) same ∙ ap is_sleep waits ∙ named.1)))

    -- its wait is broken off
    breaks_it : (c : TaskCall) (id : ℤ) → is_some (task_named w id) ≡ true → (must_end t o.wait (event.Call p (calls.Task c)) ≡ true → is_number_of t id ≡ true) → Releases (calls.Task c) (rel_wai k w (task_named w id)).effect
    unfolding rel_wai
    breaks_it c id known names accepted must = releases_it (calls.Task c) (unwrap_or (task_named w id) (as_task 1)) code.WaitReleased None (is_named id known (names must)) accepted must

    releases_task : (c : TaskCall) → Releases (calls.Task c) (called w p (task_row k w p c))
    unfolding wup rel_wai
    releases_task (call.WupTsk id) =
        let c = call.WupTsk id in
        by_called w p (Releases (calls.Task c)) (wup k w (task_or_caller w p id)) (refl, (refl, tt)) (refused_releases (calls.Task c))
        (λ a. wakes_it c (task_or_caller w p id) (λ must. let parts = and_parts (is_number_of t id) (is_sleep (Some o.wait)) must in (is_own id a.known parts.0, parts.1)))
    releases_task (call.IwupTsk id) =
        let c = call.IwupTsk id in
        by_called w p (Releases (calls.Task c)) (in_handler (wup k w (task_named w id))) (refl, (refl, tt)) (refused_releases (calls.Task c))
        (λ a. wakes_it c (task_named w id) (λ must. let parts = and_parts (is_number_of t id) (is_sleep (Some o.wait)) must in (is_named id a.known parts.0, parts.1)))
    releases_task (call.RelWai id) =
        let c = call.RelWai id in
        by_called w p (Releases (calls.Task c)) (rel_wai k w (task_named w id)) (refl, tt) (refused_releases (calls.Task c))
        (λ a. breaks_it c id a.known (λ must. sym (or-false (is_number_of t id)) ∙ must))
    releases_task (call.IrelWai id) =
        let c = call.IrelWai id in
        by_called w p (Releases (calls.Task c)) (in_handler (rel_wai k w (task_named w id))) (refl, tt) (refused_releases (calls.Task c))
        (λ a. breaks_it c id a.known (λ must. sym (or-false (is_number_of t id)) ∙ must))
    releases_task c = λ accepted must. absurd (false≢true must)

    releases_call : (c : Call) → Releases c (called w p (row_of k w p c))
    releases_call (calls.Task c) = releases_task c
    releases_call c = λ accepted must. absurd (false≢true must)

  pub releases_called : (e : Event) → ReleasesCalled pending (step k w e).1
  releases_called e t o is =
      let waits : (task w t).wait ≡ Some o.wait = (report t).0.wait ∙ ap (λ x. option_map (λ (y : OpenWait). y.wait) x) is in
      let L : World Q → Record → Type 0 = λ v r. is_accepted r.answer ≡ true → must_end t o.wait r.event ≡ true → is_released t r.releases ≡ true in
      by_step k w L (λ v cs r x ps h. h) (λ p c. releases_call p t o waits c) (λ p c none accepted must. absurd (false≢true accepted)) (λ p accepted must. absurd (false≢true must))
      (λ e r a no_call no_e accepted must. absurd (both_ways (is_accepted a) no_e accepted)) e
