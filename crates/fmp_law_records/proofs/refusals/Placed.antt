-- A call answers E_CTX just where it is misplaced.
use Rattle.std.proofs.Common.{◌≡◌, ◌≤◌, ◌==◌, ℕ, ℤ, pos, negsuc, Bool, true, false, not, ◌&&◌, ◌||◌, length, arith, refl, sym, ap, ◌∙◌, subst, Option, Some, None}
use Rattle.std.specs.Prelude.{if◌then◌else◌, is_some, nat_le, unwrap_or, option_map}
use Rattle.std.specs.Option.{option_or}
use Rattle.std.proofs.lemmas.Bool.{cond_both, and_parts, leb-true, le-leb, false≢true, both_ways, ne_eqb, eq-eqb, and_from, or_parts}
use Rattle.fmp_codes.specs.Numbers.{as_task, within}
use Rattle.fmp_codes.specs.declared.numbers.Proc.{Proc}
use Rattle.fmp_codes.specs.declared.numbers.Task.{Task}
use Rattle.fmp_codes.specs.declared.calls.Call.{Call}
use Rattle.fmp_codes.specs.declared.calls.Call.TheVariants as call
use Rattle.fmp_codes.specs.declared.calls.TaskCall.{TaskCall}
use Rattle.fmp_codes.specs.declared.calls.TaskCall.TheVariants as tasks
use Rattle.fmp_codes.specs.declared.records.Runner.{Runner}
use Rattle.fmp_codes.specs.declared.records.Runner.TheVariants as runner
use Rattle.fmp_rules.specs.declared.machine.Context.TheVariants as context
use Rattle.fmp_rules.specs.World.{World, processor, handler, runner_of, is_held}
use Rattle.fmp_rules.specs.Rows.{is_wrong_context, is_refused_context}
use Rattle.fmp_rules.specs.Arguments.{caller, is_caller, task_named, task_or_caller}
use Rattle.fmp_law_safety.proofs.Calls.{FromTask}
use Rattle.fmp_law_balance.proofs.waits.Named.{eqb_sym, caller_runs}
use Rattle.fmp_law_records.specs.Due.{is_handler}
use Rattle.fmp_law_records.specs.Requests.{ProcessorReported, is_held_reported}
use Rattle.fmp_law_records.specs.Refusals.Misplaced.{is_for_handlers, is_for_all, is_for_locked, is_not_for, may_wait, is_caller_named, moves_caller, is_misplaced}
use Rattle.fmp_law_records.proofs.refusals.Rules.{context_of, stops, rule_of}

-- this is told of p
pub record Sees {Q : Type 0} (w : World Q) (p : Proc) (x : ProcessorReported) : Type 0 where
  pub locked : (processor w p).locked ≡ x.locked
  pub disabled : (processor w p).disabled ≡ x.disabled
  pub held : is_held w p ≡ is_held_reported x
  pub handler : is_handler (runner_of w p) ≡ is_some (handler w p)
  pub within : (t : Task) → (processor w p).running ≡ Some t → t.number ≤ length w.tasks
  pub few : length w.tasks ≤ 64

some_runs : (h : Option Runner) (o : Option Task) → is_some h ≡ false → is_some (option_or h (option_map runner.Task o)) ≡ true → o ≡ Some (unwrap_or o (as_task 1))
some_runs None None none there = absurd (false≢true there)
some_runs None (Some t) none there = refl
some_runs (Some r) o none there = absurd (false≢true (sym none))

or_false : (b : Bool) → (b || false) ≡ b
or_false true = refl
or_false false = refl

module _ {Q : Type 0} (w : World Q) (p : Proc) (there : is_some (runner_of w p) ≡ true) where
  -- where no handler is due a task makes the call
  by_task : is_some (handler w p) ≡ false → FromTask w p
  by_task none = record { handler = none; running = some_runs (handler w p) (processor w p).running none there }

  module _ (x : ProcessorReported) (h : Sees w p x) where
    -- the argument names the caller
    pub caller_same : (id : ℤ) → is_some (handler w p) ≡ false → is_caller w p (task_or_caller w p id) ≡ is_caller_named (runner_of w p) id
    caller_same id none = rw (caller_runs w p (by_task none)) (go id)
      where
        u : Task
        u = caller w p

        runs : (processor w p).running ≡ Some (caller w p)
        runs = (by_task none).running

        itself : is_caller w p (processor w p).running ≡ true
        itself = subst (λ (o : Option Task). is_caller w p o ≡ true) (sym runs) (and_from _ _ (ap is_some runs) (eq-eqb (caller w p).number (caller w p).number refl))

        of_number : (n : ℕ) → is_caller w p (task_named w (pos n)) ≡ (n == (caller w p).number)
        of_number n =
            cond_both (nat_le 1 n && nat_le n (length w.tasks)) (Some n) None (λ (o : Option ℕ). is_caller w p (option_map as_task o) ≡ (n == (caller w p).number))
            (λ in_range.
            let parts = and_parts (nat_le 1 n) (nat_le n (length w.tasks)) in_range in
            let most : n ≤ length w.tasks = leb-true n (length w.tasks) parts.1 in
            let least : 1 ≤ n = leb-true 1 n parts.0 in
            let number : within 64 n ≡ n = omega (arith, most, least, h.few) in
            ap (λ b. b && (caller w p).number == within 64 n) (ap is_some runs) ∙ ap (λ i. (caller w p).number == i) number ∙ eqb_sym (caller w p).number n)
            (λ out.
            sym (ne_eqb n (caller w p).number (λ e.
            let most : (caller w p).number ≤ length w.tasks = h.within (caller w p) runs in
            both_ways _ out (and_from _ _ (le-leb 1 n (omega (arith, e, (caller w p).least))) (le-leb n (length w.tasks) (omega (arith, e, most)))))))

        go : (id : ℤ) → is_caller w p (task_or_caller w p id) ≡ is_caller_named (Some (runner.Task (caller w p))) id
        go (negsuc n) = refl
        go (pos n) =
            cond_both (n == 0) (processor w p).running (task_named w (pos n)) (λ (o : Option Task). is_caller w p o ≡ (n == 0 || n == (caller w p).number))
            (λ yes_. itself ∙ sym (ap (λ b. b || n == (caller w p).number) yes_))
            (λ no_. of_number n ∙ sym (ap (λ b. b || n == (caller w p).number) no_))

    -- who makes it may not
    wrong_same : (c : Call) → is_wrong_context (context_of c) (is_some (handler w p)) (is_some (processor w p).running) ≡ is_not_for (runner_of w p) c
    wrong_same c = go (is_for_all c) (is_for_handlers c)
      where
        runs_or : (b : Bool) → is_some (handler w p) ≡ b → (b || not (is_some (processor w p).running)) ≡ b
        runs_or true e = refl
        runs_or false e = ap (λ o. not (is_some o)) (by_task e).running

        go : (a b : Bool) → is_wrong_context (if a then context.Any else if b then context.Handler else context.Task) (is_some (handler w p))
            (is_some (processor w p).running) ≡
            (if a then false else if b then not (is_handler (runner_of w p)) else is_handler (runner_of w p))
        go true b = refl
        go false true = ap not (sym h.handler)
        go false false = runs_or (is_some (handler w p)) refl ∙ sym h.handler

    abbrev refused : Call → Bool
    refused c = is_refused_context w p (rule_of w p c)

    by_parts : (c : Call) → stops w p c ≡ moves_caller (runner_of w p) c → refused c ≡ is_misplaced x (runner_of w p) c
    by_parts c same =
        ap (λ b. b || ((processor w p).locked && not (is_for_locked c)) || ((may_wait c || stops w p c) && is_held w p)) (wrong_same c)
        ∙ ap (λ b. is_not_for (runner_of w p) c || (b && not (is_for_locked c)) || ((may_wait c || stops w p c) && is_held w p)) h.locked
        ∙ ap (λ b. is_not_for (runner_of w p) c || (x.locked && not (is_for_locked c)) || ((may_wait c || b) && is_held w p)) same
        ∙ ap (λ b. is_not_for (runner_of w p) c || (x.locked && not (is_for_locked c)) || ((may_wait c || moves_caller (runner_of w p) c) && b)) h.held

    -- a call that may name its caller, and only a task may make
    of_caller : (c : TaskCall) → (is_some (handler w p) ≡ false → stops w p (call.Task c) ≡ moves_caller (runner_of w p) (call.Task c)) →
        is_for_all (call.Task c) ≡ false →
        is_for_handlers (call.Task c) ≡ false → refused (call.Task c) ≡ is_misplaced x (runner_of w p) (call.Task c)
    of_caller c same all handlers = go (is_some (handler w p)) refl
      where
        go : (b : Bool) → is_some (handler w p) ≡ b → refused (call.Task c) ≡ is_misplaced x (runner_of w p) (call.Task c)
        go false e = by_parts (call.Task c) (same e)
        go true e =
            let machine : is_wrong_context (context_of (call.Task c)) (is_some (handler w p)) (is_some (processor w p).running) ≡ true = wrong_same (call.Task c)
            ∙ wrong in
            ap (λ b. b || ((processor w p).locked && not (is_for_locked (call.Task c))) || ((may_wait (call.Task c) || stops w p (call.Task c)) && is_held w p)) machine
            ∙ sym (ap (λ b. b || (x.locked && not (is_for_locked (call.Task c))) ||
            ((may_wait (call.Task c) || moves_caller (runner_of w p) (call.Task c)) && is_held_reported x)) wrong)
          where
            wrong : is_not_for (runner_of w p) (call.Task c) ≡ true
            wrong = rw (all, handlers) (h.handler ∙ e)

    pub misplaced_same : (c : Call) → refused c ≡ is_misplaced x (runner_of w p) c
    misplaced_same (call.Task (tasks.SusTsk id)) = of_caller (tasks.SusTsk id) (caller_same id) refl refl
    misplaced_same (call.Task (tasks.MigTsk id to)) = of_caller (tasks.MigTsk id to) (caller_same id) refl refl
    misplaced_same c = by_parts c refl

-- what is in place, and only a task may make, is made by a task
pub from_there : {Q : Type 0} (w : World Q) (p : Proc) (x : ProcessorReported) → Sees w p x → is_some (runner_of w p) ≡ true → (y : Call) →
    is_misplaced x (runner_of w p) y ≡ false → is_for_all y ≡ false → is_for_handlers y ≡ false → FromTask w p
from_there w p x sees there y placed all handlers =
    let wrong : is_not_for (runner_of w p) y ≡ false = (or_parts _ _ (or_parts _ _ placed).0).0 in
    let none : is_handler (runner_of w p) ≡ false = rw (all, handlers) at wrong in
    by_task w p there (sym sees.handler ∙ none)
