-- Who calls, and what arguments name.
use Rattle.std.proofs.Common.{◌≡◌, ℕ, ◌-◌, ◌≤◌, ℤ, pos, negsuc, true, false, ◌&&◌, List, length, refl, arith, Option, Some, None}
use Rattle.std.specs.Prelude.{is_some, is_none, nat_le, unwrap_or, option_map}
use Rattle.std.proofs.lemmas.Bool.{cond_both, and_parts, leb-true, false≢true}
use Rattle.fmp_codes.specs.Numbers.{as_task, within}
use Rattle.fmp_codes.specs.declared.numbers.Proc.{Proc}
use Rattle.fmp_codes.specs.declared.numbers.Task.{Task}
use Rattle.fmp_rules.specs.declared.machine.Wait.{Wait}
use Rattle.fmp_rules.specs.World.{task, processor, no_task}
use Rattle.fmp_rules.specs.Arrivals.{State, numbered}
use Rattle.fmp_rules.specs.Arguments.{named, is_zero, caller, task_named, task_or_caller}
use Rattle.fmp_law_safety.specs.Safe.{IsNumberOf, Safe}
use Rattle.fmp_law_safety.proofs.Calls.{FromTask}
use Rattle.fmp_law_safety.proofs.KeepsTasks.{may_run_parts}
use Rattle.fmp_law_lists.proofs.Tops.{active_within}

no_wait : (o : Option Wait) → is_none o ≡ true → o ≡ None
no_wait None e = refl
no_wait (Some x) e = absurd (false≢true e)

-- the argument names one of a list
pub named_within : {X : Type 0} (xs : List X) (id : ℤ) → is_some (named xs id) ≡ true → (1 ≤ unwrap_or (named xs id) 1) × (unwrap_or (named xs id) 1 ≤ length xs)
named_within xs (negsuc n) e = absurd (false≢true e)
named_within xs (pos n) e =
    cond_both (nat_le 1 n && nat_le n (length xs)) (Some n) None (λ o. is_some o ≡ true → (1 ≤ unwrap_or o 1) × (unwrap_or o 1 ≤ length xs))
    (λ b _. let parts = and_parts (nat_le 1 n) (nat_le n (length xs)) b in (leb-true 1 n parts.0, leb-true n (length xs) parts.1)) (λ _ h. absurd (false≢true h)) e

module _ (m : State) where
  task_within : (o : Option ℕ) → (is_some o ≡ true → (1 ≤ unwrap_or o 1) × (unwrap_or o 1 ≤ length m.tasks)) →
      is_some (option_map as_task o) ≡ true → (unwrap_or (option_map as_task o) (as_task 1)).number ≤ length m.tasks
  task_within None h e = absurd (false≢true e)
  task_within (Some n) h e = let l = h refl in omega (arith, l.0, l.1)

  pub task_named_within : (id : ℤ) → is_some (task_named m id) ≡ true → (unwrap_or (task_named m id) (as_task 1)).number ≤ length m.tasks
  task_named_within id e = task_within (named m.tasks id) (named_within m.tasks id) e

  module _ (safe : Safe numbered m) where
    -- a dormant task has no wait
    pub dormant_free : (u : Task) → u.number ≤ length m.tasks → (task m u).active ≡ false → (task m u).wait ≡ None
    dormant_free u within e = ((safe.in_range.tasks (u.number - 1) no_task (omega (arith, within, u.least))).dormant e).1

    module _ (p : Proc) (there : IsNumberOf m.processors p.number) where
      pub running_within : (t : Task) → (processor m p).running ≡ Some t → t.number ≤ length m.tasks
      running_within t e = active_within m.tasks t (may_run_parts p (task m t) ((safe.processors p there).runs t e)).active

      pub caller_within : FromTask m p → (caller m p).number ≤ length m.tasks
      caller_within f = running_within (caller m p) f.running

      pub caller_free : FromTask m p → (task m (caller m p)).wait ≡ None
      caller_free f = no_wait (task m (caller m p)).wait (may_run_parts p (task m (caller m p)) ((safe.processors p there).runs (caller m p) f.running)).wait

      pub task_or_caller_within : (id : ℤ) → is_some (task_or_caller m p id) ≡ true → (unwrap_or (task_or_caller m p id) (as_task 1)).number ≤ length m.tasks
      task_or_caller_within id e =
          cond_both (is_zero id) (processor m p).running (task_named m id) (λ (o : Option Task). is_some o ≡ true → (unwrap_or o (as_task 1)).number ≤ length m.tasks)
          (λ _ h. of_running (processor m p).running refl h) (λ _ h. task_named_within id h) e
        where
          of_running : (o : Option Task) → (processor m p).running ≡ o → is_some o ≡ true → (unwrap_or o (as_task 1)).number ≤ length m.tasks
          of_running None g h = absurd (false≢true h)
          of_running (Some t) g h = running_within t g
