-- The task that an argument names, and laws on it and on all others.
use Rattle.std.proofs.Common.{◌≡◌, ◌≤◌, ◌==◌, ℤ, Bool, true, false, length, refl, ap, ◌∙◌, subst}
use Rattle.std.specs.Prelude.{is_some, slice_index_or, unwrap_or}
use Rattle.fmp_codes.specs.Numbers.{as_task}
use Rattle.fmp_codes.specs.declared.numbers.Proc.{Proc}
use Rattle.fmp_codes.specs.declared.numbers.Task.{Task}
use Rattle.fmp_rules.specs.declared.machine.TaskRecord.{TaskRecord}
use Rattle.fmp_rules.specs.World.{World, no_task, item, with_item, task, runner_of}
use Rattle.fmp_rules.specs.Arguments.{caller, is_zero, task_or_caller}
use Rattle.fmp_law_safety.proofs.Items.{item_after, item_same, item_other}
use Rattle.fmp_law_safety.proofs.Calls.{FromTask}
use Rattle.fmp_law_balance.specs.Queues.{is_task}
use Rattle.fmp_law_balance.proofs.waits.Named.{eqb_sym, caller_runs, task_known}
use Rattle.fmp_law_balance.proofs.Words.{nothing_same}
use Rattle.fmp_law_records.specs.Counts.Naming.{names_task}

module _ {Q : Type 0} (w : World Q) (p : Proc) (t : Task) where
  pub is_caller_of : FromTask w p → is_task t (runner_of w p) ≡ ((caller w p).number == t.number)
  is_caller_of f = ap (is_task t) (caller_runs w p f) ∙ eqb_sym t.number (caller w p).number

  pub named_or_caller_is : (id : ℤ) → length w.tasks ≤ 64 → FromTask w p → is_some (task_or_caller w p id) ≡ true →
      names_task t (runner_of w p) id ≡ ((unwrap_or (task_or_caller w p id) (as_task 1)).number == t.number)
  named_or_caller_is id few f known = go (is_zero id) refl
    where
      go : (b : Bool) → is_zero id ≡ b → names_task t (runner_of w p) id ≡ ((unwrap_or (task_or_caller w p id) (as_task 1)).number == t.number)
      go true e = rw (nothing_same id, e) (is_caller_of f)
      go false e = rw (nothing_same id, e) (task_known w id few (rw e at known) t)

-- One task changes.
module _ {Q : Type 0} (w : World Q) (u : Task) (r : TaskRecord) where
  -- what holds of the new record where it held of the old one holds of each task afterwards
  pub after_change : (t : Task) (P : TaskRecord → Type 0) → (P (task w u) → P r) → P (task w t) → P (item no_task (with_item w.tasks u.number r) t.number)
  after_change t P new old =
      item_after no_task w.tasks u.number r P t.number (λ i. new (subst (λ j. P (slice_index_or w.tasks j no_task)) i old)) old

  pub changed_here : u.number ≤ length w.tasks → item no_task (with_item w.tasks u.number r) u.number ≡ r
  changed_here most = item_same no_task w.tasks u.number r u.least most

  pub changed_there : (t : Task) → (t.number ≡ u.number → ⊥) → item no_task (with_item w.tasks u.number r) t.number ≡ task w t
  changed_there t d = item_other no_task w.tasks u.number r t.number t.least u.least d
