-- What comes first on a processor, found in one walk over the tasks.
use Rattle.std.proofs.Common.{◌≡◌, ℕ, ◌+◌, Bool, true, false, List, Option, None, Some, cond, refl, ap, sym, ◌∙◌}
use Rattle.fmp_codes.specs.Numbers.{as_task}
use Rattle.fmp_codes.specs.declared.numbers.Proc.{Proc}
use Rattle.fmp_codes.specs.declared.numbers.Task.{Task}
use Rattle.fmp_rules.specs.World.{item}
use Rattle.fmp_rules.specs.Arrivals.{is_ready_on, comes_before, priority_in}
use Rattle.fmp_rules.specs.declared.machine.TaskRecord.{TaskRecord}
use Rattle.fmp_plain_machine.specs.Best.{best_of, met}
use Rattle.fmp_plain_machine.specs.Better.{better}
use Rattle.fmp_plain_machine.specs.Tops.{top_among}
use Rattle.fmp_plain_machine.proofs.First.{first_in_order}

module _ (records : List TaskRecord) (ready : List ℕ) where
  one_of : (b : Bool) (t u : Task) → cond b (best_of records ready (Some t)) (best_of records ready (Some u)) ≡ best_of records ready (cond b (Some t) (Some u))
  one_of true t u = refl
  one_of false t u = refl

  met_better : (t : Task) (o : Option Task) → met (best_of records ready o) t (priority_in records t) (item 0 ready t.number) ≡ best_of records ready (better (comes_before (priority_in records) ready) t o)
  met_better t None = refl
  met_better t (Some u) = one_of (comes_before (priority_in records) ready t u) t u

  one_more : (n : ℕ) (p : Proc) (b : Bool) → is_ready_on records p (as_task (n + 1)) ≡ b
      → top_among records ready (n + 1) p ≡ cond b (better (comes_before (priority_in records) ready) (as_task (n + 1)) (top_among records ready n p)) (top_among records ready n p)
  one_more n p b is = first_in_order (is_ready_on records p) (comes_before (priority_in records) ready) n
      ∙ ap (λ (q : Bool). cond q (better (comes_before (priority_in records) ready) (as_task (n + 1)) (top_among records ready n p)) (top_among records ready n p)) is

  pub one_ready : (n : ℕ) (p : Proc) → is_ready_on records p (as_task (n + 1)) ≡ true
      → met (best_of records ready (top_among records ready n p)) (as_task (n + 1)) (priority_in records (as_task (n + 1))) (item 0 ready (as_task (n + 1)).number) ≡ best_of records ready (top_among records ready (n + 1) p)
  one_ready n p is = met_better (as_task (n + 1)) (top_among records ready n p) ∙ ap (best_of records ready) (sym (one_more n p true is))

  pub one_not_ready : (n : ℕ) (p : Proc) → is_ready_on records p (as_task (n + 1)) ≡ false → best_of records ready (top_among records ready n p) ≡ best_of records ready (top_among records ready (n + 1) p)
  one_not_ready n p is = ap (best_of records ready) (sym (one_more n p false is))

  pub task_best : (o : Option Task) → (best_of records ready o).task ≡ o
  task_best None = refl
  task_best (Some t) = refl
