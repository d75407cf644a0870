-- One processor, one priority or one task more.
use Rattle.std.proofs.Common.{◌≡◌, ◌≤◌, ℕ, zero, ◌+◌, suc, List, [], ◌++◌, add-one, arith, refl, sym, ap, subst, ◌∙◌, append-nil}
use Rattle.std.specs.Prelude.{Option, None}
use Rattle.fmp_out.specs.Putting.{Adds, Putting}
use Rattle.fmp_out.proofs.Puts.{both}
use Rattle.fmp_codes.specs.Numbers.{as_pri, as_proc, as_task}
use Rattle.fmp_codes.specs.declared.numbers.Pri.{Pri}
use Rattle.fmp_codes.specs.declared.numbers.Proc.{Proc}
use Rattle.fmp_codes.specs.declared.numbers.Task.{Task}
use Rattle.fmp_rules.specs.declared.machine.TaskRecord.{TaskRecord}
use Rattle.fmp_rules.specs.Ordering.{Ordering}
use Rattle.fmp_rules.specs.World.{World, item, processor, task}
use Rattle.fmp_names.specs.Names.{NameLists}
use Rattle.fmp_show_state.specs.States.{processor_text, processors_text, ready_to, task_line, tasks_text, without_running}

module _ {Q : Type 0} (k : Ordering Q) (w : World Q) where
  ready_suc : (p : Proc) (n : ℕ) → ready_to k w p (suc n) ≡ ready_to k w p n ++ without_running (processor w p).running (k.ready w.order w.tasks p (as_pri (suc n)))
  unfolding ready_to
  ready_suc p n = refl

  pub ready_more : (p : Proc) (n : ℕ) → ready_to k w p (n + 1) ≡ ready_to k w p n ++ without_running (processor w p).running (k.ready w.order w.tasks p (as_pri (n + 1)))
  ready_more p n = rw (add-one) (ready_suc p n)

  -- nor do the priorities after the last one with a task
  pub ready_over : (p : Proc) (n d : ℕ) → ((x : Pri) → n + 1 ≤ x.number → k.ready w.order w.tasks p x ≡ []) → n + d ≤ 32 → ready_to k w p (n + d) ≡ ready_to k w p n
  ready_over p n zero none few = ap (ready_to k w p) (omega arith)
  ready_over p n (suc d) none few =
      let longer : n + suc d ≡ n + d + 1 = omega arith in
      let empty = none (as_pri (n + d + 1)) (omega (arith, few)) in
      ap (ready_to k w p) longer ∙ ready_more p (n + d)
      ∙ ap (λ (ts : List Task). ready_to k w p (n + d) ++ without_running (processor w p).running ts) empty ∙ append-nil _ ∙ ready_over p n d none (omega (arith, few))

  processors_suc : (lists : NameLists) (n : ℕ) → processors_text k lists w (suc n)
      ≡ processors_text k lists w n ++ processor_text lists (as_proc (suc n)) (processor w (as_proc (suc n))) (ready_to k w (as_proc (suc n)) 32) (item [] w.due (as_proc (suc n)).number)
  unfolding processors_text
  processors_suc lists n = refl

  pub processors_more : (lists : NameLists) (n : ℕ) → processors_text k lists w (n + 1)
      ≡ processors_text k lists w n ++ processor_text lists (as_proc (n + 1)) (processor w (as_proc (n + 1))) (ready_to k w (as_proc (n + 1)) 32) (item [] w.due (as_proc (n + 1)).number)
  processors_more lists n = rw (add-one) (processors_suc lists n)

  tasks_suc : (lists : NameLists) (n : ℕ) → tasks_text lists w (suc n)
      ≡ tasks_text lists w n ++ task_line lists (as_task (suc n)) (task w (as_task (suc n))) (item None w.waits_left (as_task (suc n)).number)
  unfolding tasks_text
  tasks_suc lists n = refl

  pub tasks_more : (lists : NameLists) (n : ℕ) → tasks_text lists w (n + 1)
      ≡ tasks_text lists w n ++ task_line lists (as_task (n + 1)) (task w (as_task (n + 1))) (item None w.waits_left (as_task (n + 1)).number)
  tasks_more lists n = rw (add-one) (tasks_suc lists n)

  -- nothing so far

  pub ready_none : (p : Proc) → ready_to k w p 0 ≡ []
  unfolding ready_to
  ready_none p = refl

  processors_none : (lists : NameLists) → processors_text k lists w 0 ≡ []
  unfolding processors_text
  processors_none lists = refl

  tasks_none : (lists : NameLists) → tasks_text lists w 0 ≡ []
  unfolding tasks_text
  tasks_none lists = refl

  pub no_processor_yet : (lists : NameLists) (old : Putting) → Adds (processors_text k lists w 0) old old
  no_processor_yet lists old whole = (whole, sym (ap (λ (xs : List ℕ). old.bytes ++ xs) (processors_none lists) ∙ append-nil old.bytes))

  pub no_task_yet : (lists : NameLists) (old : Putting) → Adds (tasks_text lists w 0) old old
  no_task_yet lists old whole = (whole, sym (ap (λ (xs : List ℕ). old.bytes ++ xs) (tasks_none lists) ∙ append-nil old.bytes))

  -- what was written, and one line more
  pub processor_line : (lists : NameLists) (n : ℕ) (p : Proc) (old between new : Putting) → p ≡ as_proc (n + 1) → Adds (processors_text k lists w n) old between
      → Adds (processor_text lists p (processor w p) (ready_to k w p 32) (item [] w.due p.number)) between new → Adds (processors_text k lists w (n + 1)) old new
  processor_line lists n p old between new number before line =
      let text : Proc → List ℕ = λ q. processor_text lists q (processor w q) (ready_to k w q 32) (item [] w.due q.number) in
      subst (λ (xs : List ℕ). Adds xs old new) (ap (λ (q : Proc). processors_text k lists w n ++ text q) number ∙ sym (processors_more lists n))
      (both (processors_text k lists w n) (text p) old between new before line)

  pub blocked_line : (lists : NameLists) (n : ℕ) (t : Task) (x : TaskRecord) (left : Option ℕ) (old between new : Putting)
      → t ≡ as_task (n + 1) → x ≡ task w t → left ≡ item None w.waits_left t.number
      → Adds (tasks_text lists w n) old between → Adds (task_line lists t x left) between new → Adds (tasks_text lists w (n + 1)) old new
  blocked_line lists n t x left old between new number record_is left_is before line =
      let same : task_line lists t x left ≡ task_line lists (as_task (n + 1)) (task w (as_task (n + 1))) (item None w.waits_left (as_task (n + 1)).number) =
      rw (record_is, left_is, number) refl in
      subst (λ (xs : List ℕ). Adds xs old new) (ap (λ (xs : List ℕ). tasks_text lists w n ++ xs) same ∙ sym (tasks_more lists n))
      (both (tasks_text lists w n) (task_line lists t x left) old between new before line)
