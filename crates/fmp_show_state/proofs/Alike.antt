-- The text of a state with lists is that of each state with numbers for which it stands.
use Rattle.std.proofs.Common.{◌≡◌, ℕ, zero, suc, List, [], ◌++◌, length, refl, ap, ap₂, ◌∙◌}
use Rattle.std.specs.Prelude.{Option, None}
use Rattle.fmp_codes.specs.Numbers.{as_pri, as_proc, as_task}
use Rattle.fmp_codes.specs.declared.numbers.Proc.{Proc}
use Rattle.fmp_codes.specs.declared.numbers.Task.{Task}
use Rattle.fmp_codes.specs.declared.records.Runner.{Runner}
use Rattle.fmp_rules.specs.declared.machine.Processor.{Processor}
use Rattle.fmp_rules.specs.declared.machine.TaskRecord.{TaskRecord}
use Rattle.fmp_rules.specs.Arrivals.{State, numbered}
use Rattle.fmp_rules.specs.World.{World, item, processor, task}
use Rattle.fmp_names.specs.Names.{NameLists}
use Rattle.fmp_kernel_order.specs.Queues.{Queues, listed}
use Rattle.fmp_law_lists.specs.Stands.{Stands}
use Rattle.fmp_law_lists.proofs.SafeLists.{tells_alike}
use Rattle.fmp_show_state.specs.Changes.{changes_of}
use Rattle.fmp_show_state.specs.States.{processor_text, processors_text, ready_to, state_lines, task_line, tasks_text, without_running}
use Rattle.fmp_show_state.specs.Waits.{wait_line, waiting_lines, waits_text}

module _ (k : World Queues) (m : State) (h : Stands k m) where
  processor_same : (p : Proc) → processor k p ≡ processor m p
  processor_same p = ap (λ (w : World Queues). processor w p) h.same

  due_same : (p : Proc) → item [] k.due p.number ≡ item [] m.due p.number
  due_same p = ap (λ (w : World Queues). item [] w.due p.number) h.same

  task_same : (t : Task) → task k t ≡ task m t
  task_same t = ap (λ (w : World Queues). task w t) h.same

  left_same : (t : Task) → item None k.waits_left t.number ≡ item None m.waits_left t.number
  left_same t = ap (λ (w : World Queues). item None w.waits_left t.number) h.same

  ready_same : (p : Proc) (n : ℕ) → ready_to listed k p n ≡ ready_to numbered m p n
  unfolding ready_to
  ready_same p zero = refl
  ready_same p (suc n) =
      ap₂ ◌++◌ (ready_same p n)
      (ap₂ without_running (ap (λ (x : Processor). x.running) (processor_same p)) ((tells_alike k m h).ready p (as_pri (suc n))))

  line_same : (lists : NameLists) (p : Proc) → processor_text lists p (processor k p) (ready_to listed k p 32) (item [] k.due p.number) ≡ processor_text lists p (processor m p) (ready_to numbered m p 32) (item [] m.due p.number)
  line_same lists p =
      ap (λ (x : Processor). processor_text lists p x (ready_to listed k p 32) (item [] k.due p.number)) (processor_same p)
      ∙ ap₂ (λ (ts : List Task) (rs : List Runner). processor_text lists p (processor m p) ts rs) (ready_same p 32) (due_same p)

  processors_same : (lists : NameLists) (n : ℕ) → processors_text listed lists k n ≡ processors_text numbered lists m n
  unfolding processors_text
  processors_same lists zero = refl
  processors_same lists (suc n) = ap₂ ◌++◌ (processors_same lists n) (line_same lists (as_proc (suc n)))

  tasks_same : (lists : NameLists) (n : ℕ) → tasks_text lists k n ≡ tasks_text lists m n
  unfolding tasks_text
  tasks_same lists zero = refl
  tasks_same lists (suc n) =
      ap₂ ◌++◌ (tasks_same lists n)
      (ap₂ (λ (x : TaskRecord) (left : Option ℕ). task_line lists (as_task (suc n)) x left) (task_same (as_task (suc n))) (left_same (as_task (suc n))))

  pub states_alike : (lists : NameLists) → state_lines listed lists k ≡ state_lines numbered lists m
  unfolding state_lines
  states_alike lists =
      ap₂ ◌++◌
      (ap₂ ◌++◌
      (ap (λ (w : World Queues). processors_text listed lists k (length w.processors)) h.same ∙ processors_same lists (length m.processors))
      (ap (λ (w : World Queues). tasks_text lists k (length w.tasks)) h.same ∙ tasks_same lists (length m.tasks)))
      (ap (λ (w : World Queues). changes_of lists w) h.same)

  -- and so are the lines of the tasks that wait
  waits_same : (lists : NameLists) (n : ℕ) → waits_text lists k n ≡ waits_text lists m n
  unfolding waits_text
  waits_same lists zero = refl
  waits_same lists (suc n) =
      ap₂ ◌++◌ (waits_same lists n)
      (ap₂ (λ (x : TaskRecord) (left : Option ℕ). wait_line lists (as_task (suc n)) x left)
      (ap (λ (w : World Queues). task w (as_task (suc n))) h.same)
      (ap (λ (w : World Queues). item None w.waits_left (as_task (suc n)).number) h.same))

  pub waiting_alike : (lists : NameLists) → waiting_lines lists k ≡ waiting_lines lists m
  waiting_alike lists = ap (λ (w : World Queues). waits_text lists k (length w.tasks)) h.same ∙ waits_same lists (length m.tasks)
