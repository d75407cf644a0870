-- believed: see docs/PROOF.md, "What has to be believed"
-- The state at boot.
use Rattle.std.specs.Prelude.{ℕ, ◌+◌, false, None, Some, Option, List, [], ◌∷◌, if◌then◌else◌, map, replicate}
use Rattle.fmp_codes.specs.Numbers.{as_task}
use Rattle.fmp_codes.specs.declared.numbers.Proc.{Proc}
use Rattle.fmp_setup.specs.declared.setup.TaskSetup.{TaskSetup}
use Rattle.fmp_setup.specs.declared.setup.CyclicSetup.{CyclicSetup}
use Rattle.fmp_setup.specs.Setup.{Setup}
use Rattle.fmp_rules.specs.World.{World, resting, no_processor, processor, with_processor, processors_to}
use Rattle.fmp_rules.specs.Ordering.{Ordering, top}
use Rattle.fmp_rules.specs.Tasks.{start}
use Rattle.fmp_rules.specs.Arrivals.{Arrivals, State, numbered}

-- the ticks left of a cyclic that is started at boot
abbrev pub phase_left : CyclicSetup → Option ℕ
phase_left s = if s.starts then Some (s.phase + 1) else None

-- every task is dormant, no processor runs one, and all objects are as configured
abbrev pub blank : {Q : Type 0} → Q → Setup → World Q
blank order c = record {
  timer = c.timer;
  limits = c.limits;
  tasks = map resting c.tasks;
  waits_left = map (λ s. None) c.tasks;
  processors = replicate c.processors no_processor;
  due = replicate c.processors [];
  semaphores = map (λ s. record { setup = s; count = s.initial }) c.semaphores;
  eventflags = map (λ s. record { setup = s; pattern = s.initial }) c.eventflags;
  data_queues = c.data_queues;
  contents = map (λ s. []) c.data_queues;
  pools = map (λ s. record { setup = s; handed = replicate 64 false }) c.pools;
  cyclics = map (λ s. record { setup = s; assigned = s.class.initial }) c.cyclics;
  cyclics_left = map phase_left c.cyclics;
  alarms = map (λ s. record { setup = s; assigned = s.class.initial }) c.alarms;
  alarms_left = map (λ s. None) c.alarms;
  holders = replicate c.spin_locks None;
  order = order;
}

module _ {Q : Type 0} (k : Ordering Q) where
  -- the tasks from number t on are started, if the configuration says so
  abbrev pub all_started : World Q → ℕ → List TaskSetup → World Q
  all_started w t [] = w
  all_started w t (s ∷ ss) = all_started (if s.starts then start k w (as_task t) s.class.initial else w) (t + 1) ss

  -- a processor runs its top
  abbrev pub with_top_running : World Q → Proc → World Q
  with_top_running w p = with_processor w p (record (processor w p) { running = top k w p })

  -- these processors run their tops
  abbrev pub with_tops_running : World Q → List Proc → World Q
  with_tops_running w [] = w
  with_tops_running w (p ∷ ps) = with_tops_running (with_top_running w p) ps

  -- the state at boot, where this is the order without any task
  abbrev pub boot : Q → Setup → World Q
  boot order c = with_tops_running (all_started (blank order c) 1 c.tasks) (processors_to c.processors)

-- no number is given yet
abbrev pub unnumbered : Setup → Arrivals
unnumbered c = record { ready = map (λ s. 0) c.tasks; begun = map (λ s. 0) c.tasks; next = 0 }

-- the model at boot
abbrev pub booted : Setup → State
booted c = boot numbered (unnumbered c) c
