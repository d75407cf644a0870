-- believed: see docs/PROOF.md, "What has to be believed"
-- The sentence that all of this is about, of one state and of every prefix of a run.
use Rattle.std.specs.Prelude.{◌≡◌, ◌⊎◌, ℕ, true, false, List, Some, length, take}
use Rattle.fmp_codes.specs.declared.numbers.Proc.{Proc}
use Rattle.fmp_codes.specs.declared.numbers.Task.{Task}
use Rattle.fmp_codes.specs.declared.records.Event.{Event}
use Rattle.fmp_codes.specs.declared.records.Record.{Record}
use Rattle.fmp_setup.specs.Setup.{Setup}
use Rattle.fmp_rules.specs.World.{World, processor, is_held}
use Rattle.fmp_rules.specs.Arrivals.{State, numbered, comes_before, priority_in, is_ready_on}
use Rattle.fmp_rules.specs.Boot.{boot, booted}
use Rattle.fmp_rules.specs.Step.{replay, answers}
use Rattle.fmp_law_safety.specs.First.{IsFirst}
use Rattle.fmp_law_safety.specs.Safe.{IsNumberOf}
use Rattle.fmp_law_balance.specs.Balance.{Balance}
use Rattle.fmp_kernel_order.specs.Queues.{Queues, listed, no_queues}
use Rattle.fmp_law_lists.specs.Laws.{ListsAreRight}
use Rattle.fmp_law_lists.specs.Stands.{Stands}

-- a task runs on a processor, or is ready there
abbrev pub IsOn : State → Proc → Task → Type 0
IsOn m p t = ((processor m p).running ≡ Some t) ⊎ (is_ready_on m.tasks p t ≡ true)

-- the task that runs on a processor is ready there, and no ready task there comes before it; none runs only where none is ready
abbrev pub RunsHighest : State → Proc → Type 0
RunsHighest m p = IsFirst (is_ready_on m.tasks p) (comes_before (priority_in m.tasks) m.order.ready) (length m.tasks) (processor m p).running

-- What holds after these events, which were answered with these records. The state is m, where numbers tell what came before what;
-- k is the same state with the kernel's queues.
pub record Headline (c : Setup) (events : List Event) (records : List Record) (m : State) (k : World Queues) : Type 0 where
  -- each answer is the written profile's
  pub profile : records ≡ answers numbered (booted c) events
  -- no task runs or is ready on two processors
  pub one_processor : (p q : Proc) (t : Task) → IsNumberOf m.processors p.number → IsNumberOf m.processors q.number →
      IsOn m p t → IsOn m q t → p.number ≡ q.number
  -- each task stands in exactly the queue that its state names
  pub same_state : Stands k m
  pub queues : ListsAreRight k
  -- no unit of a semaphore, no block of a pool and no value of a data queue is lost or doubled
  pub balanced : Balance c records m
  -- each processor runs its highest-precedence ready task unless a request to it is pending or its dispatching is held
  pub precedence : (p : Proc) → IsNumberOf m.processors p.number → (processor m p).latch ≡ false → is_held m p ≡ false → RunsHighest m p

-- the state with the kernel's queues after these events from boot on
abbrev pub queues_after : Setup → List Event → World Queues
queues_after c events = replay listed (boot listed (no_queues c) c) events

-- the headline holds after every prefix of these events, which were answered with these records
abbrev pub HeadlineThroughout : Setup → List Event → List Record → Type 0
HeadlineThroughout c events records = (n : ℕ) → Headline c (take n events) (take n records) (replay numbered (booted c) (take n events)) (queues_after c (take n events))
