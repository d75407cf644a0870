-- believed: see docs/PROOF.md, "What has to be believed"
-- Nothing is lost or doubled: what the records of a run say came in and went out agrees with what is there.
use Rattle.std.specs.Prelude.{ℕ, List, take}
use Rattle.fmp_codes.specs.declared.numbers.Object.{Object}
use Rattle.fmp_codes.specs.declared.records.Event.{Event}
use Rattle.fmp_codes.specs.declared.records.Record.{Record}
use Rattle.fmp_setup.specs.Setup.{Setup}
use Rattle.fmp_rules.specs.World.{World}
use Rattle.fmp_rules.specs.Arrivals.{numbered}
use Rattle.fmp_rules.specs.Step.{replay}
use Rattle.fmp_rules.specs.Boot.{booted}
use Rattle.fmp_law_balance.specs.Semaphores.{SemaphoreBalance}
use Rattle.fmp_law_balance.specs.Pools.{PoolBalance}
use Rattle.fmp_law_balance.specs.Queues.{QueueBalance}

pub record Balance {Q : Type 0} (c : Setup) (records : List Record) (w : World Q) : Type 0 where
  pub semaphores : (s : Object) → SemaphoreBalance c records w s
  pub pools : (m : Object) (b : ℕ) → PoolBalance records w m b
  pub data_queues : (d : Object) → QueueBalance records w d

-- at every prefix of a run of these events with these records, the records so far and the state balance
abbrev pub IsBalancedThroughout : Setup → List Event → List Record → Type 0
IsBalancedThroughout c events records = (n : ℕ) → Balance c (take n records) (replay numbered (booted c) (take n events))
