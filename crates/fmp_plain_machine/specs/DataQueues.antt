-- A data queue, and all of them.
use Rattle.std.specs.Prelude.{ℤ, List, [], map}
use Rattle.fmp_rules.specs.Objects.{no_data_queue}
use Rattle.fmp_setup.specs.declared.setup.DataQueueSetup.{DataQueueSetup}

-- what the configuration says of a data queue, and its values, the oldest first
pub record Queue : Type 0 where
  pub setup : DataQueueSetup
  pub values : List ℤ

-- the same of all data queues, in the order of their numbers
pub record AllQueues : Type 0 where
  pub setups : List DataQueueSetup
  pub contents : List (List ℤ)

-- what stands where there is no data queue
abbrev pub no_queue : Queue
no_queue = record { setup = no_data_queue; values = [] }

-- these as one value
abbrev pub all_of : List Queue → AllQueues
all_of qs = record { setups = map (λ q. q.setup) qs; contents = map (λ q. q.values) qs }
