pub mod Scenario  -- Words for scenarios: small configurations, and the records of a run.
mod WorkedTasks  -- Scenarios of tasks on several processors, computed
mod WorkedMoves  -- Scenarios of tasks that move, wait and are suspended, computed
mod WorkedHolding  -- Scenarios of held dispatching, computed. Each list is of the records that the machine makes of its own events.
mod WorkedTime  -- Scenarios of time and handlers, computed
mod WorkedTimer  -- Scenarios of the global timer and of larger limits, computed
mod WorkedObjects  -- Scenarios of objects, computed. Each list is of the records that the machine makes of its own events.
mod MoreTasks  -- More scenarios of tasks and processors, computed
mod MoreTime  -- More scenarios of ticks and handlers, computed
mod MoreObjects  -- More scenarios of objects, computed. Each list is of the records that the machine makes of its own events.
pub mod Replays  -- The state after some events and the records of their answers, one event after the other.
pub mod Patterns  -- What is not met at a pattern is not met with fewer bits, and not with none.
pub mod Runners  -- A place has the same task as itself.
