use Rattle.std.proofs.Common.{◌≡◌, ◌≤◌, ◌++◌, length, drop}
use Rattle.std.specs.Vec.{vec_capacity}
use Rattle.fmp_rules.specs.Boot.{booted}
use Rattle.fmp_rules.specs.Arrivals.{State, numbered}
use Rattle.fmp_rules.specs.Step.{answers}
use Rattle.fmp_law_lists.specs.Stands.{Stands}
use Rattle.fmp_kernel.proofs.answers.simulate.Given as goal

-- the records so far, and those that the model tells of the events that are left, are all
abbrev pub invariant-loop-event : goal.invariant-loop-event
invariant-loop-event l = record {
  room : length l.events ≤ vec_capacity l.records;
  count : length l.records.items ≡ l.event-index;
  processors : length l.kernel.processors ≡ l.config.processors;
  state : State;
  stands : Stands l.kernel state;
  report : l.records.items ++ answers numbered state (drop l.event-index l.events) ≡ answers numbered (booted l.config) l.events;
}
