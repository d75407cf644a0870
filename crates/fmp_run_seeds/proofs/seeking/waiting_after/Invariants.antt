use Rattle.std.proofs.Common.{◌≡◌, length, take}
use Rattle.fmp_rules.specs.Arrivals.{numbered}
use Rattle.fmp_rules.specs.Boot.{booted}
use Rattle.fmp_rules.specs.Step.{replay}
use Rattle.fmp_law_lists.specs.Stands.{Stands}
use Rattle.fmp_run_seeds.proofs.seeking.waiting_after.Given as goal

-- where the machine stands after the events so far
abbrev pub invariant-loop-event : goal.invariant-loop-event
invariant-loop-event l = record {
  stands : Stands l.kernel (replay numbered (booted l.config) (take l.event-index l.events));
  processors : length l.kernel.processors ≡ l.config.processors;
}
