use Rattle.std.proofs.Common.{◌≡◌, length, take}
use Rattle.fmp_law_lists.specs.Stands.{Stands}
use Rattle.fmp_rules.specs.Arrivals.{numbered}
use Rattle.fmp_rules.specs.Boot.{booted}
use Rattle.fmp_rules.specs.Step.{answers, replay}
use Rattle.fmp_search_shrink.specs.Runners.{made_in}
use Rattle.fmp_search_shrink.proofs.made.made_calls.Given as goal

-- the calls in the answers so far
abbrev pub invariant-loop-event : goal.invariant-loop-event
invariant-loop-event l = record {
  stands : Stands l.kernel (replay numbered (booted l.config) (take l.event-index l.events));
  processors : length l.kernel.processors ≡ l.config.processors;
  so_far : l.all.items ≡ made_in (answers numbered (booted l.config) (take l.event-index l.events));
}
