use Rattle.std.proofs.Common.{◌≡◌, length, take}
use Rattle.fmp_rules.specs.Arrivals.{numbered}
use Rattle.fmp_rules.specs.Boot.{booted}
use Rattle.fmp_rules.specs.Step.{answers, replay}
use Rattle.fmp_law_lists.specs.Stands.{Stands}
use Rattle.fmp_trace.specs.Lines.{lines_from}
use Rattle.fmp_run_seeds.proofs.seeking.traced.Given as goal

-- what was answered so far
abbrev pub invariant-loop-event : goal.invariant-loop-event
invariant-loop-event l = record {
  stands : Stands l.kernel (replay numbered (booted l.config) (take l.event-index l.events));
  processors : length l.kernel.processors ≡ l.config.processors;
  made : l.text.items ≡ lines_from l.names 1 (answers numbered (booted l.config) (take l.event-index l.events));
  count : l.n ≡ l.event-index;
}
