use Rattle.std.proofs.Common.{◌≡◌, ◌+◌, ◌≤◌, map, length}
use Rattle.std.specs.Option.{option_map_or, option_copied}
use Rattle.fmp_bytes.proofs.Cutting.{pieces_left}
use Rattle.fmp_show_changes.specs.Life.Lives.{unseen}
use Rattle.fmp_show_changes.specs.Life.Things.{chosen_in, things_from}
use Rattle.fmp_show_changes.specs.Life.Watches.{seen_of}
use Rattle.fmp_show_changes.proofs.life.Names.{after_these}
use Rattle.fmp_show_changes.proofs.life.choosing.chosen.Given as goal

-- the things so far, and those of the names that are left
abbrev pub invariant-loop-rest : goal.invariant-loop-rest
invariant-loop-rest l = record {
  things : after_these (map (λ x. x.thing) l.watched.items) (things_from l.names l.count (pieces_left 44 (option_copied l.rest))) ≡ chosen_in l.names l.fn.text;
  fresh : map seen_of l.watched.items ≡ map unseen (map (λ x. x.thing) l.watched.items);
  few : l.count + option_map_or (λ rest. length rest + 1) (option_copied l.rest) 0 ≤ length l.fn.text + 1;
}

abbrev pub decreases-loop-rest : goal.decreases-loop-rest
decreases-loop-rest l = option_map_or (λ rest. length rest + 1) (option_copied l.rest) 0
