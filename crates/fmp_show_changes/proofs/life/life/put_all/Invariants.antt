use Rattle.std.proofs.Common.{◌≡◌, false, map, take, drop, length}
use Rattle.std.specs.List.{flat_map}
use Rattle.fmp_out.specs.Putting.{Owes}
use Rattle.fmp_show_changes.specs.Life.Lives.{renewed, report_since}
use Rattle.fmp_show_changes.specs.Life.Watches.{seen_of}
use Rattle.fmp_show_changes.proofs.life.life.put_all.Given as goal

-- those so far are told and kept in mind, and the others are as they were
abbrev pub invariant-loop-watched : goal.invariant-loop-watched
invariant-loop-watched g l = let W = g.M.Words in record {
  report : Owes (flat_map (report_since l.names (W.world l.machine)) (map seen_of (drop l.watched-index l.fn.all)))
      (flat_map (report_since l.names (W.world l.machine)) (map seen_of l.fn.all)) l.fn.out l.out;
  count : length l.all ≡ length l.fn.all;
  rest : drop l.watched-index l.all ≡ drop l.watched-index l.fn.all;
  front : l.out.wanting ≡ false → map seen_of (take l.watched-index l.all) ≡ map (renewed l.names (W.world l.machine)) (map seen_of (take l.watched-index l.fn.all));
}
