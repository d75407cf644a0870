use Rattle.std.proofs.Common.{arith}
use Rattle.fmp_search_lines.specs.Lasts.{last_at, must_at}
use Rattle.fmp_search_lines.proofs.Reached.{some_line, starts}
use Rattle.fmp_search_lines.proofs.searching.first_without.Goals as goal

pub loop-bracket-init : goal.loop-bracket-init
loop-bracket-init g c =
    let low = c.up_to-bracket.ensures.low in
    let high = c.up_to-bracket.ensures.high in
    let some = some_line g.P.Player.plays (last_at c.args.lasts.now) _ (must_at c.args.musts.now) (g.P.Player.begins c.args.player.now) c.requires.none in
    record {
      order = omega (arith, low, high, some);
      few = omega (arith, high);
      before = rw (low, c.new-before.ensures.items) (starts g.P.Player.plays (last_at c.args.lasts.now) _ (must_at c.args.musts.now) (g.P.Player.begins c.args.player.now));
      none = rw high c.requires.none;
    }
