use Rattle.std.proofs.Common.{sym}
use Rattle.fmp_smp_histories.proofs.Straight.{released_stay}
use Rattle.fmp_smp_histories.proofs.positions.release_all.Goals as goal

pub returns-then-is_straight : goal.returns-then-is_straight
returns-then-is_straight c = sym (released_stay c.args.config.now c.args.scripts.now c.args.positions.now c.args.made.now.releases (c.is_straight.ensures.0 c.if-is_straight.true))
