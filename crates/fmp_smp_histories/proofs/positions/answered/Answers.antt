use Rattle.std.proofs.Common.{sym}
use Rattle.fmp_smp_histories.specs.Positions.{function_of}
use Rattle.fmp_smp_histories.proofs.Straight.{answered_stays}
use Rattle.fmp_smp_histories.proofs.positions.answered.Goals as goal

pub returns-then-is_straight : goal.returns-then-is_straight
returns-then-is_straight c = sym (answered_stays c.args.config.now c.args.scripts.now (function_of c.args.config.now c.args.runner) c.args.answer c.args.position (c.is_straight.ensures.0 c.if-is_straight.true))
