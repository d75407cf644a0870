use Rattle.std.proofs.Common.{sym, subst}
use Rattle.fmp_rules.specs.World.{item}
use Rattle.fmp_rules.proofs.Patterns.{unmet_with_fewer}
use Rattle.fmp_flag.specs.Eventflags.{no_bits, WaitsUnmet}
use Rattle.fmp_flag.proofs.Flag.clear.Goals as goal

pub returns-clause-unmet : goal.returns-clause-unmet
returns-clause-unmet c ws h t e =
    unmet_with_fewer c.self.inside.pattern c.args.bits (item no_bits ws t.number).pattern (item no_bits ws t.number).mode (subst (WaitsUnmet ws) (sym c.self.view_is) h t e)
