use Rattle.std.proofs.Common.{◌<◌, List, ap, sym, ◌∙◌, rules, arith}
use Rattle.fmp_codes.specs.declared.records.Runner.{Runner}
use Rattle.fmp_rules.specs.World.{first}
use Rattle.fmp_dispatch.proofs.Window.{window_before_pop}
use Rattle.fmp_dispatch.proofs.due.Due.head.Goals as goal

-- what is there is the first handler, then the others
pub returns-else-self-eq0 : goal.returns-else-self-eq0
returns-else-self-eq0 c =
    let some : 0 < c.self.inside.len = omega arith in
    let split = window_before_pop 64 _ _ c.self.inside.slots c.self.invariant.0 c.self.invariant.1 (search rules) c.index-self-self.result some in
    ap (λ (xs : List Runner). first xs) (sym split ∙ c.self.view_is)
