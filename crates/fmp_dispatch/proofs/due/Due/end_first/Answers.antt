use Rattle.std.proofs.Common.{List, ap, sym, ◌∙◌, rules}
use Rattle.fmp_codes.specs.declared.records.Runner.{Runner}
use Rattle.fmp_codes.specs.declared.records.Runner.TheVariants as runner
use Rattle.fmp_codes.specs.Numbers.{as_task}
use Rattle.fmp_rules.specs.World.{rest}
use Rattle.fmp_dispatch.proofs.Window.{window_before_pop}
use Rattle.fmp_dispatch.proofs.due.Due.end_first.Goals as goal

-- what was there is the first handler, then those that are left
pub returns-then-self-gt0 : goal.returns-then-self-gt0
returns-then-self-gt0 c =
    let split = window_before_pop 64 _ _ c.self.inside.slots c.self.invariant.0 c.self.invariant.1 (search rules) (runner.Task (as_task 1)) c.if-self-gt0.true in
    ap (λ (xs : List Runner). rest xs) (sym split ∙ c.self.view_is)
