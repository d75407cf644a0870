use Rattle.std.proofs.Common.{refl, subst, arith}
use Rattle.fmp_codes.specs.declared.records.Runner.{Runner}
use Rattle.fmp_search_shrink.specs.Runners.{IsPartOf, calls_by}
use Rattle.fmp_search_shrink.proofs.Making.{has_number}
use Rattle.fmp_search_shrink.proofs.runners.are_kept.Goals as goal

pub returns : goal.returns
returns c = (
  λ yes runner.
      let n = has_number runner in
      let end = c.loop-number-test.false in
      subst (λ (r : Runner). IsPartOf (calls_by r c.args.made.now) (calls_by r c.args.given.now)) n.2 (c.loop-number.invariant n.0 (omega (arith, n.1, end))),
  λ kept. refl,
)
