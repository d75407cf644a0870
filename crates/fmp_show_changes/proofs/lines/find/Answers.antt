use Rattle.std.proofs.Common.{◌∙◌, ap, sym}
use Rattle.std.specs.Option.{option_copied}
use Rattle.fmp_bytes.proofs.Cutting.{fewer_left}
use Rattle.fmp_bytes.specs.Bytes.{line_feed}
use Rattle.fmp_show_changes.proofs.Looking.{is_first, is_later, others_within}
use Rattle.fmp_show_changes.proofs.lines.find.Goals as goal

pub returns-then-is_same-clause-found : goal.returns-then-is_same-clause-found
returns-then-is_same-clause-found c =
    sym ((rw c.in-Some.is at c.loop-rest.invariant.found)
    ∙ is_first c.in-Some.lines.now _ _ c.cut.ensures.prefix c.cut.ensures.rest c.args.rule c.args.line.now (sym c.is_same.ensures ∙ c.if-is_same.true))

pub returns-then-is_same-clause-within : goal.returns-then-is_same-clause-within
returns-then-is_same-clause-within c =
    others_within c.in-Some.lines.now _ _ c.cut.ensures.prefix c.cut.ensures.rest _ (rw c.in-Some.is at c.loop-rest.invariant.within)

pub loop-rest-smaller : goal.loop-rest-smaller
loop-rest-smaller c =
    fewer_left line_feed (option_copied c.loop-rest.rest) (option_copied c.cut.result.1) c.in-Some.lines.now (ap option_copied c.in-Some.is) c.cut.ensures.rest

pub loop-rest-preserved : goal.loop-rest-preserved
loop-rest-preserved c = record {
  found = (rw c.in-Some.is at c.loop-rest.invariant.found)
      ∙ is_later c.in-Some.lines.now _ _ c.cut.ensures.prefix c.cut.ensures.rest c.args.rule c.args.line.now (sym c.is_same.ensures ∙ c.if-is_same.false);
  within = others_within c.in-Some.lines.now _ _ c.cut.ensures.prefix c.cut.ensures.rest _ (rw c.in-Some.is at c.loop-rest.invariant.within);
}
