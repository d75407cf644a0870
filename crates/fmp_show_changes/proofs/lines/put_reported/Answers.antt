use Rattle.std.proofs.Common.{ap}
use Rattle.std.specs.Option.{option_copied}
use Rattle.fmp_bytes.proofs.Cutting.{fewer_left}
use Rattle.fmp_bytes.specs.Bytes.{line_feed}
use Rattle.fmp_show_changes.proofs.Looking.{one_reported}
use Rattle.fmp_show_changes.specs.Changes.{lines_of}
use Rattle.fmp_show_changes.proofs.lines.put_reported.Goals as goal

pub loop-rest-smaller : goal.loop-rest-smaller
loop-rest-smaller c =
    fewer_left line_feed (option_copied c.loop-rest.rest) (option_copied c.cut.result.1) c.in-Some.left.now (ap option_copied c.in-Some.is) c.cut.ensures.rest

pub loop-rest-preserved : goal.loop-rest-preserved
loop-rest-preserved c = record {
  report = one_reported c.in-Some.left.now _ _ c.cut.ensures.prefix c.cut.ensures.rest c.args.rule (lines_of c.args.others.now) _ _ c.args.out.now c.loop-rest.out _
      c.look-found.ensures.found c.put_line.ensures (rw c.in-Some.is at c.loop-rest.invariant.report);
  within = c.look-found.ensures.within;
}
