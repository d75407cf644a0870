use Rattle.std.proofs.Common.{option_map}
use Rattle.fmp_out.proofs.Puts.{both}
use Rattle.fmp_run_partial.specs.Differing.{diff_head}
use Rattle.fmp_run_partial.specs.Telling.{lines_told}
use Rattle.fmp_run_partial.proofs.showing.put_diff.Goals as goal

pub returns : goal.returns
unfolding diff_head
returns c =
    both diff_head (lines_told c.args.config.now c.args.text.now (option_map (λ v. v.items) c.args.order.now) c.args.told.now) c.args.out.now c.put.new.self
    c.put_diff_lines.new.out c.put.ensures c.put_diff_lines.ensures
