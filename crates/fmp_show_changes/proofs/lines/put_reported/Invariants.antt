use Rattle.std.proofs.Common.{◌+◌, length}
use Rattle.std.specs.Option.{option_copied, option_map_or}
use Rattle.fmp_out.specs.Putting.{Owes}
use Rattle.fmp_show_changes.specs.Changes.{IsWithin, lines_left, lines_of, report_of}
use Rattle.fmp_show_changes.proofs.lines.put_reported.Given as goal

-- what is still to be told is told of the lines that are left
abbrev pub invariant-loop-rest : goal.invariant-loop-rest
invariant-loop-rest l = record {
  report : Owes (report_of l.rule (lines_of l.others) (lines_left (option_copied l.rest))) (report_of l.rule (lines_of l.others) (lines_of l.fn.lines)) l.fn.out l.out;
  within : IsWithin (lines_left (option_copied l.near)) (lines_of l.others);
}

abbrev pub decreases-loop-rest : goal.decreases-loop-rest
decreases-loop-rest l = option_map_or (λ lines. length lines + 1) (option_copied l.rest) 0
