use Rattle.std.proofs.Common.{◌≡◌, ◌+◌, length}
use Rattle.std.specs.Option.{option_copied, option_map_or}
use Rattle.fmp_show_changes.specs.Changes.{IsWithin, has_line, lines_left, lines_of}
use Rattle.fmp_show_changes.proofs.lines.find.Given as goal

-- the line is one of those that are left, or none of all
abbrev pub invariant-loop-rest : goal.invariant-loop-rest
invariant-loop-rest l = record {
  found : has_line l.rule (lines_of l.fn.text) l.line ≡ has_line l.rule (lines_left (option_copied l.rest)) l.line;
  within : IsWithin (lines_left (option_copied l.rest)) (lines_of l.fn.text);
}

abbrev pub decreases-loop-rest : goal.decreases-loop-rest
decreases-loop-rest l = option_map_or (λ lines. length lines + 1) (option_copied l.rest) 0
