use Rattle.std.proofs.Common.{◌≡◌}
use Rattle.std.specs.Prelude.{is_some}
use Rattle.std.specs.List.{list_any, range_with_len}
use Rattle.fmp_time.specs.Left.{left_in}
use Rattle.fmp_time.proofs.differences.Differences.has_any.Given as goal

-- whether one of those so far stands in a list
abbrev pub invariant-loop-at : goal.invariant-loop-at
invariant-loop-at l = record {
  any : l.any ≡ list_any (λ k. is_some (left_in l.self k)) (range_with_len l.first l.at);
}
