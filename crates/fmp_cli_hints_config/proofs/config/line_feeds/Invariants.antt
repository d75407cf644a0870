use Rattle.std.proofs.Common.{◌≤◌}
use Rattle.fmp_cli_hints_config.proofs.config.line_feeds.Given as goal

abbrev pub invariant-loop-byte : goal.invariant-loop-byte
invariant-loop-byte l = l.count ≤ l.byte-index
