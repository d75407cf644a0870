use Rattle.std.proofs.Common.{◌≡◌, ◌≤◌, ◌+◌, List, length}
use Rattle.fmp_trace_check.specs.Checking.{own_text}
use Rattle.fmp_trace_check.specs.Differences.{differences}
use Rattle.fmp_codes.specs.declared.records.Record.{Record}
use Rattle.fmp_trace.specs.Prints.{PrintsWithin}
use Rattle.fmp_run_view.specs.Given.{given_text}
use Rattle.fmp_run_view.proofs.SoFarBeside.{SoFarBeside}
use Rattle.fmp_run_view.proofs.contrast.contrast_of.Given as goal

abbrev pub invariant-loop-line : goal.invariant-loop-line
invariant-loop-line l = record {
  so_far : (records : List Record) → PrintsWithin l.config.names l.text records
      → SoFarBeside l.names l.number l.plain.state l.rest l.found.own.items l.found.given.items (own_text l.config records) (given_text (differences l.config records));
  steps : l.plain.steps + 1 ≡ l.number;
  left : l.number + length l.rest ≤ length l.text + 1;
}

abbrev pub decreases-loop-line : goal.decreases-loop-line
decreases-loop-line l = length l.rest
