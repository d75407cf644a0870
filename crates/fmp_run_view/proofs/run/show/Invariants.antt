use Rattle.std.proofs.Common.{◌≡◌, ◌≤◌, ◌+◌, List, length}
use Rattle.std.specs.Prelude.{is_some}
use Rattle.fmp_codes.specs.declared.records.Record.{Record}
use Rattle.fmp_run_devices.specs.Devices.{IsKnown, bytes_of}
use Rattle.fmp_trace.specs.Prints.{PrintsWithin}
use Rattle.fmp_run_view.specs.Pages.{page_of}
use Rattle.fmp_run_view.proofs.SoFar.{SoFar, events_of}
use Rattle.fmp_run_view.proofs.run.show.Given as goal

-- both machines are in a state from which on the rest is shown
abbrev pub invariant-loop-line : goal.invariant-loop-line
invariant-loop-line g l = record {
  so_far : (records : List Record) → PrintsWithin l.config.names l.text records
      → SoFar l.config l.names (is_some (g.W.Sink.written l.fn.page)) l.number l.showing.before l.rest (bytes_of (g.W.Sink.written l.fn.page)) (bytes_of (g.W.Sink.written l.page))
      (page_of l.config l.trace l.given (events_of records));
  known : IsKnown (g.W.Sink.written l.fn.page) → IsKnown (g.W.Sink.written l.page);
  same : l.showing.after ≡ l.showing.before;
  events : l.showing.before.events + 1 ≡ l.number;
  processors : length l.showing.before.state.processors ≡ l.names.processors;
  left : l.number + length l.rest ≤ length l.text + 1;
  failures : g.W.Sink.failures l.page ≡ g.W.Sink.failures l.fn.page;
}

abbrev pub decreases-loop-line : goal.decreases-loop-line
decreases-loop-line g l = length l.rest
