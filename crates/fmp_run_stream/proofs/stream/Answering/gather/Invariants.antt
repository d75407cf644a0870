use Rattle.std.proofs.Common.{◌≡◌, ◌-◌, ◌≤◌, ◌<◌, ℕ, List, ◌++◌, length}
use Rattle.fmp_run_devices.specs.Devices.{IsKnown, bytes_of}
use Rattle.fmp_text.specs.Limits.{most_events}
use Rattle.fmp_trace_buffer.specs.Filled.{full_bytes}
use Rattle.fmp_run_stream.specs.Streams.{GathersOn}
use Rattle.fmp_run_stream.proofs.stream.Answering.gather.Given as goal

abbrev pub invariant-loop-self : goal.invariant-loop-self
invariant-loop-self g l = record {
  failures : g.W.Sink.failures l.trace ≡ g.W.Sink.failures l.fn.trace;
  counted : l.self.count ≡ l.self.feed.events;
  few : l.self.feed.events ≤ most_events;
  processors : length l.self.kernel.processors ≡ length l.fn.self.kernel.processors;
  room : length l.self.lines < full_bytes;
  same : (l.self.feed.ended ≡ l.fn.self.feed.ended) × (l.self.feed.taken ≡ l.fn.self.feed.taken) × (l.self.feed.dropped ≡ l.fn.self.feed.dropped);
  known : IsKnown (g.W.Sink.written l.fn.trace) → IsKnown (g.W.Sink.written l.trace);
  answers : GathersOn l.config l.fn.self l.self (g.W.Sink.written l.fn.trace) (g.W.Sink.written l.trace);
  grown : IsKnown (g.W.Sink.written l.fn.trace) → (made : List ℕ) × (bytes_of (g.W.Sink.written l.trace) ≡ bytes_of (g.W.Sink.written l.fn.trace) ++ made);
}

abbrev pub decreases-loop-self : goal.decreases-loop-self
decreases-loop-self g l = most_events - l.self.feed.events
