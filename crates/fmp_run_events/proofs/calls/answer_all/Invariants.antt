use Rattle.std.proofs.Common.{◌≡◌, ◌+◌, ◌-◌, ◌≤◌, ◌++◌, ℕ, List, [], Bool, IsTrue, true, cond, length}
use Rattle.fmp_run_devices.specs.Devices.{IsKnown, bytes_of}
use Rattle.fmp_run_devices.specs.Hearing.{Moves}
use Rattle.fmp_text_feed.specs.Feed.{IsDone, IsWanting}
use Rattle.fmp_text.specs.Events.{Reading}
use Rattle.fmp_text.specs.Limits.{most_bytes, most_events}
use Rattle.fmp_run_stream.specs.declared.stream.Detail.{Detail}
use Rattle.fmp_run_stream.specs.Streams.{Streams}
use Rattle.fmp_run_events.proofs.calls.answer_all.Given as goal

abbrev pub invariant-loop-trace : goal.invariant-loop-trace
invariant-loop-trace g l = record {
  read_failures : g.S.Source.failures l.events ≡ g.S.Source.failures l.fn.events;
  write_failures : g.W.Sink.failures l.trace ≡ g.W.Sink.failures l.fn.trace;
  counted : l.run.count ≡ l.run.feed.events;
  few : l.run.feed.events ≤ most_events;
  fits : l.run.feed.taken ≤ most_bytes;
  wanting : IsWanting l.run.feed;
  processors : length l.run.kernel.processors ≡ l.config.processors;
  room : length l.piece ≡ 65536;
  done : l.run.feed.ended ≡ true → IsDone l.config.names l.run.feed;
  write_known : IsKnown (g.W.Sink.written l.fn.trace) → IsKnown (g.W.Sink.written l.trace);
  moves : Moves (g.S.Source.given l.fn.events) (g.S.Source.given l.events) (g.S.Source.left l.fn.events) (g.S.Source.left l.events);
  end : l.run.feed.ended ≡ true → g.S.Source.ended l.events ≡ true;
  streams : (all rest : List ℕ) → g.S.Source.given l.fn.events ++ all ≡ g.S.Source.given l.events ++ rest → (l.run.feed.ended ≡ true → rest ≡ [])
      → (d : Detail) (tells : Bool) (text : List ℕ) (whole : Reading) (old : List ℕ) → (IsTrue tells → IsKnown (g.W.Sink.written l.fn.trace))
      → Streams d tells l.config text whole old l.fn.run (bytes_of (g.W.Sink.written l.fn.trace)) all
      → Streams d tells l.config text whole old l.run (bytes_of (g.W.Sink.written l.trace)) rest;
}

abbrev pub decreases-loop-trace : goal.decreases-loop-trace
decreases-loop-trace g l = cond l.run.feed.ended 0 (most_bytes + 1 - l.run.feed.taken)
