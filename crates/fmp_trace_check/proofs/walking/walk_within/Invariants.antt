use Rattle.std.proofs.Common.{◌≡◌, ◌≤◌, ◌+◌, length}
use Rattle.fmp_bytes.specs.Bytes.{pieces_of}
use Rattle.fmp_trace_check.specs.Walking.{stop_from, stop_in}
use Rattle.fmp_trace_check.specs.Watching.{watched_from, watched_in}
use Rattle.fmp_trace_check.proofs.OwnLines.{Goes, ReadTo}
use Rattle.fmp_trace_check.proofs.walking.walk_within.Given as goal

abbrev pub invariant-loop-line : goal.invariant-loop-line
invariant-loop-line g l = record {
  read : ReadTo l.config.names l.text l.number l.rest;
  stop : stop_from l.config.names l.player.plain.state l.number (pieces_of 10 l.rest) ≡ stop_in l.config l.text;
  watched : watched_from g.W.Watcher.watched l.config.names l.player.plain.state l.number (pieces_of 10 l.rest) l.watcher ≡ watched_in g.W.Watcher.watched l.config l.text l.fn.watcher;
  goes : Goes l.config l.player.plain.state;
  steps : l.player.plain.steps + 1 ≤ l.number;
  count : l.player.count + 1 ≡ l.number;
  left : l.number + length l.rest ≤ length l.text + 1;
}

abbrev pub decreases-loop-line : goal.decreases-loop-line
decreases-loop-line g l = length l.rest
