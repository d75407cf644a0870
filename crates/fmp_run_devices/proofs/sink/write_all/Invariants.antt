use Rattle.std.proofs.Common.{◌≡◌, ◌-◌, ◌≤◌, ◌++◌, length, take}
use Rattle.fmp_run_devices.specs.Devices.{IsKnown, bytes_of}
use Rattle.fmp_run_devices.proofs.sink.write_all.Given as goal

abbrev pub invariant-loop-done : goal.invariant-loop-done
invariant-loop-done g l = record {
  within : l.done ≤ length l.bytes;
  failures : g.W.Sink.failures l.sink ≡ g.W.Sink.failures l.fn.sink;
  known : IsKnown (g.W.Sink.written l.fn.sink) → IsKnown (g.W.Sink.written l.sink);
  written : IsKnown (g.W.Sink.written l.fn.sink) → bytes_of (g.W.Sink.written l.sink) ≡ bytes_of (g.W.Sink.written l.fn.sink) ++ take l.done l.bytes;
}

abbrev pub decreases-loop-done : goal.decreases-loop-done
decreases-loop-done g l = length l.bytes - l.done
