use Rattle.std.proofs.Common.{◌≡◌, ◌≤◌, ◌+◌, ◌-◌, ◌++◌, vec_len}
use Rattle.fmp_run_devices.specs.Devices.{IsKnown, bytes_of}
use Rattle.fmp_run_devices.proofs.whole.read_up_to.Given as goal

abbrev pub invariant-loop-source : goal.invariant-loop-source
invariant-loop-source g l = record {
  room : vec_len l.piece ≡ 65536;
  bound : vec_len l.text ≤ l.limit + 65536;
  failures : g.S.Source.failures l.source ≡ g.S.Source.failures l.fn.source;
  known : IsKnown (g.S.Source.left l.fn.source) → IsKnown (g.S.Source.left l.source);
  heard : g.S.Source.given l.source ≡ g.S.Source.given l.fn.source ++ l.text.items;
  prefix : IsKnown (g.S.Source.left l.fn.source) → bytes_of (g.S.Source.left l.fn.source) ≡ l.text.items ++ bytes_of (g.S.Source.left l.source);
}

abbrev pub decreases-loop-source : goal.decreases-loop-source
decreases-loop-source g l = l.limit + 1 - vec_len l.text
