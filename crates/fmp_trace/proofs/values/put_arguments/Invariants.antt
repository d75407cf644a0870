use Rattle.std.proofs.Common.{◌≡◌, ◌≤◌, ◌++◌, drop, vec_capacity}
use Rattle.fmp_trace.specs.Values.{arguments_from}
use Rattle.fmp_trace.proofs.values.put_arguments.Given as goal

abbrev pub invariant-loop-index : goal.invariant-loop-index
invariant-loop-index l = record {
  made : l.out.items ++ arguments_from l.names l.index (drop l.index l.kinds) (drop l.index l.values) ≡ l.fn.out.items ++ arguments_from l.names 0 l.kinds l.values;
  room : vec_capacity l.fn.out ≤ vec_capacity l.out;
}
