use Rattle.std.proofs.Common.{take}
use Rattle.fmp_interned.specs.Parts.{AddsNumbers}
use Rattle.fmp_interned.specs.Values.{IsBeginning}
use Rattle.fmp_kernel_same.proofs.lone.number_records.Given as goal

abbrev pub invariant-loop-record : goal.invariant-loop-record
invariant-loop-record g l = record {
  added : AddsNumbers l.kept (take l.record-index l.records) l.fn.numbers l.numbers;
  kept : IsBeginning l.fn.kept l.kept;
}
