use Rattle.std.proofs.Common.{take}
use Rattle.fmp_interned.specs.Parts.{AddsNumbers}
use Rattle.fmp_interned.specs.Values.{IsBeginning}
use Rattle.fmp_interned.proofs.part.number_each.Given as goal

abbrev pub invariant-loop-value : goal.invariant-loop-value
invariant-loop-value g l = record {
  added : AddsNumbers l.kept (take l.value-index l.values) l.fn.numbers l.numbers;
  kept : IsBeginning l.fn.kept l.kept;
}
