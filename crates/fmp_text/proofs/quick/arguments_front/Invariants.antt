use Rattle.std.proofs.Common.{◌≡◌, drop, length, take, true}
use Rattle.fmp_text.proofs.Echoed.{PrintsOn}
use Rattle.fmp_text.proofs.Fronted.{GoesOn}
use Rattle.fmp_text.proofs.quick.arguments_front.Given as goal

abbrev pub invariant-loop-index : goal.invariant-loop-index
invariant-loop-index l = record {
  four : length l.values ≡ 4;
  goes : GoesOn l.names l.kinds (take l.index l.values) (drop l.index l.kinds) l.text l.rest;
  kept : l.is_own ≡ true → l.fn.is_own ≡ true;
  prints : l.is_own ≡ true → PrintsOn l.names l.kinds (take l.index l.values) (drop l.index l.kinds) l.text l.rest;
}
