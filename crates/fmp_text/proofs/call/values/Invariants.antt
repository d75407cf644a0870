use Rattle.std.proofs.Common.{◌≡◌, length, map, drop}
use Rattle.fmp_text.specs.Places.{values}
use Rattle.fmp_text.proofs.Judged.{with_prefix}
use Rattle.fmp_text.proofs.call.values.Given as goal

abbrev pub invariant-loop-index : goal.invariant-loop-index
invariant-loop-index l =
    (with_prefix l.values.items (values l.names l.call (drop l.index l.kinds) (drop l.index (map (λ t. t.now) l.texts))) ≡ values l.names l.call l.kinds (map (λ t. t.now) l.texts)) × (length l.values.items ≡ l.index)
