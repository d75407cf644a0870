use Rattle.std.proofs.Common.{◌≡◌, length, map, drop}
use Rattle.fmp_text.specs.Places.{arguments}
use Rattle.fmp_text.proofs.Pieces.{with_prefix}
use Rattle.fmp_text.proofs.form.arguments.Given as goal

abbrev pub invariant-loop-index : goal.invariant-loop-index
invariant-loop-index l =
    (with_prefix (map (λ t. t.now) l.starts.items) (arguments l.call l.index (drop l.index l.kinds) l.rest) ≡ arguments l.call 0 l.kinds l.text) × (length l.starts.items ≡ l.index)
