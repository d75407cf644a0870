use Rattle.std.proofs.Common.{◌≡◌, ℕ, ◌<◌, ◌+◌}
use Rattle.std.specs.Prelude.{Some, slice_get}
use Rattle.fmp_interned.specs.Tables.{tried}
use Rattle.fmp_interned.proofs.interned.Interned.find.Given as goal

abbrev pub invariant-loop-turn : goal.invariant-loop-turn
invariant-loop-turn g l =
    (t k : ℕ) → t < l.turn → tried l.self-inside.slots.items l.hash t ≡ k + 1 → slice_get l.self-inside.values.items k ≡ Some l.value → ⊥
