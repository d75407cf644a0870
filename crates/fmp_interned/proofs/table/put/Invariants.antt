use Rattle.std.proofs.Common.{◌≡◌, ℕ, ◌<◌}
use Rattle.fmp_interned.specs.Tables.{tried}
use Rattle.fmp_interned.proofs.table.put.Given as goal

abbrev pub invariant-loop-turn : goal.invariant-loop-turn
invariant-loop-turn l = (l.table ≡ l.fn.table) × ((t : ℕ) → t < l.turn → tried l.table.items l.hash t ≡ 0 → ⊥)
