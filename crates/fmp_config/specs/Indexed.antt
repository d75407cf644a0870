-- The table of the defined names.
use Rattle.std.specs.Prelude.{ℕ, List, map}
use Rattle.std.specs.Global.{Vec}
use Rattle.indexmap.specs.IndexMap.{IndexMap}

-- the entries of the table, in its order
abbrev pub definitions : {S : Type 0} → IndexMap (Vec ℕ) ℕ S → List (List ℕ × ℕ)
definitions table = map (λ e. (e.0.items, e.1)) table.entries
