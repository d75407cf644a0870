-- Lists of values, each kept as the list of the numbers of its values.
use Rattle.std.specs.Prelude.{◌≡◌, ℕ, Some, List, ◌++◌, slice_get}
use Rattle.std.specs.List.{AllZip}

-- values are kept, and have these numbers
abbrev pub AreNumbersOf : {V : Type 0} → List V → List ℕ → List V → Type 0
AreNumbersOf kept numbers values = AllZip (λ n v. slice_get kept n ≡ Some v) numbers values

-- these are numbers of values that are kept
abbrev pub HasNumbers : {V : Type 0} → List V → List ℕ → Type 0
HasNumbers kept numbers = (values : List _) × AreNumbersOf kept numbers values

-- the numbers of values come after others
abbrev pub AddsNumbers : {V : Type 0} → List V → List V → List ℕ → List ℕ → Type 0
AddsNumbers kept values old new = (numbers : List ℕ) × (new ≡ old ++ numbers) × AreNumbersOf kept numbers values
