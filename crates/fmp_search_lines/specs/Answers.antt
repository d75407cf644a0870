-- What is known of the orders of lines.
use Rattle.std.specs.Prelude.{ℕ, ◌<◌, Bool, Option}
use Rattle.fmp_search_lines.specs.declared.searching.Orders.{Orders}
use Rattle.fmp_search_lines.specs.declared.searching.Orders.TheVariants as orders
use Rattle.fmp_search_lines.specs.Crowds.{IsFirstCrowded}
use Rattle.fmp_search_lines.specs.Orders.{IsFirstWithout, IsRight}
use Rattle.fmp_search_lines.specs.Places.{HasMorePlaces}

-- what an answer says of the orders of so many lines, where all begins in this state
abbrev pub SaysOrders : {S : Type 0} → (S → ℕ → Option S) → (ℕ → ℕ) → ℕ → (ℕ → Bool) → S → Orders → Type 0
SaysOrders plays last count must s (orders.Right order) = IsRight plays last count must count s order.items
SaysOrders plays last count must s (orders.Without n order) =
    (n < count) × IsFirstWithout plays last count must s n × IsRight plays last count must n s order.items
SaysOrders plays last count must s (orders.Crowded j) = IsFirstCrowded last count j
SaysOrders plays last count must s orders.NotKnown = Unit {0}

-- where it is not known whether there is a right order, there are more places than there is room for besides the first
abbrev pub FillsRoom : {S : Type 0} → (S → ℕ → Option S) → (ℕ → ℕ) → ℕ → S → ℕ → Orders → Type 0
FillsRoom plays last count s room (orders.Right order) = Unit {0}
FillsRoom plays last count s room (orders.Without n order) = Unit {0}
FillsRoom plays last count s room (orders.Crowded j) = Unit {0}
FillsRoom plays last count s room orders.NotKnown = HasMorePlaces plays last count s room
