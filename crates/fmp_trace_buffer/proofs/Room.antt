-- Where there is room for a list's text, there is room for each part of it.
use Rattle.std.proofs.Common.{◌≡◌, ℕ, ◌+◌, List, ◌++◌, length, ap, arith, length-append}
use Rattle.fmp_trace.proofs.Room.{IsNext}
use Rattle.fmp_trace_buffer.specs.Filled.{HasRoom}

module _ (old all made : List ℕ) {rest front item following : List ℕ} (so_far : made ++ rest ≡ old ++ all) (next : IsNext rest front item following) (room : HasRoom old all) where
  sizes : length made + (length front + (length item + length following)) ≡ length old + length all
  sizes = omega (arith, ap (λ (xs : List ℕ). length xs) so_far, ap (λ (xs : List ℕ). length xs) next.is, length-append made rest, length-append front (item ++ following), length-append item following, length-append old all)

  -- room for what stands before the item
  pub front_room : HasRoom made front
  front_room = omega (arith, sizes, room)

  -- room for the item
  pub item_room : (new : List ℕ) → new ≡ made ++ front → HasRoom new item
  item_room new added = omega (arith, sizes, room, ap (λ (xs : List ℕ). length xs) added, length-append made front)
