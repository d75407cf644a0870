-- Bits of what is so, one after the other.
use Rattle.std.proofs.Common.{◌≡◌, ◌∙◌, ℕ, suc, ◌+◌, ◌*◌, ◌-◌, ◌^◌, ◌<◌, ◌≤◌, Bool, cond, List, ◌∷◌, length, drop, map, get_or, ap, sym, arith}
use Rattle.std.proofs.Math.Nat.{pow-le-pow_right}
use Rattle.std.proofs.Math.Seq.{drop-cons}
use Rattle.std.proofs.lemmas.List.{length-map, length-drop}
use Rattle.fmp_search_pattern.specs.Lasting.{Lasting}
use Rattle.fmp_search_orders.specs.Watched.{bits_of}
use Rattle.fmp_search_orders.proofs.Watching.{bits_less}

module _ (f : Lasting → Bool) (xs : List Lasting) (at : ℕ) (some : 0 < at) (within : at ≤ length xs) where
  -- there is room for one bit more
  pub room : length xs ≤ 64 → bits_of (map f (drop at xs)) < 2 ^ 63
  room few =
      let left = map f (drop at xs) in
      let less = bits_less left in
      let long : length left ≡ length xs - at = length-map (drop at xs) f ∙ length-drop at xs in
      let most : length left ≤ 63 = omega (arith, long, some, within, few) in
      let power : 2 ^ length left ≤ 2 ^ 63 = pow-le-pow_right (omega arith) most in
      omega (arith, less, power)

  -- and with it they are those from one index before
  pub one_bit : (d : Lasting) → cond (f (get_or xs (at - 1) d)) 1 0 + 2 * bits_of (map f (drop at xs)) ≡ bits_of (map f (drop (at - 1) xs))
  one_bit d =
      let before : at - 1 < length xs = omega (arith, some, within) in
      let next : suc (at - 1) ≡ at = omega (arith, some) in
      let split = drop-cons xs (at - 1) d before ∙ ap (λ n. get_or xs (at - 1) d ∷ drop n xs) next in
      sym (ap (λ (ys : List Lasting). bits_of (map f ys)) split)
