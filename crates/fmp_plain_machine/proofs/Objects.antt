-- Loops over the objects of a kind.
use Rattle.std.proofs.Common.{◌≡◌, ℕ, ◌+◌, Bool, true, false, List, [], ◌∷◌, ◌++◌, map, filter, cond, ap, ◌∙◌, append-nil, if◌then◌else◌, refl, arith}
use Rattle.std.specs.List.{range_with_len}
use Rattle.std.proofs.lemmas.List.Elements.{filter-append}
use Rattle.std.proofs.lemmas.List.FromFn.{map-range_with_len_more}
use Rattle.fmp_codes.specs.Numbers.{as_object}
use Rattle.fmp_codes.specs.declared.numbers.Object.{Object}

by_test : (b : Bool) (o : Object) (os : List Object) → os ++ cond b (o ∷ []) [] ≡ (if b then os ++ o ∷ [] else os)
by_test true o os = refl
by_test false o os = append-nil os

-- one more object is among those that qualify if it does
pub one_more : (qualifies : Object → Bool) (n : ℕ) → let some = filter qualifies (map as_object (range_with_len 1 n)) in
    filter qualifies (map as_object (range_with_len 1 (n + 1))) ≡ (if qualifies (as_object (n + 1)) then some ++ as_object (n + 1) ∷ [] else some)
one_more qualifies n =
    ap (filter qualifies) (map-range_with_len_more as_object 1 n (n + 1) (omega arith))
    ∙ filter-append qualifies (map as_object (range_with_len 1 n)) (as_object (n + 1) ∷ [])
    ∙ by_test (qualifies (as_object (n + 1))) (as_object (n + 1)) (filter qualifies (map as_object (range_with_len 1 n)))
