-- Going over a list one by one, as loops do.
use Rattle.std.proofs.Common.{◌≡◌, ℕ, ◌+◌, ◌≤◌, ◌<◌, List, length, get_or, drop, Result, Ok, Err, sym, ◌∙◌, refl}
use Rattle.std.proofs.lemmas.List.{drop_more, drop_all}
use Rattle.fmp_config_statements.specs.Faults.{Fault}
use Rattle.fmp_config_statements.specs.Folds.{each}

module _ {S A : Type 0} (step : S → A → Result S Fault) (s : S) (xs : List A) (i : ℕ) (x : A) (total : Result S Fault) where
  pub goes_on : (next : S) → i < length xs → step s (get_or xs i x) ≡ Ok next → each step s (drop i xs) ≡ total → each step next (drop (i + 1) xs) ≡ total
  unfolding each
  goes_on next lt here so_far =
      let one : each step s (drop i xs) ≡ each step next (drop (i + 1) xs) = rw (drop_more xs i x lt, here) refl in
      sym one ∙ so_far

  pub fails : (fault : Fault) → i < length xs → step s (get_or xs i x) ≡ Err fault → each step s (drop i xs) ≡ total → total ≡ Err fault
  unfolding each
  fails fault lt here so_far =
      let one : each step s (drop i xs) ≡ Err fault = rw (drop_more xs i x lt, here) refl in
      sym so_far ∙ one

pub is_done : {S A : Type 0} (step : S → A → Result S Fault) (s : S) (xs : List A) (i : ℕ) (total : Result S Fault) → length xs ≤ i → each step s (drop i xs) ≡ total → total ≡ Ok s
unfolding each
is_done step s xs i total le so_far =
    let one : each step s (drop i xs) ≡ Ok s = rw (drop_all i xs le) refl in
    sym so_far ∙ one
