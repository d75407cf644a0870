-- Reading the values of arguments one after the other, as a loop does.
use Rattle.std.proofs.Common.{◌≡◌, ℕ, ◌+◌, ◌≤◌, ◌<◌, List, [], ◌∷◌, ◌++◌, length, get_or, drop, Result, Ok, Err, refl, sym, ap, ◌∙◌, append_assoc}
use Rattle.std.proofs.lemmas.List.{append-nil, drop_more, drop_all}
use Rattle.fmp_bytes.specs.Results.{◌>>=◌}
use Rattle.fmp_codes.specs.declared.calls.Call.{Call}
use Rattle.fmp_codes.specs.declared.kinds.ArgumentKind.{ArgumentKind}
use Rattle.fmp_codes.specs.declared.kinds.Value.{Value}
use Rattle.fmp_names.specs.Names.{NameLists}
use Rattle.fmp_text.specs.Places.{Place, value, values}

-- what was read before, and what is still read
abbrev pub with_prefix : List Value → Result (List Value) Place → Result (List Value) Place
with_prefix prefix list = list >>= λ l. Ok (prefix ++ l)

stepped : (prefix : List Value) (first : Value) (list : Result (List Value) Place) → with_prefix prefix (list >>= λ l. Ok (first ∷ l)) ≡ with_prefix (prefix ++ first ∷ []) list
stepped prefix first (Ok list) = ap (λ (vs : List Value). Ok vs) (simp append_assoc)
stepped prefix first (Err e) = refl

module _ (names : NameLists) (call : Call) (kinds : List ArgumentKind) (texts : List (List ℕ)) (total : Result (List Value) Place) where
  pub goes_on : (prefix : List Value) (n : ℕ) (k : ArgumentKind) (t : List ℕ) (first : Value) → n < length kinds → n < length texts → value names call (get_or kinds n k) (get_or texts n t) ≡ Ok first
      → with_prefix prefix (values names call (drop n kinds) (drop n texts)) ≡ total → with_prefix (prefix ++ first ∷ []) (values names call (drop (n + 1) kinds) (drop (n + 1) texts)) ≡ total
  goes_on prefix n k t first a b here so_far =
      let one : with_prefix prefix (values names call (drop n kinds) (drop n texts)) ≡ with_prefix (prefix ++ first ∷ []) (values names call (drop (n + 1) kinds) (drop (n + 1) texts)) = rw (drop_more kinds n k a, drop_more texts n t b, here) (stepped prefix first (values names call (drop (n + 1) kinds) (drop (n + 1) texts))) in
      sym one ∙ so_far

  pub ends : (prefix : List Value) (n : ℕ) (k : ArgumentKind) (t : List ℕ) (place : Place) → n < length kinds → n < length texts → value names call (get_or kinds n k) (get_or texts n t) ≡ Err place
      → with_prefix prefix (values names call (drop n kinds) (drop n texts)) ≡ total → total ≡ Err place
  ends prefix n k t place a b here so_far =
      let one : with_prefix prefix (values names call (drop n kinds) (drop n texts)) ≡ Err place = rw (drop_more kinds n k a, drop_more texts n t b, here) refl in
      sym so_far ∙ one

  pub is_done : (prefix : List Value) (n : ℕ) → length kinds ≤ n → with_prefix prefix (values names call (drop n kinds) (drop n texts)) ≡ total → total ≡ Ok prefix
  is_done prefix n le so_far =
      let one : with_prefix prefix (values names call (drop n kinds) (drop n texts)) ≡ Ok prefix = rw (drop_all n kinds le) (ap (λ (vs : List Value). Ok vs) (append-nil prefix)) in
      sym so_far ∙ one
