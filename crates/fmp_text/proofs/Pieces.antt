-- Going over the arguments of a call one after the other, as a loop does.
use Rattle.std.proofs.Common.{◌≡◌, ℕ, ◌+◌, ◌≤◌, ◌<◌, List, [], ◌∷◌, ◌++◌, length, get_or, drop, Result, Ok, Err, refl, sym, ap, ◌∙◌, append_assoc}
use Rattle.std.proofs.lemmas.List.{append-nil, drop_more, drop_all}
use Rattle.fmp_bytes.specs.Results.{◌>>=◌}
use Rattle.fmp_codes.specs.declared.calls.Call.{Call}
use Rattle.fmp_codes.specs.declared.kinds.ArgumentKind.{ArgumentKind}
use Rattle.fmp_text.specs.Places.{Place, start, argument, arguments}

-- where arguments were found to begin, and what is still found
abbrev pub with_prefix : List (List ℕ) → Result (List (List ℕ) × List ℕ) Place → Result (List (List ℕ) × List ℕ) Place
with_prefix prefix read = read >>= λ r. Ok (prefix ++ r.0, r.1)

-- one argument more
stepped : (prefix : List (List ℕ)) (first : List ℕ) (read : Result (List (List ℕ) × List ℕ) Place) → with_prefix prefix (read >>= λ r. Ok (first ∷ r.0, r.1)) ≡ with_prefix (prefix ++ first ∷ []) read
stepped prefix first (Ok read) = let same : prefix ++ (first ∷ read.0) ≡ (prefix ++ first ∷ []) ++ read.0 = simp append_assoc in ap (λ (ts : List (List ℕ)). Ok (ts, read.1)) same
stepped prefix first (Err e) = refl

module _ (call : Call) (kinds : List ArgumentKind) (total : Result (List (List ℕ) × List ℕ) Place) where
  pub goes_on : (prefix : List (List ℕ)) (n : ℕ) (k : ArgumentKind) (text first rest : List ℕ) → n < length kinds → start call n text ≡ Ok first → argument call (get_or kinds n k) first ≡ Ok rest
      → with_prefix prefix (arguments call n (drop n kinds) text) ≡ total → with_prefix (prefix ++ first ∷ []) (arguments call (n + 1) (drop (n + 1) kinds) rest) ≡ total
  goes_on prefix n k text first rest lt begins fits so_far =
      let one : with_prefix prefix (arguments call n (drop n kinds) text) ≡ with_prefix (prefix ++ first ∷ []) (arguments call (n + 1) (drop (n + 1) kinds) rest) = rw (drop_more kinds n k lt, begins, fits) (stepped prefix first (arguments call (n + 1) (drop (n + 1) kinds) rest)) in
      sym one ∙ so_far

  pub no_start : (prefix : List (List ℕ)) (n : ℕ) (k : ArgumentKind) (text : List ℕ) (place : Place) → n < length kinds → start call n text ≡ Err place
      → with_prefix prefix (arguments call n (drop n kinds) text) ≡ total → total ≡ Err place
  no_start prefix n k text place lt begins so_far =
      let one : with_prefix prefix (arguments call n (drop n kinds) text) ≡ Err place = rw (drop_more kinds n k lt, begins) refl in
      sym so_far ∙ one

  pub no_argument : (prefix : List (List ℕ)) (n : ℕ) (k : ArgumentKind) (text first : List ℕ) (place : Place) → n < length kinds → start call n text ≡ Ok first → argument call (get_or kinds n k) first ≡ Err place
      → with_prefix prefix (arguments call n (drop n kinds) text) ≡ total → total ≡ Err place
  no_argument prefix n k text first place lt begins fits so_far =
      let one : with_prefix prefix (arguments call n (drop n kinds) text) ≡ Err place = rw (drop_more kinds n k lt, begins, fits) refl in
      sym so_far ∙ one

  pub is_done : (prefix : List (List ℕ)) (n : ℕ) (text : List ℕ) → length kinds ≤ n → with_prefix prefix (arguments call n (drop n kinds) text) ≡ total → total ≡ Ok (prefix, text)
  is_done prefix n text le so_far =
      let one : with_prefix prefix (arguments call n (drop n kinds) text) ≡ Ok (prefix, text) = rw (drop_all n kinds le) (ap (λ (ts : List (List ℕ)). Ok (ts, text)) (append-nil prefix)) in
      sym so_far ∙ one
