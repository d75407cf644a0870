-- That tasks wait, one task after the other.
use Rattle.std.proofs.Common.{◌≡◌, ◌∙◌, ◌⊎◌, inl, inr, ℕ, suc, ◌+◌, ◌-◌, ◌<◌, ◌≤◌, eqb, Bool, cond, true, false, not, List, [], ◌∷◌, ◌++◌, length, drop, map, Some, None, refl, ap, sym, arith}
use Rattle.std.specs.Prelude.{filter, get_or, slice_get, Result, Ok, Err, OnOk}
use Rattle.std.proofs.Math.ListN.{drop_of_length-le}
use Rattle.std.proofs.Math.Seq.{drop-cons}
use Rattle.std.proofs.lemmas.Bool.{ne_eqb}
use Rattle.std.proofs.lemmas.List.{append-nil, append_assoc}
use Rattle.std.proofs.lemmas.Option.{slice_get_within, get_or_from_slice_get, slice_get_cases}
use Rattle.fmp_codes.specs.declared.kinds.ObjectKind.TheVariants.{Task}
use Rattle.fmp_codes.specs.declared.kinds.NameKind.TheVariants.{Object}
use Rattle.fmp_names.specs.Names.{NameLists, has_name, name_of}
use Rattle.fmp_search_pattern.specs.Lasting.{Lasting}
use Rattle.fmp_search_question.specs.Waiting.{waits, waits_of, tasks_of}

more_waits : (but : List (List ℕ)) (name : List ℕ) (rest : List (List ℕ)) → waits_of but (name ∷ rest) ≡ waits_of but (name ∷ []) ++ waits_of but rest
more_waits but name rest = go (not (has_name but name))
  where
    left : List (List ℕ)
    left = filter (λ n. not (has_name but n)) rest

    go : (b : Bool) → map waits (cond b (name ∷ left) left) ≡ map waits (cond b (name ∷ []) []) ++ map waits left
    go true = refl
    go false = refl

module _ (but names : List (List ℕ)) (at : ℕ) where
  -- where there is a name it is the next of those that are left
  pub one_more : (name : List ℕ) (old new : List Lasting) → slice_get names at ≡ Some name → new ≡ old ++ waits_of but (name ∷ []) →
      new ++ waits_of but (drop (at + 1) names) ≡ old ++ waits_of but (drop at names)
  one_more name old new is put =
      let rest = drop (at + 1) names in
      let within = slice_get_within names at name is in
      let next : suc at ≡ at + 1 = omega arith in
      let left : drop at names ≡ name ∷ rest =
      drop-cons names at name within ∙ ap (λ x. x ∷ drop (suc at) names) (get_or_from_slice_get names at name name is) ∙ ap (λ n. name ∷ drop n names) next in
      ap (λ xs. xs ++ waits_of but rest) put
      ∙ append_assoc old (waits_of but (name ∷ [])) (waits_of but rest)
      ∙ ap (λ xs. old ++ xs) (sym (more_waits but name rest) ∙ sym (ap (waits_of but) left))

  -- and where there is none nothing is left
  pub none_left : slice_get names at ≡ None → length names ≤ at
  none_left is = go (slice_get_cases names at).1
    where
      go : ((x : List ℕ) × (at < length names) × (slice_get names at ≡ Some x) × (get_or names at x ≡ x)) ⊎ ((length names ≤ at) × (slice_get names at ≡ None)) → length names ≤ at
      go (inl some) = let both : None ≡ Some some.0 = sym is ∙ some.2 in cc
      go (inr none) = none.0

  pub no_more : (old new : List Lasting) → slice_get names at ≡ None → new ≡ old → new ++ waits_of but (drop (at + 1) names) ≡ old ++ waits_of but (drop at names)
  no_more old new is same =
      let past = none_left is in
      ap (λ xs. xs ++ waits_of but (drop (at + 1) names)) same
      ∙ ap (λ xs. old ++ waits_of but xs) (drop_of_length-le names (omega (arith, past)) ∙ sym (drop_of_length-le names past))

-- the name of a number is that at the index below
pub named : (names : NameLists) (at : ℕ) → name_of names (Object Task) (at + 1) ≡ slice_get (tasks_of names) at
unfolding name_of
named names at =
    let same : at + 1 - 1 ≡ at = omega arith in
    let test : eqb (at + 1) 0 ≡ false = ne_eqb (at + 1) 0 (λ e. omega (arith, e)) in
    rw (test, same) refl

pub on_ok : {T E : Type 0} (r : Result T E) (A B : Type 0) → (A → B) → OnOk r A → OnOk r B
on_ok (Ok x) A B f a = f a
on_ok (Err e) A B f a = tt

pub all_waits : (but names : List (List ℕ)) (at : ℕ) (all : List Lasting) → length names ≤ 64 → 64 ≤ at → all ++ waits_of but (drop at names) ≡ waits_of but names → all ≡ waits_of but names
all_waits but names at all few past is = sym (append-nil all) ∙ sym (ap (λ xs. all ++ waits_of but xs) (drop_of_length-le names (omega (arith, few, past)))) ∙ is
