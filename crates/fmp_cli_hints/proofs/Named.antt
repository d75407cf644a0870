-- The names of a kind, one after the other, as a loop reads them.
use Rattle.std.proofs.Common.{◌≡◌, ◌<◌, ℕ, ◌+◌, ◌-◌, false, inl, inr, eqb, List, [], ◌∷◌, length, drop, Some, None, ap, ◌∙◌, arith}
use Rattle.std.specs.List.{slice_get}
use Rattle.std.proofs.lemmas.Bool.{cases_eq, ne_eqb}
use Rattle.std.proofs.lemmas.List.{drop_more}
use Rattle.std.proofs.lemmas.Option.{slice_get_within, get_or_from_slice_get}
use Rattle.fmp_codes.specs.declared.kinds.NameKind.{NameKind}
use Rattle.fmp_names.specs.Names.{NameLists, name_of, names_of}
use Rattle.fmp_names.proofs.Placed.{numbered}
use Rattle.fmp_names.proofs.Listed.{past_last}

pub next_name : (names : List (List ℕ)) (i : ℕ) (name : List ℕ) → slice_get names i ≡ Some name → drop i names ≡ name ∷ drop (i + 1) names
next_name names i name e =
    drop_more names i name (slice_get_within names i name e) ∙ ap (λ x. x ∷ drop (i + 1) names) (get_or_from_slice_get names i name name e)

-- the name after so many, by its number from 1
pub named_next : (lists : NameLists) (kind : NameKind) (i : ℕ) (name : List ℕ) → name_of lists kind (i + 1) ≡ Some name → drop i (names_of lists kind) ≡ name ∷ drop (i + 1) (names_of lists kind)
named_next lists kind i name e =
    let same : i + 1 - 1 ≡ i = omega arith in
    next_name (names_of lists kind) i name (rw same at (numbered lists kind (i + 1) name e).1)

pub named_within : (lists : NameLists) (kind : NameKind) (i : ℕ) (name : List ℕ) → name_of lists kind (i + 1) ≡ Some name → i < length (names_of lists kind)
named_within lists kind i name e =
    let within = slice_get_within (names_of lists kind) (i + 1 - 1) name (numbered lists kind (i + 1) name e).1 in
    omega (arith, within)

pub named_last : (lists : NameLists) (kind : NameKind) (i : ℕ) → name_of lists kind (i + 1) ≡ None → drop i (names_of lists kind) ≡ []
unfolding name_of
named_last lists kind i e =
    let same : i + 1 - 1 ≡ i = omega arith in
    elim (cases_eq (i + 1) 0) [
      | inl none ↦ absurd (omega (arith, none))
      | inr differs ↦ let test : eqb (i + 1) 0 ≡ false = ne_eqb (i + 1) 0 differs in past_last (names_of lists kind) i (rw (test, same) at e)
    ]
