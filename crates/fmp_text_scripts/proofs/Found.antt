-- The script of a function, where scripts are looked up.
use Rattle.std.proofs.Common.{◌≡◌, ◌≢◌, ◌==◌, ◌<◌, ◌+◌, ◌∙◌, ℕ, Bool, true, false, List, [], ◌∷◌, length, Option, None, Some, map, slice_index, slice_set, refl, inl, inr, arith}
use Rattle.std.specs.Prelude.{find}
use Rattle.std.specs.List.{position_or_len}
use Rattle.std.proofs.lemmas.Bool.{cases_Bool, eqb-true, eqb-false}
use Rattle.std.proofs.lemmas.List.{get_or-set_same, get_or-set_other}
use Rattle.fmp_codes.specs.declared.calls.Call.{Call}
use Rattle.fmp_text_scripts.specs.declared.script.Script.{Script}
use Rattle.fmp_text_scripts.specs.declared.ways.Way.{Way}
use Rattle.fmp_text_scripts.specs.Scripts.{script_of, ways_of}
use Rattle.fmp_text_scripts.specs.Views.{steps_of}

abbrev pub steps_found : Option Script → List Call
steps_found None = []
steps_found (Some s) = s.steps.items

pub script_found : (f : ℕ) (scripts : List Script) → script_of (map steps_of scripts) f ≡ steps_found (find (λ s. s.function == f) scripts)
script_found f [] = refl
script_found f (s ∷ ss) =
    elim (cases_Bool (s.function == f)) [
      | inl t ↦ rw t refl
      | inr n ↦ rw n (script_found f ss)
    ]

abbrev pub found_ways : Option Script → List Way
found_ways None = []
found_ways (Some s) = s.ways.items

pub ways_found : (f : ℕ) (scripts : List Script) → ways_of (map steps_of scripts) f ≡ found_ways (find (λ s. s.function == f) scripts)
ways_found f [] = refl
ways_found f (s ∷ ss) =
    elim (cases_Bool (s.function == f)) [
      | inl t ↦ rw t refl
      | inr n ↦ rw n (ways_found f ss)
    ]

-- where the first scripts of functions stand, one function after the other
abbrev pub ArePlaces : List Script → List ℕ → ℕ → Type 0
ArePlaces scripts places n = (f : ℕ) → f < n → slice_index places f ≡ position_or_len (λ (s : Script). s.function == f) scripts

pub one_place : (scripts : List Script) (places : List ℕ) (at place : ℕ) → at < length places → place ≡ position_or_len (λ (s : Script). s.function == at) scripts → ArePlaces scripts places at
    → ArePlaces scripts (slice_set places at place) (at + 1)
one_place scripts places at place small is before f less = go (f == at) refl
  where
    go : (b : Bool) → (f == at) ≡ b → slice_index (slice_set places at place) f ≡ position_or_len (λ (s : Script). s.function == f) scripts
    go true e = let same : f ≡ at = eqb-true f at e in rw same (get_or-set_same places at place 0 small ∙ is)
    go false e =
        let other : f ≢ at = λ q. eqb-false f at e q in
        get_or-set_other places at f place 0 other ∙ before f (omega (arith, less, other))
