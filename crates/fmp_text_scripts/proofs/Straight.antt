-- Scripts without ways.
use Rattle.std.proofs.Common.{◌≡◌, ℕ, ◌==◌, true, List, [], ◌∷◌, length, map, Option, Some, None, refl, ap, inl, inr, arith}
use Rattle.std.specs.List.{list_all}
use Rattle.std.proofs.lemmas.Bool.{cases_Bool, and_parts, eqb-true}
use Rattle.std.proofs.lemmas.List.Elements.{All-nil, All-cons, All-tail}
use Rattle.fmp_text_scripts.specs.declared.script.Script.{Script}
use Rattle.fmp_text_scripts.specs.declared.ways.Way.{Way}
use Rattle.fmp_text_scripts.specs.Scripts.{Steps, AreStraight, ways_of, ways_of_option}
use Rattle.fmp_text_scripts.specs.Views.{steps_of}

no_ways : (scripts : List Steps) (f : ℕ) → AreStraight scripts → ways_of scripts f ≡ []
no_ways [] f straight = refl
no_ways (s ∷ scripts) f straight =
    elim (cases_Bool (s.function == f)) [
      | inl t ↦ rw t (straight 0 s (omega arith))
      | inr n ↦ rw n (no_ways scripts f (All-tail (λ (x : Steps). x.ways ≡ []) s scripts straight))
    ]

-- a straight script has no ways
pub none_of : (scripts : List Steps) (o : Option ℕ) → AreStraight scripts → ways_of_option scripts o ≡ []
none_of scripts None straight = refl
none_of scripts (Some f) straight = no_ways scripts f straight

-- scripts are straight where each of them has no way
pub straight_all : (scripts : List Script) → list_all (λ (s : Script). length s.ways.items == 0) scripts ≡ true → AreStraight (map steps_of scripts)
straight_all [] all = All-nil (λ (x : Steps). x.ways ≡ [])
straight_all (s ∷ scripts) all =
    let p = and_parts (length s.ways.items == 0) (list_all (λ (x : Script). length x.ways.items == 0) scripts) all in
    All-cons (λ (x : Steps). x.ways ≡ []) (steps_of s) (map steps_of scripts) (none s.ways.items (eqb-true (length s.ways.items) 0 p.0)) (straight_all scripts p.1)
  where
    none : (ways : List Way) → length ways ≡ 0 → ways ≡ []
    none [] e = refl
    none (w ∷ ways) e = absurd (omega (arith, e))

pub all_straight : (scripts : List Script) → AreStraight (map steps_of scripts) → list_all (λ (s : Script). length s.ways.items == 0) scripts ≡ true
all_straight [] straight = refl
all_straight (s ∷ scripts) straight =
    let here : length s.ways.items ≡ 0 = ap length (straight 0 (steps_of s) (omega arith)) in
    let test : (length s.ways.items == 0) ≡ true = ap (λ (n : ℕ). n == 0) here in
    rw test (all_straight scripts (All-tail (λ (x : Steps). x.ways ≡ []) (steps_of s) (map steps_of scripts) straight))
