-- The classes and their names, in two lists or in one.
use Rattle.std.proofs.Common.{◌≡◌, ◌||◌, ℕ, Bool, List, [], ◌∷◌, option_map, map, refl, ap, inl, inr}
use Rattle.std.specs.Prelude.{find}
use Rattle.std.specs.List.{list_any}
use Rattle.std.specs.Str.{bytes_eq}
use Rattle.std.proofs.lemmas.Bool.{cases_Bool}
use Rattle.fmp_setup.specs.declared.parts.NamedClass.{NamedClass}
use Rattle.fmp_setup.specs.Building.{class_in}

pub named_by : (name : List ℕ) (classes : List NamedClass) → list_any (bytes_eq name) (map (λ c. c.name.items) classes) ≡ list_any (λ c. bytes_eq name c.name.items) classes
named_by name [] = refl
named_by name (c ∷ cs) = ap (λ (b : Bool). bytes_eq name c.name.items || b) (named_by name cs)

pub found_by : (name : List ℕ) (classes : List NamedClass) → class_in (map (λ c. c.name.items) classes) (map (λ c. c.class) classes) name ≡ option_map (λ c. c.class) (find (λ c. bytes_eq name c.name.items) classes)
found_by name [] = refl
found_by name (c ∷ cs) =
    elim (cases_Bool (bytes_eq name c.name.items)) [
      | inl t ↦ rw t refl
      | inr f ↦ rw f (found_by name cs)
    ]
