-- The ways of jumps, jump by jump.
use Rattle.std.proofs.Common.{◌≡◌, suc, List, [], ◌∷◌, ◌++◌, length, Option, Some, None, refl, ap, ◌∙◌}
use Rattle.std.specs.Prelude.{option_map, option_and_then}
use Rattle.fmp_text_scripts.specs.declared.linking.Jump.{Jump}
use Rattle.fmp_text_scripts.specs.declared.linking.Label.{Label}
use Rattle.fmp_text_scripts.specs.declared.ways.Way.{Way}
use Rattle.fmp_text_scripts.specs.Linking.{linked, way_of}

-- some ways and those that follow, if there are any
abbrev pub joined : List Way → Option (List Way) → Option (List Way)
joined ways None = None
joined ways (Some more) = Some (ways ++ more)

-- as many ways as jumps
pub linked_long : (labels : List Label) (jumps : List Jump) (ways : List Way) → linked labels jumps ≡ Some ways → length ways ≡ length jumps
linked_long labels [] ways is = (let none : ways ≡ [] = cc in ap length none)
linked_long labels (j ∷ jumps) ways is = one (way_of labels j) (linked labels jumps) ways is (λ more e. linked_long labels jumps more e)
  where
    one : (w : Option Way) (rest : Option (List Way)) (all : List Way) → option_and_then (λ x. option_map (λ more. x ∷ more) rest) w ≡ Some all
        → ((more : List Way) → rest ≡ Some more → length more ≡ length jumps) → length all ≡ suc (length jumps)
    one None rest all e long = absurd cc
    one (Some x) None all e long = absurd cc
    one (Some x) (Some more) all e long = let here : all ≡ x ∷ more = cc in ap length here ∙ ap suc (long more refl)
