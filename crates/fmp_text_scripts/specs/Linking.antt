-- Labels, and the jumps to them by their names.
use Rattle.std.specs.Prelude.{◌≡◌, ◌⊎◌, ℕ, Bool, true, false, List, [], ◌∷◌, Option, None, Some, Result, Ok, Err, option_map, option_and_then, find}
use Rattle.std.specs.Global.{Vec}
use Rattle.std.specs.List.{list_any}
use Rattle.std.specs.Str.{bytes_eq}
use Rattle.fmp_text.specs.Events.{IsMemory}
use Rattle.fmp_text.specs.declared.fault.TextFault.{TextFault}
use Rattle.fmp_text.specs.declared.fault.TextKind.TheVariants.{UnknownName}
use Rattle.fmp_text_scripts.specs.declared.linking.Jump.{Jump}
use Rattle.fmp_text_scripts.specs.declared.linking.Label.{Label}
use Rattle.fmp_text_scripts.specs.declared.ways.Pattern.{Pattern}
use Rattle.fmp_text_scripts.specs.declared.ways.Pattern.TheVariants as pattern
use Rattle.fmp_text_scripts.specs.declared.ways.Way.{Way}

abbrev pub is_any : Pattern → Bool
is_any pattern.Any = true
is_any other = false

abbrev pub is_same : List ℕ → List ℕ → Bool
is_same a b = bytes_eq a b

-- a label has this name
abbrev pub has_label : List Label → List ℕ → Bool
has_label labels name = list_any (λ l. is_same l.name name) labels

-- after how many calls the first label of this name stands
abbrev pub place_in : List Label → List ℕ → Option ℕ
place_in labels name = option_map (λ l. l.at) (find (λ l. is_same l.name name) labels)

-- the way of a jump, where a label has its name
abbrev pub way_of : List Label → Jump → Option Way
way_of labels j = option_map (λ at. record { after = j.after; answer = j.answer; to = at }) (place_in labels j.name)

-- the ways of jumps, where for each a label has its name
abbrev pub linked : List Label → List Jump → Option (List Way)
linked labels [] = Some []
linked labels (j ∷ jumps) = option_and_then (λ w. option_map (λ ways. w ∷ ways) (linked labels jumps)) (way_of labels j)

-- these are the ways of jumps; or one of them has no label, which is told in this line; or memory ran out
abbrev pub Links : Option (List Way) → ℕ → Result (Vec Way) TextFault → Type 0
Links judged line (Ok ways) = judged ≡ Some ways.items
Links judged line (Err fault) = ((judged ≡ None) × (fault.kind ≡ UnknownName) × (fault.line ≡ line)) ⊎ IsMemory fault
