-- The defined names in a list.
use Rattle.std.proofs.Common.{◌≡◌, ℕ, List, [], ◌∷◌, map, Option, Some, cond, refl, ap}
use Rattle.std.specs.Map.{lookup}
use Rattle.std.specs.Str.{bytes_eq}
use Rattle.std.specs.Global.{Vec}

-- an entry, with its name as a list
abbrev pub shown : Vec ℕ × ℕ → List ℕ × ℕ
shown e = (e.0.items, e.1)

pub found : (name : List ℕ) (entries : List (Vec ℕ × ℕ)) → lookup (bytes_eq name) (map shown entries) ≡ lookup (λ v. bytes_eq name v.items) entries
found name [] = refl
found name (e ∷ es) = ap (λ (o : Option ℕ). cond (bytes_eq name e.0.items) (Some e.1) o) (found name es)
