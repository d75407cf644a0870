-- The defined names in their table.
use Rattle.std.proofs.Common.{◌≡◌, ℕ, List, [], ◌∷◌, ◌++◌, map, Option, Some, is_some, cond, false, refl, ap}
use Rattle.std.specs.List.{list_any}
use Rattle.std.specs.Map.{keys_of, lookup}
use Rattle.std.specs.Str.{bytes_eq}
use Rattle.std.specs.Global.{Vec}
use Rattle.std.proofs.lemmas.Bool.{or_parts}
use Rattle.std.proofs.lemmas.Map.Made.{is_some-lookup}
use Rattle.indexmap.specs.IndexMap.{insert_entry}
use Rattle.fmp_names.specs.Names.{NameLists, is_defined, number_defined}
use Rattle.fmp_setup.specs.Building.{is_refused, with_defined}
use Rattle.fmp_setup.specs.Setup.{Setup}
use Rattle.fmp_setup.proofs.Named.{not_refused}

-- an entry, with its name as a list
abbrev pub shown : Vec ℕ × ℕ → List ℕ × ℕ
shown e = (e.0.items, e.1)

pub found : (name : List ℕ) (entries : List (Vec ℕ × ℕ)) → lookup (bytes_eq name) (map shown entries) ≡ lookup (λ v. bytes_eq name v.items) entries
found name [] = refl
found name (e ∷ es) = ap (λ (o : Option ℕ). cond (bytes_eq name e.0.items) (Some e.1) o) (found name es)

-- a name that is not there goes last
pub inserted : (name : Vec ℕ) (number : ℕ) (entries : List (Vec ℕ × ℕ)) → list_any (bytes_eq name.items) (keys_of (map shown entries)) ≡ false
    → map shown (insert_entry (λ v w. bytes_eq v.items w.items) entries name number) ≡ map shown entries ++ (name.items, number) ∷ []
inserted name number [] new = refl
inserted name number (e ∷ es) new =
    let parts = or_parts (bytes_eq name.items e.0.items) (list_any (bytes_eq name.items) (keys_of (map shown es))) new in
    let differs = parts.0 in
    rw differs (ap (λ (rest : List (List ℕ × ℕ)). shown e ∷ rest) (inserted name number es parts.1))

-- the table has what the configuration defines after one name more
pub added : (c : Setup) (name : Vec ℕ) (text : List ℕ) (number : ℕ) (before after : List (Vec ℕ × ℕ)) (next : Setup) → name.items ≡ text → is_refused c text ≡ false
    → map shown before ≡ c.names.defined → next ≡ with_defined c text number → after ≡ insert_entry (λ v w. bytes_eq v.items w.items) before name number → map shown after ≡ next.names.defined
unfolding with_defined is_defined
added c name text number before after next copied new kept defines inserts =
    let absent : list_any (bytes_eq name.items) (keys_of (map shown before)) ≡ false = rw (copied, kept) (not_refused c text new).3 in
    rw (inserts, inserted name number before absent, kept, copied, defines) refl

pub is_some_defined : (names : NameLists) (name : List ℕ) → is_some (number_defined names name) ≡ is_defined names name
unfolding number_defined is_defined
is_some_defined names name = is_some-lookup (bytes_eq name) names.defined
