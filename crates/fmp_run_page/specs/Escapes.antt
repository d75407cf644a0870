-- Bytes as HTML has them: none of them begins a tag or an entity of its own.
use Rattle.std.specs.Prelude.{ℕ, ◌≡◌, ◌⊎◌, ◌==◌, true, false, not, List, [], ◌∷◌, ◌++◌, if◌then◌else◌, codes}
use Rattle.std.specs.List.{list_all}

-- the bytes with which HTML begins an entity and a tag
abbrev pub ampersand : ℕ
ampersand = 38

abbrev pub less_than_sign : ℕ
less_than_sign = 60

abbrev pub escaped_byte : ℕ → List ℕ
escaped_byte b = if b == less_than_sign then codes "&lt;" else if b == ampersand then codes "&amp;" else (b ∷ [])

abbrev pub escaped : List ℕ → List ℕ
escaped [] = []
escaped (b ∷ bs) = escaped_byte b ++ escaped bs

-- no byte begins a tag
abbrev pub HasNoTag : List ℕ → Type 0
HasNoTag bytes = list_all (λ b. not (b == less_than_sign)) bytes ≡ true

-- how HTML reads a byte where this text goes on with the rest: an entity is its byte, and any byte but & is itself
abbrev pub Stands : List ℕ → ℕ → List ℕ → Type 0
Stands text b rest =
    ((b ≡ less_than_sign) × (text ≡ codes "&lt;" ++ rest)) ⊎ (((b ≡ ampersand) × (text ≡ codes "&amp;" ++ rest)) ⊎ (((b == ampersand) ≡ false) × (text ≡ b ∷ rest)))

-- how it reads these bytes
abbrev pub Reads : List ℕ → List ℕ → Type 0
Reads text [] = text ≡ []
Reads text (b ∷ bytes) = (rest : List ℕ) × Stands text b rest × Reads rest bytes
