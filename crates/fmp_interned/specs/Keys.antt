-- Numbers by which things are known.
use Rattle.std.specs.Prelude.{◌≡◌, ℕ}

-- a number is the key of a thing, and neither is another number, nor is it the key of another thing
pub record IsKeyOf {P : Type 0} (IsKey : ℕ → P → Type 0) (r : P) (key : ℕ) : Type 0 where
  pub there : IsKey key r
  pub one : (k : ℕ) → IsKey k r → k ≡ key
  pub only : (p : P) → IsKey key p → p ≡ r

-- the keys of things stay theirs
abbrev pub AreKeptBy : {P : Type 0} → (ℕ → P → Type 0) → (ℕ → P → Type 0) → Type 0
AreKeptBy old new = (k : ℕ) (r : _) → old k r → new k r
