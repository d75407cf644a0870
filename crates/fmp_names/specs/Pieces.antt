-- Short names as pieces of 16 bytes.
use Rattle.std.specs.Prelude.{◌≡◌, ℕ, ◌+◌, ◌-◌, ◌*◌, ◌≤◌, ◌<◌, List, [], take, Some, slice_get, get_or}
use Rattle.fmp_names.specs.declared.pieces.Piece.{Piece}

-- the piece is the text, or it has no bytes
abbrev pub IsPieceOf : Piece → List ℕ → Type 0
IsPieceOf piece text = 0 < piece.length → (piece.length ≤ 16) × (take piece.length piece.bytes ≡ text)

-- what the pieces after have at a place is what those before had there, or no bytes
abbrev pub AreExtended : List Piece → List Piece → Type 0
AreExtended before after = (i : ℕ) (p : Piece) → slice_get after i ≡ Some p → 0 < p.length → slice_get before i ≡ Some p

-- at this place is a piece of the text, and at the others is what was there
abbrev pub IsPieceSet : List Piece → ℕ → List ℕ → List Piece → Type 0
IsPieceSet before place text after = (i : ℕ) (p : Piece) → slice_get after i ≡ Some p → ((i ≡ place → IsPieceOf p text) × ((i ≡ place → ⊥) → slice_get before i ≡ Some p))

-- the piece at each place is the name of the object, in its kind's list of names, or it has no bytes
abbrev pub AreFronts : List (List (List ℕ)) → List Piece → Type 0
AreFronts objects pieces =
    (place number : ℕ) (p : Piece) → number < 128 → slice_get pieces (place * 128 + number) ≡ Some p → 0 < p.length
    → (p.length ≤ 16) × (0 < number) × (slice_get (get_or objects place []) (number - 1) ≡ Some (take p.length p.bytes))
