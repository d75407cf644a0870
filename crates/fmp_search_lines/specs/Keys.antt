-- Keys of places of one who takes lines.
use Rattle.std.specs.Prelude.{◌≡◌, ℕ, ◌/◌, ◌%◌, ◌^◌, ◌≤◌, List, ◌∷◌, length}
use Rattle.fmp_interned.specs.Trees.{IsTree}
use Rattle.fmp_search_lines.specs.Held.{Held, with_place}
use Rattle.fmp_search_lines.specs.Orders.{most}

-- the numbers that tell a key of 64 bits and what is taken: the halves of the key, the top, and the pending lines
abbrev pub words_of : ℕ → ℕ → List ℕ → List ℕ
words_of state top pending = state / 2 ^ 32 ∷ state % 2 ^ 32 ∷ top ∷ pending

-- a number is the key of the key of a state and of what is taken: its upper half says how many lines are pending, and its lower half is the key of the list of
-- these numbers
pub record IsTakenKey (pairs : List (List ℕ)) (key state top : ℕ) (pending : List ℕ) : Type 0 where
  pub few : length pending ≤ most
  pub count : key / 2 ^ 32 ≡ length pending
  pub tree : IsTree pairs (words_of state top pending) (key % 2 ^ 32)

-- it is the key of some
pub record HasTaken (pairs : List (List ℕ)) (key : ℕ) : Type 0 where
  pub state : ℕ
  pub top : ℕ
  pub pending : List ℕ
  pub is : IsTakenKey pairs key state top pending

-- it is the key of a place with the lines of another one: that of the key of its state and of what is taken
pub record IsHeldKey {S : Type 0} (IsKey : ℕ → S → Type 0) (pairs : List (List ℕ)) (o : Held S) (key : ℕ) (h : Held S) : Type 0 where
  pub state : ℕ
  pub there : IsKey state h.place.state
  pub taken : IsTakenKey pairs key state h.place.top h.place.pending
  pub same : h ≡ with_place o h.place
