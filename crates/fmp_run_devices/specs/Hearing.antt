-- What a source hands over, whatever is known of it before.
use Rattle.std.specs.Prelude.{◌≡◌, ◌==◌, ◌&&◌, nat_lt, ◌≤◌, ℕ, Bool, true, false, List, [], ◌++◌, take, length, Option, Result, Ok, Err}
use Rattle.fmp_run_devices.specs.Devices.{IsKnown, bytes_of}

-- a read hands over the bytes that it answers, and none where it fails; where it answers none for a room that there is, the text has ended
abbrev pub Hands : {E : Type 0} → List ℕ → List ℕ → Bool → Result ℕ E → List ℕ → Type 0
Hands before after ended (Ok n) buffer = (after ≡ before ++ take n buffer) × (ended ≡ ((n == 0) && nat_lt 0 (length buffer)))
Hands before after ended (Err e) buffer = (after ≡ before) × (ended ≡ false)

-- What some calls did to a source: they handed over some bytes, and where it was known what was left, they took these from there.
pub record Moves (before after : List ℕ) (left rest : Option (List ℕ)) : Type 0 where
  pub more : List ℕ
  pub handed : after ≡ before ++ more
  pub known : IsKnown left → IsKnown rest
  pub taken : IsKnown left → bytes_of left ≡ more ++ bytes_of rest

-- all that was left was handed over at once
pub record GivesAll (before after : List ℕ) (left rest : Option (List ℕ)) (ended : Bool) (text : List ℕ) : Type 0 where
  pub handed : after ≡ before ++ text
  pub known : IsKnown left → IsKnown rest
  pub taken : IsKnown left → bytes_of left ≡ text
  pub nothing : bytes_of rest ≡ []
  pub end : ended ≡ true

-- a text was read whole: all of it was handed over, and if it is not longer than the limit it has ended
pub record IsHeard (limit : ℕ) (before after : List ℕ) (ended : Bool) (text : List ℕ) : Type 0 where
  pub handed : after ≡ before ++ text
  pub whole : length text ≤ limit → ended ≡ true

-- A text of which calls handed over the beginning: all of it, where the last of them answered that there is no more. Of a text that is read as it comes contracts
-- speak for each such text, since nobody knows what would have come.
pub record Passes (before after : List ℕ) (ended : Bool) : Type 0 where
  pub all : List ℕ
  pub rest : List ℕ
  pub is : before ++ all ≡ after ++ rest
  pub end : ended ≡ true → rest ≡ []
