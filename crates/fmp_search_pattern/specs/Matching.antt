-- When a pattern stands in a line. A pattern is kept as the pieces between its stars, the blanks before its first word and after its last
-- one with them, so that only whole words match a line between blanks.
use Rattle.std.specs.Prelude.{ℕ, ◌==◌, Bool, true, false, ◌&&◌, ◌||◌, List, [], ◌∷◌}

-- some item passes the test
abbrev pub any : {A : Type 0} → (A → Bool) → List A → Bool
any test [] = false
any test (x ∷ xs) = test x || any test xs

-- every item passes the test
abbrev pub every : {A : Type 0} → (A → Bool) → List A → Bool
every test [] = true
every test (x ∷ xs) = test x && every test xs

-- a text begins with a piece, and what follows it passes the test
abbrev pub begins : List ℕ → (List ℕ → Bool) → List ℕ → Bool
begins [] test text = test text
begins (b ∷ piece) test [] = false
begins (b ∷ piece) test (c ∷ text) = b == c && begins piece test text

-- a text passes the test from some place on
abbrev pub somewhere : (List ℕ → Bool) → List ℕ → Bool
somewhere test [] = test []
somewhere test (c ∷ text) = test (c ∷ text) || somewhere test text

-- the pieces stand in a text one after the other
abbrev pub stand : List (List ℕ) → List ℕ → Bool
stand [] text = true
stand (piece ∷ pieces) text = somewhere (begins piece (stand pieces)) text
