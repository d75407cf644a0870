-- Two texts are one, or are not, as their comparison says.
use Rattle.std.proofs.Common.{◌≡◌, ◌≢◌, ℕ, true, false, List, sym, ◌∙◌}
use Rattle.std.specs.Str.{bytes_eq}
use Rattle.std.proofs.lemmas.Bool.{false_from_ne_true, false≢true}
use Rattle.std.proofs.lemmas.Slice.Eq.{bytes_eq-Decides}

pub same_word : (a b : List ℕ) → a ≡ b → bytes_eq a b ≡ true
same_word a b e = (bytes_eq-Decides a b).1 e

pub is_word : (a b : List ℕ) → bytes_eq a b ≡ true → a ≡ b
is_word a b t = (bytes_eq-Decides a b).0 t

pub other_word : (a b : List ℕ) → a ≢ b → bytes_eq a b ≡ false
other_word a b other = false_from_ne_true (bytes_eq a b) (λ t. other (is_word a b t))

pub not_word : (a b : List ℕ) → bytes_eq a b ≡ false → a ≢ b
not_word a b f e = false≢true (sym f ∙ same_word a b e)
