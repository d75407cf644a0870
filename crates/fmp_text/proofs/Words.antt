-- Comparing words by their first bytes and their last ones.
use Rattle.std.proofs.Common.{◌≡◌, ℕ, ◌<◌, ◌==◌, true, List, ◌++◌, length, take, drop, get_or, sym, ap, ◌∙◌}
use Rattle.std.specs.Int.{w16, w32, w64, to_le_bytes, from_le_bytes}
use Rattle.std.proofs.lemmas.Bool.{eqb-true}
use Rattle.std.proofs.lemmas.List.{take-append-drop}
use Rattle.std.proofs.lemmas.Nat.{le_bytes_2, le_bytes_4, le_bytes_8}

pub eight_same : (a b : List ℕ) (x y : ℕ) → length a ≡ 8 → length b ≡ 8 → ((i : ℕ) → get_or a i 0 < 256) → ((i : ℕ) → get_or b i 0 < 256)
    → x ≡ from_le_bytes w64 a → y ≡ from_le_bytes w64 b → (x == y) ≡ true → a ≡ b
eight_same a b x y long_a long_b small_a small_b is_a is_b same =
    sym (le_bytes_8 a x long_a small_a is_a) ∙ ap (to_le_bytes w64) (eqb-true x y same) ∙ le_bytes_8 b y long_b small_b is_b

pub two_same : (a b : List ℕ) (x y : ℕ) → length a ≡ 2 → length b ≡ 2 → ((i : ℕ) → get_or a i 0 < 256) → ((i : ℕ) → get_or b i 0 < 256)
    → x ≡ from_le_bytes w16 a → y ≡ from_le_bytes w16 b → (x == y) ≡ true → a ≡ b
two_same a b x y long_a long_b small_a small_b is_a is_b same =
    sym (le_bytes_2 a x long_a small_a is_a) ∙ ap (to_le_bytes w16) (eqb-true x y same) ∙ le_bytes_2 b y long_b small_b is_b

pub four_same : (a b : List ℕ) (x y : ℕ) → length a ≡ 4 → length b ≡ 4 → ((i : ℕ) → get_or a i 0 < 256) → ((i : ℕ) → get_or b i 0 < 256)
    → x ≡ from_le_bytes w32 a → y ≡ from_le_bytes w32 b → (x == y) ≡ true → a ≡ b
four_same a b x y long_a long_b small_a small_b is_a is_b same =
    sym (le_bytes_4 a x long_a small_a is_a) ∙ ap (to_le_bytes w32) (eqb-true x y same) ∙ le_bytes_4 b y long_b small_b is_b

-- a text that begins so
pub begins : (n : ℕ) (front prefix text : List ℕ) → front ≡ take n text → front ≡ prefix → text ≡ prefix ++ drop n text
begins n front prefix text is same = sym (take-append-drop n text) ∙ ap (λ (xs : List ℕ). xs ++ drop n text) (sym is ∙ same)
