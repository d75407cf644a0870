-- Comparing texts eight bytes at a time.
use Rattle.std.proofs.Common.{◌≡◌, ℕ, ◌<◌, ◌≤◌, ◌-◌, ◌==◌, Bool, true, false, ◌&&◌, List, ◌++◌, length, take, drop, get_or, refl, sym, ap, ap₂, ◌∙◌, arith}
use Rattle.std.specs.Bool.{Decides}
use Rattle.std.specs.Str.{bytes_eq}
use Rattle.std.specs.Int.{w64, to_le_bytes, from_le_bytes}
use Rattle.std.proofs.lemmas.Bool.{false≢true, false_from_ne_true}
use Rattle.std.proofs.lemmas.Bool.Decides.{Decides-and, Decides-eqb, Decides-like}
use Rattle.std.proofs.lemmas.List.{drop-drop, take-append-drop}
use Rattle.std.proofs.lemmas.Nat.{le_bytes_8}
use Rattle.std.proofs.lemmas.Slice.Eq.{bytes_eq-Decides}

-- two tests of the same
one_test : {P : Type 0} (a b : Bool) → Decides a P → Decides b P → a ≡ b
one_test true b d e = sym (e.1 (d.0 refl))
one_test false b d e = sym (false_from_ne_true b (λ t. false≢true (d.1 (e.0 t))))

pub words_same : (a b : List ℕ) (x y : ℕ) → length a ≡ 8 → length b ≡ 8 → ((i : ℕ) → get_or a i 0 < 256) → ((i : ℕ) → get_or b i 0 < 256)
    → x ≡ from_le_bytes w64 a → y ≡ from_le_bytes w64 b → (x == y) ≡ bytes_eq a b
words_same a b x y long_a long_b small_a small_b is_a is_b =
    one_test _ _
    (Decides-like _ (λ e. sym (le_bytes_8 a x long_a small_a is_a) ∙ ap (to_le_bytes w64) e ∙ le_bytes_8 b y long_b small_b is_b) (λ e. is_a ∙ ap (from_le_bytes w64) e ∙ sym is_b) (Decides-eqb x y))
    (bytes_eq-Decides a b)

-- the front and what follows it
pub cut_same : (n : ℕ) (a b : List ℕ) → bytes_eq a b ≡ (bytes_eq (take n a) (take n b) && bytes_eq (drop n a) (drop n b))
cut_same n a b =
    one_test _ _ (bytes_eq-Decides a b)
    (Decides-like _ (λ p. sym (take-append-drop n a) ∙ ap₂ (λ (xs ys : List ℕ). xs ++ ys) p.0 p.1 ∙ take-append-drop n b) (λ e. (ap (take n) e, ap (drop n) e))
    (Decides-and _ _ (bytes_eq-Decides (take n a) (take n b)) (bytes_eq-Decides (drop n a) (drop n b))))

-- what is left after n bytes, where it has all that decides
pub end_same : (n k : ℕ) (a b : List ℕ) → n ≤ k → bytes_eq (drop k a) (drop k b) ≡ bytes_eq a b → bytes_eq (drop n a) (drop n b) ≡ bytes_eq a b
end_same n k a b le same =
    let on : (xs : List ℕ) → drop (k - n) (drop n xs) ≡ drop k xs = λ xs. drop-drop (k - n) n xs ∙ ap (λ (i : ℕ). drop i xs) (omega (arith, le)) in
    let rest = bytes_eq-Decides (drop k a) (drop k b) in
    one_test _ _
    (Decides-like _
    (λ e. (bytes_eq-Decides a b).0 (sym same ∙ rest.1 (sym (on a) ∙ ap (drop (k - n)) e ∙ on b))) (λ e. ap (drop n) e) (bytes_eq-Decides (drop n a) (drop n b)))
    (bytes_eq-Decides a b)
