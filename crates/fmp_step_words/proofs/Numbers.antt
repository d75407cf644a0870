-- Tasks by their numbers.
use Rattle.std.proofs.Common.{◌≡◌, ℕ, zero, suc, ◌≤◌, Bool, None, Some, List, [], ◌∷◌, length, map, take, if◌then◌else◌, refl, sym, ap, ◌∙◌, arith, ⊎_elim}
use Rattle.std.specs.Prelude.{slice_index}
use Rattle.std.specs.Int.{w64, to_le_bytes, from_le_bytes}
use Rattle.std.proofs.lemmas.Bool.{cases_eq, ne_eqb}
use Rattle.std.proofs.lemmas.Nat.{le_bytes_8}
use Rattle.std.proofs.lemmas.List.{length-take}
use Rattle.fmp_codes.specs.Numbers.{as_task}
use Rattle.fmp_codes.specs.declared.numbers.Task.{Task}
use Rattle.fmp_codes.proofs.Same.{tasks_same}
use Rattle.fmp_step_words.specs.Numbered.{numbered, AreNumbers}

numbered-from_1 : (n : ℕ) → (n ≡ 0 → ⊥) → numbered n ≡ Some (as_task n)
numbered-from_1 n some = ap (λ (b : Bool). if b then None else Some (as_task n)) (ne_eqb n 0 some)

-- a task is the one of its number
pub numbered-task : (t : Task) → numbered t.number ≡ Some t
numbered-task t =
    let low = t.least in
    let high = t.most in
    let u = as_task t.number in
    numbered-from_1 t.number (λ e. omega (arith, e, low)) ∙ ap Some (tasks_same u t (omega (arith, low, high)))

-- no two numbers name the same
numbered-one : (n m : ℕ) → n ≤ 64 → m ≤ 64 → numbered n ≡ numbered m → n ≡ m
numbered-one n m hn hm e =
    ⊎_elim
    (λ (zn : n ≡ 0). ⊎_elim (λ (zm : m ≡ 0). zn ∙ sym zm)
    (λ (sm : m ≡ 0 → ⊥). let bad : numbered 0 ≡ Some (as_task m) = ap numbered (sym zn) ∙ e ∙ numbered-from_1 m sm in cc) (cases_eq m 0))
    (λ (sn : n ≡ 0 → ⊥). ⊎_elim (λ (zm : m ≡ 0). let bad : Some (as_task n) ≡ numbered 0 = sym (numbered-from_1 n sn) ∙ e ∙ ap numbered zm in cc)
    (λ (sm : m ≡ 0 → ⊥).
    let same : as_task n ≡ as_task m = (let both : Some (as_task n) ≡ Some (as_task m) = sym (numbered-from_1 n sn) ∙ e ∙ numbered-from_1 m sm in cc) in
    let numbers : (as_task n).number ≡ (as_task m).number = ap (λ (t : Task). t.number) same in omega (arith, numbers, hn, hm)) (cases_eq m 0))
    (cases_eq n 0)

numbered-same : (xs ys : List ℕ) → ((k : ℕ) → slice_index xs k ≤ 64) → ((k : ℕ) → slice_index ys k ≤ 64) → map numbered xs ≡ map numbered ys → xs ≡ ys
numbered-same [] [] hx hy e = refl
numbered-same [] (y ∷ ys) hx hy e = cc
numbered-same (x ∷ xs) [] hx hy e = cc
numbered-same (x ∷ xs) (y ∷ ys) hx hy e =
    let firsts : numbered x ≡ numbered y = cc in
    let others : map numbered xs ≡ map numbered ys = cc in
    cc (numbered-one x y (hx 0) (hy 0) firsts, numbered-same xs ys (λ k. hx (suc k)) (λ k. hy (suc k)) others)

small-take : (n : ℕ) (xs : List ℕ) → ((k : ℕ) → slice_index xs k ≤ 64) → (k : ℕ) → slice_index (take n xs) k ≤ 64
small-take zero xs h k = omega arith
small-take (suc n) [] h k = omega arith
small-take (suc n) (x ∷ xs) h zero = h 0
small-take (suc n) (x ∷ xs) h (suc k) = small-take n xs (λ j. h (suc j)) k

-- nor do two lists of numbers
pub numbered-each : (xs ys : List ℕ) (n m : ℕ) → AreNumbers xs n → AreNumbers ys m → map numbered (take n xs) ≡ map numbered (take m ys) → take n xs ≡ take m ys
numbered-each xs ys n m x y e = numbered-same (take n xs) (take m ys) (small-take n xs x.tasks) (small-take m ys y.tasks) e

-- as many of them
pub numbered-count : (xs ys : List ℕ) (n m : ℕ) → length xs ≡ 8 → length ys ≡ 8 → AreNumbers xs n → AreNumbers ys m → map numbered (take n xs) ≡ map numbered (take m ys) → n ≡ m
numbered-count xs ys n m lx ly x y e =
    let long : length (take n xs) ≡ length (take m ys) = ap length (numbered-each xs ys n m x y e) in
    omega (arith, long, length-take n xs, length-take m ys, lx, ly, x.few, y.few)

-- numbers in the same word are the same
pub numbers-same : (xs ys : List ℕ) (n m a b : ℕ) → length xs ≡ 8 → length ys ≡ 8 → AreNumbers xs n → AreNumbers ys m → a ≡ from_le_bytes w64 xs → b ≡ from_le_bytes w64 ys → a ≡ b → xs ≡ ys
numbers-same xs ys n m a b lx ly x y e f g =
    sym (le_bytes_8 xs a lx (λ k. omega (arith, x.tasks k)) e) ∙ ap (to_le_bytes w64) g ∙ le_bytes_8 ys b ly (λ k. omega (arith, y.tasks k)) f
