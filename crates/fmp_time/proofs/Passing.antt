-- Items that do not count tell nothing.
use Rattle.std.proofs.Common.{◌≡◌, ℕ, zero, suc, ◌+◌, ◌≤◌, false, Option, Some, None, List, [], ◌∷◌, ◌++◌, refl, ap, ◌∙◌, arith}
use Rattle.std.specs.Prelude.{is_some}
use Rattle.std.specs.List.{flat_map, list_any, range_with_len}
use Rattle.fmp_codes.specs.declared.numbers.Task.{Task}
use Rattle.fmp_kernel_parts.proofs.Having.{or_left, or_right}
use Rattle.fmp_time.specs.Differences.{Entry}
use Rattle.fmp_time.specs.Left.{Left, left_in}
use Rattle.fmp_time.specs.Shown.{times_of}
use Rattle.fmp_time.specs.Words.{left_words, words_at}
use Rattle.fmp_time.proofs.Served.{range_push}
use Rattle.fmp_time.proofs.Tables.{at-table}

no_words : (k : ℕ) (o : Option Left) → is_some o ≡ false → left_words k o ≡ []
no_words k None e = refl
no_words k (Some l) e = cc

-- of some items in turn none counts
pub none_told : (q : List (List Entry)) (w : List Task) (a n : ℕ) → a + n ≤ 128 → list_any (λ k. is_some (left_in q k)) (range_with_len a n) ≡ false →
    flat_map (words_at (times_of q w)) (range_with_len a n) ≡ []
none_told q w a zero l h = refl
none_told q w a (suc n) l h =
    let later = or_right (is_some (left_in q a)) (list_any (λ k. is_some (left_in q k)) (range_with_len (a + 1) n)) h in
    let here = or_left (is_some (left_in q a)) (list_any (λ k. is_some (left_in q k)) (range_with_len (a + 1) n)) h in
    ap (λ (ws : List ℕ). ws ++ flat_map (words_at (times_of q w)) (range_with_len (a + 1) n))
    (ap (left_words a) (at-table (left_in q) a None (omega (arith, l))) ∙ no_words a (left_in q a) here)
    ∙ none_told q w (a + 1) n (omega (arith, l)) later

-- one item more, and eight more
pub range_next : (a n : ℕ) → range_with_len a (n + 1) ≡ range_with_len a n ++ (a + n) ∷ []
range_next a n = let next : n + 1 ≡ suc n = omega arith in ap (range_with_len a) next ∙ range_push a n

pub range_apart : (a n m : ℕ) → range_with_len a (n + m) ≡ range_with_len a n ++ range_with_len (a + n) m
range_apart a zero m =
    let all : 0 + m ≡ m = omega arith in
    let same : a ≡ a + 0 = omega arith in
    ap (range_with_len a) all ∙ ap (λ (b : ℕ). range_with_len b m) same
range_apart a (suc n) m =
    let next : suc n + m ≡ suc (n + m) = omega arith in
    let same : a + 1 + n ≡ a + suc n = omega arith in
    ap (range_with_len a) next ∙ ap (λ (ks : List ℕ). a ∷ ks) (range_apart (a + 1) n m ∙ ap (λ (b : ℕ). range_with_len (a + 1) n ++ range_with_len b m) same)
