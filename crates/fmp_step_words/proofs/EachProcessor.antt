-- What is told of each of the first processors.
use Rattle.std.proofs.Common.{◌≡◌, ℕ, zero, suc, ◌+◌, ◌≤◌, ◌<◌, Option, None, List, [], ◌∷◌, ◌++◌, length, map, take, refl, sym, ap, ◌∙◌, arith}
use Rattle.std.specs.Prelude.{slice_index, slice_index_or}
use Rattle.std.proofs.lemmas.List.{map-append, take-map, get_or-map, length-map, take_more}
use Rattle.std.proofs.lemmas.List.FromFn.{map-range_with_len_more}
use Rattle.fmp_codes.specs.Numbers.{as_proc}
use Rattle.fmp_codes.specs.declared.numbers.Proc.{Proc}
use Rattle.fmp_codes.specs.declared.numbers.Task.{Task}
use Rattle.fmp_rules.specs.World.{processors_to}
use Rattle.fmp_step_words.specs.Numbered.{numbered}

pub processors_to-more : (n : ℕ) → processors_to (n + 1) ≡ processors_to n ++ as_proc (n + 1) ∷ []
processors_to-more n = map-range_with_len_more as_proc 1 n (n + 1) (omega arith)

map-processors_to-more : {X : Type 0} (f : Proc → X) (n : ℕ) → map f (processors_to (n + 1)) ≡ map f (processors_to n) ++ f (as_proc (n + 1)) ∷ []
map-processors_to-more f n = ap (map f) (processors_to-more n) ∙ map-append f (processors_to n) (as_proc (n + 1) ∷ [])

-- a list that has at each place what is told of its processor
report-of-each : {X : Type 0} (f : Proc → X) (xs : List X) (x : X) (n : ℕ) → n ≤ length xs → ((k : ℕ) → k < n → slice_index_or xs k x ≡ f (as_proc (k + 1))) →
    take n xs ≡ map f (processors_to n)
report-of-each f xs x zero h e = refl
report-of-each f xs x (suc n) h e =
    let next : suc n ≡ n + 1 = omega arith in
    ap (λ m. take m xs) next ∙ take_more xs n x (omega (arith, h)) ∙ ap (λ ys. ys ++ slice_index_or xs n x ∷ []) (report-of-each f xs x n (omega (arith, h)) (λ k l. e k (omega (arith, l))))
    ∙ ap (λ y. map f (processors_to n) ++ y ∷ []) (e n (omega arith)) ∙ sym (map-processors_to-more f n)
    ∙ ap (λ m. map f (processors_to m)) (sym next)

-- numbers that name what is told of each of the first processors
pub numbers-tell : (f : Proc → Option Task) (xs : List ℕ) (n : ℕ) → n ≤ length xs → ((k : ℕ) → k < n → numbered (slice_index xs k) ≡ f (as_proc (k + 1))) →
    map numbered (take n xs) ≡ map f (processors_to n)
numbers-tell f xs n h e =
    sym (take-map numbered n xs) ∙ report-of-each f (map numbered xs) None n (omega (arith, h, length-map xs numbered))
    (λ k l. get_or-map numbered xs k 0 None (omega (arith, l, h)) ∙ e k l)
