-- The members of a class, one after the other or all at once.
use Rattle.std.proofs.Common.{◌≡◌, ℕ, ◌-◌, ◌≤◌, ◌<◌, zero, suc, Bool, true, false, ◌||◌, eqb, leb, ltb, List, [], ◌∷◌, map, drop, refl, sym, ap, ◌∙◌, arith}
use Rattle.std.specs.Prelude.{slice_set, slice_index_or, replicate}
use Rattle.std.specs.List.{list_all, list_any, drop-map}
use Rattle.std.proofs.lemmas.Bool.{and_parts, leb-true, ltb-true, ne_eqb}
use Rattle.std.proofs.Math.Bool.{or-false, and-true}
use Rattle.fmp_codes.specs.Numbers.{as_proc}
use Rattle.fmp_setup.specs.Valid.{is_class_of}
use Rattle.fmp_law_config.specs.Stages.{is_processor}
use Rattle.fmp_law_config.specs.Meaning.{members_of}

-- the members with these processors too
abbrev pub marked : List Bool → List ℕ → List Bool
marked members [] = members
marked members (n ∷ ns) = marked (slice_set members (n - 1) true) ns

pub same_place : (processors n : ℕ) → processors ≤ 8 → is_processor processors n ≡ true → (as_proc n).number - 1 ≡ n - 1
same_place processors n few is =
    let p = and_parts (leb 1 n) (leb n processors) is in
    let low = leb-true 1 n p.0 in
    let high = leb-true n processors p.1 in
    omega arith

-- a test of each of the eight processors
abbrev pub tested : (ℕ → Bool) → List Bool
tested f = map f (1 ∷ 2 ∷ 3 ∷ 4 ∷ 5 ∷ 6 ∷ 7 ∷ 8 ∷ [])

map_same : (f g : ℕ → Bool) → ((p : ℕ) → f p ≡ g p) → (ps : List ℕ) → map f ps ≡ map g ps
map_same f g same [] = refl
map_same f g same (p ∷ ps) = let here = same p in let rest = map_same f g same ps in rw (here, rest) refl

one_marked : (f : ℕ → Bool) (n : ℕ) → 1 ≤ n → n ≤ 8 → slice_set (tested f) (n - 1) true ≡ tested (λ p. eqb n p || f p)
one_marked f zero low high = absurd (omega (arith, low))
one_marked f (suc zero) low high = refl
one_marked f (suc (suc zero)) low high = refl
one_marked f (suc (suc (suc zero))) low high = refl
one_marked f (suc (suc (suc (suc zero)))) low high = refl
one_marked f (suc (suc (suc (suc (suc zero))))) low high = refl
one_marked f (suc (suc (suc (suc (suc (suc zero)))))) low high = refl
one_marked f (suc (suc (suc (suc (suc (suc (suc zero))))))) low high = refl
one_marked f (suc (suc (suc (suc (suc (suc (suc (suc zero)))))))) low high = refl
one_marked f (suc (suc (suc (suc (suc (suc (suc (suc (suc n))))))))) low high = absurd (omega (arith, high))

or_order : (a b c : Bool) → (a || (b || c)) ≡ ((b || a) || c)
or_order true true c = refl
or_order true false c = refl
or_order false b c = ap (λ (x : Bool). x || c) (sym (or-false b))

all_marked : (processors : ℕ) → processors ≤ 8 → (numbers : List ℕ) (f : ℕ → Bool) → list_all (is_processor processors) numbers ≡ true → marked (tested f) numbers ≡ tested (λ p. list_any (λ n. eqb n p) numbers || f p)
all_marked processors few [] f all = refl
all_marked processors few (n ∷ numbers) f all =
    let each = and_parts (is_processor processors n) (list_all (is_processor processors) numbers) all in
    let range = and_parts (leb 1 n) (leb n processors) each.0 in
    let low = leb-true 1 n range.0 in
    let high = leb-true n processors range.1 in
    ap (λ (ms : List Bool). marked ms numbers) (one_marked f n low (omega (arith, high, few)))
    ∙ all_marked processors few numbers (λ p. eqb n p || f p) each.1
    ∙ map_same (λ p. list_any (λ m. eqb m p) numbers || (eqb n p || f p)) (λ p. list_any (λ m. eqb m p) (n ∷ numbers) || f p) (λ p. or_order (list_any (λ m. eqb m p) numbers) (eqb n p) (f p)) (1 ∷ 2 ∷ 3 ∷ 4 ∷ 5 ∷ 6 ∷ 7 ∷ 8 ∷ [])

pub marked-members : (processors : ℕ) (numbers : List ℕ) → processors ≤ 8 → list_all (is_processor processors) numbers ≡ true → marked (replicate 8 false) numbers ≡ members_of numbers
marked-members processors numbers few all =
    all_marked processors few numbers (λ p. false) all
    ∙ map_same (λ p. list_any (λ m. eqb m p) numbers || false) (λ p. list_any (λ m. eqb m p) numbers) (λ p. or-false (list_any (λ m. eqb m p) numbers)) (1 ∷ 2 ∷ 3 ∷ 4 ∷ 5 ∷ 6 ∷ 7 ∷ 8 ∷ [])

-- ---- one of the members

tested_at : (f : ℕ → Bool) (n : ℕ) → 1 ≤ n → n ≤ 8 → slice_index_or (tested f) (n - 1) false ≡ f n
tested_at f zero low high = absurd (omega (arith, low))
tested_at f (suc zero) low high = refl
tested_at f (suc (suc zero)) low high = refl
tested_at f (suc (suc (suc zero))) low high = refl
tested_at f (suc (suc (suc (suc zero)))) low high = refl
tested_at f (suc (suc (suc (suc (suc zero))))) low high = refl
tested_at f (suc (suc (suc (suc (suc (suc zero)))))) low high = refl
tested_at f (suc (suc (suc (suc (suc (suc (suc zero))))))) low high = refl
tested_at f (suc (suc (suc (suc (suc (suc (suc (suc zero)))))))) low high = refl
tested_at f (suc (suc (suc (suc (suc (suc (suc (suc (suc n))))))))) low high = absurd (omega (arith, high))

all_after : (n : ℕ) → n ≤ 8 → list_all (λ p. ltb n p) (drop n (1 ∷ 2 ∷ 3 ∷ 4 ∷ 5 ∷ 6 ∷ 7 ∷ 8 ∷ [])) ≡ true
all_after zero high = refl
all_after (suc zero) high = refl
all_after (suc (suc zero)) high = refl
all_after (suc (suc (suc zero))) high = refl
all_after (suc (suc (suc (suc zero)))) high = refl
all_after (suc (suc (suc (suc (suc zero))))) high = refl
all_after (suc (suc (suc (suc (suc (suc zero)))))) high = refl
all_after (suc (suc (suc (suc (suc (suc (suc zero))))))) high = refl
all_after (suc (suc (suc (suc (suc (suc (suc (suc zero)))))))) high = refl
all_after (suc (suc (suc (suc (suc (suc (suc (suc (suc n))))))))) high = absurd (omega (arith, high))

none_tested : (f : ℕ → Bool) (n : ℕ) → ((p : ℕ) → n < p → f p ≡ false) → (ps : List ℕ) → list_all (λ p. ltb n p) ps ≡ true → list_any (λ m. m) (map f ps) ≡ false
none_tested f n none [] all = refl
none_tested f n none (p ∷ ps) all =
    let each = and_parts (ltb n p) (list_all (λ q. ltb n q) ps) all in
    let here = none p (ltb-true n p each.0) in
    rw here (none_tested f n none ps each.1)

-- what is past the last processor is no member
past_last : (processors : ℕ) (numbers : List ℕ) → list_all (is_processor processors) numbers ≡ true → (p : ℕ) → processors < p → list_any (λ n. eqb n p) numbers ≡ false
past_last processors [] all p past = refl
past_last processors (n ∷ numbers) all p past =
    let each = and_parts (is_processor processors n) (list_all (is_processor processors) numbers) all in
    let high = leb-true n processors (and_parts (leb 1 n) (leb n processors) each.0).1 in
    let other : eqb n p ≡ false = ne_eqb n p (λ e. omega (arith, e, high, past)) in
    rw other (past_last processors numbers each.1 p past)

-- a class of processors of the machine is one of it exactly where it begins on one of them
pub class-begins : (processors initial : ℕ) (numbers : List ℕ) → processors ≤ 8 → is_processor processors initial ≡ true → list_all (is_processor processors) numbers ≡ true
    → is_class_of processors (record { initial = as_proc initial; members = members_of numbers }) ≡ list_any (λ n. eqb n initial) numbers
class-begins processors initial numbers few is all =
    let range = and_parts (leb 1 initial) (leb initial processors) is in
    let low = leb-true 1 initial range.0 in
    let high = leb-true initial processors range.1 in
    let f : ℕ → Bool = λ p. list_any (λ n. eqb n p) numbers in
    let place = same_place processors initial few is in
    let member : slice_index_or (tested f) ((as_proc initial).number - 1) false ≡ f initial = ap (λ (i : ℕ). slice_index_or (tested f) i false) place ∙ tested_at f initial low (omega (arith, high, few)) in
    let past : list_any (λ m. m) (drop processors (tested f)) ≡ false =
    ap (list_any (λ m. m)) (drop-map f processors (1 ∷ 2 ∷ 3 ∷ 4 ∷ 5 ∷ 6 ∷ 7 ∷ 8 ∷ [])) ∙ none_tested f processors (past_last processors numbers all) (drop processors (1 ∷ 2 ∷ 3 ∷ 4 ∷ 5 ∷ 6 ∷ 7 ∷ 8 ∷ [])) (all_after processors few) in
    rw (member, past) (and-true (f initial))
