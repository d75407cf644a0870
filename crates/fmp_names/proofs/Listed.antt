-- Tests and counts of the names in lists.
use Rattle.std.proofs.Common.{◌≡◌, ℕ, ◌+◌, ◌<◌, zero, suc, true, false, ◌&&◌, ◌||◌, inl, inr, Bool, cond, not, List, [], ◌∷◌, ◌++◌, length, map, set, get_or, Result, Ok, Err, ◌⊎◌, OnOk, OnErr, refl, sym, ap, ◌∙◌, arith, position, drop, None}
use Rattle.std.specs.List.{prefix_len, list_any, list_all, sum_by}
use Rattle.std.specs.Str.{bytes_eq}
use Rattle.std.proofs.lemmas.Bool.{cases_Bool, or_parts, and_parts, and_from, false≢true}
use Rattle.std.proofs.lemmas.List.{length-map}
use Rattle.std.proofs.lemmas.List.Folds.{list_any_at, list_all_at, list_all-append}
use Rattle.std.proofs.lemmas.List.Sums.{sum_by-cons, sum_by-append}
use Rattle.std.specs.Prelude.{slice_get}
use Rattle.fmp_names.specs.Names.{times, has_name}

pub prefix_len-map : {X Y : Type 0} (p : Y → Bool) (f : X → Y) (xs : List X) → prefix_len p (map f xs) ≡ prefix_len (λ x. p (f x)) xs
prefix_len-map p f [] = refl
prefix_len-map p f (x ∷ xs) = ap (λ (n : ℕ). cond (p (f x)) (1 + n) 0) (prefix_len-map p f xs)

pub position-map : {X Y : Type 0} (p : Y → Bool) (f : X → Y) (xs : List X) → position p (map f xs) ≡ position (λ x. p (f x)) xs
position-map p f xs = rw (prefix_len-map (λ y. not (p y)) f xs, length-map xs f) refl

pub list_any_map : {X Y : Type 0} (p : Y → Bool) (f : X → Y) (xs : List X) → list_any p (map f xs) ≡ list_any (λ x. p (f x)) xs
list_any_map p f [] = refl
list_any_map p f (x ∷ xs) = ap (λ (b : Bool). p (f x) || b) (list_any_map p f xs)

-- what no element passes, none at a place passes
pub list_any-nowhere : {X : Type 0} (p : X → Bool) (xs : List X) (i : ℕ) (d : X) → i < length xs → list_any p xs ≡ false → p (get_or xs i d) ≡ false
list_any-nowhere p xs i d lt none =
    elim (cases_Bool (p (get_or xs i d))) [
      | inl t ↦ absurd (false≢true (sym none ∙ list_any_at p xs i d lt t))
      | inr f ↦ f
    ]

-- a name that is in no list stands there no time
pub times-none : (name : List ℕ) (list : List (List ℕ)) → has_name list name ≡ false → times name list ≡ 0
times-none name [] none = refl
times-none name (other ∷ list) none =
    let parts = or_parts (bytes_eq name other) (has_name list name) none in
    let rest = times-none name list parts.1 in
    let first = parts.0 in
    let counted = sum_by-cons (λ other. cond (bytes_eq name other) 1 0) other list in
    counted ∙ rw (first, rest) refl

pub times_any-none : (name : List ℕ) (lists : List (List (List ℕ))) → list_any (λ list. has_name list name) lists ≡ false → sum_by (times name) lists ≡ 0
times_any-none name [] none = refl
times_any-none name (list ∷ lists) none =
    let parts = or_parts (has_name list name) (list_any (λ list. has_name list name) lists) none in
    let rest = times_any-none name lists parts.1 in
    let first = times-none name list parts.0 in
    let counted = sum_by-cons (times name) list lists in
    omega (arith, counted, rest, first)

-- how often a name stands after one name more
pub times-push : (name other : List ℕ) (list : List (List ℕ)) → times name (list ++ other ∷ []) ≡ times name list + cond (bytes_eq name other) 1 0
times-push name other list =
    let counted = sum_by-append (λ o. cond (bytes_eq name o) 1 0) list (other ∷ []) in
    let one = sum_by-cons (λ o. cond (bytes_eq name o) 1 0) other [] in
    omega (arith, counted, one)

pub list_all-set : {X : Type 0} (p : X → Bool) (xs : List X) (i : ℕ) (y : X) → list_all p xs ≡ true → p y ≡ true → list_all p (set xs i y) ≡ true
list_all-set p [] i y all here = all
list_all-set p (x ∷ xs) zero y all here = and_from (p y) (list_all p xs) here (and_parts (p x) (list_all p xs) all).1
list_all-set p (x ∷ xs) (suc i) y all here =
    let parts = and_parts (p x) (list_all p xs) all in
    and_from (p x) (list_all p (set xs i y)) parts.0 (list_all-set p xs i y parts.1 here)

pub list_all-at : {X : Type 0} (p : X → Bool) (xs : List X) (i : ℕ) (d : X) → i < length xs → list_all p xs ≡ true → p (get_or xs i d) ≡ true
list_all-at p xs i d lt all =
    elim (cases_Bool (p (get_or xs i d))) [
      | inl t ↦ t
      | inr f ↦ absurd (false≢true (sym (list_all_at p xs i d lt f) ∙ all))
    ]

pub list_all-push : {X : Type 0} (p : X → Bool) (xs : List X) (y : X) → list_all p xs ≡ true → p y ≡ true → list_all p (xs ++ y ∷ []) ≡ true
list_all-push p xs y all here = list_all-append p xs (y ∷ []) ∙ and_from (list_all p xs) (p y && true) all (and_from (p y) true here refl)

-- what holds where a result is `Ok`, or else what holds where it is an error
pub either_way : {A E : Type 0} (r : Result A E) (P Q : Type 0) → OnOk r P → OnErr r Q → P ⊎ Q
either_way (Ok x) P Q p q = inl p
either_way (Err e) P Q p q = inr q

-- no name stands after the last
pub past_last : (names : List (List ℕ)) (i : ℕ) → slice_get names i ≡ None → drop i names ≡ []
past_last [] zero is = refl
past_last [] (suc i) is = refl
past_last (name ∷ names) zero is = absurd cc
past_last (name ∷ names) (suc i) is = past_last names i is
