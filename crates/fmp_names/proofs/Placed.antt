-- A name's number and a number's name give each other back.
use Rattle.std.proofs.Common.{◌≡◌, ℕ, zero, suc, ◌+◌, ◌-◌, ◌<◌, ◌≤◌, true, false, not, ◌&&◌, cond, inl, inr, Bool, List, [], ◌∷◌, length, get_or, Option, Some, None, option_map, eqb, refl, sym, ap, ◌∙◌, arith, position, slice_get}
use Rattle.std.specs.List.{position_or_len, list_all}
use Rattle.std.specs.Str.{bytes_eq}
use Rattle.std.proofs.lemmas.Bool.{cases_lt, cases_eq, cases_Bool, lt-ltb, le-ltb, eq-eqb, ne_eqb, and_parts, not-true}
use Rattle.std.proofs.lemmas.Slice.Eq.{bytes_eq-Decides}
use Rattle.std.proofs.lemmas.List.Sums.{sum_by-cons, sum_by-set, passes_at_first}
use Rattle.std.proofs.lemmas.Option.{slice_get-get_or, slice_get_within, get_or_from_slice_get}
use Rattle.fmp_codes.specs.declared.kinds.ObjectKind.{ObjectKind}
use Rattle.fmp_codes.specs.declared.kinds.NameKind.{NameKind}
use Rattle.fmp_codes.specs.declared.kinds.NameKind.TheVariants.{Object, Function}
use Rattle.fmp_codes.specs.Kinds.{place_of}
use Rattle.fmp_names.specs.Names.{NameLists, AreValid, names_of, number_of, name_of, times, is_name, is_reserved}
use Rattle.fmp_names.proofs.Listed.{list_all-at}
use Rattle.fmp_names.proofs.Valid.{place_of-lt}

-- where a test first passes, from the first item on
first : {X : Type 0} (p : X → Bool) (x : X) (xs : List X) → p x ≡ true → position p (x ∷ xs) ≡ Some 0
first p x xs passes =
    let none : position_or_len p (x ∷ xs) ≡ 0 = rw passes refl in
    let test = lt-ltb 0 (length (x ∷ xs)) (omega arith) in
    rw (none, test) refl

later : {X : Type 0} (p : X → Bool) (x : X) (xs : List X) (i : ℕ) → p x ≡ false → position p xs ≡ Some i → position p (x ∷ xs) ≡ Some (suc i)
later p x xs i fails there =
    elim (cases_lt (position_or_len p xs) (length xs)) [
      | inl lt ↦
          let test = lt-ltb (position_or_len p xs) (length xs) lt in
          let e2 = rw test at there in
          let same : position_or_len p xs ≡ i = cc in
          let more : position_or_len p (x ∷ xs) ≡ suc i = let step : position_or_len p (x ∷ xs) ≡ 1 + position_or_len p xs = rw fails refl in omega (arith, step, same) in
          let test2 = lt-ltb (suc i) (length (x ∷ xs)) (omega (arith, same, lt)) in
          rw (more, test2) refl
      | inr le ↦ let test = le-ltb (position_or_len p xs) (length xs) le in let e2 = rw test at there in absurd cc
    ]

pub counted_once : (b : Bool) → b ≡ true → ◌≡◌ {A = ℕ} (cond b 1 0) 1
counted_once true e = refl
counted_once false e = absurd cc

-- a name that stands at a place stands there at least once
pub once_at : (name : List ℕ) (list : List (List ℕ)) (i : ℕ) → slice_get list i ≡ Some name → 1 ≤ times name list
once_at name [] i there = absurd cc
once_at name (other ∷ list) zero there =
    let same : other ≡ name = cc in
    let one = counted_once (bytes_eq name other) ((bytes_eq-Decides name other).1 (sym same)) in
    omega (arith, sum_by-cons (λ o. cond (bytes_eq name o) 1 0) other list, one)
once_at name (other ∷ list) (suc i) there = omega (arith, sum_by-cons (λ o. cond (bytes_eq name o) 1 0) other list, once_at name list i there)

-- a name that stands once has its place
position-at : (name : List ℕ) (list : List (List ℕ)) (i : ℕ) → times name list ≤ 1 → slice_get list i ≡ Some name → position (bytes_eq name) list ≡ Some i
position-at name [] i once there = absurd cc
position-at name (other ∷ list) zero once there =
    let same : other ≡ name = cc in
    first (bytes_eq name) other list ((bytes_eq-Decides name other).1 (sym same))
position-at name (other ∷ list) (suc i) once there =
    let counted = sum_by-cons (λ o. cond (bytes_eq name o) 1 0) other list in
    elim (cases_Bool (bytes_eq name other)) [
      | inl t ↦ let one = counted_once (bytes_eq name other) t in absurd (omega (arith, counted, one, once, once_at name list i there))
      | inr f ↦ later (bytes_eq name) other list i f (position-at name list i (omega (arith, counted, once)) there)
    ]

-- what stands at a name's place is the name
at-position : (name : List ℕ) (list : List (List ℕ)) (i : ℕ) → position (bytes_eq name) list ≡ Some i → slice_get list i ≡ Some name
at-position name list i there =
    elim (cases_lt (position_or_len (bytes_eq name) list) (length list)) [
      | inl lt ↦
          let test = lt-ltb (position_or_len (bytes_eq name) list) (length list) lt in
          let e2 = rw test at there in
          let same : position_or_len (bytes_eq name) list ≡ i = cc in
          let passes : name ≡ get_or list (position_or_len (bytes_eq name) list) [] = (bytes_eq-Decides name _).0 (passes_at_first (bytes_eq name) list [] lt) in
          ap (slice_get list) (sym same) ∙ slice_get-get_or list (position_or_len (bytes_eq name) list) [] lt ∙ ap (λ (n : List ℕ). Some n) (sym passes)
      | inr le ↦ let test = le-ltb (position_or_len (bytes_eq name) list) (length list) le in let e2 = rw test at there in absurd cc
    ]

-- ---- the numbers of names

-- the place that a number stands for
pub numbered : (lists : NameLists) (kind : NameKind) (n : ℕ) (name : List ℕ) → name_of lists kind n ≡ Some name → (0 < n) × (slice_get (names_of lists kind) (n - 1) ≡ Some name)
unfolding name_of
numbered lists kind n name named =
    elim (cases_eq n 0) [
      | inl e ↦ let test : eqb n 0 ≡ true = eq-eqb n 0 e in let e2 = rw test at named in absurd cc
      | inr differs ↦ let test : eqb n 0 ≡ false = ne_eqb n 0 differs in (omega (arith, differs), rw test at named)
    ]

at_most_once : (lists : NameLists) (kind : NameKind) (name : List ℕ) → AreValid lists → times name (names_of lists kind) ≤ 1
at_most_once lists Function name valid = valid.functions_distinct name
at_most_once lists (Object kind) name valid =
    let within : place_of kind < length lists.objects = omega (arith, valid.kinds, place_of-lt kind) in
    omega (arith, sum_by-set (times name) lists.objects (place_of kind) [] [] within, valid.distinct name)

-- a name has the number that it is the name of
pub number_of-name_of : (lists : NameLists) (kind : NameKind) (n : ℕ) (name : List ℕ) → AreValid lists → name_of lists kind n ≡ Some name → number_of lists kind name ≡ Some n
unfolding number_of
number_of-name_of lists kind n name valid named =
    let place = numbered lists kind n name named in
    let found = position-at name (names_of lists kind) (n - 1) (at_most_once lists kind name valid) place.1 in
    let back : n - 1 + 1 ≡ n = omega (arith, place.0) in
    ap (option_map (λ i. i + 1)) found ∙ ap (λ (m : ℕ). Some m) back

shifted : (found : Option ℕ) (n : ℕ) → option_map (λ i. i + 1) found ≡ Some n → (i : ℕ) × (found ≡ Some i) × (i + 1 ≡ n)
shifted None n e = absurd cc
shifted (Some i) n e = let same : i + 1 ≡ n = cc in (i, refl, same)

-- a number's name is what it is the number of
pub name_of-number_of : (lists : NameLists) (kind : NameKind) (n : ℕ) (name : List ℕ) → number_of lists kind name ≡ Some n → name_of lists kind n ≡ Some name
unfolding number_of name_of
name_of-number_of lists kind n name numbered =
    let s = shifted (position (bytes_eq name) (names_of lists kind)) n numbered in
    let there = at-position name (names_of lists kind) s.0 s.1 in
    let test : eqb n 0 ≡ false = ne_eqb n 0 (λ e. omega (arith, s.2, e)) in
    let back : n - 1 ≡ s.0 = omega (arith, s.2) in
    rw (test, back) there

-- an object's name is one, and not reserved
pub object_name : (lists : NameLists) (kind : ObjectKind) (n : ℕ) (name : List ℕ) → AreValid lists → name_of lists (Object kind) n ≡ Some name → (is_name name ≡ true) × (is_reserved name ≡ false)
object_name lists kind n name valid named =
    let within : place_of kind < length lists.objects = omega (arith, valid.kinds, place_of-lt kind) in
    let place = numbered lists (Object kind) n name named in
    let list : List (List ℕ) = get_or lists.objects (place_of kind) [] in
    let inside = slice_get_within (get_or lists.objects (place_of kind) []) (n - 1) name place.1 in
    let same = get_or_from_slice_get (get_or lists.objects (place_of kind) []) (n - 1) name [] place.1 in
    let all = list_all-at (list_all (λ m. is_name m && not (is_reserved m))) lists.objects (place_of kind) [] within valid.names in
    let here = list_all-at (λ m. is_name m && not (is_reserved m)) (get_or lists.objects (place_of kind) []) (n - 1) [] inside all in
    let parts = and_parts (is_name name) (not (is_reserved name)) (rw same at here) in
    (parts.0, not-true (is_reserved name) parts.1)
