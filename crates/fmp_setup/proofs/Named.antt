-- Names that are added, and the numbers of functions.
use Rattle.std.proofs.Common.{◌≡◌, ℕ, zero, suc, ◌+◌, ◌≤◌, ◌<◌, Bool, true, false, cond, not, ◌||◌, List, [], ◌∷◌, ◌++◌, length, map, set, get_or, refl, sym, ap, ◌∙◌, inl, inr, arith, length-append}
use Rattle.std.specs.List.{list_all, list_any, position_or_len}
use Rattle.std.specs.Str.{bytes_eq}
use Rattle.std.proofs.lemmas.Bool.{cases_Bool, cases_lt, or_parts, and_parts, false≢true, lt-ltb, le-ltb, not-true}
use Rattle.std.proofs.lemmas.Slice.Eq.{bytes_eq-Decides}
use Rattle.std.proofs.lemmas.List.{map_push}
use Rattle.std.proofs.lemmas.List.Folds.{list_any-append}
use Rattle.fmp_codes.specs.declared.kinds.NameKind.TheVariants.{Object}
use Rattle.fmp_codes.specs.declared.kinds.ObjectKind.{ObjectKind}
use Rattle.fmp_codes.specs.Kinds.{place_of}
use Rattle.fmp_names.specs.Names.{NameLists, defined_names, has_name, is_object, is_defined, is_reserved, is_taken, number_of, with_name, with_defined_name}
use Rattle.fmp_setup.specs.Building.{function_number, has_function, is_refused, with_function, with_object_names}
use Rattle.fmp_setup.specs.Setup.{Setup}

pub not_refused : (c : Setup) (name : List ℕ) → is_refused c name ≡ false
    → (is_reserved name ≡ false) × (has_name c.class_names name ≡ false) × (is_object c.names name ≡ false) × (is_defined c.names name ≡ false)
unfolding is_refused
not_refused c name free =
    let first = or_parts (is_reserved name || has_name c.class_names name || is_object c.names name) (is_defined c.names name) free in
    let second = or_parts (is_reserved name || has_name c.class_names name) (is_object c.names name) first.0 in
    let third = or_parts (is_reserved name) (has_name c.class_names name) second.0 in
    (third.0, third.1, second.1, first.1)

-- so objects and defined names do not have it
pub not_taken : (c : Setup) (kind : ObjectKind) (name : List ℕ) → is_refused c name ≡ false → is_taken c.names (Object kind) name ≡ false
not_taken c kind name free =
    let parts = not_refused c name free in
    let object = parts.2 in
    let defined = parts.3 in
    rw (object, defined) refl

other_way : (a b : List ℕ) → bytes_eq a b ≡ false → bytes_eq b a ≡ false
other_way a b differs =
    elim (cases_Bool (bytes_eq b a)) [
      | inl t ↦ absurd (false≢true (sym differs ∙ (bytes_eq-Decides a b).1 (sym ((bytes_eq-Decides b a).0 t))))
      | inr f ↦ f
    ]

-- ---- the lists of names

-- the lists with one name more in this place
abbrev pub with_one : List (List (List ℕ)) → ℕ → List ℕ → List (List (List ℕ))
with_one lists place name = set lists place (get_or lists place [] ++ name ∷ [])

pub length_at : (lists : List (List (List ℕ))) (place : ℕ) → get_or (map length lists) place 0 ≡ length (get_or lists place [])
length_at [] place = refl
length_at (l ∷ ls) zero = refl
length_at (l ∷ ls) (suc place) = length_at ls place

pub with_one-lengths : (lists : List (List (List ℕ))) (place : ℕ) (name : List ℕ) → map length (with_one lists place name) ≡ set (map length lists) place (get_or (map length lists) place 0 + 1)
with_one-lengths [] place name = refl
with_one-lengths (l ∷ ls) zero name = ap (λ (n : ℕ). n ∷ map length ls) (length-append l (name ∷ []))
with_one-lengths (l ∷ ls) (suc place) name = ap (λ (ns : List ℕ). length l ∷ ns) (with_one-lengths ls place name)

-- a list that lacks a name lacks it after another one
still_lacks : (list : List (List ℕ)) (name other : List ℕ) → bytes_eq other name ≡ false → has_name list other ≡ false → has_name (list ++ name ∷ []) other ≡ false
still_lacks list name other differs none = list_any-append (bytes_eq other) list (name ∷ []) ∙ rw (none, differs) refl

still_none : (lists : List (List (List ℕ))) (place : ℕ) (name other : List ℕ) → bytes_eq other name ≡ false → list_any (λ list. has_name list other) lists ≡ false
    → list_any (λ list. has_name list other) (with_one lists place name) ≡ false
still_none [] place name other differs none = refl
still_none (l ∷ ls) zero name other differs none =
    let parts = or_parts (has_name l other) (list_any (λ list. has_name list other) ls) none in
    let others = parts.1 in
    let grown = still_lacks l name other differs parts.0 in
    rw (grown, others) refl
still_none (l ∷ ls) (suc place) name other differs none =
    let parts = or_parts (has_name l other) (list_any (λ list. has_name list other) ls) none in
    let first = parts.0 in
    let others = still_none ls place name other differs parts.1 in
    rw (first, others) refl

-- names of classes stay apart from others where one that is no class's is added
pub apart_still : (old new : List ℕ → Bool) (name : List ℕ) (classes : List (List ℕ)) → ((other : List ℕ) → bytes_eq other name ≡ false → old other ≡ false → new other ≡ false)
    → has_name classes name ≡ false → list_all (λ n. not (old n)) classes ≡ true → list_all (λ n. not (new n)) classes ≡ true
apart_still old new name [] lacks fresh apart = refl
apart_still old new name (n ∷ ns) lacks fresh apart =
    let news = or_parts (bytes_eq name n) (has_name ns name) fresh in
    let aparts = and_parts (not (old n)) (list_all (λ m. not (old m)) ns) apart in
    let here = lacks n (other_way name n news.0) (not-true (old n) aparts.0) in
    let there = apart_still old new name ns lacks news.1 aparts.1 in
    rw (here, there) refl

pub apart_from : (lists : List (List (List ℕ))) (place : ℕ) (name : List ℕ) (classes : List (List ℕ)) → has_name classes name ≡ false → list_all (λ n. not (list_any (λ list. has_name list n) lists)) classes ≡ true
    → list_all (λ n. not (list_any (λ list. has_name list n) (with_one lists place name))) classes ≡ true
apart_from lists place name classes =
    apart_still (λ n. list_any (λ list. has_name list n) lists) (λ n. list_any (λ list. has_name list n) (with_one lists place name)) name classes (still_none lists place name)

pub undefined_from : (names : NameLists) (name : List ℕ) (number : ℕ) (classes : List (List ℕ)) → has_name classes name ≡ false → list_all (λ n. not (is_defined names n)) classes ≡ true
    → list_all (λ n. not (is_defined (with_defined_name names name number) n)) classes ≡ true
unfolding is_defined
undefined_from names name number classes =
    apart_still (is_defined names) (is_defined (with_defined_name names name number)) name classes
    (λ other differs none. ap (λ (list : List (List ℕ)). has_name list other) (map_push (λ (d : List ℕ × ℕ). d.0) names.defined (name, number)) ∙ still_lacks (defined_names names) name other differs none)

-- ---- functions

-- what one function more leaves, and how many there are then
pub record AddsFunction (names after : NameLists) (function : List ℕ) : Type 0 where
  pub objects : after.objects ≡ names.objects
  pub processors : after.processors ≡ names.processors
  pub defined : after.defined ≡ names.defined
  pub least : length names.functions ≤ length after.functions
  pub most : length after.functions ≤ length names.functions + 1
  pub there : has_name after.functions function ≡ true

pub function_adds : (names : NameLists) (function : List ℕ) → AddsFunction names (with_function names function) function
unfolding with_function
function_adds names function =
    elim (cases_Bool (has_name names.functions function)) [
      | inl t ↦ rw t (record { objects = refl; processors = refl; defined = refl; least = omega arith; most = omega arith; there = t })
      | inr f ↦
          let itself : bytes_eq function function ≡ true = (bytes_eq-Decides function function).1 refl in
          let added : has_name (names.functions ++ function ∷ []) function ≡ true = list_any-append (bytes_eq function) names.functions (function ∷ []) ∙ rw (f, itself) refl in
          let grown = length-append names.functions (function ∷ []) in
          rw f (record { objects = refl; processors = refl; defined = refl; least = omega (arith, grown); most = omega (arith, grown); there = added })
    ]

place_within : (p : List ℕ → Bool) (xs : List (List ℕ)) → list_any p xs ≡ true → position_or_len p xs < length xs
place_within p [] some = absurd (false≢true some)
place_within p (x ∷ xs) some =
    elim (cases_Bool (p x)) [
      | inl t ↦ rw t (omega arith)
      | inr f ↦ let rest : list_any p xs ≡ true = rw f at some in let less = place_within p xs rest in rw f (omega (arith, less))
    ]

pub number_within : (names : NameLists) (function : List ℕ) → has_name names.functions function ≡ true → (1 ≤ function_number names function) × (function_number names function ≤ length names.functions)
unfolding function_number number_of
number_within names function there =
    let less = place_within (bytes_eq function) names.functions there in
    let found = lt-ltb (position_or_len (bytes_eq function) names.functions) (length names.functions) less in
    rw found (omega arith, omega (arith, less))

-- where there is no such function the number is 0
pub number_most : (names : NameLists) (function : List ℕ) → function_number names function ≤ length names.functions
unfolding function_number number_of
number_most names function =
    elim (cases_lt (position_or_len (bytes_eq function) names.functions) (length names.functions)) [
      | inl less ↦ let found = lt-ltb (position_or_len (bytes_eq function) names.functions) (length names.functions) less in rw found (omega (arith, less))
      | inr past ↦ let absent = le-ltb (position_or_len (bytes_eq function) names.functions) (length names.functions) past in rw absent (omega arith)
    ]

-- ---- an object's names

-- what the names of one object more leave, and which there are then, where the object has a function or has none
pub record AddsObject (names after : NameLists) (kind : ObjectKind) (has : Bool) (name function : List ℕ) : Type 0 where
  pub objects : after.objects ≡ with_one names.objects (place_of kind) name
  pub processors : after.processors ≡ names.processors
  pub defined : after.defined ≡ names.defined
  pub least : length names.functions ≤ length after.functions
  pub most : length after.functions ≤ length names.functions + cond has 1 0
  pub there : has ≡ true → has_name after.functions function ≡ true

adds_with : (names : NameLists) (kind : ObjectKind) (has : Bool) (name function : List ℕ)
    → AddsObject names (cond has (with_function (with_name names (Object kind) name) function) (with_name names (Object kind) name)) kind has name function
adds_with names kind true name function =
    let f = function_adds (with_name names (Object kind) name) function in
    record { objects = f.objects; processors = f.processors; defined = f.defined; least = f.least; most = f.most; there = λ e. f.there }
adds_with names kind false name function = record { objects = refl; processors = refl; defined = refl; least = omega arith; most = omega arith; there = λ e. absurd (false≢true e) }

pub object_adds : (names : NameLists) (kind : ObjectKind) (name function : List ℕ) → AddsObject names (with_object_names names kind name function) kind (has_function kind) name function
unfolding with_object_names
object_adds names kind name function = adds_with names kind (has_function kind) name function
