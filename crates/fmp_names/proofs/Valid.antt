-- One name more keeps what holds of all names.
use Rattle.std.proofs.Common.{◌≡◌, ℕ, ◌+◌, ◌≤◌, ◌<◌, ◌^◌, true, false, ◌&&◌, ◌||◌, cond, eqb, Result, OnOk, OnErr, inl, inr, not, List, [], ◌∷◌, ◌++◌, length, set, get_or, refl, sym, ap, ◌∙◌, arith, length-append}
use Rattle.std.specs.List.{list_all, list_any, sum_by}
use Rattle.std.specs.Map.{keys_of}
use Rattle.std.specs.Str.{bytes_eq}
use Rattle.std.proofs.lemmas.Bool.{cases_eq, cases_Bool, or_parts, ltb-true, not-true}
use Rattle.std.proofs.lemmas.Slice.Eq.{bytes_eq-Decides}
use Rattle.std.proofs.lemmas.List.{length-set, map_push, get_or-set_same, get_or-set_other}
use Rattle.std.proofs.lemmas.List.Elements.{All-append, All-cons, All-nil}
use Rattle.std.proofs.lemmas.List.Sums.{sum_by-set}
use Rattle.fmp_codes.specs.declared.kinds.ObjectKind.{ObjectKind}
use Rattle.fmp_codes.specs.declared.kinds.ObjectKind.TheVariants.{Task}
use Rattle.fmp_codes.specs.declared.kinds.NameKind.{NameKind}
use Rattle.fmp_codes.specs.declared.kinds.NameKind.TheVariants.{Object, Function}
use Rattle.fmp_codes.specs.Kinds.{place_of, most_of}
use Rattle.fmp_names.specs.Names.{NameLists, AreValid, defined_names, is_name, is_reserved, is_free, is_taken, is_object, is_defined, has_name, has_room, has_room_to_define, most_defined, with_name, with_defined_name, no_names, times}
use Rattle.fmp_names.proofs.Listed.{list_all-at, list_all-set, list_all-push, times-none, times_any-none, times-push, list_any-nowhere, either_way}

-- the greatest number of objects at a place among the kinds
most_at : ℕ → ℕ
most_at place = cond (eqb place 0) 64 32

most_of-place : (kind : ObjectKind) → most_of kind ≡ most_at (place_of kind)
unfolding most_at
most_of-place Task = refl
most_of-place _ = refl

pub most_of-le : (kind : ObjectKind) → most_of kind ≤ 64
most_of-le Task = omega arith
most_of-le _ = omega arith

pub place_of-lt : (kind : ObjectKind) → place_of kind < 8
place_of-lt Task = omega arith
place_of-lt _ = omega arith

few_of_none : (kind : ObjectKind) → length (get_or (no_names 1).objects (place_of kind) []) ≤ most_of kind
few_of_none Task = omega arith
few_of_none _ = omega arith

-- no names are valid
pub none_valid : (processors : ℕ) → 1 ≤ processors → processors ≤ 8 → AreValid (no_names processors)
none_valid processors least most = record {
  least = least;
  most = most;
  kinds = refl;
  limits = few_of_none;
  names = refl;
  function_names = refl;
  few_defined = omega arith;
  defined = refl;
  numbers = All-nil (λ (d : List ℕ × ℕ). d.1 < 2 ^ 32);
  distinct = λ name. omega arith;
  functions_distinct = λ name. omega arith;
}

-- a name stands at most once where one that was not there is added
pub once_more : (name other : List ℕ) (before after : ℕ) → after ≡ before + cond (bytes_eq name other) 1 0 → (bytes_eq name other ≡ true → before ≡ 0) → before ≤ 1 → after ≤ 1
once_more name other before after counted new once =
    elim (cases_Bool (bytes_eq name other)) [
      | inl t ↦ let none = new t in omega (arith, rw t at counted, none)
      | inr f ↦ omega (arith, rw f at counted, once)
    ]

-- how often a name stands in the name space of objects and defined names
abbrev spaced : NameLists → List ℕ → ℕ
spaced lists name = sum_by (times name) lists.objects + times name (defined_names lists)

absent_in_space : (lists : NameLists) (name : List ℕ) → (is_object lists name || is_defined lists name) ≡ false → spaced lists name ≡ 0
unfolding is_object is_defined
absent_in_space lists name taken =
    let parts = or_parts (list_any (λ list. has_name list name) lists.objects) (has_name (defined_names lists) name) taken in
    omega (arith, times_any-none name lists.objects parts.0, times-none name (defined_names lists) parts.1)

module _ (lists : NameLists) (name : List ℕ) (valid : AreValid lists) (is : is_name name ≡ true) where
  with_function : has_name lists.functions name ≡ false → AreValid (with_name lists Function name)
  with_function new = record {
    least = valid.least;
    most = valid.most;
    kinds = valid.kinds;
    limits = valid.limits;
    names = valid.names;
    function_names = list_all-push is_name lists.functions name valid.function_names is;
    few_defined = valid.few_defined;
    defined = valid.defined;
    numbers = valid.numbers;
    distinct = valid.distinct;
    functions_distinct = λ other. once_more other name (times other lists.functions) (times other (lists.functions ++ name ∷ [])) (times-push other name lists.functions)
        (λ same. ap (λ (n : List ℕ). times n lists.functions) ((bytes_eq-Decides other name).0 same) ∙ times-none name lists.functions new) (valid.functions_distinct other);
  }

  module _ (kind : ObjectKind) where
    old : List (List ℕ)
    old = get_or lists.objects (place_of kind) []

    new : List (List ℕ)
    new = old ++ name ∷ []

    within : place_of kind < length lists.objects
    within = omega (arith, valid.kinds, place_of-lt kind)

    limit : (room : has_room lists (Object kind) ≡ true) (other : ObjectKind) → length (get_or (set lists.objects (place_of kind) new) (place_of other) []) ≤ most_of other
    unfolding old new
    limit room other =
        elim (cases_eq (place_of other) (place_of kind)) [
          | inl same ↦
              let here : get_or (set lists.objects (place_of kind) new) (place_of other) [] ≡ new = ap (λ (i : ℕ). get_or (set lists.objects (place_of kind) new) i []) same ∙ get_or-set_same lists.objects (place_of kind) new [] within in
              let most : most_of other ≡ most_of kind = most_of-place other ∙ ap most_at same ∙ sym (most_of-place kind) in
              omega (arith, ap length here, most, ltb-true (length old) (most_of kind) room, length-append old (name ∷ []))
          | inr differs ↦
              let there : get_or (set lists.objects (place_of kind) new) (place_of other) [] ≡ get_or lists.objects (place_of other) [] = get_or-set_other lists.objects (place_of kind) (place_of other) new [] differs in
              omega (arith, ap length there, valid.limits other)
        ]

    with_object : is_reserved name ≡ false → is_taken lists (Object kind) name ≡ false → has_room lists (Object kind) ≡ true → AreValid (with_name lists (Object kind) name)
    unfolding old new is_object is_defined
    with_object free taken room = record {
      least = valid.least;
      most = valid.most;
      kinds = length-set lists.objects (place_of kind) new ∙ valid.kinds;
      limits = limit room;
      names = list_all-set (list_all (λ n. is_name n && not (is_reserved n))) lists.objects (place_of kind) new valid.names
          (list_all-push (λ n. is_name n && not (is_reserved n)) old name (list_all-at (list_all (λ n. is_name n && not (is_reserved n))) lists.objects (place_of kind) [] within valid.names) (rw (is, free) refl));
      function_names = valid.function_names;
      few_defined = valid.few_defined;
      defined = valid.defined;
      numbers = valid.numbers;
      distinct = λ other. once_more other name (spaced lists other) (sum_by (times other) (set lists.objects (place_of kind) new) + times other (defined_names lists))
          (omega (arith, sum_by-set (times other) lists.objects (place_of kind) new [] within, times-push other name old))
          (λ same. ap (spaced lists) ((bytes_eq-Decides other name).0 same) ∙ absent_in_space lists name taken) (valid.distinct other);
      functions_distinct = valid.functions_distinct;
    }

-- a kind's conditions, at an object and at a function
module _ (lists : NameLists) (name : List ℕ) (valid : AreValid lists) where
  pub absent_object : (kind : NameKind) (k : ObjectKind) (copy : List ℕ) (place : ℕ) → kind ≡ Object k → copy ≡ name → place ≡ place_of k
      → is_taken lists kind name ≡ false → has_name (get_or lists.objects place []) copy ≡ false
  unfolding is_object
  absent_object kind k copy place at_object copied placed new =
      let within : place_of k < length lists.objects = omega (arith, valid.kinds, place_of-lt k) in
      let absent = or_parts (list_any (λ list. has_name list name) lists.objects) (is_defined lists name) (rw at_object at new) in
      rw (copied, placed) (list_any-nowhere (λ list. has_name list name) lists.objects (place_of k) [] within absent.0)

  module _ (kind : NameKind) (copy : List ℕ) (copied : copy ≡ name) (is : is_name name ≡ true) (free : is_free kind name ≡ true) (new : is_taken lists kind name ≡ false) (room : has_room lists kind ≡ true) where
    pub object_kept : {A E : Type 0} (r : Result A E) (k : ObjectKind) (place : ℕ) (objects : List (List (List ℕ))) → kind ≡ Object k → place ≡ place_of k
        → OnOk r (objects ≡ set lists.objects place (get_or lists.objects place [] ++ copy ∷ [])) → OnErr r (objects ≡ lists.objects) → AreValid (record lists { objects = objects })
    object_kept r k place objects at_object placed ok err =
        elim (either_way r (objects ≡ set lists.objects place (get_or lists.objects place [] ++ copy ∷ [])) (objects ≡ lists.objects) ok err) [
          | inl e ↦ rw (e, placed, copied) (with_object lists name valid is k (not-true (is_reserved name) (rw at_object at free)) (rw at_object at new) (rw at_object at room))
          | inr e ↦ rw e valid
        ]

    pub function_kept : {A E : Type 0} (r : Result A E) (functions : List (List ℕ)) → kind ≡ Function
        → OnOk r (functions ≡ lists.functions ++ copy ∷ []) → OnErr r (functions ≡ lists.functions) → AreValid (record lists { functions = functions })
    function_kept r functions at_function ok err =
        elim (either_way r (functions ≡ lists.functions ++ copy ∷ []) (functions ≡ lists.functions) ok err) [
          | inl e ↦ rw (e, copied) (with_function lists name valid is (rw at_function at new))
          | inr e ↦ rw e valid
        ]

-- one more defined name
module _ (lists : NameLists) (name : List ℕ) (valid : AreValid lists) (is : is_name name ≡ true) (free : is_reserved name ≡ false)
    (object : is_object lists name ≡ false) (new : is_defined lists name ≡ false) (room : has_room_to_define lists ≡ true) where
  with_definition : (number : ℕ) → number < 2 ^ 32 → AreValid (with_defined_name lists name number)
  with_definition number small =
      let keys : keys_of (lists.defined ++ (name, number) ∷ []) ≡ defined_names lists ++ name ∷ [] = map_push (λ d. d.0) lists.defined (name, number) in
      record {
        least = valid.least;
        most = valid.most;
        kinds = valid.kinds;
        limits = valid.limits;
        names = valid.names;
        function_names = valid.function_names;
        few_defined = omega (arith, ltb-true (length lists.defined) most_defined room, length-append lists.defined ((name, number) ∷ []));
        defined = rw keys (list_all-push (λ n. is_name n && not (is_reserved n)) (defined_names lists) name valid.defined (rw (is, free) refl));
        numbers = All-append (λ d. d.1 < 2 ^ 32) lists.defined ((name, number) ∷ []) valid.numbers (All-cons (λ d. d.1 < 2 ^ 32) (name, number) [] small (All-nil (λ d. d.1 < 2 ^ 32)));
        distinct = λ other. once_more other name (spaced lists other) (sum_by (times other) lists.objects + times other (keys_of (lists.defined ++ (name, number) ∷ [])))
            (omega (arith, ap (times other) keys, times-push other name (defined_names lists)))
            (λ same. ap (spaced lists) ((bytes_eq-Decides other name).0 same) ∙ absent_in_space lists name (rw (object, new) refl)) (valid.distinct other);
        functions_distinct = valid.functions_distinct;
      }

  pub definition_kept : {A E : Type 0} (r : Result A E) (copy : List ℕ) (number : ℕ) (defined : List (List ℕ × ℕ)) → copy ≡ name → number < 2 ^ 32
      → OnOk r (defined ≡ lists.defined ++ (copy, number) ∷ []) → OnErr r (defined ≡ lists.defined) → AreValid (record lists { defined = defined })
  definition_kept r copy number defined copied small ok err =
      elim (either_way r (defined ≡ lists.defined ++ (copy, number) ∷ []) (defined ≡ lists.defined) ok err) [
        | inl e ↦ rw (e, copied) (with_definition number small)
        | inr e ↦ rw e valid
      ]
