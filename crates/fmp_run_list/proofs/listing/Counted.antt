-- One object or one function more.
use Rattle.std.proofs.Common.{◌≡◌, ◌≤◌, ◌<◌, ℕ, suc, ◌+◌, ◌-◌, false, List, ◌∷◌, ◌++◌, length, drop, drop-cons, None, Some, add-one, eqb, ne_eqb, refl, sym, ap, ap₂, ◌∙◌, append_assoc, append-nil, arith}
use Rattle.std.specs.Prelude.{slice_get}
use Rattle.std.proofs.lemmas.Option.{slice_get_within, get_or_from_slice_get}
use Rattle.fmp_out.specs.Putting.{Adds, Owes, Putting}
use Rattle.fmp_codes.specs.declared.kinds.ObjectKind.{ObjectKind}
use Rattle.fmp_codes.specs.declared.kinds.NameKind.TheVariants.{Function}
use Rattle.fmp_names.specs.Names.{NameLists, name_of}
use Rattle.fmp_names.proofs.Placed.{numbered}
use Rattle.fmp_names.proofs.Listed.{past_last}
use Rattle.fmp_setup.specs.Setup.{Setup}
use Rattle.fmp_run_list.specs.Listing.Functions.{function_line, functions_from}
use Rattle.fmp_run_list.specs.Listing.Listing.{object_line, objects_to}

module _ (c : Setup) (kind : ObjectKind) where
  objects_more : (i : ℕ) → objects_to c kind (i + 1) ≡ objects_to c kind i ++ object_line c kind i
  unfolding objects_to
  objects_more i = rw (add-one) refl

  -- nothing was written of none
  pub no_object_yet : (old : Putting) → Adds (objects_to c kind 0) old old
  unfolding objects_to
  no_object_yet old whole = (whole, sym (append-nil old.bytes))

  -- what was written of the first of them, and one line more
  pub object_next : (i : ℕ) (old between new : Putting) → Adds (objects_to c kind i) old between → Adds (object_line c kind i) between new → Adds (objects_to c kind (i + 1)) old new
  object_next i old between new so_far line whole =
      let last = line whole in
      let first = so_far last.0 in
      (first.0, last.1 ∙ ap (λ (xs : List ℕ). xs ++ object_line c kind i) first.1 ∙ append_assoc old.bytes (objects_to c kind i) (object_line c kind i) ∙ ap (λ (xs : List ℕ). old.bytes ++ xs) (sym (objects_more i)))

module _ (lists : NameLists) where
  pub is_within : (n : ℕ) (name : List ℕ) → name_of lists Function n ≡ Some name → n ≤ length lists.functions
  is_within n name is =
      let at = numbered lists Function n name is in
      let within : n - 1 < length lists.functions = slice_get_within lists.functions (n - 1) name at.1 in
      omega (arith, within, at.0)

  -- the functions from it on are that one, and those after it
  next_function : (n : ℕ) (name : List ℕ) → name_of lists Function n ≡ Some name → drop (n - 1) lists.functions ≡ name ∷ drop n lists.functions
  next_function n name is =
      let at = numbered lists Function n name is in
      let same : suc (n - 1) ≡ n = omega (arith, at.0) in
      drop-cons lists.functions (n - 1) name (slice_get_within lists.functions (n - 1) name at.1)
      ∙ ap (λ (x : List ℕ). x ∷ drop (suc (n - 1)) lists.functions) (get_or_from_slice_get lists.functions (n - 1) name name at.1)
      ∙ ap (λ (k : ℕ). name ∷ drop k lists.functions) same

  -- one line more, before those of the functions after it
  pub function_more : (n : ℕ) (name : List ℕ) (old out new : Putting) (all : List ℕ) → name_of lists Function n ≡ Some name → Adds (function_line n name) out new
      → Owes (functions_from n (drop (n - 1) lists.functions)) all old out → Owes (functions_from (n + 1) (drop ((n + 1) - 1) lists.functions)) all old new
  function_more n name old out new all is line made whole =
      let same : (n + 1) - 1 ≡ n = omega arith in
      let last = line whole in
      let first = made last.0 in (
        first.0,
        ap₂ (λ (xs : List ℕ) (k : ℕ). xs ++ functions_from (n + 1) (drop k lists.functions)) last.1 same
            ∙ append_assoc out.bytes (function_line n name) (functions_from (n + 1) (drop n lists.functions))
            ∙ ap (λ (names : List (List ℕ)). out.bytes ++ functions_from n names) (sym (next_function n name is)) ∙ first.1,
      )

  no_place : (n : ℕ) → 1 ≤ n → name_of lists Function n ≡ None → slice_get lists.functions (n - 1) ≡ None
  unfolding name_of
  no_place n least is =
      let test : eqb n 0 ≡ false = ne_eqb n 0 (λ e. omega (arith, e, least)) in
      rw test at is

  -- where there is no function of this number, all lines were written
  pub functions_done : (n : ℕ) (old out : Putting) (all : List ℕ) → 1 ≤ n → name_of lists Function n ≡ None → Owes (functions_from n (drop (n - 1) lists.functions)) all old out → Adds all old out
  functions_done n old out all least is made whole =
      let last = made whole in
      (last.0, sym (ap (λ (names : List (List ℕ)). out.bytes ++ functions_from n names) (past_last lists.functions (n - 1) (no_place n least is)) ∙ append-nil out.bytes) ∙ last.1)
