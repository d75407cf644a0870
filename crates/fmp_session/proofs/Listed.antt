-- The values of one argument more.
use Rattle.std.proofs.Common.{◌≡◌, ◌∙◌, ℕ, ◌-◌, ◌≤◌, ℤ, pos, List, [], ◌∷◌, ◌++◌, length, take, drop, get_or, refl, ap, sym, arith, append_assoc}
use Rattle.std.proofs.Math.Seq.{take-length}
use Rattle.std.specs.Prelude.{Option, None, Some, OnSome, IfNone, option_map}
use Rattle.fmp_codes.specs.declared.kinds.ArgumentKind.{ArgumentKind}
use Rattle.fmp_codes.specs.declared.kinds.ArgumentKind.TheVariants as kinds
use Rattle.fmp_codes.specs.declared.kinds.ObjectKind.TheVariants.{Task}
use Rattle.fmp_codes.specs.declared.kinds.Value.{Value}
use Rattle.fmp_session.specs.Numbers.{value_from, values_from}

pub on_some : {X P Q : Type 0} (o : Option X) → (P → Q) → OnSome o P → OnSome o Q
on_some None f p = tt
on_some (Some x) f p = f p

pub if_none : {X P Q : Type 0} (o : Option X) → (P → Q) → IfNone o P → IfNone o Q
if_none None f p = f p
if_none (Some x) f p = tt

-- those after the first one, as they are taken
rest_is : {X : Type 0} (x : X) (xs : List X) → take (length (x ∷ xs) - 1) (drop 1 (x ∷ xs)) ≡ xs
rest_is x xs =
    let count : length (x ∷ xs) - 1 ≡ length xs = omega arith in
    ap (λ (n : ℕ). take n xs) count ∙ take-length xs

-- what is added to a list, one more or all at once
added : (old : List Value) (v : Value) (o : Option (List Value)) (new : List Value)
    → option_map (λ vs. (old ++ v ∷ []) ++ vs) o ≡ Some new → option_map (λ vs. old ++ vs) (option_map (λ vs. v ∷ vs) o) ≡ Some new
added old v None new is = is
added old v (Some vs) new is = ap Some (sym (append_assoc old (v ∷ []) vs)) ∙ is

module _ (v : Value) where
  -- those after the first one
  values_next : (ks : List ArgumentKind) (ns : List ℤ) → 1 ≤ length ks → 1 ≤ length ns → value_from (get_or ks 0 (kinds.Object Task)) (get_or ns 0 (pos 0)) ≡ Some v
      → values_from ks ns ≡ option_map (λ vs. v ∷ vs) (values_from (take (length ks - 1) (drop 1 ks)) (take (length ns - 1) (drop 1 ns)))
  values_next [] ns some more is = absurd (omega (arith, some))
  values_next (k ∷ ks) [] some more is = absurd (omega (arith, more))
  values_next (k ∷ ks) (n ∷ ns) some more is = rw (is, rest_is k ks, rest_is n ns) refl

  pub some_more : (ks : List ArgumentKind) (ns : List ℤ) (old mid new : List Value) → 1 ≤ length ks → 1 ≤ length ns
      → value_from (get_or ks 0 (kinds.Object Task)) (get_or ns 0 (pos 0)) ≡ Some v → mid ≡ old ++ v ∷ []
      → option_map (λ vs. mid ++ vs) (values_from (take (length ks - 1) (drop 1 ks)) (take (length ns - 1) (drop 1 ns))) ≡ Some new
      → option_map (λ vs. old ++ vs) (values_from ks ns) ≡ Some new
  some_more ks ns old mid new some more is made rest =
      ap (option_map (λ vs. old ++ vs)) (values_next ks ns some more is)
      ∙ added old v (values_from (take (length ks - 1) (drop 1 ks)) (take (length ns - 1) (drop 1 ns))) new (rw made at rest)

  pub none_more : (ks : List ArgumentKind) (ns : List ℤ) → 1 ≤ length ks → 1 ≤ length ns → value_from (get_or ks 0 (kinds.Object Task)) (get_or ns 0 (pos 0)) ≡ Some v
      → values_from (take (length ks - 1) (drop 1 ks)) (take (length ns - 1) (drop 1 ns)) ≡ None → values_from ks ns ≡ None
  none_more ks ns some more is rest = values_next ks ns some more is ∙ ap (option_map (λ vs. v ∷ vs)) rest
