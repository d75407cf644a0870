-- The object that an argument names, and laws on it and on all others.
use Rattle.std.proofs.Common.{◌≡◌, ℕ, ◌≤◌, ◌==◌, ℤ, pos, negsuc, Bool, true, false, ◌&&◌, List, length, sym, ap, subst, arith, Option, Some, None, ⊎_elim}
use Rattle.std.specs.Prelude.{nat_le, is_some, option_map, unwrap_or}
use Rattle.std.proofs.lemmas.Bool.{cases_eq, eq-eqb, ne_eqb, and_parts, leb-true, cond_both, false≢true}
use Rattle.fmp_codes.specs.Numbers.{as_object, within}
use Rattle.fmp_codes.specs.declared.numbers.Object.{Object}
use Rattle.fmp_codes.proofs.Same.{objects_same}
use Rattle.fmp_rules.specs.Arguments.{object_named}
use Rattle.fmp_law_safety.specs.Safe.{IsNumberOf}
use Rattle.fmp_law_balance.specs.Accepted.{names}

-- an argument names this object, which is one of these
pub record IsNamed {X : Type 0} (xs : List X) (id : ℤ) (o : Object) : Type 0 where
  pub within : IsNumberOf xs o.number
  pub names : (s : Object) → names s id ≡ (o.number == s.number)

pub object_known : {X : Type 0} (xs : List X) (id : ℤ) → length xs ≤ 32 → is_some (object_named xs id) ≡ true → IsNamed xs id (unwrap_or (object_named xs id) (as_object 1))
object_known xs (negsuc n) few e = absurd (false≢true e)
object_known xs (pos n) few e =
    cond_both (nat_le 1 n && nat_le n (length xs)) (Some n) None
    (λ (o : Option ℕ). is_some (option_map as_object o) ≡ true → IsNamed xs (pos n) (unwrap_or (option_map as_object o) (as_object 1)))
    (λ h _.
    let most : n ≤ length xs = leb-true n (length xs) (and_parts (nat_le 1 n) (nat_le n (length xs)) h).1 in
    let least : 1 ≤ n = leb-true 1 n (and_parts (nat_le 1 n) (nat_le n (length xs)) h).0 in
    let number : n ≡ within 32 n = omega (arith, most, least, few) in
    record { within = ((as_object n).least, omega (arith, most, least)); names = λ s. ap (λ i. i == s.number) number })
    (λ _ bad. absurd (false≢true bad)) e

-- what holds of this object, and of all others
pub by_object : (P : Object → Bool → Type 0) (o s : Object) → P o true → ((o.number ≡ s.number → ⊥) → P s false) → P s (o.number == s.number)
by_object P o s same other =
    ⊎_elim
    (λ (e : o.number ≡ s.number). subst (P s) (sym (eq-eqb o.number s.number e)) (subst (λ (x : Object). P x true) (objects_same o s e) same))
    (λ (d : o.number ≡ s.number → ⊥). subst (P s) (sym (ne_eqb o.number s.number d)) (other d)) (cases_eq o.number s.number)
