-- What is beyond a bound, and what is not.
use Rattle.std.proofs.Common.{◌≡◌, ◌⊎◌, inl, inr, ℕ, ◌+◌, ◌<◌, ◌≤◌, Bool, true, false, cond, List, sym, subst, arith}
use Rattle.std.specs.Prelude.{nat_lt}
use Rattle.std.proofs.lemmas.Bool.{cases_lt, le-ltb, ltb-false, ltb-true}
use Rattle.fmp_run_most.specs.declared.figure.Measure.{Measure}
use Rattle.fmp_run_most.specs.Figures.{is_beyond, is_least}
use Rattle.fmp_run_most.specs.Raised.{IsExtremeOf, IsMarked}

abbrev beyond : Bool → ℕ → ℕ → Bool
beyond least bound n = cond least (nat_lt n bound) (nat_lt bound n)

self_by : (b : Bool) (n : ℕ) → beyond b n n ≡ false
self_by true n = le-ltb n n (omega arith)
self_by false n = le-ltb n n (omega arith)

-- what is not beyond one that is not beyond another
loose_by : (b : Bool) (x a v : ℕ) → beyond b x a ≡ false → beyond b a v ≡ false → beyond b x v ≡ false
loose_by true x a v e f = let p = ltb-false a x e in let q = ltb-false v a f in le-ltb v x (omega (arith, p, q))
loose_by false x a v e f = let p = ltb-false x a e in let q = ltb-false a v f in le-ltb x v (omega (arith, p, q))

back_by : (b : Bool) (a v : ℕ) → beyond b a v ≡ true → beyond b v a ≡ false
back_by true a v e = let p = ltb-true v a e in le-ltb a v (omega (arith, p))
back_by false a v e = let p = ltb-true a v e in le-ltb v a (omega (arith, p))

module _ (m : Measure) where
  pub not_self : (n : ℕ) → is_beyond m n n ≡ false
  not_self n = self_by (is_least m) n

  pub loose : (x a v : ℕ) → is_beyond m x a ≡ false → is_beyond m a v ≡ false → is_beyond m x v ≡ false
  loose x a v e f = loose_by (is_least m) x a v e f

  pub back : (a v : ℕ) → is_beyond m a v ≡ true → is_beyond m v a ≡ false
  back a v e = back_by (is_least m) a v e

  module _ (bound : ℕ) (marks : List Bool) (k : ℕ) where
    module _ (n e : ℕ) (so : IsExtremeOf m bound marks k n e) where
      -- one more that has a mark and is beyond it
      pub extreme_more : n < 65536 → IsMarked marks k n → is_beyond m e n ≡ true → IsExtremeOf m bound marks k (n + 1) n
      extreme_more few mark past = record {
        one = inr (few, mark);
        kept = loose n e bound (back e n past) so.kept;
        all = λ v less is. within v less is (cases_lt v n);
      }
        where
          within : (v : ℕ) → v < n + 1 → IsMarked marks k v → (v < n) ⊎ (n ≤ v) → is_beyond m n v ≡ false
          within v less is (inl below) = loose n e v (back e n past) (so.all v below is)
          within v less is (inr above) = let same : v ≡ n = omega (arith, less, above) in subst (λ x. is_beyond m n x ≡ false) (sym same) (not_self n)

      -- one more that has none, or is not beyond it
      pub extreme_kept : (IsMarked marks k n → is_beyond m e n ≡ false) → IsExtremeOf m bound marks k (n + 1) e
      extreme_kept nay = record { one = so.one; kept = so.kept; all = λ v less is. within v less is (cases_lt v n) }
        where
          within : (v : ℕ) → v < n + 1 → IsMarked marks k v → (v < n) ⊎ (n ≤ v) → is_beyond m e v ≡ false
          within v less is (inl below) = so.all v below is
          within v less is (inr above) =
              let same : v ≡ n = omega (arith, less, above) in
              subst (λ x. is_beyond m e x ≡ false) (sym same) (nay (subst (λ x. IsMarked marks k x) same is))
