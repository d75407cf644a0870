-- The parts of what was read.
use Rattle.std.proofs.Common.{◌≡◌, Bool, true, false, cond, Some, None, Result, Ok, Err, List, [], ◌∷◌, ◌++◌, refl}
use Rattle.fmp_bytes.specs.Results.{◌>>=◌}
use Rattle.fmp_bytes.proofs.Parsed.{bind_parts}
use Rattle.fmp_config_statements.specs.Faults.{Fault}
use Rattle.fmp_config_statements.specs.Folds.{each}

pub none_is : {A : Type 0} (y : A) → None ≡ Some y → ⊥
none_is y e = absurd cc

pub ok_is : {A E : Type 0} (x y : A) → ◌≡◌ {A = Result A E} (Ok x) (Ok y) → x ≡ y
ok_is x y e = cc

pub err_is : {A E : Type 0} (fault : E) (y : A) → ◌≡◌ {A = Result A E} (Err fault) (Ok y) → ⊥
err_is fault y e = absurd cc

pub refused : {A E : Type 0} (t : Bool) (r : Result A E) (fault : E) (y : A) → cond t (Err fault) r ≡ Ok y → (t ≡ false) × (r ≡ Ok y)
refused true r fault y e = absurd cc
refused false r fault y e = (refl, e)

-- ---- one after the other

module _ {S A : Type 0} (step : S → A → Result S Fault) where
  pub each-cons : (s next : S) (x : A) (xs : List A) → step s x ≡ Ok next → each step s (x ∷ xs) ≡ each step next xs
  unfolding each
  each-cons s next x xs e = rw e refl

  pub each_parts : (s last : S) (x : A) (xs : List A) → each step s (x ∷ xs) ≡ Ok last → (next : S) × (step s x ≡ Ok next) × (each step next xs ≡ Ok last)
  unfolding each
  each_parts s last x xs e = bind_parts (step s x) (λ next. each step next xs) last e

  pub each-none : (s : S) → each step s [] ≡ Ok s
  unfolding each
  each-none s = refl

  onward : (r : Result S Fault) (xs ys : List A) → ((next : S) → each step next (xs ++ ys) ≡ (each step next xs >>= λ more. each step more ys)) → (r >>= λ next. each step next (xs ++ ys)) ≡ ((r >>= λ next. each step next xs) >>= λ more. each step more ys)
  onward (Ok next) xs ys h = h next
  onward (Err fault) xs ys h = refl

  pub each-append : (s : S) (xs ys : List A) → each step s (xs ++ ys) ≡ (each step s xs >>= λ next. each step next ys)
  unfolding each
  each-append s [] ys = refl
  each-append s (x ∷ xs) ys = onward (step s x) xs ys (λ next. each-append next xs ys)
