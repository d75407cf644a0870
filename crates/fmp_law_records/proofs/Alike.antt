-- Lists that are made in an order are the same where the same tasks qualify and stand in the same order.
use Rattle.std.proofs.Common.{◌≡◌, ℕ, zero, suc, ◌≤◌, Bool, true, false, List, [], ◌∷◌, arith, refl, ap, ◌∙◌}
use Rattle.std.specs.Prelude.{All, if◌then◌else◌}
use Rattle.std.proofs.lemmas.Bool.{cond_both}
use Rattle.std.proofs.lemmas.List.Elements.{All-nil, All-cons, All-head, All-tail}
use Rattle.fmp_codes.specs.Numbers.{as_task, within}
use Rattle.fmp_codes.specs.declared.numbers.Task.{Task}
use Rattle.fmp_rules.specs.Arrivals.{inserted, inserted_if, in_order}

module _ (most : ℕ) (few : most ≤ 64) (p q : Task → Bool) (a b : Task → Task → Bool) (who : (t : Task) → t.number ≤ most → p t ≡ q t)
    (how : (t u : Task) → t.number ≤ most → u.number ≤ most → p t ≡ true → p u ≡ true → a t u ≡ b t u) where
  abbrev Is : Task → Type 0
  Is u = (p u ≡ true) × (u.number ≤ most)

  inserted_alike : (t : Task) (us : List Task) → Is t → All Is us → inserted a t us ≡ inserted b t us
  inserted_alike t [] this all = refl
  inserted_alike t (u ∷ us) this all =
      let here : Is u = All-head Is u us all in
      ap (λ (x : Bool). if x then t ∷ u ∷ us else u ∷ inserted a t us) (how t u this.1 here.1 this.0 here.0)
      ∙ ap (λ (vs : List Task). if b t u then t ∷ u ∷ us else u ∷ vs) (inserted_alike t us this (All-tail Is u us all))

  inserted_are : (t : Task) (us : List Task) → Is t → All Is us → All Is (inserted a t us)
  inserted_are t [] this all = All-cons Is t [] this all
  inserted_are t (u ∷ us) this all =
      cond_both (a t u) (t ∷ u ∷ us) (u ∷ inserted a t us) (All Is) (λ _. All-cons Is t (u ∷ us) this all)
      (λ _. All-cons Is u (inserted a t us) (All-head Is u us all) (inserted_are t us this (All-tail Is u us all)))

  new_within : (n : ℕ) → suc n ≤ most → (as_task (suc n)).number ≤ most
  new_within n h = let number : within 64 (suc n) ≡ suc n = omega (arith, h, few) in omega (arith, number, h)

  all_are : (n : ℕ) → n ≤ most → All Is (in_order p a n)
  all_are zero h = All-nil Is
  all_are (suc n) h = go (all_are n (omega (arith, h))) (p (as_task (suc n))) refl
    where
      go : All Is (in_order p a n) → (x : Bool) → p (as_task (suc n)) ≡ x → All Is (inserted_if x a (as_task (suc n)) (in_order p a n))
      go all true e = inserted_are (as_task (suc n)) (in_order p a n) (e, new_within n h) all
      go all false e = all

  pub in_order_alike : (n : ℕ) → n ≤ most → in_order p a n ≡ in_order q b n
  in_order_alike zero h = refl
  in_order_alike (suc n) h = go (in_order_alike n (omega (arith, h))) (p (as_task (suc n))) refl ∙ ap (λ x. inserted_if x b (as_task (suc n)) (in_order q b n)) (who (as_task (suc n)) (new_within n h))
    where
      go : in_order p a n ≡ in_order q b n → (x : Bool) → p (as_task (suc n)) ≡ x → inserted_if x a (as_task (suc n)) (in_order p a n) ≡ inserted_if x b (as_task (suc n)) (in_order q b n)
      go same true e = inserted_alike (as_task (suc n)) (in_order p a n) (e, new_within n h) (all_are n (omega (arith, h))) ∙ ap (inserted b (as_task (suc n))) same
      go same false e = same
