-- Tasks in turn are the tasks in order.
use Rattle.std.proofs.Common.{◌≡◌, ◌∙◌, ℕ, zero, suc, Bool, true, false, List, [], ◌∷◌, length, cond, refl, sym, ap}
use Rattle.std.specs.Prelude.{filter, if◌then◌else◌}
use Rattle.fmp_codes.specs.Numbers.{as_task}
use Rattle.fmp_codes.specs.declared.numbers.Task.{Task}
use Rattle.fmp_rules.specs.Arrivals.{inserted, inserted_if, in_order}
use Rattle.fmp_law_balance.specs.Turns.{tasks_down_from, chosen, turns, in_turn}

module _ (before : Task → Task → Bool) where
  -- put in one after the other, from the last one on
  abbrev sorted : List Task → List Task
  sorted [] = []
  sorted (t ∷ ts) = inserted before t (sorted ts)

  abbrev either : Bool → Task × List Task → Task × List Task → Task × List Task
  either b x y = if b then x else y

  -- the one that is chosen stands first, and the others after it as they would without it
  chosen_first : (t : Task) (ts : List Task) → sorted (t ∷ ts) ≡ (chosen before t ts).0 ∷ sorted (chosen before t ts).1
  chosen_first t [] = refl
  chosen_first t (u ∷ us) =
      let x = chosen before u us in
      let others : sorted (u ∷ us) ≡ x.0 ∷ sorted x.1 = chosen_first u us in
      ap (λ vs. inserted before t vs) others
      ∙ elim (before t x.0) as (λ b. (if b then t ∷ x.0 ∷ sorted x.1 else x.0 ∷ inserted before t (sorted x.1))
      ≡ (either b (t, u ∷ us) (x.0, t ∷ x.1)).0 ∷ sorted (either b (t, u ∷ us) (x.0, t ∷ x.1)).1)
      [ true ↦ ap (λ vs. t ∷ vs) (sym others) | false ↦ refl ]

  others_left : (t : Task) (ts : List Task) → length (chosen before t ts).1 ≡ length ts
  others_left t [] = refl
  others_left t (u ∷ us) =
      let x = chosen before u us in
      elim (before t x.0) as (λ b. length (either b (t, u ∷ us) (x.0, t ∷ x.1)).1 ≡ suc (length us))
      [ true ↦ refl | false ↦ ap suc (others_left u us) ]

  turns_sorted : (n : ℕ) (ts : List Task) → length ts ≡ n → turns before n ts ≡ sorted ts
  turns_sorted zero [] e = refl
  turns_sorted zero (t ∷ ts) e = cc
  turns_sorted (suc n) [] e = refl
  turns_sorted (suc n) (t ∷ ts) e =
      let x = chosen before t ts in
      let fewer : length ts ≡ n = cc in
      ap (λ vs. x.0 ∷ vs) (turns_sorted n x.1 (others_left t ts ∙ fewer)) ∙ sym (chosen_first t ts)

  order_sorted : (qualifies : Task → Bool) (n : ℕ) → in_order qualifies before n ≡ sorted (filter qualifies (tasks_down_from n))
  order_sorted qualifies zero = refl
  order_sorted qualifies (suc n) =
      let t : Task = as_task (suc n) in
      let ts = filter qualifies (tasks_down_from n) in
      ap (λ vs. inserted_if (qualifies t) before t vs) (order_sorted qualifies n)
      ∙ elim (qualifies t) as (λ b. inserted_if b before t (sorted ts) ≡ sorted (cond b (t ∷ ts) ts)) [ true ↦ refl | false ↦ refl ]

pub turns_ordered : (qualifies : Task → Bool) (before : Task → Task → Bool) (n : ℕ) → in_turn qualifies before n ≡ in_order qualifies before n
turns_ordered qualifies before n =
    turns_sorted before (length (filter qualifies (tasks_down_from n))) (filter qualifies (tasks_down_from n)) refl ∙ sym (order_sorted before qualifies n)
