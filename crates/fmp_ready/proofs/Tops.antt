-- The first tasks stay those of the lists.
use Rattle.std.proofs.Common.{◌≡◌, ℕ, zero, suc, ◌+◌, ◌*◌, ◌/◌, ◌<◌, Option, None, Some, List, [], ◌∷◌, map, take, drop, set, replicate, refl, sym, ap, ◌∙◌, arith, ⊎_elim}
use Rattle.std.specs.Prelude.{◌≤◌, slice_index}
use Rattle.std.proofs.lemmas.Bool.{cases_eq}
use Rattle.std.proofs.lemmas.List.{get_or-set_same, get_or-set_other, get_or-drop, get_or-replicate, length-set}
use Rattle.fmp_codes.specs.declared.numbers.Task.{Task}
use Rattle.fmp_codes.proofs.Same.{tasks_same}
use Rattle.fmp_codes.specs.Numbers.{task_number}
use Rattle.fmp_kernel_parts.specs.Lists as links
use Rattle.fmp_kernel_parts.specs.Tasks.{task_at}
use Rattle.fmp_ready.specs.Queues.{queue_at, first_of, top_at}
use Rattle.fmp_ready.specs.Kept.{tasks_of, AreTops}
use Rattle.fmp_ready.proofs.Tasks.{list_at-tasks_of}

-- lists that are the same up to a place have the same first task there
none_first : (n : ℕ) (r : List (List Task)) → ((j : ℕ) → j < n → queue_at r j ≡ []) → first_of (take n r) ≡ None
none_first zero r h = refl
none_first (suc n) [] h = refl
none_first (suc n) ([] ∷ r) h = none_first n r (λ j l. h (suc j) (omega (arith, l)))
none_first (suc n) ((t ∷ ts) ∷ r) h = let bad : t ∷ ts ≡ [] = h 0 (omega arith) in cc

same_first : (n : ℕ) (q r : List (List Task)) → ((j : ℕ) → j < n → queue_at r j ≡ queue_at q j) → first_of (take n r) ≡ first_of (take n q)
same_first zero q r h = refl
same_first (suc n) [] r h = none_first (suc n) r h
same_first (suc n) (x ∷ q) [] h = sym (none_first (suc n) (x ∷ q) (λ j l. sym (h j l)))
same_first (suc n) (x ∷ q) (y ∷ r) h = by x y (h 0 (omega arith)) (same_first n q r (λ j l. h (suc j) (omega (arith, l))))
  where
    by : (a b : List Task) → b ≡ a → first_of (take n r) ≡ first_of (take n q) → first_of (b ∷ take n r) ≡ first_of (a ∷ take n q)
    by [] [] e s = s
    by [] (u ∷ us) e s = cc
    by (t ∷ ts) [] e s = cc
    by (t ∷ ts) (u ∷ us) e s = let same : u ≡ t = cc in ap Some same

top_elsewhere : (q r : List (List ℕ)) (i k : ℕ) → (k ≡ i / 32 → ⊥) → ((j : ℕ) → (j ≡ i → ⊥) → links.list_at r j ≡ links.list_at q j) → top_at (tasks_of r) k ≡ top_at (tasks_of q) k
top_elsewhere q r i k apart others =
    same_first 32 (drop (32 * k) (tasks_of q)) (drop (32 * k) (tasks_of r))
    (λ j l. get_or-drop (32 * k) (tasks_of r) j [] ∙ list_at-tasks_of r (32 * k + j)
    ∙ ap (λ (xs : List ℕ). map task_at xs) (others (32 * k + j) (λ e. apart (omega (arith, e, l))))
    ∙ sym (get_or-drop (32 * k) (tasks_of q) j [] ∙ list_at-tasks_of q (32 * k + j)))

-- where one list changed, its processor's first task is found anew
pub tops_found : (tops : List ℕ) (q r : List (List ℕ)) (i : ℕ) → AreTops tops (tasks_of q) → i < 256 →
    ((j : ℕ) → (j ≡ i → ⊥) → links.list_at r j ≡ links.list_at q j) → AreTops (set tops (i / 32) (task_number (top_at (tasks_of r) (i / 32)))) (tasks_of r)
tops_found tops q r i a h others = let n = task_number (top_at (tasks_of r) (i / 32)) in record {
  count = length-set tops (i / 32) n ∙ a.count;
  each = λ k hk. ⊎_elim
      (λ (e : k ≡ i / 32). ap (λ (m : ℕ). slice_index (set tops (i / 32) n) m) e
      ∙ get_or-set_same tops (i / 32) n 0 (omega (arith, h, a.count))
      ∙ ap (λ (m : ℕ). task_number (top_at (tasks_of r) m)) (sym e))
      (λ (e : k ≡ i / 32 → ⊥). get_or-set_other tops (i / 32) k n 0 e ∙ a.each k hk ∙ ap task_number (sym (top_elsewhere q r i k e others)))
      (cases_eq k (i / 32));
}

pub tops_new : AreTops (replicate 8 0) (tasks_of (replicate 256 []))
tops_new = record {
  count = refl;
  each = λ k h. get_or-replicate 8 k 0 0 h ∙ ap task_number (sym (none_first 32 (drop (32 * k) (tasks_of (replicate 256 [])))
      (λ j l. get_or-drop (32 * k) (tasks_of (replicate 256 [])) j [] ∙ list_at-tasks_of (replicate 256 []) (32 * k + j) ∙ ap (λ (xs : List ℕ). map task_at xs) (nothing 256 (32 * k + j)))));
}
  where
    nothing : (n i : ℕ) → links.list_at (replicate n []) i ≡ []
    nothing zero i = refl
    nothing (suc n) zero = refl
    nothing (suc n) (suc i) = nothing n i

pub number_small : (o : Option Task) → task_number o ≤ 64
number_small None = omega arith
number_small (Some t) = t.most

-- a number from 1 is that of the task that it names
pub number_names : (n : ℕ) (t : Task) (o : Option Task) → t.number ≡ n → (n ≡ 0 → ⊥) → n ≡ task_number o → Some t ≡ o
number_names n t None e some h = absurd (some h)
number_names n t (Some u) e some h = ap Some (tasks_same t u (e ∙ h))
