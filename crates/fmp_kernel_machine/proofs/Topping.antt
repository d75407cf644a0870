-- The kept tops are those of the lists.
use Rattle.std.proofs.Common.{◌≡◌, ℕ, ◌+◌, ◌-◌, ◌<◌, ◌≤◌, Option, None, Some, List, length, map, take, refl, sym, ap, subst, ◌∙◌, arith, ⊎_elim}
use Rattle.std.specs.Prelude.{slice_index}
use Rattle.std.proofs.lemmas.Bool.{cases_lt}
use Rattle.std.proofs.lemmas.List.{get_or_past}
use Rattle.fmp_codes.specs.Numbers.{as_proc, task_number}
use Rattle.fmp_codes.specs.declared.numbers.Task.{Task}
use Rattle.fmp_rules.specs.World.{World, processors_to}
use Rattle.fmp_rules.specs.Ordering.{top}
use Rattle.fmp_rules.specs.Step.{tops}
use Rattle.fmp_ready.specs.Queues.{top_at}
use Rattle.fmp_ready.proofs.Tops.{number_small}
use Rattle.fmp_kernel_order.specs.Queues.{Queues, listed}
use Rattle.fmp_step_words.specs.Numbered.{numbered}
use Rattle.fmp_step_words.proofs.EachProcessor.{numbers-tell}
use Rattle.fmp_step_words.proofs.Numbers.{numbered-task}

numbered-back : (o : Option Task) → numbered (task_number o) ≡ o
numbered-back None = refl
numbered-back (Some t) = numbered-task t

pub small_each : (q : List (List Task)) (xs : List ℕ) → length xs ≡ 8 → ((k : ℕ) → k < 8 → slice_index xs k ≡ task_number (top_at q k)) → (k : ℕ) → slice_index xs k ≤ 64
small_each q xs long each k =
    ⊎_elim (λ (h : k < 8). subst (λ (n : ℕ). n ≤ 64) (sym (each k h)) (number_small (top_at q k)))
    (λ (h : 8 ≤ k). let nothing : slice_index xs k ≡ 0 = get_or_past xs k 0 (omega (arith, h, long)) in omega (arith, nothing)) (cases_lt k 8)

pub tops_reported : (w : World Queues) (xs : List ℕ) (n : ℕ) → n ≡ length w.processors → n ≤ 8 → length xs ≡ 8 →
    ((k : ℕ) → k < 8 → slice_index xs k ≡ task_number (top_at w.order.ready k)) → map numbered (take n xs) ≡ tops listed w
unfolding listed
tops_reported w xs n e few long each =
    numbers-tell (top listed w) xs n (omega (arith, few, long))
    (λ k h.
    let place : k ≡ (as_proc (k + 1)).number - 1 = omega (arith, h, few) in
    ap numbered (each k (omega (arith, h, few))) ∙ numbered-back (top_at w.order.ready k) ∙ ap (λ (i : ℕ). top_at w.order.ready i) place)
    ∙ ap (λ (m : ℕ). map (top listed w) (processors_to m)) e
