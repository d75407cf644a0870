-- Numbers that are told apart, and one task more.
use Rattle.std.proofs.Common.{◌≡◌, ℕ, ◌+◌, ◌<◌, cond, min, add-one, refl, arith}
use Rattle.fmp_codes.specs.Numbers.{as_task}
use Rattle.fmp_rules.specs.World.{World}
use Rattle.fmp_run_most.specs.declared.figure.Figure.{Figure}
use Rattle.fmp_run_most.specs.Figures.{counts, tasks_to}

pub few_same : (n k : ℕ) → n ≡ k → n < 65536 → n ≡ min 65535 k
few_same n k is few = omega (arith, is, few)

pub few_cut : (n k : ℕ) → n ≡ min k 65535 → n ≡ min 65535 k
few_cut n k is = omega (arith, is)

module _ {Q : Type 0} (w : World Q) (f : Figure) where
  pub no_task_yet : 0 ≡ tasks_to w f 0
  unfolding tasks_to
  no_task_yet = refl

  pub task_more : (n : ℕ) → tasks_to w f (n + 1) ≡ tasks_to w f n + cond (counts w f (as_task (n + 1))) 1 0
  unfolding tasks_to
  task_more n = rw (add-one) refl
