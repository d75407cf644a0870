-- The places of all runs of fewer than so many steps.
use Rattle.std.proofs.Common.{◌≡◌, ℕ, ◌+◌, ◌≤◌, Bool, Option, List, length, arith}
use Rattle.fmp_search.specs.declared.nodes.Node.{Node}
use Rattle.fmp_search.specs.Answers.{Explored}
use Rattle.fmp_search.specs.Surveys.{IsPassed}
use Rattle.fmp_search.proofs.Extents.{all_near}

module _ {P : Type 0} (after : P → ℕ → Option P) (wanted : P → Bool) (q : P) where
  -- a layer that was gone through is passed
  pub passed : (nodes : List Node) (n first : ℕ) → Explored after wanted q nodes n first first → IsPassed after q nodes (n + 1) first
  passed nodes n first x = record {
    few = x.few;
    near = λ i lt. let near = x.near i lt in omega (arith, near);
    through = λ steps r lt leads. let got = x.complete steps r (omega (arith, lt)) leads in (got.0, got.1, got.2);
  }

  -- where all places were opened, so are all runs
  pub all_passed : (nodes : List Node) (n first turns : ℕ) → Explored after wanted q nodes n (length nodes + 1) first → first ≡ length nodes + 1 → IsPassed after q nodes n first → n ≤ turns →
      IsPassed after q nodes turns first
  all_passed nodes n first turns x is before le = record {
    few = before.few;
    near = λ i lt. let near = before.near i lt in omega (arith, near, le);
    through = λ steps r lt leads. let got = all_near after q wanted nodes n first x is steps r leads in let low = got.1 in (got.0, omega (arith, low, is), got.2);
  }
