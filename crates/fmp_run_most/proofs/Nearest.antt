-- Orders of fewer lines, and then of a few more, until the room for places does not do.
use Rattle.std.proofs.Common.{◌≡◌, ℕ, ◌+◌, ◌/◌, ◌<◌, ◌≤◌, Bool, true, false, cond, List, subst, arith}
use Rattle.fmp_setup.specs.Setup.{Setup}
use Rattle.fmp_text_scripts.specs.Scripts.{Steps}
use Rattle.fmp_search_orders.specs.declared.rules.Rules.{Rules}
use Rattle.fmp_search_orders.specs.Unknown.{IsNotKnown}
use Rattle.fmp_run_most.specs.declared.figure.Figure.{Figure}
use Rattle.fmp_run_most.specs.declared.settling.Reach.{Reach}
use Rattle.fmp_run_most.specs.declared.settling.Reach.TheVariants.{Whole, Within, Part}
use Rattle.fmp_run_most.specs.Most.{AreMost, IsSettled}
use Rattle.fmp_run_most.proofs.Ordered.{most_nearer, most_within}

-- all orders, or all of so many lines, are not some
pub of_all : (whole : Bool) (reach : Reach) → reach ≡ cond whole Whole Within → reach ≡ Part → ⊥
of_all true reach is part = cc
of_all false reach is part = cc

module _ (c : Setup) (scripts : List Steps) (rules : Rules) (turns : ℕ) (figures : List Figure) where
  -- what is known is known of some orders, and of all those of so many lines, if there is a line
  pub record Gone (best : List ℕ) (lines : ℕ) (reach : Reach) : Type 0 where
    pub part : AreMost c scripts rules turns Part figures best
    pub all : 0 < lines → AreMost c scripts rules lines reach figures best
    pub known : 0 < lines → reach ≡ Part → ⊥
    pub few : lines ≤ turns

  pub gone_first : (best : List ℕ) → AreMost c scripts rules turns Part figures best → Gone best 0 Part
  gone_first best part = record { part = part; all = λ some. absurd (omega (arith, some)); known = λ some. absurd (omega (arith, some)); few = omega arith }

  pub gone_more : (best : List ℕ) (lines : ℕ) (reach : Reach) → lines ≤ turns → AreMost c scripts rules lines reach figures best → (reach ≡ Part → ⊥) → Gone best lines reach
  gone_more best lines reach few most known =
      record { part = most_nearer c scripts rules lines turns few figures best reach most; all = λ some. most; known = λ some. known; few = few }

  module _ (room : ℕ) (over : Bool) (best : List ℕ) (lines : ℕ) (reach : Reach) (gone : Gone best lines reach) where
    -- more is not known of orders of a few lines more
    pub gone_part : (next : ℕ) → lines < next → next ≤ lines + 1 + lines / 4 → next ≤ turns → IsNotKnown c scripts rules next room over → IsSettled c scripts rules turns room over Part figures best
    gone_part next more near asked stopped = record {
      most = gone.part;
      part = λ is. record {
        lines = lines;
        most = λ some. most_within c scripts rules lines turns gone.few figures best reach (gone.known some) (gone.all some);
        next = next;
        more = more;
        near = near;
        asked = asked;
        stopped = stopped;
      };
    }

    -- or as many were gone through as were asked for
    pub gone_all : 1 ≤ turns → turns ≤ lines → IsSettled c scripts rules turns room over reach figures best
    gone_all some all =
        let few = gone.few in
        let there : 0 < lines = omega (arith, some, all) in
        let same : lines ≡ turns = omega (arith, all, few) in
        record { most = subst (λ n. AreMost c scripts rules n reach figures best) same (gone.all there); part = λ is. absurd (gone.known there is) }
