-- The parts of the headline, of one state.
use Rattle.std.proofs.Common.{◌≡◌, ◌==◌, Bool, true, false, ◌&&◌, sym, ◌∙◌, subst, Option, Some, ⊎_elim}
use Rattle.std.specs.Prelude.{is_none}
use Rattle.std.proofs.lemmas.Bool.{and_parts, eqb-true}
use Rattle.fmp_codes.specs.declared.numbers.Proc.{Proc}
use Rattle.fmp_codes.specs.declared.numbers.Task.{Task}
use Rattle.fmp_rules.specs.World.{processor, is_held, task}
use Rattle.fmp_rules.specs.Ordering.{is_runnable}
use Rattle.fmp_rules.specs.Arrivals.{State, numbered, is_ready_on}
use Rattle.fmp_law_safety.specs.Safe.{IsNumberOf, Safe}
use Rattle.fmp_law_safety.proofs.First.{top_is_first}
use Rattle.fmp_law_lists.specs.Headline.{IsOn, RunsHighest}

module _ (m : State) (s : Safe numbered m) where
  -- who runs or is ready on a processor is assigned to it
  assigned : (p : Proc) (t : Task) → IsNumberOf m.processors p.number → IsOn m p t → (task m t).assigned.number ≡ p.number
  assigned p t there on =
      ⊎_elim
      (λ (runs : (processor m p).running ≡ Some t).
      eqb-true (task m t).assigned.number p.number
      (and_parts ((task m t).assigned.number == p.number) (is_none (task m t).wait) (and_parts (task m t).active _ ((s.processors p there).runs t runs)).1).0)
      (λ (ready : is_ready_on m.tasks p t ≡ true). eqb-true (task m t).assigned.number p.number (and_parts (is_runnable (task m t)) _ ready).1)
      on

  pub on_one : (p q : Proc) (t : Task) → IsNumberOf m.processors p.number → IsNumberOf m.processors q.number → IsOn m p t → IsOn m q t → p.number ≡ q.number
  on_one p q t here there on also = sym (assigned p t here on) ∙ assigned q t there also

  pub runs_highest : (p : Proc) → IsNumberOf m.processors p.number → (processor m p).latch ≡ false → is_held m p ≡ false → RunsHighest m p
  runs_highest p there latch free = rw ((s.processors p there).dispatched latch free) (top_is_first m p)
