-- One event more.
use Rattle.std.proofs.Common.{◌≡◌, ◌∙◌, ◌++◌, ◌∷◌, [], List, ap, subst, sym}
use Rattle.fmp_codes.specs.declared.records.Event.{Event}
use Rattle.fmp_codes.specs.declared.records.Record.{Record}
use Rattle.fmp_setup.specs.Setup.{Setup}
use Rattle.fmp_kernel_order.specs.Queues.{Queues}
use Rattle.fmp_law_lists.specs.Stands.{Stands}
use Rattle.fmp_rules.specs.Arrivals.{State, numbered}
use Rattle.fmp_rules.specs.Boot.{booted}
use Rattle.fmp_rules.specs.Step.{answers, replay, step}
use Rattle.fmp_rules.specs.World.{World}
use Rattle.fmp_rules.proofs.Replays.{answers_more, replay_more}
use Rattle.fmp_search_shrink.specs.Runners.{made_by, made_in}
use Rattle.fmp_search_shrink.proofs.Making.{made_in-more}

module _ (c : Setup) (given : List Event) (e : Event) where
  abbrev m : State
  m = replay numbered (booted c) given

  -- the kernel after it
  pub stands_after : (k : World Queues) → Stands k (step numbered m e).0 → Stands k (replay numbered (booted c) (given ++ e ∷ []))
  stands_after k stands = subst (Stands k) (sym (replay_more (booted c) given e)) stands

  -- the calls of its answer come after those before it
  pub made_after : made_in (answers numbered (booted c) (given ++ e ∷ [])) ≡ made_in (answers numbered (booted c) given) ++ made_by (step numbered m e).1.runner (step numbered m e).1.event
  made_after = ap (λ (rs : List Record). made_in rs) (answers_more (booted c) given e) ∙ made_in-more (answers numbered (booted c) given) (step numbered m e).1
