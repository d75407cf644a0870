-- A step tells its own event, whatever keeps the order of the tasks.
use Rattle.std.proofs.Common.{◌≡◌, ◌||◌, refl}
use Rattle.std.specs.Prelude.{is_some}
use Rattle.std.proofs.lemmas.Bool.{cond_both}
use Rattle.fmp_codes.specs.declared.records.Event.{Event}
use Rattle.fmp_codes.specs.declared.records.Event.TheVariants as events
use Rattle.fmp_codes.specs.declared.records.Record.{Record}
use Rattle.fmp_setup.specs.Setup.{has_time}
use Rattle.fmp_rules.specs.Ordering.{Ordering}
use Rattle.fmp_rules.specs.World.{World, processor, handler, runner_of, is_held}
use Rattle.fmp_rules.specs.Step.{settled, before_event, unchanged, step}

module _ {Q : Type 0} (k : Ordering Q) (w : World Q) where
  pub report_event : (e : Event) → (step k w e).1.event ≡ e
  unfolding settled before_event unchanged
  report_event (events.Call p c) = cond_both (is_some (runner_of w p)) _ _ (λ (x : World Q × Record). x.1.event ≡ events.Call p c) (λ _. refl) (λ _. refl)
  report_event (events.Tick p) =
      cond_both (has_time w.timer p) _ _ (λ (x : World Q × Record). x.1.event ≡ events.Tick p)
      (λ _. cond_both ((processor w p).locked || is_some (handler w p)) _ _ (λ (x : World Q × Record). x.1.event ≡ events.Tick p) (λ _. refl) (λ _. refl)) (λ _. refl)
  report_event (events.Ipi p) = cond_both (is_held w p) _ _ (λ (x : World Q × Record). x.1.event ≡ events.Ipi p) (λ _. refl) (λ _. refl)
