-- The events of an order are within the bits of their kinds, where the scripts are.
use Rattle.std.proofs.Common.{List, take, subst}
use Rattle.std.specs.Prelude.{All}
use Rattle.fmp_codes.specs.declared.records.Event.{Event}
use Rattle.fmp_codes.specs.declared.records.Event.TheVariants as event
use Rattle.fmp_codes.specs.declared.records.Record.{Record}
use Rattle.fmp_calls.specs.Arguments.{EventInBits}
use Rattle.fmp_text_scripts.specs.Scripts.{Steps, AreInBits}
use Rattle.fmp_setup.specs.Setup.{Setup}
use Rattle.fmp_rules.specs.World.{runner_of}
use Rattle.fmp_smp_histories.specs.Histories.{events_of, state_after}
use Rattle.fmp_smp_histories.proofs.Bits.{EventFits, next_fits, at_each}
use Rattle.fmp_search_orders.specs.declared.rules.Rules.{Rules}
use Rattle.fmp_search_orders.specs.Orders.{MayHappen, AreInOrder}

module _ (c : Setup) (scripts : List Steps) (rs : Rules) (all : AreInBits scripts) where
  event_fits : (h : List Record) (e : Event) → MayHappen c scripts rs h e → EventInBits e
  event_fits h (event.Call p call) may = subst EventFits may.1.1 (next_fits c scripts all h p (runner_of (state_after c h) p))
  event_fits h (event.Ipi p) may = tt
  event_fits h (event.Tick p) may = tt

  -- every event of an order
  pub order_fits : (h : List Record) → AreInOrder c scripts rs h → All EventInBits (events_of h)
  order_fits h in_order = at_each h (λ k r at. event_fits (take k h) r.event (in_order k r at))
