use Rattle.std.proofs.Common.{◌≡◌, ◌∙◌, ◌-◌, false, None, IfOk, ap, subst, sym}
use Rattle.std.specs.Prelude.{IfSome}
use Rattle.fmp_kernel_order.specs.Queues.{Queues}
use Rattle.fmp_search.specs.Meeting.{IsLeftOpen, Meets}
use Rattle.fmp_search_orders.specs.Places.{Place}
use Rattle.fmp_search_kernel.specs.Walked.{origin_of}
use Rattle.fmp_search_walks.specs.Metered.{metered, metered_after, metered_number}
use Rattle.fmp_search_walks.proofs.noting.search_numbers.Goals as goal

-- both begin where all runs do
pub meet-requires-clause-origin : goal.meet-requires-clause-origin
meet-requires-clause-origin g c = ap (λ (w : Place). metered (g.N.Meter.number c.args.meter.now Queues) (origin_of w)) (c.in_ok-walker.ensures.second ∙ sym c.in_ok-walker.ensures.first)

pub returns-clause-met : goal.returns-clause-met
returns-clause-met g c =
    let f = g.N.Meter.number c.args.meter.now Queues in
    subst (λ (w : Place). IfOk c.meet.result (λ o. IfSome o (Meets metered_after metered_number (metered f w) c.args.bounds.turns.count c.args.count))) (ap origin_of c.in_ok-walker.ensures.first) c.meet.ensures.meets

pub returns-clause-none : goal.returns-clause-none
returns-clause-none g c =
    let f = g.N.Meter.number c.args.meter.now Queues in
    subst (λ (w : Place). IfOk c.meet.result (λ o. o ≡ None → IsLeftOpen metered_after (λ w. false) (metered f w) c.args.bounds.turns.count (c.args.bounds.places.count - 1) (g.P.Progress.over c.meet.new.progress)))
    (ap origin_of c.in_ok-walker.ensures.first) c.meet.ensures.none
