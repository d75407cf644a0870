use Rattle.std.proofs.Common.{◌∙◌, ◌≡◌, ◌-◌, false, None, IfOk, ap, subst, sym}
use Rattle.std.specs.Prelude.{IfSome}
use Rattle.fmp_search.specs.Meeting.{IsLeftOpen, Meets}
use Rattle.fmp_search_orders.specs.Made.{watched_number}
use Rattle.fmp_search_orders.specs.Watched.{Watched, origin_at, watched_after}
use Rattle.fmp_search_walks.proofs.staying.search_calls.Goals as goal

-- both begin where all runs do
pub meet-requires-clause-origin : goal.meet-requires-clause-origin
meet-requires-clause-origin g c = ap origin_at (c.in_ok-watchers.ensures.second ∙ sym c.in_ok-watchers.ensures.first)

pub returns-clause-met : goal.returns-clause-met
returns-clause-met g c =
    subst (λ (w : Watched). IfOk c.meet.result (λ o. IfSome o (Meets watched_after watched_number w c.args.bounds.turns.count 65536))) (ap origin_at c.in_ok-watchers.ensures.first) c.meet.ensures.meets

pub returns-clause-none : goal.returns-clause-none
returns-clause-none g c =
    subst (λ (w : Watched). IfOk c.meet.result (λ o. o ≡ None → IsLeftOpen watched_after (λ w. false) w c.args.bounds.turns.count (c.args.bounds.places.count - 1) (g.P.Progress.over c.meet.new.progress)))
    (ap origin_at c.in_ok-watchers.ensures.first) c.meet.ensures.none
