use Rattle.std.proofs.Common.{◌∙◌, ◌-◌, false, IfOk, length, ap, subst, sym}
use Rattle.std.specs.Prelude.{IfSome}
use Rattle.fmp_search.specs.Extents.{WentForEver}
use Rattle.fmp_search.specs.Forever.{SaysForEver}
use Rattle.fmp_search.specs.Meeting.{Meets}
use Rattle.fmp_search_orders.specs.Made.{watched_number}
use Rattle.fmp_search_orders.specs.Watched.{Watched, origin_at, watched_after, watched_passes}
use Rattle.fmp_search_walks.proofs.staying.search_lasting.Goals as goal

-- both begin where all runs do
pub stayed-requires-clause-origin : goal.stayed-requires-clause-origin
stayed-requires-clause-origin g c = ap origin_at (c.in_ok-watchers.ensures.second ∙ sym c.in_ok-watchers.ensures.first)

pub returns-clause-says : goal.returns-clause-says
returns-clause-says g c =
    subst (λ (w : Watched). IfOk c.stayed.result (λ r. SaysForEver watched_after watched_passes (λ w. false) w (length c.args.lasting.now) c.args.bounds.turns.count (c.args.bounds.places.count - 1)
    (g.P.Progress.over c.stayed.new.progress) r.0)) (ap origin_at c.in_ok-watchers.ensures.first)
    c.stayed.ensures.says

pub returns-clause-went : goal.returns-clause-went
returns-clause-went g c =
    subst (λ (w : Watched). IfOk c.stayed.result (λ r. WentForEver watched_after w r.0 r.1)) (ap origin_at c.in_ok-watchers.ensures.first) c.stayed.ensures.went

pub returns-clause-met : goal.returns-clause-met
returns-clause-met g c =
    subst (λ (w : Watched). IfOk c.stayed.result (λ r. IfSome r.2 (Meets watched_after watched_number w c.args.bounds.turns.count 65536))) (ap origin_at c.in_ok-watchers.ensures.first) c.stayed.ensures.met
