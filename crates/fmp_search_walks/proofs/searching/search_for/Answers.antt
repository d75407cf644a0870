use Rattle.std.proofs.Common.{◌∙◌, ◌-◌, IfOk, ap, subst, sym}
use Rattle.std.specs.Prelude.{IfSome}
use Rattle.fmp_search.specs.Answers.{Says}
use Rattle.fmp_search.specs.Extents.{Went}
use Rattle.fmp_search.specs.Meeting.{Meets}
use Rattle.fmp_search_orders.specs.Laws.{is_seen}
use Rattle.fmp_search_orders.specs.Made.{number_at}
use Rattle.fmp_search_orders.specs.Places.{Place, after}
use Rattle.fmp_search_kernel.specs.Walked.{origin_of}
use Rattle.fmp_search_walks.proofs.searching.search_for.Goals as goal

-- both begin where all runs do
pub explored-requires : goal.explored-requires
explored-requires g c = record { origin = ap origin_of (c.in_ok-walkers.ensures.second ∙ sym c.in_ok-walkers.ensures.first) }

pub returns-clause-says : goal.returns-clause-says
returns-clause-says g c =
    subst (λ (w : Place). IfOk c.explored.result (λ r. Says after is_seen w c.args.bounds.turns.count (c.args.bounds.places.count - 1) r.0)) (ap origin_of c.in_ok-walkers.ensures.first) c.explored.ensures.says

pub returns-clause-went : goal.returns-clause-went
returns-clause-went g c = subst (λ (w : Place). IfOk c.explored.result (λ r. Went after w r.0 r.1)) (ap origin_of c.in_ok-walkers.ensures.first) c.explored.ensures.went

pub returns-clause-met : goal.returns-clause-met
returns-clause-met g c =
    subst (λ (w : Place). IfOk c.explored.result (λ r. IfSome r.2 (Meets after number_at w c.args.bounds.turns.count 65536))) (ap origin_of c.in_ok-walkers.ensures.first) c.explored.ensures.met
