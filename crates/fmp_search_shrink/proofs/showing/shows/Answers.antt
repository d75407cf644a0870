use Rattle.std.proofs.Common.{Bool, subst, sym}
use Rattle.std.specs.Prelude.{◌↔◌, IsTrue}
use Rattle.fmp_rules.specs.Arrivals.{numbered}
use Rattle.fmp_rules.specs.Boot.{booted}
use Rattle.fmp_rules.specs.Step.{answers}
use Rattle.fmp_search_orders.specs.Shown.{Shows}
use Rattle.fmp_search_shrink.proofs.Lasting.{shown_at_some}
use Rattle.fmp_search_shrink.proofs.showing.shows.Goals as goal

pub returns : goal.returns
returns c =
    let config = c.args.config.now in
    let rules = c.args.rules in
    let question = c.args.question.now in
    let events = c.args.events.now in
    subst (λ (b : Bool). IsTrue b ↔ Shows config rules question (answers numbered (booted config) events)) (sym c.is_some.ensures)
    (shown_at_some config rules question events c.in_ok-at.at c.in_ok-at.ensures)
