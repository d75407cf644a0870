use Rattle.std.proofs.Common.{◌∙◌, ap, sym}
use Rattle.fmp_search_orders.specs.Made.{number_reported}
use Rattle.fmp_search_kernel.proofs.Going.{not_watched, watches_gone, watches_made}
use Rattle.fmp_search_kernel.proofs.space.WalkerSpace.watch.Goals as goal

pub returns-in_default-clause-goes : goal.returns-in_default-clause-goes
returns-in_default-clause-goes c = not_watched _ _ c.args.step _ (sym c.event_of.ensures.is ∙ c.in_default.is)

pub go_closing-requires-clause-is : goal.go_closing-requires-clause-is
go_closing-requires-clause-is c = sym c.in-Some.ensures.is

pub returns-then-branch-clause-goes : goal.returns-then-branch-clause-goes
returns-then-branch-clause-goes c =
    watches_made _ _ _ _ _ c.in_ok-go_closing.ensures.goes c.if-branch.true
    (ap (λ n. record { passes = 0; number = n }) (c.number_of-number.ensures ∙ ap (number_reported c.args.self.now.place) c.in-Some.ensures.is))

pub returns-else-branch-clause-goes : goal.returns-else-branch-clause-goes
returns-else-branch-clause-goes c = watches_gone _ _ _ _ c.in_ok-go_closing.ensures.goes c.if-branch.false
