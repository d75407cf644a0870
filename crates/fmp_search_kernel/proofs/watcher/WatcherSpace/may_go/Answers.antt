use Rattle.std.proofs.Common.{◌≡◌, ◌∙◌, None, subst, sym}
use Rattle.fmp_search_orders.specs.Watched.{watched_after}
use Rattle.fmp_search_kernel.specs.Walked.{Watching}
use Rattle.fmp_search_kernel.proofs.Watching.{marked_none, none_watched}
use Rattle.fmp_search_kernel.proofs.watcher.WatcherSpace.may_go.Goals as goal

-- no question is asked, so no step marks its event
pub returns-else-not-is_marked : goal.returns-else-not-is_marked
returns-else-not-is_marked c = λ _.
    let s = c.self.inside in
    let none = marked_none s.walker.place c.self.invariant.0 c.args.step (sym c.is_marked.ensures ∙ c.if-not-is_marked.false) in
    subst (λ (w : Watching). watched_after w.place c.args.step ≡ None) c.self.view_is (none_watched s.lasting.now s.walker.place c.args.step none)
