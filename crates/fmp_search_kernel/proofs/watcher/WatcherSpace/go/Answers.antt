use Rattle.std.proofs.Common.{◌≡◌, subst}
use Rattle.fmp_search_orders.specs.Watched.{watched, origin_at}
use Rattle.fmp_search_kernel.specs.Walked.{Watching}
use Rattle.fmp_search_kernel.proofs.Watching.{origin_kept}
use Rattle.fmp_search_kernel.proofs.watcher.WatcherSpace.go.Goals as goal

pub returns-clause-origin : goal.returns-clause-origin
returns-clause-origin c =
    let s = c.self.inside in
    let v = c.go.new.self.place in
    subst (λ (x : Watching). origin_at (watched s.lasting.now v) ≡ origin_at x.place) c.self.view_is (origin_kept s.lasting.now s.walker.place v c.go.ensures.origin)
