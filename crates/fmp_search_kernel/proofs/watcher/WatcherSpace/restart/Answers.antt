use Rattle.std.proofs.Common.{◌≡◌, ◌∙◌, ap, subst}
use Rattle.std.proofs.lemmas.Result.{IfOk-weaker}
use Rattle.fmp_search_orders.specs.Watched.{watched, origin_at}
use Rattle.fmp_search_kernel.specs.Walked.{Watching}
use Rattle.fmp_search_kernel.proofs.Watching.{origin_kept, origin_watched}
use Rattle.fmp_search_kernel.proofs.watcher.WatcherSpace.restart.Goals as goal

pub returns-clause-there : goal.returns-clause-there
returns-clause-there c =
    let s = c.self.inside in
    let w = s.walker.place in
    let v = c.restart.new.self.place in
    IfOk-weaker c.restart.result _ _ (λ done there. subst (λ (x : Watching). watched s.lasting.now v ≡ origin_at x.place) c.self.view_is (ap (watched s.lasting.now) there ∙ origin_watched s.lasting.now w c.self.invariant.0))
    c.restart.ensures.there

pub returns-clause-origin : goal.returns-clause-origin
returns-clause-origin c =
    let s = c.self.inside in
    let v = c.restart.new.self.place in
    subst (λ (x : Watching). origin_at (watched s.lasting.now v) ≡ origin_at x.place) c.self.view_is (origin_kept s.lasting.now s.walker.place v c.restart.ensures.origin)
