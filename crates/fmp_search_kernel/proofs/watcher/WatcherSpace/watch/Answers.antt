use Rattle.std.proofs.Common.{◌≡◌, subst}
use Rattle.std.specs.Prelude.{IfOk}
use Rattle.std.proofs.lemmas.Result.{IfOk-weaker}
use Rattle.fmp_search.specs.Runs.{told_of, Watches}
use Rattle.fmp_search_orders.specs.Made.{watched_number}
use Rattle.fmp_search_orders.specs.Watched.{origin_at, watched, watched_after, watched_passes}
use Rattle.fmp_search_kernel.specs.Walked.{Watching}
use Rattle.fmp_search_kernel.proofs.Watching.{origin_kept, watches_watched}
use Rattle.fmp_search_kernel.proofs.watcher.WatcherSpace.watch.Goals as goal

pub returns-clause-goes : goal.returns-clause-goes
returns-clause-goes c =
    let s = c.self.inside in
    let step = c.args.step in
    let w = s.walker.place in
    let v = c.watch_for.new.self.place in
    subst (λ (x : Watching). IfOk c.watch_for.result (λ report. Watches (watched_after x.place step) (told_of watched_passes watched_number x.place step) report (watched s.lasting.now v))) c.self.view_is
    (IfOk-weaker c.watch_for.result _ _ (λ report is. watches_watched s.lasting.now w v step _ report is) c.watch_for.ensures.goes)

pub returns-clause-origin : goal.returns-clause-origin
returns-clause-origin c =
    let s = c.self.inside in
    let v = c.watch_for.new.self.place in
    subst (λ (x : Watching). origin_at (watched s.lasting.now v) ≡ origin_at x.place) c.self.view_is (origin_kept s.lasting.now s.walker.place v c.watch_for.ensures.origin)
