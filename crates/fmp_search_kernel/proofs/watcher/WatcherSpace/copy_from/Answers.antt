use Rattle.std.proofs.Common.{◌≡◌, ◌∙◌, ap, sym, subst}
use Rattle.fmp_search_orders.specs.Watched.{watched, origin_at}
use Rattle.fmp_search_kernel.specs.Walked.{Watching}
use Rattle.fmp_search_kernel.proofs.Watching.{origin_kept, same_origin}
use Rattle.fmp_search_kernel.proofs.watcher.WatcherSpace.copy_from.Goals as goal

-- the runs of both begin at the same place
pub copy_from-requires : goal.copy_from-requires
copy_from-requires c =
    let s = c.self.inside in
    let o = c.other.inside in
    same_origin o.lasting.now s.lasting.now o.walker.place s.walker.place c.other.invariant.0 c.self.invariant.0
    (ap (λ (x : Watching). origin_at x.place) c.other.view_is ∙ c.requires ∙ sym (ap (λ (x : Watching). origin_at x.place) c.self.view_is))

pub returns-clause-origin : goal.returns-clause-origin
returns-clause-origin c =
    let s = c.self.inside in
    let v = c.copy_from.new.self.place in
    subst (λ (x : Watching). origin_at (watched s.lasting.now v) ≡ origin_at x.place) c.self.view_is (origin_kept s.lasting.now s.walker.place v c.copy_from.ensures.origin)
