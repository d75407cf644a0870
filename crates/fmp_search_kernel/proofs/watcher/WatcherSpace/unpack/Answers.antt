use Rattle.std.proofs.Common.{◌≡◌, sym, subst}
use Rattle.std.specs.Prelude.{IfOk}
use Rattle.std.proofs.lemmas.Result.{IfOk-weaker}
use Rattle.fmp_search_orders.specs.Watched.{origin_at, watched, Watched}
use Rattle.fmp_search_kernel.specs.Keys.{IsPlaceKey}
use Rattle.fmp_search_kernel.specs.Walked.{Watching}
use Rattle.fmp_search_kernel.proofs.Watching.{key_watched, origin_kept, place_watched}
use Rattle.fmp_search_kernel.proofs.watcher.WatcherSpace.unpack.Goals as goal

pub unpack-requires : goal.unpack-requires
unpack-requires c =
    let s = c.self.inside in
    let v = c.requires.0 in
    (v.place, key_watched s.lasting.now s.walker.place c.self.invariant.0 c.args.tables.now c.args.key v (subst (λ (x : Watching). IsPlaceKey (origin_at x.place).place c.args.tables.now c.args.key v.place) (sym c.self.view_is) c.requires.1.1))

pub returns-clause-there : goal.returns-clause-there
returns-clause-there c =
    let s = c.self.inside in
    let t = c.args.tables.now in
    let key = c.args.key in
    let v = c.unpack.new.self.place in
    subst (λ (x : Watching). IfOk c.unpack.result (λ done. (p : Watched) → (p.lasting ≡ x.place.lasting) × IsPlaceKey (origin_at x.place).place t key p.place → watched s.lasting.now v ≡ p)) c.self.view_is
    (IfOk-weaker c.unpack.result _ _ (λ done there. λ p g. sym (place_watched s.lasting.now s.walker.place c.self.invariant.0 p v g.0 (sym (there p.place (key_watched s.lasting.now s.walker.place c.self.invariant.0 t key p g.1)))))
    c.unpack.ensures.there)

pub returns-clause-origin : goal.returns-clause-origin
returns-clause-origin c =
    let s = c.self.inside in
    let v = c.unpack.new.self.place in
    subst (λ (x : Watching). origin_at (watched s.lasting.now v) ≡ origin_at x.place) c.self.view_is (origin_kept s.lasting.now s.walker.place v c.unpack.ensures.origin)
