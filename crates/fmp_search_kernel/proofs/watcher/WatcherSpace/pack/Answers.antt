use Rattle.std.proofs.Common.{◌≡◌, subst}
use Rattle.std.specs.Prelude.{IfOk}
use Rattle.std.proofs.lemmas.Result.{IfOk-weaker}
use Rattle.fmp_interned.specs.Keys.{AreKeptBy, IsKeyOf}
use Rattle.fmp_search_orders.specs.Watched.{origin_at, Watched}
use Rattle.fmp_search_kernel.specs.Keys.{IsPlaceKey}
use Rattle.fmp_search_kernel.specs.Walked.{Watching}
use Rattle.fmp_search_kernel.proofs.Watching.{is_key_watched, kept_watched}
use Rattle.fmp_search_kernel.proofs.watcher.WatcherSpace.pack.Goals as goal

pub returns-clause-key : goal.returns-clause-key
returns-clause-key c =
    let s = c.self.inside in
    let new = c.pack.new.tables in
    subst (λ (x : Watching). IfOk c.pack.result (λ k. IsKeyOf (λ j (v : Watched). (v.lasting ≡ x.place.lasting) × IsPlaceKey (origin_at x.place).place new j v.place) x.place k)) c.self.view_is
    (IfOk-weaker c.pack.result _ _ (λ k key. is_key_watched s.lasting.now s.walker.place c.self.invariant.0 new k key) c.pack.ensures.key)

pub returns-clause-kept : goal.returns-clause-kept
returns-clause-kept c =
    let s = c.self.inside in
    let old = c.args.tables.now in
    let new = c.pack.new.tables in
    subst
    (λ (x : Watching). AreKeptBy (λ j (v : Watched). (v.lasting ≡ x.place.lasting) × IsPlaceKey (origin_at x.place).place old j v.place) (λ j (v : Watched). (v.lasting ≡ x.place.lasting) × IsPlaceKey (origin_at x.place).place new j v.place))
    c.self.view_is (kept_watched s.lasting.now s.walker.place c.self.invariant.0 old new c.pack.ensures.kept)
