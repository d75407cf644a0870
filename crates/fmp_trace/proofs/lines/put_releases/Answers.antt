use Rattle.std.proofs.Common.{sym, ◌∙◌, vec_capacity, arith}
use Rattle.fmp_trace.proofs.Releases.{one_more}
use Rattle.fmp_trace.proofs.Room.{front_wanting, releases_next}
use Rattle.fmp_trace.proofs.lines.put_releases.Goals as goal

pub loop-index-preserved : goal.loop-index-preserved
loop-index-preserved c = record {
  made =
      rw c.in_ok-put_release.ensures.ok
      (one_more c.args.names.now c.args.releases.now c.loop-index.index c.unwrap.result c.loop-index.out.items _ (sym c.get.ensures ∙ c.unwrap.ensures) c.loop-index.invariant.made);
  room = omega (arith, c.loop-index.invariant.room, c.in_ok-put_release.ensures.room);
}

pub returns-in_err-put_release-clause-full : goal.returns-in_err-put_release-clause-full
returns-in_err-put_release-clause-full c =
    front_wanting c.args.out.now.items _ c.loop-index.out.items c.loop-index.invariant.made
    (releases_next c.args.names.now c.args.releases.now c.loop-index.index c.unwrap.result (sym c.get.ensures ∙ c.unwrap.ensures)) _ _ (vec_capacity c.loop-index.out) c.loop-index.invariant.room c.in_err-put_release.ensures.full
