use Rattle.std.proofs.Common.{sym, ◌∙◌}
use Rattle.fmp_trace.proofs.Releases.{one_more}
use Rattle.fmp_trace.proofs.Room.{releases_next}
use Rattle.fmp_trace_buffer.proofs.Room.{front_room}
use Rattle.fmp_trace_buffer.proofs.line_buffer.LineBuffer.put_releases.Goals as goal

pub put_release-requires : goal.put_release-requires
put_release-requires c =
    front_room c.args.self.now _ c.loop-index.self c.loop-index.invariant
    (releases_next c.args.names.now c.args.releases.now c.loop-index.index c.unwrap.result (sym c.get.ensures ∙ c.unwrap.ensures)) c.requires

pub loop-index-preserved : goal.loop-index-preserved
loop-index-preserved c =
    rw c.put_release.ensures
    (one_more c.args.names.now c.args.releases.now c.loop-index.index c.unwrap.result c.loop-index.self _ (sym c.get.ensures ∙ c.unwrap.ensures) c.loop-index.invariant)
