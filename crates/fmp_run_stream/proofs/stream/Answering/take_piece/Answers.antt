use Rattle.std.proofs.Common.{◌≡◌, ◌∙◌, ◌<◌, ◌++◌, length, take, true, rules, refl, inr}
use Rattle.fmp_run_devices.proofs.Handed.{handed_front, moved_by_read}
use Rattle.fmp_run_stream.proofs.Streaming.{piece_wanting, prefix_out, stream_close, stream_push}
use Rattle.fmp_run_stream.proofs.stream.Answering.take_piece.Goals as goal

pub returns-in-Err-clause-leaves : goal.returns-in-Err-clause-leaves
returns-in-Err-clause-leaves g c = λ all rest is d config text whole old written before. prefix_out d true config text whole old c.args.self.now written _ refl before.report

pub returns-in-Ok-eq0-clause-streams : goal.returns-in-Ok-eq0-clause-streams
returns-in-Ok-eq0-clause-streams g c = λ all rest is none d report config text whole old written before.
    let zero : c.in-Ok-eq0.field-0 ≡ 0 = search rules in
    let hands = rw c.in-Ok-eq0.is at c.read.ensures.hands in
    let bytes = rw zero at (handed_front _ _ _ all rest hands.0 is) in
    let end = none (search rules) in
    stream_close d report config text whole old c.args.self.now _ written _ _ before c.requires.unended (bytes ∙ end) end refl c.close.ensures refl refl refl

pub returns-in-Ok-push-clause-streams : goal.returns-in-Ok-push-clause-streams
returns-in-Ok-push-clause-streams g c = λ all rest is none d report config text whole old written before.
    let bytes = handed_front _ _ _ all rest (rw c.in-Ok.is at c.read.ensures.hands).0 is in
    stream_push d report config text whole old c.args.self.now _ _ written _ _ before c.requires.unended c.requires.wanting.all_taken bytes refl (c.in-Ok-push.ensures.ok).1 refl refl refl

pub returns-in-Err-push-clause-leaves : goal.returns-in-Err-push-clause-leaves
returns-in-Err-push-clause-leaves g c = λ all rest is d config text whole old written before.
    let memory = rw c.in-Err-push.is at (c.push.ensures.memory c.requires.wanting.fine) in
    let full = c.in-Err-push.ensures.full c.requires.wanting.fine in
    inr (rw memory (refl, refl), (prefix_out d true config text whole old c.args.self.now written _ refl before.report, piece_wanting d true config text whole old c.args.self.now written _ _ before c.requires.wanting (search rules) full))

pub returns-in-Err-clause-moves : goal.returns-in-Err-clause-moves
returns-in-Err-clause-moves g c = moved_by_read _ _ _ _ _ _ _ c.read.ensures.bytes c.read.ensures.hands
