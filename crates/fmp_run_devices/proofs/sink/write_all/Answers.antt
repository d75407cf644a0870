use Rattle.std.proofs.Common.{arith}
use Rattle.std.proofs.lemmas.Grind.{common_steps}
use Rattle.std.proofs.Math.Seq.{take-add}
use Rattle.fmp_run_devices.proofs.Known.{write_known, written_bytes}
use Rattle.fmp_run_devices.proofs.sink.write_all.Goals as goal

pub loop-done-preserved : goal.loop-done-preserved
loop-done-preserved g c =
    let counted = rw c.in-Ok.is at c.write.ensures.count in
    record {
      within = grind (arith, common_steps);
      failures = grind (arith, common_steps, counted);
      known = λ known. write_known _ _ _ _ c.write.ensures.bytes (c.loop-done.invariant.known known);
      written = λ known.
          let wrote = written_bytes _ _ _ (rw c.in-Ok.is at c.write.ensures.bytes) (c.loop-done.invariant.known known) in
          let before = c.loop-done.invariant.written known in
          grind (arith, common_steps, take-add, wrote, before);
    }
