use Rattle.std.proofs.Common.{◌∙◌, sym, arith}
use Rattle.fmp_smp_histories.proofs.Released.{release_more, none_past}
use Rattle.fmp_smp_histories.proofs.positions.release_each.Goals.{in-Some, in_default}
use Rattle.fmp_smp_histories.proofs.positions.release_each.Goals as goal

pub loop-at-preserved : goal.loop-at-preserved
loop-at-preserved c =
    elim c.match-get.branch [
      | in-Some w ↦
          rw (w.positions-is, w.release.ensures)
          (release_more c.args.config.now c.args.scripts.now _ c.loop-at.positions c.args.made.now.releases c.loop-at.at c.loop-at.invariant w.in-Some.ended (sym c.get.ensures ∙ w.in-Some.is))
      | in_default w ↦ absurd (omega (arith, none_past c.args.made.now.releases c.loop-at.at (sym c.get.ensures ∙ w.in_default.is)))
    ]
