use Rattle.std.proofs.Common.{◌≡◌, Bool, get_or, sym}
use Rattle.fmp_setup.specs.Setup.{counts_for}
use Rattle.fmp_plain_machine.proofs.Lowered.{one_stays, one_falls}
use Rattle.fmp_plain_machine.proofs.counts.lower.Goals as goal
use Rattle.fmp_plain_machine.proofs.counts.lower.Goals.{then-counts_for, else-counts_for}

pub loop-index-preserved : goal.loop-index-preserved
loop-index-preserved g c =
    let falls : g.row.T.Denot → Bool = λ x. counts_for c.args.timer c.args.p (g.T.Assigned.assigned x) in
    let xs = c.args.items.now in
    let i = c.loop-index.index in
    let item = c.index-items-index.result in
    let test : falls (get_or xs i item) ≡ c.counts_for.result = rw (← c.index-items-index.is, ← c.assigned.ensures, ← c.counts_for.ensures) in
    elim c.if-counts_for.branch [
      | then-counts_for w ↦ rw (w.counts-is, w.lower_at.ensures, c.loop-index.invariant) (sym (one_falls falls xs c.args.counts.now i item c.loop-index-test.true (rw test w.if-counts_for.true)))
      | else-counts_for w ↦ rw (w.counts-is, c.loop-index.invariant) (sym (one_stays falls xs c.args.counts.now i item (rw test w.if-counts_for.false)))
    ]
