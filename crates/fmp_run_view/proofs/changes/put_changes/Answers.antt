use Rattle.std.proofs.Common.{List, ℕ, subst}
use Rattle.fmp_out.specs.Putting.{Adds}
use Rattle.fmp_run_view.proofs.Counted.{all_lines}
use Rattle.fmp_run_view.proofs.changes.put_changes.Goals as goal

pub returns : goal.returns
returns c =
    subst (λ (xs : List ℕ). Adds xs c.args.out.now c.put_changes_over.new.out) (all_lines c.args.config.now c.args.all c.args.before.now c.args.after.now)
    c.put_changes_over.ensures
