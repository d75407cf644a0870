use Rattle.std.proofs.Common.{map, refl, sym, ap, ◌∙◌}
use Rattle.fmp_setup.specs.declared.setup.Timer.{Timer}
use Rattle.fmp_time.proofs.Effects.{times_same}
use Rattle.fmp_kernel_assigned.specs.Counting.{fallen}
use Rattle.fmp_kernel_assigned.proofs.Falling.{fallen_local, fallen_master, fallen_other}
use Rattle.fmp_kernel_assigned.proofs.counting.count_down.Goals as goal

pub returns-in-Local : goal.returns-in-Local
returns-in-Local c = c.lower.ensures
    ∙ times_same _ _ _ _ (fallen_local c.args.p c.args.timers.now.left ∙ ap (λ (t : Timer). map (fallen t c.args.p) c.args.timers.now.left) (sym c.in-Local.is)) refl

pub returns-then-p-master : goal.returns-then-p-master
returns-then-p-master c = c.lower_all.ensures
    ∙ times_same _ _ _ _ (fallen_master c.in-Global.master c.args.p c.args.timers.now.left c.if-p-master.true
    ∙ ap (λ (t : Timer). map (fallen t c.args.p) c.args.timers.now.left) (sym c.in-Global.is)) refl

pub returns-else-p-master : goal.returns-else-p-master
returns-else-p-master c =
    times_same _ _ _ _ (fallen_other c.in-Global.master c.args.p c.args.timers.now.left c.if-p-master.false
    ∙ ap (λ (t : Timer). map (fallen t c.args.p) c.args.timers.now.left) (sym c.in-Global.is)) refl
