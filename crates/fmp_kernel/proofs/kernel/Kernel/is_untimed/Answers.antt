use Rattle.std.proofs.Common.{ap, ◌&&◌, ◌∙◌}
use Rattle.std.specs.Prelude.{is_none}
use Rattle.std.specs.List.{list_all}
use Rattle.fmp_rules.specs.World.{World}
use Rattle.fmp_kernel_order.specs.Queues.{Queues}
use Rattle.fmp_kernel.proofs.Kept.{kept_timed}
use Rattle.fmp_kernel.proofs.kernel.Kernel.is_untimed.Goals as goal

pub is_untimed-requires : goal.is_untimed-requires
is_untimed-requires c = rw c.deref.ensures (kept_timed _ c.self.invariant)

pub returns-clause-model : goal.returns-clause-model
returns-clause-model c = λ m stands.
    c.is_untimed.ensures ∙ ap (λ (w : World Queues). list_all is_none w.waits_left && list_all is_none w.cyclics_left && list_all is_none w.alarms_left) (c.deref.ensures ∙ c.self.view_is ∙ stands.same)
