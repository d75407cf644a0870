use Rattle.std.proofs.Common.{ap, ◌∙◌}
use Rattle.fmp_rules.specs.World.{World, is_held}
use Rattle.fmp_kernel_order.specs.Queues.{Queues}
use Rattle.fmp_kernel.proofs.kernel.Kernel.held.Goals as goal

pub returns-clause-model : goal.returns-clause-model
returns-clause-model c = λ m stands. c.is_held.ensures ∙ ap (λ (w : World Queues). is_held w c.args.p) (c.deref.ensures ∙ c.self.view_is ∙ stands.same)
