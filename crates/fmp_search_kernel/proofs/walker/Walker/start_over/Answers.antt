use Rattle.std.proofs.Common.{length, refl, ap, ◌∙◌, arith}
use Rattle.fmp_rules.specs.World.{World}
use Rattle.fmp_kernel_order.specs.Queues.{Queues}
use Rattle.fmp_search_kernel.proofs.Bounds.{roomy_start}
use Rattle.fmp_search_kernel.proofs.walker.Walker.start_over.Goals as goal

pub returns-then-not-copy_from-clause-origin : goal.returns-then-not-copy_from-clause-origin
returns-then-not-copy_from-clause-origin c = rw (← c.self.view_is) refl

pub invariant_of-self-2 : goal.invariant_of-self-2
invariant_of-self-2 c =
    let same = c.if-not-copy_from.ensures.copied refl in
    (ap (λ (k : World Queues). length k.processors) same ∙ c.self.invariant.2, c.self.invariant.1, c.self.invariant.2, roomy_start _ (omega arith))

pub returns-clause-there : goal.returns-clause-there
returns-clause-there c = let same = c.if-not-copy_from.ensures.copied refl ∙ c.self.invariant.1 in rw (← c.self.view_is, same) refl

pub returns-clause-origin : goal.returns-clause-origin
returns-clause-origin c = rw (← c.self.view_is) refl
