use Rattle.std.proofs.Common.{ap, sym, ◌∙◌}
use Rattle.fmp_kernel_objects.specs.declared.resources.Resources.TheInside.{Inside}
use Rattle.fmp_kernel_objects.specs.Rows.{semaphores_in}
use Rattle.fmp_kernel_objects.proofs.Columns.{semaphores_told}
use Rattle.fmp_kernel_objects.proofs.resources.Resources.semaphores.Goals as goal

pub returns-clause-value : goal.returns-clause-value
returns-clause-value c = c.as_slice.ensures.value ∙ ap (λ (a : Inside). a.semaphores) c.self-inside.view_is ∙ sym (semaphores_told c.self.inside.semaphores) ∙ ap semaphores_in c.self.view_is
