use Rattle.std.proofs.Common.{ap, sym, ◌∙◌}
use Rattle.fmp_kernel_objects.specs.declared.resources.Resources.TheInside.{Inside}
use Rattle.fmp_kernel_objects.specs.Rows.{pools_in}
use Rattle.fmp_kernel_objects.proofs.Columns.{pools_told}
use Rattle.fmp_kernel_objects.proofs.resources.Resources.pools.Goals as goal

pub returns-clause-value : goal.returns-clause-value
returns-clause-value c = c.as_slice.ensures.value ∙ ap (λ (a : Inside). a.pools) c.self-inside.view_is ∙ sym (pools_told c.self.inside.pools) ∙ ap pools_in c.self.view_is
