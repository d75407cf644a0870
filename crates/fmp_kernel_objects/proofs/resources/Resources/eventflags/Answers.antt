use Rattle.std.proofs.Common.{ap, sym, ◌∙◌}
use Rattle.fmp_kernel_objects.specs.declared.resources.Resources.TheInside.{Inside}
use Rattle.fmp_kernel_objects.specs.Rows.{eventflags_in}
use Rattle.fmp_kernel_objects.proofs.Columns.{eventflags_told}
use Rattle.fmp_kernel_objects.proofs.resources.Resources.eventflags.Goals as goal

pub returns-clause-value : goal.returns-clause-value
returns-clause-value c = c.as_slice.ensures.value ∙ ap (λ (a : Inside). a.eventflags) c.self-inside.view_is ∙ sym (eventflags_told c.self.inside.eventflags) ∙ ap eventflags_in c.self.view_is
