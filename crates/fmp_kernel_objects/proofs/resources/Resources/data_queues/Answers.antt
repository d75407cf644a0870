use Rattle.std.proofs.Common.{ap, sym, ◌∙◌}
use Rattle.fmp_kernel_objects.specs.declared.resources.Resources.TheInside.{Inside}
use Rattle.fmp_kernel_objects.specs.Rows.{queues_in}
use Rattle.fmp_kernel_objects.proofs.Columns.{queues_told}
use Rattle.fmp_kernel_objects.proofs.resources.Resources.data_queues.Goals as goal

pub returns-clause-value : goal.returns-clause-value
returns-clause-value c = c.as_slice.ensures.value ∙ ap (λ (a : Inside). a.data_queues) c.self-inside.view_is ∙ sym (queues_told c.self.inside.data_queues) ∙ ap queues_in c.self.view_is
