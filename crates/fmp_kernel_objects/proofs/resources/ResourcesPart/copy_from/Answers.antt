use Rattle.std.proofs.Common.{ap, sym, ◌∙◌}
use Rattle.fmp_kernel_objects.specs.Objects.{AllObjects}
use Rattle.fmp_kernel_objects.proofs.Rooms.{same_rooms}
use Rattle.fmp_kernel_objects.proofs.resources.ResourcesPart.copy_from.Goals as goal

pub copy_from-requires-3 : goal.copy_from-requires-3
copy_from-requires-3 c =
    same_rooms _ _ (ap (λ (a : AllObjects). a.data_queues) c.self.view_is ∙ c.requires.data_queues ∙ sym (ap (λ (a : AllObjects). a.data_queues) c.other.view_is))
