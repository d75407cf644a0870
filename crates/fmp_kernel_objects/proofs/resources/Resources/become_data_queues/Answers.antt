use Rattle.std.proofs.Common.{ap, sym, ◌∙◌}
use Rattle.fmp_kernel_objects.specs.Objects.{AllObjects}
use Rattle.fmp_kernel_objects.proofs.Numbered.{numbers_long}
use Rattle.fmp_kernel_objects.proofs.Rooms.{same_rooms}
use Rattle.fmp_kernel_objects.proofs.resources.Resources.become_data_queues.Goals as goal

pub become_kept-requires-clause-long : goal.become_kept-requires-clause-long
become_kept-requires-clause-long c =
    let kept = c.requires.kept in
    let rooms = same_rooms c.self.inside.data_queues kept.0 (ap (λ (a : AllObjects). a.data_queues) c.self.view_is ∙ sym kept.2) in
    sym (numbers_long c.args.kept.now c.args.numbers.now kept.0 kept.1) ∙ sym rooms.0

pub become_kept-requires-clause-kept : goal.become_kept-requires-clause-kept
become_kept-requires-clause-kept c =
    let kept = c.requires.kept in
    let rooms = same_rooms c.self.inside.data_queues kept.0 (ap (λ (a : AllObjects). a.data_queues) c.self.view_is ∙ sym kept.2) in
    (kept.0, kept.1, record { long = rooms.0; each = rooms.1 })
