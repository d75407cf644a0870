use Rattle.std.proofs.Common.{◌∙◌, w64}
use Rattle.std.proofs.lemmas.Int.{to_z-of_z}
use Rattle.fmp_step_objects.proofs.Contents.{shifted}
use Rattle.fmp_step_objects.proofs.data_queues.shift.Goals as goal

pub returns-clause-state : goal.returns-clause-state
returns-clause-state g c =
    rw (to_z-of_z w64 c.args.value c.ranges.value) at c.add_value.ensures.state ∙ shifted _ _ c.args.d c.args.value c.drop_value.ensures.state
