use Rattle.std.proofs.Common.{◌≡◌, arith, true, false, Some, w32}
use Rattle.std.proofs.lemmas.Grind.{common_steps}
use Rattle.std.proofs.lemmas.Int.{to_z-of_z}
use Rattle.fmp_rules.specs.Arguments.{object_named, is_timeout}
use Rattle.fmp_rules.specs.BufferCalls.{trcv_dtq}
use Rattle.fmp_rules.specs.Rows.{in_task, is_refused_context}
use Rattle.fmp_step_objects.proofs.data_queues.trcv_dtq.Goals as goal

pub returns-clause-row : goal.returns-clause-row
unfolding trcv_dtq
returns-clause-row g c =
    let w = g.M.Words.world c.args.machine.now in
    let named : object_named w.data_queues c.args.id ≡ Some c.in_ok-d.d = grind (arith, common_steps) in
    let unrefused : is_refused_context w c.args.p (record in_task { unheld = true }) ≡ false = grind (arith, common_steps) in
    let proper : is_timeout c.args.timeout ≡ true = grind (arith, common_steps) in
    let received = rw (to_z-of_z w32 c.args.timeout c.ranges.timeout) at c.receive_or_wait.ensures.state in
    simp (named, unrefused, proper) received
