use Rattle.std.proofs.Common.{◌≡◌, arith, true, false, Some, w32}
use Rattle.std.specs.Prelude.{nat_lt}
use Rattle.std.proofs.lemmas.Grind.{common_steps}
use Rattle.std.proofs.lemmas.Int.{to_z-of_z}
use Rattle.fmp_rules.specs.Objects.{semaphore}
use Rattle.fmp_rules.specs.Arguments.{object_named, is_timeout}
use Rattle.fmp_rules.specs.Rows.{in_task, is_refused_context}
use Rattle.fmp_rules.specs.SyncCalls.{twai_sem}
use Rattle.fmp_step_objects.proofs.semaphores.twai_sem.Goals as goal

pub returns-else-semaphore-gt0-clause-row : goal.returns-else-semaphore-gt0-clause-row
unfolding twai_sem
returns-else-semaphore-gt0-clause-row g c =
    let w = g.M.Words.world c.args.machine.now in
    let named : object_named w.semaphores c.args.id ≡ Some c.in_ok-s.s = grind (arith, common_steps) in
    let unrefused : is_refused_context w c.args.p (record in_task { unheld = true }) ≡ false = grind (arith, common_steps) in
    let proper : is_timeout c.args.timeout ≡ true = grind (arith, common_steps) in
    let none : nat_lt 0 (semaphore w c.in_ok-s.s).count ≡ false = grind (arith, common_steps) in
    let waits = rw (to_z-of_z w32 c.args.timeout c.ranges.timeout) at c.caller_waits.ensures.state in
    simp (named, unrefused, proper, none) waits
