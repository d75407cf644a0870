use Rattle.std.proofs.Common.{◌≡◌, ◌&&◌, arith, true, false, Some, w32}
use Rattle.std.specs.Prelude.{nat_lt}
use Rattle.std.proofs.lemmas.Grind.{common_steps}
use Rattle.std.proofs.lemmas.Int.{to_z-of_z}
use Rattle.fmp_rules.specs.Arguments.{object_named, is_timeout}
use Rattle.fmp_rules.specs.Rows.{in_task, is_refused_context}
use Rattle.fmp_rules.specs.SyncCalls.{is_taken, twai_flg}
use Rattle.fmp_step_objects.proofs.eventflags.twai_flg.Goals as goal

pub returns-clause-row : goal.returns-clause-row
unfolding twai_flg
returns-clause-row g c =
    let w = g.M.Words.world c.args.machine.now in
    let named : object_named w.eventflags c.args.id ≡ Some c.in_ok-f.f = grind (arith, common_steps) in
    let unrefused : is_refused_context w c.args.p (record in_task { unheld = true }) ≡ false = grind (arith, common_steps) in
    let proper : (nat_lt 0 c.args.pattern && is_timeout c.args.timeout) ≡ true = grind (arith, common_steps) in
    let free : is_taken g.M.Words.ordering w c.in_ok-f.f ≡ false = grind (arith, common_steps) in
    let waits = rw (to_z-of_z w32 c.args.timeout c.ranges.timeout) at c.answer_or_wait.ensures.state in
    simp (named, unrefused, proper, free) waits
