use Rattle.std.proofs.Common.{◌≡◌, arith, true, false, None, Some, w32}
use Rattle.std.proofs.lemmas.Grind.{common_steps}
use Rattle.std.proofs.lemmas.Int.{to_z-of_z}
use Rattle.fmp_rules.specs.Objects.{free_block}
use Rattle.fmp_rules.specs.Arguments.{object_named, is_timeout}
use Rattle.fmp_rules.specs.Rows.{in_task, is_refused_context}
use Rattle.fmp_rules.specs.BufferCalls.{tget_mpf}
use Rattle.fmp_step_objects.proofs.pools.tget_mpf.Goals as goal

pub returns-in-None-clause-row : goal.returns-in-None-clause-row
unfolding tget_mpf
returns-in-None-clause-row g c =
    let w = g.M.Words.world c.args.machine.now in
    let named : object_named w.pools c.args.id ≡ Some c.in_ok-m.m = grind (arith, common_steps) in
    let unrefused : is_refused_context w c.args.p (record in_task { unheld = true }) ≡ false = grind (arith, common_steps) in
    let proper : is_timeout c.args.timeout ≡ true = grind (arith, common_steps) in
    let none : free_block w c.in_ok-m.m ≡ None = cc in
    let waits = rw (to_z-of_z w32 c.args.timeout c.ranges.timeout) at c.caller_waits.ensures.state in
    simp (named, unrefused, proper, none) waits
