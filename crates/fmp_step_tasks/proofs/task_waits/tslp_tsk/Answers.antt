use Rattle.std.proofs.Common.{◌≡◌, ◌-◌, arith, true, false, Option, Some, if◌then◌else◌, sym, ap, subst, w32}
use Rattle.std.specs.Prelude.{nat_lt, unwrap_or}
use Rattle.std.proofs.lemmas.Grind.{common_steps}
use Rattle.std.proofs.lemmas.Int.{to_z-of_z}
use Rattle.fmp_codes.specs.Numbers.{as_task}
use Rattle.fmp_codes.specs.declared.numbers.Task.{Task}
use Rattle.fmp_rules.specs.declared.machine.Wait.TheVariants as wait
use Rattle.fmp_rules.specs.World.{World, processor, task}
use Rattle.fmp_rules.specs.Ordering.{with_task}
use Rattle.fmp_rules.specs.Effects.{Effect}
use Rattle.fmp_rules.specs.Arguments.{caller, is_timeout}
use Rattle.fmp_rules.specs.Outcomes.{effect_of}
use Rattle.fmp_rules.specs.Rows.{done, in_task, is_refused_context, wait_for}
use Rattle.fmp_rules.specs.TaskCalls.{tslp_tsk}
use Rattle.fmp_step_tasks.proofs.task_waits.tslp_tsk.Goals as goal

pub returns-clause-row : goal.returns-clause-row
unfolding tslp_tsk
returns-clause-row g c = let W = g.M.Words in
    let w = W.world c.args.machine.now in
    let p = c.args.p in
    let timeout = c.args.timeout in
    let did : World W.Order × Effect = (W.world c.sleep.new.machine, effect_of c.sleep.result) in
    let runs : (processor w p).running ≡ Some c.in_ok-t.t = grind (arith, common_steps) in
    let calls : caller w p ≡ c.in_ok-t.t = ap (λ (o : Option Task). unwrap_or o (as_task 1)) runs in
    let unrefused : is_refused_context w p (record in_task { unheld = true }) ≡ false = grind (arith, common_steps) in
    let proper : is_timeout timeout ≡ true = grind (arith, common_steps) in
    let slept = rw (to_z-of_z w32 timeout c.ranges.timeout) at c.sleep.ensures.state in
    let waits =
    subst
    (λ (u : Task). did
    ≡ (if nat_lt 0 (task w u).wakeups then (with_task w u (record (task w u) { wakeups = (task w u).wakeups - 1 }), done) else wait_for W.ordering w u wait.Sleep timeout))
    (sym calls) slept in
    simp (unrefused, proper) waits
