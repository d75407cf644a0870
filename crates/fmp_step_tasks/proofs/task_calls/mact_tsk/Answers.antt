use Rattle.std.proofs.Common.{◌≡◌, arith, false, Option, None, Some, Result, Ok, w32}
use Rattle.std.proofs.lemmas.Grind.{common_steps}
use Rattle.std.proofs.lemmas.Int.{to_z-of_z}
use Rattle.fmp_codes.specs.declared.codes.Code.{Code}
use Rattle.fmp_rules.specs.Arguments.{task_or_caller}
use Rattle.fmp_rules.specs.Outcomes.{known_or_error}
use Rattle.fmp_rules.specs.Rows.{in_task, is_refused_context}
use Rattle.fmp_rules.specs.TaskCalls.{mact}
use Rattle.fmp_step_tasks.proofs.task_calls.mact_tsk.Goals as goal

-- what an argument names that names something
found : {X : Type 0} (o : Option X) (r : Result X Code) (x : X) → r ≡ known_or_error o → r ≡ Ok x → o ≡ Some x
found None r x is was = cc
found (Some y) r x is was = cc

pub returns-clause-row : goal.returns-clause-row
unfolding mact
returns-clause-row g c =
    let w = g.M.Words.world c.args.machine.now in
    let t = c.in_ok-t.t in
    let named : task_or_caller w c.args.p c.args.id ≡ Some t =
    found (task_or_caller w c.args.p c.args.id) _ t (rw (to_z-of_z w32 c.args.id c.ranges.id) at c.task_or_caller.ensures) c.in_ok-t.was in
    let unrefused : is_refused_context w c.args.p in_task ≡ false = grind (arith, common_steps) in
    let did = rw (to_z-of_z w32 c.args.to c.ranges.to) at c.try_activate_at.ensures.row in
    simp (named, unrefused) did
