use Rattle.std.proofs.Common.{rules, ◌≡◌, ℤ, to_z, of_z, w32, subst}
use Rattle.fmp_codes.specs.declared.numbers.Proc.{Proc}
use Rattle.fmp_rules.specs.Effects.{Effect}
use Rattle.fmp_rules.specs.World.{World}
use Rattle.fmp_rules.specs.Rows.{called}
use Rattle.fmp_rules.specs.TaskCalls.{get_pri}
use Rattle.fmp_rules.specs.Arguments.{task_or_caller}
use Rattle.fmp_rules.specs.Outcomes.{effect_of}
use Rattle.fmp_step_tasks.proofs.task_calls.task_call.Goals as goal

-- a call with the same argument
same_argument : {Q : Type 0} (w : World Q) (p : Proc) (did : World Q × Effect) (a b : ℤ) → a ≡ b
    → did ≡ called w p (get_pri w (task_or_caller w p a)) → did ≡ called w p (get_pri w (task_or_caller w p b))
same_argument w p did a b same h = subst (λ id. did ≡ called w p (get_pri w (task_or_caller w p id))) same h

pub returns-in-GetPri-clause-row : goal.returns-in-GetPri-clause-row
returns-in-GetPri-clause-row g c =
    let w = g.M.Words.world c.args.machine.now in
    let did : World g.M.Words.Order × Effect = (g.M.Words.world c.get_pri.new.machine, effect_of c.get_pri.result) in
    let id = c.in-GetPri.id in
    rw c.in-GetPri.is (same_argument w c.args.p did (to_z w32 (of_z w32 id)) id (search rules) c.get_pri.ensures.row)
