use Rattle.std.proofs.Common.{◌≡◌, ◌==◌, true, length, sym, ◌∙◌, arith}
use Rattle.fmp_rules.specs.Arrivals.{numbered, is_ready_on, priority_in}
use Rattle.fmp_plain_machine.proofs.Least.{first_among}
use Rattle.fmp_plain_machine.proofs.words.PlainMachineWords.first_ready.Goals as goal

pub returns-in-Some : goal.returns-in-Some
unfolding numbered
returns-in-Some c =
    let tasks = c.self.inside.tasks in
    let n = c.args.priority.number in
    let same : priority_in tasks.records c.in-Some.t ≡ n = sym c.priority.ensures.priority ∙ c.if-priority.true in
    let passes : (priority_in tasks.records c.in-Some.t == n) ≡ true = grind (arith, same) in
    rw (← c.self.view_is)
    (sym
    (first_among (priority_in tasks.records) tasks.ready (is_ready_on tasks.records c.args.p) (λ u. priority_in tasks.records u == n)
    (length tasks.records) c.in-Some.t c.priority.ensures.few (sym c.top.ensures ∙ c.in-Some.is) passes))
