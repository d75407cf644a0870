use Rattle.std.proofs.Common.{◌≡◌, ◌∙◌, length, ap, sym, subst, arith}
use Rattle.fmp_kernel_assigned.specs.Assignments.{Assignments}
use Rattle.fmp_kernel_order.specs.Queues.{Queues}
use Rattle.fmp_rules.specs.World.{World}
use Rattle.fmp_kernel_packed.specs.Kept.{KeptHandled}
use Rattle.fmp_kernel_packed.specs.Packed.{AreHandled}
use Rattle.fmp_kernel_packed.proofs.HandledLaws.{AreApart, handled_apart, handled_long}
use Rattle.fmp_kernel_packed.proofs.handled.Handled.put.Goals as goal
use Rattle.fmp_kernel_packed.proofs.handled.Handled.put.Goals.{After-self}

pub split_at-requires : goal.split_at-requires
split_at-requires c =
    let r = c.requires in
    let long = handled_long c.args.self.now r.0 c.args.numbers.now r.1 in
    let alarms = c.alarm_count.ensures.value ∙ ap (λ (a : Assignments). length a.alarms) c.assigned.ensures ∙ sym r.2 in
    omega (arith, long, alarms)

pub split_at-requires-2 : goal.split_at-requires-2
split_at-requires-2 c =
    let r = c.requires in
    let long = handled_long c.args.self.now r.0 c.args.numbers.now r.1 in
    let alarms = c.alarm_count.ensures.value ∙ ap (λ (a : Assignments). length a.alarms) c.assigned.ensures ∙ sym r.2 in
    let cyclics = c.cyclic_count.ensures.value ∙ ap (λ (a : Assignments). length a.cyclics) c.assigned-2.ensures ∙ sym r.3 in
    let left = c.split_at.ensures.back_len in
    omega (arith, long, alarms, cyclics, left)

pub split_at-requires-3 : goal.split_at-requires-3
split_at-requires-3 c =
    let r = c.requires in
    let long = handled_long c.args.self.now r.0 c.args.numbers.now r.1 in
    let alarms = c.alarm_count.ensures.value ∙ ap (λ (a : Assignments). length a.alarms) c.assigned.ensures ∙ sym r.2 in
    let cyclics = c.cyclic_count.ensures.value ∙ ap (λ (a : Assignments). length a.cyclics) c.assigned-2.ensures ∙ sym r.3 in
    let tasks = c.task_count.ensures.value ∙ ap (λ (a : Assignments). length a.tasks) c.assigned-3.ensures ∙ sym r.4 in
    let left = c.split_at.ensures.back_len in
    let rest = c.split_at-2.ensures.back_len in
    omega (arith, long, alarms, cyclics, tasks, left, rest)

module _ (c : After-self) where
  alarms_long : length c.split_at.result.0.now ≡ length c.args.machine.now.alarms
  alarms_long = c.split_at.ensures.front_len ∙ c.alarm_count.ensures.value ∙ ap (λ (a : Assignments). length a.alarms) c.assigned.ensures

  cyclics_long : length c.split_at-2.result.0.now ≡ length c.args.machine.now.cyclics
  cyclics_long = c.split_at-2.ensures.front_len ∙ c.cyclic_count.ensures.value ∙ ap (λ (a : Assignments). length a.cyclics) c.assigned-2.ensures

  tasks_long : length c.split_at-3.result.0.now ≡ length c.args.machine.now.tasks
  tasks_long = c.split_at-3.ensures.front_len ∙ c.task_count.ensures.value ∙ ap (λ (a : Assignments). length a.tasks) c.assigned-3.ensures

  -- the parts are the numbers of each
  apart : (a : Assignments) → AreHandled c.args.self.now a c.args.numbers.now → length a.alarms ≡ length c.args.machine.now.alarms →
      length a.cyclics ≡ length c.args.machine.now.cyclics → length a.tasks ≡ length c.args.machine.now.tasks →
      AreApart (record { tasks = c.self.inside.tasks; cyclics = c.self.inside.cyclics; alarms = c.self.inside.alarms }) a c.split_at.result.0.now c.split_at-2.result.0.now
      c.split_at-3.result.0.now
  apart a are alarms cyclics tasks =
      handled_apart _ a c.args.numbers.now c.split_at.result.0.now c.split_at.result.1.now c.split_at-2.result.0.now c.split_at-2.result.1.now c.split_at-3.result.0.now
      c.split_at-3.result.1.now (subst (λ (k : KeptHandled). AreHandled k a c.args.numbers.now) (sym c.self.view_is) are) c.split_at.ensures.by_index.0 c.split_at-2.ensures.by_index.0
      c.split_at-3.ensures.by_index.0 (alarms_long ∙ sym alarms) (cyclics_long ∙ sym cyclics) (tasks_long ∙ sym tasks)

pub put_alarms-requires : goal.put_alarms-requires
put_alarms-requires c =
    let r = c.requires in
    let split = (goal.at.put_alarms-requires c).After-self in
    let many = c.split_at.ensures.front_len in
    let few = c.alarm_count.ensures.few in record {
      kept = (r.0.alarms, (apart split r.0 r.1 r.2 r.3 r.4).of_alarms);
      long = alarms_long split;
      few = omega (arith, many, few);
    }

pub put_cyclics-requires : goal.put_cyclics-requires
put_cyclics-requires c =
    let r = c.requires in
    let split = (goal.at.put_cyclics-requires c).After-self in
    let each = apart split r.0 r.1 r.2 r.3 r.4 in
    let first = c.put_alarms.ensures r.0.alarms each.of_alarms in
    let many = c.split_at-2.ensures.front_len in
    let few = c.cyclic_count.ensures.few in record {
      kept = (r.0.cyclics, each.of_cyclics);
      long = cyclics_long split ∙ ap (λ (w : World Queues). length w.cyclics) (sym first);
      few = omega (arith, many, few);
    }

pub put_tasks-requires : goal.put_tasks-requires
put_tasks-requires c =
    let r = c.requires in
    let split = (goal.at.put_tasks-requires c).After-self in
    let each = apart split r.0 r.1 r.2 r.3 r.4 in
    let first = c.put_alarms.ensures r.0.alarms each.of_alarms in
    let next = c.put_cyclics.ensures r.0.cyclics each.of_cyclics in
    let many = c.split_at-3.ensures.front_len in
    let few = c.task_count.ensures.few in record {
      kept = (r.0.tasks, each.of_tasks);
      long = tasks_long split ∙ ap (λ (w : World Queues). length w.tasks) (sym first) ∙ ap (λ (w : World Queues). length w.tasks) (sym next);
      few = omega (arith, many, few);
    }

pub returns : goal.returns
returns c = λ a are alarms cyclics tasks.
    let each = apart (goal.at.returns c).After-self a are alarms cyclics tasks in
    let first = c.put_alarms.ensures a.alarms each.of_alarms in
    let next = c.put_cyclics.ensures a.cyclics each.of_cyclics in
    let last = c.put_tasks.ensures a.tasks each.of_tasks in
    last ∙ ap (λ (w : World Queues). record w { tasks = a.tasks }) (next ∙ ap (λ (w : World Queues). record w { cyclics = a.cyclics }) first)
