use Rattle.std.proofs.Common.{◌≡◌, ◌-◌, ◌<◌, ◌≤◌, true, false, length, nat_lt, sym, ap, subst, ◌∙◌, arith}
use Rattle.std.proofs.lemmas.Bool.{ltb-true, ltb-false}
use Rattle.fmp_time.specs.declared.item.Item.TheVariants.{Wait}
use Rattle.fmp_time.specs.Times.{Times}
use Rattle.fmp_kernel_assigned.specs.Assignments.{Assignments, assignments_of}
use Rattle.fmp_kernel_assigned.specs.Counting.{AreInStep, with_left, shown_left}
use Rattle.fmp_kernel_assigned.proofs.Changes.{begun, begun_step}
use Rattle.fmp_rules.specs.declared.machine.TaskRecord.{TaskRecord}
use Rattle.fmp_rules.specs.World.{with_item}
use Rattle.fmp_kernel_order.specs.Queues.{timed_by}
use Rattle.fmp_kernel_assigned.proofs.assigned.Assigned.begin_wait.Goals as goal
use Rattle.fmp_kernel_assigned.proofs.assigned.Assigned.begin_wait.Goals.{After-set_left}

-- what shows is there
shows : (c : After-set_left) → nat_lt c.index.result c.len.result ≡ true → c.args.t.number - 1 < length c.self.inside.tasks
shows c e = let low = ltb-true c.index.result c.len.result e in omega (arith, low, c.index.ensures.value, c.len.ensures.value)

hides : (c : After-set_left) → nat_lt c.index.result c.len.result ≡ false → length c.self.inside.tasks ≤ c.args.t.number - 1
hides c e = let high = ltb-false c.index.result c.len.result e in omega (arith, high, c.index.ensures.value, c.len.ensures.value)

timers : (c : After-set_left) → c.set_left.new.timers ≡ with_left c.self.inside.timers c.get.result.assigned (Wait c.args.t) (shown_left (nat_lt c.index.result c.len.result) c.args.left)
timers c = c.set_left.ensures ∙ ap (with_left c.self.inside.timers c.get.result.assigned (Wait c.args.t)) c.shown-left.ensures

pub invariant_of-self : goal.invariant_of-self
invariant_of-self c = subst (λ (m : Times). AreInStep c.self.inside.tasks c.self.inside.cyclics.items c.self.inside.alarms.items m.left) (sym (timers c))
    (begun_step c.self.inside.timer c.self.inside.tasks c.self.inside.cyclics.items c.self.inside.alarms.items c.self.inside.timers c.self.invariant c.args.t c.get.result.assigned
    (nat_lt c.index.result c.len.result) c.args.left (shows c) (ap (λ (r : TaskRecord). r.assigned) c.get.ensures))

pub returns : goal.returns
returns c =
    ap (assignments_of c.self.inside.timer c.self.inside.tasks c.self.inside.cyclics.items c.self.inside.alarms.items) (timers c)
    ∙ begun c.self.inside.timer c.self.inside.tasks c.self.inside.cyclics.items c.self.inside.alarms.items c.self.inside.timers c.self.invariant c.args.t c.get.result.assigned
    (nat_lt c.index.result c.len.result) c.args.left (hides c)
    ∙ ap (λ (v : Assignments). record v { waits_left = with_item v.waits_left c.args.t.number c.args.left; timed = timed_by c.args.left c.args.t v.timed }) c.self.view_is
