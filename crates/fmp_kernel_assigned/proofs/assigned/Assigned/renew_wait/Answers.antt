use Rattle.std.proofs.Common.{◌≡◌, true, None, length, sym, ap, subst, ◌∙◌, arith}
use Rattle.std.specs.Prelude.{is_some}
use Rattle.fmp_kernel_parts.specs.Tasks.{without}
use Rattle.fmp_rules.specs.World.{item}
use Rattle.fmp_kernel_order.specs.Queues.{timed_by}
use Rattle.fmp_time.specs.declared.item.Item.TheVariants.{Wait}
use Rattle.fmp_time.specs.Times.{Times, left_of}
use Rattle.fmp_kernel_assigned.specs.Assignments.{Assignments, assignments_of, lefts}
use Rattle.fmp_kernel_assigned.specs.Counting.{AreInStep}
use Rattle.fmp_kernel_assigned.proofs.Changes.{wait_step, renewed_is, unseen_is, unseen_past, unseen_none}
use Rattle.fmp_kernel_assigned.proofs.assigned.Assigned.renew_wait.Goals as goal
use Rattle.fmp_kernel_assigned.proofs.assigned.Assigned.renew_wait.Goals.{After-renew, After-cancel, else-index-len-via-then-index-len+else-counts, else-index-len-via-else-index-len}

there : (c : After-renew) → is_some (left_of c.self.inside.timers (Wait c.args.t)) ≡ true
there c = sym c.counts.ensures ∙ c.if-counts.true

-- without ticks left that are seen
unseen : (c : After-cancel) → item None (lefts c.self.inside.timers.left 0 (length c.self.inside.tasks)) c.args.t.number ≡ None
unseen c = elim c.else-index-len.branch [
  | else-index-len-via-then-index-len+else-counts w ↦
      unseen_none c.self.inside.timer c.self.inside.tasks c.self.inside.cyclics.items c.self.inside.alarms.items c.self.inside.timers c.self.invariant c.args.t (omega (arith, w.if-index-len.true, c.index.ensures.value, c.len.ensures.value))
      (sym w.counts.ensures ∙ w.if-counts.false)
  | else-index-len-via-else-index-len w ↦ unseen_past c.self.inside.timer c.self.inside.tasks c.self.inside.cyclics.items c.self.inside.alarms.items c.self.inside.timers c.self.invariant c.args.t (omega (arith, w.if-index-len.false, c.index.ensures.value, c.len.ensures.value))
]

pub invariant_of-self : goal.invariant_of-self
invariant_of-self c = subst (λ (m : Times). AreInStep c.self.inside.tasks c.self.inside.cyclics.items c.self.inside.alarms.items m.left) (sym c.renew.ensures) c.self.invariant

pub returns-then-counts : goal.returns-then-counts
returns-then-counts c =
    ap (assignments_of c.self.inside.timer c.self.inside.tasks c.self.inside.cyclics.items c.self.inside.alarms.items) c.renew.ensures
    ∙ renewed_is c.self.inside.timer c.self.inside.tasks c.self.inside.cyclics.items c.self.inside.alarms.items c.self.inside.timers c.self.invariant c.args.t (omega (arith, c.if-index-len.true, c.index.ensures.value, c.len.ensures.value)) (there c)
    ∙ ap (λ (v : Assignments). record v { timed = timed_by (item None v.waits_left c.args.t.number) c.args.t (without c.args.t v.timed) }) c.self.view_is

pub invariant_of-self-else-index-len : goal.invariant_of-self-else-index-len
invariant_of-self-else-index-len c = subst (λ (m : Times). AreInStep c.self.inside.tasks c.self.inside.cyclics.items c.self.inside.alarms.items m.left) (sym c.cancel.ensures) (wait_step c.self.inside.timer c.self.inside.tasks c.self.inside.cyclics.items c.self.inside.alarms.items c.self.inside.timers c.self.invariant c.args.t None tt (λ past. tt))

pub returns-else-index-len : goal.returns-else-index-len
returns-else-index-len c =
    ap (assignments_of c.self.inside.timer c.self.inside.tasks c.self.inside.cyclics.items c.self.inside.alarms.items) c.cancel.ensures
    ∙ unseen_is c.self.inside.timer c.self.inside.tasks c.self.inside.cyclics.items c.self.inside.alarms.items c.self.inside.timers c.self.invariant c.args.t (unseen c)
    ∙ ap (λ (v : Assignments). record v { timed = timed_by (item None v.waits_left c.args.t.number) c.args.t (without c.args.t v.timed) }) c.self.view_is
