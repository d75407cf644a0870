use Rattle.std.proofs.Common.{ℕ, ◌-◌, ◌<◌, ◌≤◌, None, length, get_or, sym, ap, ◌∙◌, arith}
use Rattle.std.specs.Prelude.{option_map}
use Rattle.std.proofs.lemmas.List.{get_or_past}
use Rattle.fmp_rules.specs.World.{item}
use Rattle.fmp_time.specs.Left.{ticks_of}
use Rattle.fmp_kernel_assigned.specs.Assignments.{Assignments, lefts}
use Rattle.fmp_kernel_assigned.proofs.Lefts.{length-lefts, lefts-at}
use Rattle.fmp_kernel_assigned.proofs.assigned.Assigned.alarm_left.Goals as goal

pub returns-then-index-len : goal.returns-then-index-len
returns-then-index-len c =
    let left = c.self.inside.timers.left in
    let count = length c.self.inside.alarms.items in
    let low : c.args.a.number - 1 < count = omega (arith, c.if-index-len.true, c.index.ensures.value, c.len.ensures.value) in
    c.left.ensures ∙ ap (λ (k : ℕ). option_map ticks_of (get_or left k None)) (omega arith) ∙ sym (lefts-at left 64 count (c.args.a.number - 1) low)
    ∙ ap (λ (v : Assignments). item None v.alarms_left c.args.a.number) c.self.view_is

pub returns-else-index-len : goal.returns-else-index-len
returns-else-index-len c =
    let left = c.self.inside.timers.left in
    let count = length c.self.inside.alarms.items in
    let high : count ≤ c.args.a.number - 1 = omega (arith, c.if-index-len.false, c.index.ensures.value, c.len.ensures.value) in
    sym (get_or_past (lefts left 64 count) (c.args.a.number - 1) None (omega (arith, high, length-lefts left 64 count)))
    ∙ ap (λ (v : Assignments). item None v.alarms_left c.args.a.number) c.self.view_is
