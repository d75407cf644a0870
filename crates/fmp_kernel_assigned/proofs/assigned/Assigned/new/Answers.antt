use Rattle.std.proofs.Common.{◌≡◌, ◌≤◌, List, length, map, sym, ap, ◌∙◌, subst, arith}
use Rattle.std.proofs.lemmas.List.{length-map}
use Rattle.fmp_rules.specs.declared.machine.Cyclic.{Cyclic}
use Rattle.fmp_rules.specs.World.{resting}
use Rattle.fmp_kernel_assigned.specs.Assignments.{lefts}
use Rattle.fmp_kernel_assigned.specs.Counting.{AreInStep}
use Rattle.fmp_kernel_assigned.specs.Starting.{first_cyclic, first_alarm}
use Rattle.fmp_kernel_assigned.proofs.Boot.{none_left, phases_left, boot_step}
use Rattle.fmp_kernel_assigned.proofs.assigned.Assigned.new.Goals as goal
use Rattle.fmp_kernel_assigned.proofs.assigned.Assigned.new.Goals.{After-first_alarms}

cyclics : (c : After-first_alarms) → c.as_slice.result.now ≡ map first_cyclic c.args.config.now.cyclics
cyclics c = c.as_slice.ensures.value ∙ c.first_cyclics-cyclics.ensures ∙ ap (map first_cyclic) c.cyclics.ensures.value

few_cyclics : (c : After-first_alarms) → length c.as_slice.result.now ≤ 32
few_cyclics c = omega (arith, ap length (cyclics c), length-map c.args.config.now.cyclics first_cyclic, c.cyclics.ensures.valid.few.cyclics)

tasks : (c : After-first_alarms) → length c.args.config.now.tasks ≡ length c.new.result
tasks c = sym (ap length (c.new.ensures ∙ ap (map resting) c.tasks.ensures.value) ∙ length-map c.args.config.now.tasks resting)

alarms : (c : After-first_alarms) → length c.args.config.now.alarms ≡ length c.first_alarms.result.items
alarms c = sym (ap length (c.first_alarms.ensures ∙ ap (map first_alarm) c.alarms.ensures.value) ∙ length-map c.args.config.now.alarms first_alarm)

pub invariant_of-result : goal.invariant_of-result
invariant_of-result c =
    subst (λ (cs : List Cyclic). AreInStep c.new.result cs c.first_alarms.result.items c.first_timers-timers.result.left) c.as_slice.ensures.value
    (boot_step c.as_slice.result.now c.first_timers-timers.result.left (few_cyclics c) c.first_timers-timers.ensures.all c.first_timers-timers.ensures.left
    c.new.result c.first_alarms.result.items (omega (arith, tasks c, c.tasks.ensures.valid.few_tasks)) (omega (arith, alarms c, c.tasks.ensures.valid.few.alarms)))

pub returns-clause-waits_left : goal.returns-clause-waits_left
returns-clause-waits_left c =
    none_left c.as_slice.result.now c.first_timers-timers.result.left (few_cyclics c) c.first_timers-timers.ensures.all c.first_timers-timers.ensures.left
    0 (length c.new.result) c.args.config.now.tasks (tasks c) (omega (arith, tasks c, c.tasks.ensures.valid.few_tasks))

pub returns-clause-cyclics_left : goal.returns-clause-cyclics_left
returns-clause-cyclics_left c =
    ap (λ (cs : List Cyclic). lefts c.first_timers-timers.result.left 96 (length cs)) (sym c.as_slice.ensures.value)
    ∙ phases_left c.as_slice.result.now c.first_timers-timers.result.left (few_cyclics c) c.first_timers-timers.ensures.all c.first_timers-timers.ensures.left c.args.config.now.cyclics (cyclics c)

pub returns-clause-alarms_left : goal.returns-clause-alarms_left
returns-clause-alarms_left c =
    none_left c.as_slice.result.now c.first_timers-timers.result.left (few_cyclics c) c.first_timers-timers.ensures.all c.first_timers-timers.ensures.left
    64 (length c.first_alarms.result.items) c.args.config.now.alarms (alarms c) (omega (arith, alarms c, c.tasks.ensures.valid.few.alarms))
