-- The parts of a state of the kernel.
use Rattle.fmp_rules.specs.World.{World}
use Rattle.fmp_kernel_order.specs.Queues.{Queues}
use Rattle.fmp_dispatch.specs.Dispatching.{Dispatching}
use Rattle.fmp_kernel_assigned.specs.Assignments.{Assignments, assignments_of}
use Rattle.fmp_time.specs.Times.{Times}

abbrev pub assignments_in : World Queues → Assignments
assignments_in w = record {
  timer = w.timer;
  tasks = w.tasks;
  waits_left = w.waits_left;
  timed = w.order.timed;
  cyclics = w.cyclics;
  cyclics_left = w.cyclics_left;
  alarms = w.alarms;
  alarms_left = w.alarms_left;
}

abbrev pub dispatching_in : World Queues → Dispatching
dispatching_in w = record { processors = w.processors; due = w.due }

-- with other ticks left
abbrev pub with_times : World Queues → Times → World Queues
with_times w m =
    let a = assignments_of w.timer w.tasks w.cyclics w.alarms m in
    record w {
      waits_left = a.waits_left;
      cyclics_left = a.cyclics_left;
      alarms_left = a.alarms_left;
      order = record w.order { timed = a.timed };
    }
