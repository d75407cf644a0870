use Rattle.fmp_kernel_machine.proofs.machine.KernelMachine.blank.Goals as goal

pub returns : goal.returns
returns c =
    let assigned = c.new.ensures in
    rw (
      assigned.timer,
      assigned.tasks,
      assigned.waits_left,
      assigned.timed,
      assigned.cyclics,
      assigned.cyclics_left,
      assigned.alarms,
      assigned.alarms_left,
      c.new-2.ensures,
      c.in_ok-new.ensures,
      c.new-4.ensures,
      c.processors.ensures.value,
      c.new-5.ensures,
      c.spin_locks.ensures.value,
      c.new-6.ensures.number,
      c.limits-limits.ensures.value,
    )
