-- The configuration that its parts hold.
use Rattle.std.specs.Prelude.{map}
use Rattle.fmp_setup.specs.declared.parts.Parts.{Parts}
use Rattle.fmp_setup.specs.Setup.{Setup}

abbrev pub setup_of : Parts → Setup
setup_of p = record {
  processors = p.names.processors;
  timer = p.timer;
  limits = p.limits;
  classes = map (λ c. c.class) p.classes.items;
  class_names = map (λ c. c.name.items) p.classes.items;
  tasks = p.tasks.items;
  semaphores = p.semaphores.items;
  eventflags = p.eventflags.items;
  data_queues = p.data_queues.items;
  pools = p.pools.items;
  cyclics = p.cyclics.items;
  alarms = p.alarms.items;
  spin_locks = p.spin_locks;
  names = p.names;
}
