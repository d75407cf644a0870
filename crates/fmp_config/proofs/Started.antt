-- Before the first statement all is sound.
use Rattle.std.proofs.Common.{[], refl, arith}
use Rattle.std.specs.Prelude.{All}
use Rattle.fmp_config.specs.Reading.{at_start}
use Rattle.fmp_config.specs.Sound.{IsSoundState}
use Rattle.fmp_setup.specs.Building.{of_processors}
use Rattle.fmp_setup.specs.Valid.{IsValid}

none : {A : Type 0} (P : A → Type 0) → All P []
none P k d lt = absurd (omega (arith, lt))

nothing_valid : IsValid (of_processors 1)
nothing_valid = record {
  has_processors = omega arith;
  few_processors = omega arith;
  few_classes = omega arith;
  few_tasks = omega arith;
  few = record { semaphores = omega arith; eventflags = omega arith; data_queues = omega arith; pools = omega arith; cyclics = omega arith; alarms = omega arith; spin_locks = omega arith };
  in_range = record { semaphores = none _; eventflags = none _; data_queues = none _; pools = none _; cyclics = none _ };
  sound_classes = refl;
  classes = refl;
  cyclics = refl;
  alarms = refl;
  task_classes = none _;
  cyclic_classes = none _;
  alarm_classes = none _;
  named_classes = refl;
  class_names = refl;
  distinct_classes = λ name. omega arith;
  apart = refl;
  undefined = refl;
  same_processors = refl;
  named_objects = refl;
  functions = refl;
  cyclic_functions = refl;
  alarm_functions = refl;
  few_functions = omega arith;
  timer = tt;
  cyclics_served = none _;
  alarms_served = none _;
  limits = record { least_wakeups = omega arith; most_wakeups = omega arith; least_priorities = omega arith; most_priorities = omega arith };
  priorities = none _;
}

pub start_sound : IsSoundState at_start
start_sound = record {
  draft = record {
    valid = nothing_valid;
    open_class = tt;
    before_classes = λ head. record { tasks = refl; cyclics = refl; alarms = refl };
    before_processors = λ start. record { classes = refl; timer = refl };
  };
  form = tt;
  directive = tt;
}
