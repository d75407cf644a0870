-- The kinds of objects that have a number: which it is, and how many objects there are.
use Rattle.std.specs.Prelude.{ℕ, Option, None, Some, length}
use Rattle.fmp_codes.specs.declared.numbers.Object.{Object}
use Rattle.fmp_codes.specs.declared.numbers.Proc.{Proc}
use Rattle.fmp_setup.specs.Setup.{Setup}
use Rattle.fmp_rules.specs.Objects.{eventflag, holder, pool, semaphore, values, free_blocks}
use Rattle.fmp_rules.specs.World.{World}
use Rattle.fmp_run_wave.specs.declared.resource.Resource.{Resource}
use Rattle.fmp_run_wave.specs.declared.resource.Resource.TheVariants.{Semaphore, Eventflag, DataQueue, Pool as PoolKind, SpinLock}
use Rattle.fmp_run_wave.specs.declared.signal.Signal.{Signal}
use Rattle.fmp_run_wave.specs.declared.signal.Signal.TheVariants as signals

-- the signal that shows it
abbrev pub signal_of : Resource → Signal
signal_of Semaphore = signals.Count
signal_of Eventflag = signals.Pattern
signal_of DataQueue = signals.Values
signal_of PoolKind = signals.Free
signal_of SpinLock = signals.Holder

-- the number of the processor that holds a spin lock, or 0
abbrev pub holder_number : Option Proc → ℕ
holder_number None = 0
holder_number (Some p) = p.number

-- how many there are in a configuration
abbrev pub count : Setup → Resource → ℕ
count c Semaphore = length c.semaphores
count c Eventflag = length c.eventflags
count c DataQueue = length c.data_queues
count c PoolKind = length c.pools
count c SpinLock = c.spin_locks

module _ {Q : Type 0} (w : World Q) where
  -- how many there are in a state
  abbrev pub count_in : Resource → ℕ
  count_in Semaphore = length w.semaphores
  count_in Eventflag = length w.eventflags
  count_in DataQueue = length w.data_queues
  count_in PoolKind = length w.pools
  count_in SpinLock = length w.holders

  -- the count of a semaphore, the pattern of an eventflag, how many values a data queue has, how many blocks of a pool are free, or which
  -- processor holds a spin lock
  abbrev pub number_in : Resource → Object → ℕ
  number_in Semaphore o = (semaphore w o).count
  number_in Eventflag o = (eventflag w o).pattern
  number_in DataQueue o = length (values w o)
  number_in PoolKind o = free_blocks (pool w o)
  number_in SpinLock o = holder_number (holder w o)
