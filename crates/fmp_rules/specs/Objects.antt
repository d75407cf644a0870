-- believed: see docs/PROOF.md, "What has to be believed"
-- Look-ups of the objects, and what of them a task may wait for.
use Rattle.std.specs.Prelude.{ℕ, ℤ, not, Bool, false, Option, None, List, [], ◌==◌, nat_lt, replicate, take, count_by, bit_and}
use Rattle.std.specs.List.{position}
use Rattle.fmp_codes.specs.declared.numbers.Proc.{Proc}
use Rattle.fmp_codes.specs.Numbers.{as_proc}
use Rattle.fmp_codes.specs.declared.numbers.Object.{Object}
use Rattle.fmp_codes.specs.declared.calls.Mode.{Mode}
use Rattle.fmp_codes.specs.declared.calls.Mode.TheVariants as mode
use Rattle.fmp_setup.specs.declared.setup.Order.TheVariants as order
use Rattle.fmp_setup.specs.declared.setup.SemaphoreSetup.{SemaphoreSetup}
use Rattle.fmp_setup.specs.declared.setup.EventflagSetup.{EventflagSetup}
use Rattle.fmp_setup.specs.declared.setup.DataQueueSetup.{DataQueueSetup}
use Rattle.fmp_setup.specs.declared.setup.PoolSetup.{PoolSetup}
use Rattle.fmp_setup.specs.declared.setup.CyclicSetup.{CyclicSetup}
use Rattle.fmp_setup.specs.declared.setup.AlarmSetup.{AlarmSetup}
use Rattle.fmp_rules.specs.declared.machine.Semaphore.{Semaphore}
use Rattle.fmp_rules.specs.declared.machine.Eventflag.{Eventflag}
use Rattle.fmp_rules.specs.declared.machine.Pool.{Pool}
use Rattle.fmp_rules.specs.declared.machine.Cyclic.{Cyclic}
use Rattle.fmp_rules.specs.declared.machine.Alarm.{Alarm}
pub use Rattle.fmp_setup.specs.Setup.{no_semaphore, no_eventflag, no_data_queue, no_pool, no_cyclic, no_alarm}
use Rattle.fmp_rules.specs.World.{World, no_task, item}

abbrev pub blank_semaphore : Semaphore
blank_semaphore = record { setup = no_semaphore; count = 0 }

abbrev pub blank_eventflag : Eventflag
blank_eventflag = record { setup = no_eventflag; pattern = 0 }

abbrev pub blank_pool : Pool
blank_pool = record { setup = no_pool; handed = replicate 64 false }

module _ {Q : Type 0} (w : World Q) where
  abbrev pub semaphore : Object → Semaphore
  semaphore s = item blank_semaphore w.semaphores s.number

  abbrev pub eventflag : Object → Eventflag
  eventflag f = item blank_eventflag w.eventflags f.number

  abbrev pub data_queue : Object → DataQueueSetup
  data_queue d = item no_data_queue w.data_queues d.number

  -- the values of a data queue, the oldest first
  abbrev pub values : Object → List ℤ
  values d = item [] w.contents d.number

  abbrev pub pool : Object → Pool
  pool m = item blank_pool w.pools m.number

  -- the least block of a pool that is not handed out
  abbrev pub free_block : Object → Option ℕ
  free_block m = position not (take (pool m).setup.blocks (pool m).handed)

  abbrev pub cyclic : Object → Cyclic
  cyclic c = item (record { setup = no_cyclic; assigned = as_proc 1 }) w.cyclics c.number

  abbrev pub alarm : Object → Alarm
  alarm a = item (record { setup = no_alarm; assigned = as_proc 1 }) w.alarms a.number

  -- the processor that holds a spin lock
  abbrev pub holder : Object → Option Proc
  holder l = item None w.holders l.number

-- the bits of a pattern are set in x: all of them, or one
abbrev pub holds : ℕ → ℕ → Mode → Bool
holds x pattern mode.Andw = bit_and x pattern == pattern
holds x pattern mode.Orw = nat_lt 0 (bit_and x pattern)

-- how many blocks of a pool are not handed out
abbrev pub free_blocks : Pool → ℕ
free_blocks x = count_by not (take x.setup.blocks x.handed)
