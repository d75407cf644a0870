-- What is told of a processor, a task or an object.
use Rattle.std.specs.Prelude.{ℕ, ◌+◌, List, ◌++◌, length, codes, decimal}
use Rattle.fmp_setup.specs.Setup.{Setup}
use Rattle.fmp_run_view.specs.declared.signal.Signal.{Signal}
use Rattle.fmp_run_view.specs.declared.signal.Signal.TheVariants.{Running, Flags, Due, State, Place, Rest, Semaphore, Eventflag, DataQueue, Pool, Cyclic, Alarm, SpinLock}

abbrev pub letter : Signal → List ℕ
letter Running = codes "r"
letter Flags = codes "l"
letter Due = codes "h"
letter State = codes "s"
letter Place = codes "n"
letter Rest = codes "a"
letter Semaphore = codes "S"
letter Eventflag = codes "F"
letter DataQueue = codes "D"
letter Pool = codes "M"
letter Cyclic = codes "C"
letter Alarm = codes "A"
letter SpinLock = codes "X"

-- of how many processors, tasks or objects of a configuration it is told
abbrev pub count : Setup → Signal → ℕ
count c Running = c.processors
count c Flags = c.processors
count c Due = c.processors
count c State = length c.tasks
count c Place = length c.tasks
count c Rest = length c.tasks
count c Semaphore = length c.semaphores
count c Eventflag = length c.eventflags
count c DataQueue = length c.data_queues
count c Pool = length c.pools
count c Cyclic = length c.cyclics
count c Alarm = length c.alarms
count c SpinLock = c.spin_locks

-- of how many at most
abbrev pub most : Signal → ℕ
most Running = 8
most Flags = 8
most Due = 8
most State = 64
most Place = 64
most Rest = 64
most _ = 32

-- the identifier of the one at this place, which counts from 0
unfoldable pub identifier : Signal → ℕ → List ℕ
identifier signal i = letter signal ++ decimal (i + 1)
