use Rattle.std.proofs.Common.{◌≡◌, List, ◌++◌, drop, take}
use Rattle.fmp_interned.specs.Parts.{AreNumbersOf}
use Rattle.fmp_kernel_packed.proofs.handled.put_tasks.Given as goal

-- the first so many are those of their numbers
abbrev pub invariant-loop-at : goal.invariant-loop-at
invariant-loop-at l =
    (xs : List _) → AreNumbersOf l.kept l.numbers xs → l.machine ≡ record l.fn.machine { tasks = take l.at xs ++ drop l.at l.fn.machine.tasks }
