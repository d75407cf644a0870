use Rattle.std.proofs.Common.{◌≡◌, ◌++◌, map, take, drop}
use Rattle.fmp_spin.specs.Locks.{freed}
use Rattle.fmp_spin.proofs.holder.free_all.Given as goal

-- those that were passed are changed
abbrev pub invariant-loop-holder : goal.invariant-loop-holder
invariant-loop-holder l =
    let old = l.fn.holders in
    l.holders ≡ map (freed l.p) (take l.holder-index old) ++ drop l.holder-index old
