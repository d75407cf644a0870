use Rattle.std.proofs.Common.{◌≡◌, ◌-◌, ◌++◌, map, take, drop}
use Rattle.fmp_search_kernel.proofs.ticks.take_one.Given as goal

-- those that were passed are one less
abbrev pub invariant-loop-count : goal.invariant-loop-count
invariant-loop-count l =
    let old = l.fn.taken in
    l.taken ≡ map (λ n. n - 1) (take l.count-index old) ++ drop l.count-index old
