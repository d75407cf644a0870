use Rattle.std.proofs.Common.{◌≡◌, ◌++◌, None, map, take, drop, if◌then◌else◌}
use Rattle.fmp_rules.specs.Processors.{is_at}
use Rattle.fmp_plain_machine.proofs.locks.free.Given as goal

-- those that were passed are changed
abbrev pub invariant-loop-index : goal.invariant-loop-index
invariant-loop-index l =
    let old = l.fn.holders.items in
    l.holders.items ≡ map (λ h. if is_at l.p h then None else h) (take l.index old) ++ drop l.index old
