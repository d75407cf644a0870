use Rattle.std.proofs.Common.{◌≡◌, ◌++◌, drop, map}
use Rattle.fmp_search_question.specs.Resolved.{resolved_item}
use Rattle.fmp_search_question.proofs.resolving.resolved_part.Given as goal

-- those so far, and those that are left
abbrev pub invariant-loop-item : goal.invariant-loop-item
invariant-loop-item l = l.items.items ++ map (resolved_item l.fn.names) (drop l.item-index l.item-items) ≡ map (resolved_item l.fn.names) l.fn.part
