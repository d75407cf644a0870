use Rattle.std.proofs.Common.{◌≡◌, ◌++◌, drop, map}
use Rattle.fmp_search_question.specs.Resolved.{resolved_part}
use Rattle.fmp_search_question.proofs.resolving.resolved_moment.Given as goal

-- those so far, and those that are left
abbrev pub invariant-loop-part : goal.invariant-loop-part
invariant-loop-part l = l.parts.items ++ map (resolved_part l.fn.names) (drop l.part-index l.part-items) ≡ map (resolved_part l.fn.names) l.fn.moment
