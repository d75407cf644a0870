use Rattle.std.proofs.Common.{◌≡◌, ◌++◌, drop, map}
use Rattle.fmp_search_question.specs.Resolved.{resolved_moment}
use Rattle.fmp_search_question.proofs.resolving.resolved_lasting.Given as goal

-- those so far, and those that are left
abbrev pub invariant-loop-part : goal.invariant-loop-part
invariant-loop-part l = l.resolved.items ++ map (resolved_moment l.fn.names) (drop l.part-index l.parts) ≡ map (resolved_moment l.fn.names) l.fn.parts
