use Rattle.std.proofs.Common.{◌≡◌, ◌++◌, drop}
use Rattle.fmp_fact_words.specs.Asking.{asked_of_kinds}
use Rattle.fmp_fact_words.proofs.asking.asked_of_kinds.Given as goal

-- those so far, and those of the kinds that are left
abbrev pub invariant-loop-kind : goal.invariant-loop-kind
invariant-loop-kind l = l.asked.items ++ asked_of_kinds l.facts (drop l.kind-index l.kinds) ≡ asked_of_kinds l.fn.facts l.fn.kinds
