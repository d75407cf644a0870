use Rattle.std.proofs.Common.{◌≡◌, ℕ, List, drop, map, Some, Bor}
use Rattle.fmp_fact_words.specs.Asking.{facts_in, joined}
use Rattle.fmp_fact_words.proofs.asking.facts_in.Given as goal

-- the facts so far, and those of the words that are left
abbrev pub invariant-loop-word : goal.invariant-loop-word
invariant-loop-word l =
    joined (Some l.facts.items) (facts_in l.names (map (λ (x : Bor (List ℕ)). x.now) (drop l.word-index l.words)))
    ≡ facts_in l.fn.names (map (λ (x : Bor (List ℕ)). x.now) l.fn.words)
