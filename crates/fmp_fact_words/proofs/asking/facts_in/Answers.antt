use Rattle.std.proofs.Common.{◌∙◌, ◌+◌, ℕ, List, Some, ap, arith, drop, map, sym, Bor}
use Rattle.fmp_fact_words.specs.Asking.{facts_in, joined}
use Rattle.fmp_fact_words.proofs.Taking.{taken, word_here}
use Rattle.fmp_fact_words.proofs.asking.facts_in.Goals as goal

pub loop-word-preserved : goal.loop-word-preserved
loop-word-preserved c =
    let lt = c.loop-word-test.true in
    let i = c.loop-word.word-index in
    taken c.loop-word.facts.items c.add_fact.new.facts.items _ (facts_in c.args.names.now (map (λ (x : Bor (List ℕ)). x.now) (drop (i + 1) c.args.words.now))) _
    c.in_ok-add_fact.field-0 c.in_ok-add_fact.ensures.done c.if-not-branch.false c.in_ok-add_fact.ensures.added
    (ap (joined (Some c.loop-word.facts.items)) (sym (word_here c.args.names.now c.args.words.now i _ (omega (arith, lt)))) ∙ c.loop-word.invariant)
