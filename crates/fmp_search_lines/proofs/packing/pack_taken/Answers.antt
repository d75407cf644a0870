use Rattle.std.proofs.Common.{◌∙◌, ◌≤◌, ℕ, List, subst}
use Rattle.fmp_interned.specs.Trees.{IsTree}
use Rattle.fmp_search_lines.proofs.Keys.{taken_key}
use Rattle.fmp_search_lines.proofs.packing.pack_taken.Goals as goal

pub returns-clause-is : goal.returns-clause-is
returns-clause-is c =
    taken_key c.key_of.new.self c.joined.result c.len.result c.in_ok-list.list c.args.state c.args.taken.now.top c.args.taken.now.pending.items c.put_words.new.words
    (subst (λ n. n ≤ 16) c.len.ensures.value c.len.ensures.fits)
    c.joined.ensures.upper c.joined.ensures.lower c.len.ensures.value c.in_ok-put_words.ensures
    (subst (λ (xs : List ℕ). IsTree c.key_of.new.self xs c.in_ok-list.list) c.as_slice.ensures c.in_ok-list.ensures.is)
