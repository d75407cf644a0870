use Rattle.std.proofs.Common.{◌≡◌, [], ◌∙◌, sym, arith, below_more}
use Rattle.fmp_time.specs.Differences.{entries_at}
use Rattle.fmp_time.proofs.Dues.{none_first, all_none}
use Rattle.fmp_time.proofs.differences.Differences.is_empty.Goals as goal

pub loop-list-preserved : goal.loop-list-preserved
loop-list-preserved c =
    let q = c.args.self.now in record {
      none = below_more (λ j. entries_at q j ≡ []) c.loop-list.list c.loop-list.invariant.none
          (none_first (entries_at q c.loop-list.list) c.next.result c.next.ensures.value (sym c.is_some.ensures ∙ c.if-is_some.false));
      count = λ l. c.next.ensures.disjoint.count;
    }

pub returns : goal.returns
returns c = λ is. all_none c.args.self.now (c.loop-list.invariant.count (omega (arith, c.loop-list-test.false))) (λ j l. c.loop-list.invariant.none j (omega (arith, l, c.loop-list-test.false)))
