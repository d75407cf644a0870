use Rattle.std.proofs.Common.{◌||◌, Bool, false, List, [], get_or, sym, ap, subst, ◌∙◌, arith}
use Rattle.std.specs.List.{list_any}
use Rattle.std.proofs.lemmas.List.{get_or-replicate, take_all}
use Rattle.std.proofs.lemmas.List.Folds.{list_any_more}
use Rattle.fmp_kernel_parts.specs.Lists.{has}
use Rattle.fmp_time.specs.Differences.{Entry, entries_at, due, items_of}
use Rattle.fmp_time.specs.Left.{AreDisjoint}
use Rattle.fmp_time.proofs.Found.{disjoint-entries_of}
use Rattle.fmp_time.proofs.Lefts.{over-left}
use Rattle.fmp_time.proofs.Dues.{zeros_at}
use Rattle.fmp_time.proofs.differences.Differences.marks.Goals as goal

pub loop-list-init : goal.loop-list-init
loop-list-init c = record { marks = λ k h. get_or-replicate 128 k false false h; disjoint = λ l. absurd (omega (arith, l)) }

pub loop-list-preserved : goal.loop-list-preserved
loop-list-preserved c =
    let now = c.args.self.now in
    let i = c.loop-list.list in
    let apart : AreDisjoint c.args.self.now = subst AreDisjoint c.self.view_is (disjoint-entries_of c.self.inside.more c.self.inside.links c.self.invariant.count c.mark_zeros.ensures.disjoint) in
    record {
      marks = λ k h. c.mark_zeros.ensures.marks k h
          ∙ ap (λ (b : Bool). get_or c.loop-list.marks k false || b) (zeros_at c.self.inside.more c.self.inside.links now i k c.self.view_is)
          ∙ ap (λ (b : Bool). b || has k (items_of (due (entries_at c.args.self.now c.loop-list.list)))) (c.loop-list.invariant.marks k h)
          ∙ sym (list_any_more (λ (es : List Entry). has k (items_of (due es))) now i [] (omega (arith, c.loop-list-test.true, apart.count)));
      disjoint = λ l. apart;
    }

pub returns : goal.returns
returns c = λ k h.
    let now = c.args.self.now in
    let apart : AreDisjoint c.args.self.now = c.loop-list.invariant.disjoint (omega arith) in
    c.loop-list.invariant.marks k h
    ∙ ap (list_any (λ (es : List Entry). has k (items_of (due es)))) (take_all c.loop-list.list now (omega (arith, apart.count, c.loop-list-test.false)))
    ∙ over-left now k apart
