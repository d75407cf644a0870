use Rattle.std.proofs.Common.{List, sym, ap, subst, ◌∙◌, arith}
use Rattle.std.specs.Prelude.{slice_set}
use Rattle.fmp_time.specs.Differences.{Entry, entries_at, lowered}
use Rattle.fmp_time.specs.Left.{AreDisjoint}
use Rattle.fmp_time.proofs.Expiring.{small, positive, lower_entries, lower_summed, idle_entries}
use Rattle.fmp_time.proofs.Found.{disjoint-entries_of}
use Rattle.fmp_time.proofs.differences.Differences.lower.Goals as goal

pub offset_bounds-self-inside-item : goal.offset_bounds-self-inside-item
offset_bounds-self-inside-item c =
    let low = small c.self.inside.more c.self.inside.links c.args.list c.in-Some.item c.self.invariant c.adding.ensures.disjoint c.self.told c.requires (sym c.adding.ensures.value ∙ c.in-Some.is) in
    omega (arith, low)

pub bounds-self-inside-item : goal.bounds-self-inside-item
bounds-self-inside-item c =
    small c.self.inside.more c.self.inside.links c.args.list c.in-Some.item c.self.invariant c.adding.ensures.disjoint c.self.told c.requires (sym c.adding.ensures.value ∙ c.in-Some.is)

pub overflow_sub-self : goal.overflow_sub-self
overflow_sub-self c =
    positive c.self.inside.more c.self.inside.links c.args.list c.in-Some.item c.self.invariant c.adding.ensures.disjoint c.self.told c.requires (sym c.adding.ensures.value ∙ c.in-Some.is)

pub bounds-self-inside-item-in-Some : goal.bounds-self-inside-item-in-Some
bounds-self-inside-item-in-Some c =
    small c.self.inside.more c.self.inside.links c.args.list c.in-Some.item c.self.invariant c.adding.ensures.disjoint c.self.told c.requires (sym c.adding.ensures.value ∙ c.in-Some.is)

pub invariant_of-self : goal.invariant_of-self
invariant_of-self c =
    lower_summed c.self.inside.more c.self.inside.links c.args.list c.in-Some.item c.self.invariant c.adding.ensures.disjoint c.self.told c.requires (sym c.adding.ensures.value ∙ c.in-Some.is)

pub returns-in-Some-clause-entries : goal.returns-in-Some-clause-entries
returns-in-Some-clause-entries c =
    lower_entries c.self.inside.more c.self.inside.links c.args.list c.in-Some.item c.self.invariant c.adding.ensures.disjoint c.self.told c.requires (sym c.adding.ensures.value ∙ c.in-Some.is)
    ∙ ap (λ (q : List (List Entry)). slice_set q c.args.list (lowered (entries_at q c.args.list))) c.self.view_is

pub returns-in-Some-clause-disjoint : goal.returns-in-Some-clause-disjoint
returns-in-Some-clause-disjoint c = subst AreDisjoint c.self.view_is (disjoint-entries_of c.self.inside.more c.self.inside.links c.self.invariant.count c.adding.ensures.disjoint)

pub returns-in_default-clause-entries : goal.returns-in_default-clause-entries
returns-in_default-clause-entries c =
    sym c.self.view_is ∙ idle_entries c.self.inside.more c.self.inside.links c.args.list (sym c.adding.ensures.value ∙ c.in_default.is)
    ∙ ap (λ (q : List (List Entry)). slice_set q c.args.list (lowered (entries_at q c.args.list))) c.self.view_is

pub returns-in_default-clause-disjoint : goal.returns-in_default-clause-disjoint
returns-in_default-clause-disjoint c = subst AreDisjoint c.self.view_is (disjoint-entries_of c.self.inside.more c.self.inside.links c.self.invariant.count c.adding.ensures.disjoint)
