use Rattle.std.proofs.Common.{ℕ, ◌^◌, ◌<◌, List, sym, ap, subst, ◌∙◌, arith, rules}
use Rattle.std.specs.Prelude.{slice_index}
use Rattle.fmp_kernel_parts.specs.Lists as links
use Rattle.fmp_time.specs.Differences.{Entry, take_out, entries_of, sum_of}
use Rattle.fmp_time.proofs.Removing.{parts_in, there_in, after_in, two_most, gains_next, gains_none, removed_entries, removed_summed}
use Rattle.fmp_time.proofs.differences.Differences.remove.Goals as goal

pub offset_bounds-self-inside-following : goal.offset_bounds-self-inside-following
offset_bounds-self-inside-following c =
    let i = c.requires.somewhere.0 in
    let p = parts_in c.self.inside.more c.self.inside.links c.args.self.now c.args.item i c.self.view_is c.requires.somewhere.1 in
    let low = c.next.ensures.disjoint.small i c.in-Some.following (after_in (links.list_at c.self.inside.links i) c.args.item c.in-Some.following p.before p.following p.whole (sym (c.in-Some.ensures.value i p.before p.following p.whole))) in
    omega (arith, low)

pub bounds-self-inside-following : goal.bounds-self-inside-following
bounds-self-inside-following c =
    let i = c.requires.somewhere.0 in
    let p = parts_in c.self.inside.more c.self.inside.links c.args.self.now c.args.item i c.self.view_is c.requires.somewhere.1 in
    c.next.ensures.disjoint.small i c.in-Some.following (after_in (links.list_at c.self.inside.links i) c.args.item c.in-Some.following p.before p.following p.whole (sym (c.in-Some.ensures.value i p.before p.following p.whole)))

pub bounds-self-inside-following-in-Some : goal.bounds-self-inside-following-in-Some
bounds-self-inside-following-in-Some c =
    let i = c.requires.somewhere.0 in
    let p = parts_in c.self.inside.more c.self.inside.links c.args.self.now c.args.item i c.self.view_is c.requires.somewhere.1 in
    c.next.ensures.disjoint.small i c.in-Some.following (after_in (links.list_at c.self.inside.links i) c.args.item c.in-Some.following p.before p.following p.whole (sym (c.in-Some.ensures.value i p.before p.following p.whole)))

pub overflow_add-self : goal.overflow_add-self
overflow_add-self c =
    let i = c.requires.somewhere.0 in
    let p = parts_in c.self.inside.more c.self.inside.links c.args.self.now c.args.item i c.self.view_is c.requires.somewhere.1 in
    let two = two_most (slice_index c.self.inside.more) c.args.item c.in-Some.following p.before p.following (sym (c.in-Some.ensures.value i p.before p.following p.whole)) in
    let most = subst (λ (xs : List ℕ). sum_of (slice_index c.self.inside.more) xs < 2 ^ 64) p.whole (c.self.invariant.bound i) in
    omega (arith, two, most)

pub remove-requires : goal.remove-requires
remove-requires c =
    (search rules, (c.requires.item_in, (c.requires.somewhere.0, there_in c.self.inside.more c.self.inside.links c.args.self.now c.args.item c.requires.somewhere.0 c.self.view_is c.requires.somewhere.1)))

pub remove-requires-in-None : goal.remove-requires-in-None
remove-requires-in-None c =
    (search rules, (c.requires.item_in, (c.requires.somewhere.0, there_in c.self.inside.more c.self.inside.links c.args.self.now c.args.item c.requires.somewhere.0 c.self.view_is c.requires.somewhere.1)))

pub invariant_of-self : goal.invariant_of-self
invariant_of-self c =
    let i = c.requires.somewhere.0 in
    let p = parts_in c.self.inside.more c.self.inside.links c.args.self.now c.args.item i c.self.view_is c.requires.somewhere.1 in
    rw c.remove.ensures (removed_summed c.self.inside.more _ c.self.inside.links i c.args.item p.before p.following c.self.invariant c.next.ensures.disjoint p.whole
    (gains_next c.self.inside.more c.self.inside.links i c.args.item c.in-Some.following p c.next.ensures.disjoint c.self.told (sym (c.in-Some.ensures.value i p.before p.following p.whole))))

pub invariant_of-self-in-None : goal.invariant_of-self-in-None
invariant_of-self-in-None c =
    let i = c.requires.somewhere.0 in
    let p = parts_in c.self.inside.more c.self.inside.links c.args.self.now c.args.item i c.self.view_is c.requires.somewhere.1 in
    rw c.remove-in-None.ensures (removed_summed c.self.inside.more c.self.inside.more c.self.inside.links i c.args.item p.before p.following c.self.invariant c.next.ensures.disjoint p.whole
    (gains_none c.self.inside.more c.args.item p.following (sym (c.in-None.ensures.value i p.before p.following p.whole))))

pub returns-in-Some : goal.returns-in-Some
returns-in-Some c =
    let i = c.requires.somewhere.0 in
    let p = parts_in c.self.inside.more c.self.inside.links c.args.self.now c.args.item i c.self.view_is c.requires.somewhere.1 in
    ap (entries_of _) c.remove.ensures ∙ removed_entries c.self.inside.more _ c.self.inside.links i c.args.item p.before p.following c.next.ensures.disjoint p.whole
    (gains_next c.self.inside.more c.self.inside.links i c.args.item c.in-Some.following p c.next.ensures.disjoint c.self.told (sym (c.in-Some.ensures.value i p.before p.following p.whole)))
    ∙ ap (λ (q : List (List Entry)). take_out q c.args.item) c.self.view_is

pub returns-in-None : goal.returns-in-None
returns-in-None c =
    let i = c.requires.somewhere.0 in
    let p = parts_in c.self.inside.more c.self.inside.links c.args.self.now c.args.item i c.self.view_is c.requires.somewhere.1 in
    ap (entries_of c.self.inside.more) c.remove-in-None.ensures ∙ removed_entries c.self.inside.more c.self.inside.more c.self.inside.links i c.args.item p.before p.following c.next.ensures.disjoint p.whole
    (gains_none c.self.inside.more c.args.item p.following (sym (c.in-None.ensures.value i p.before p.following p.whole)))
    ∙ ap (λ (q : List (List Entry)). take_out q c.args.item) c.self.view_is
