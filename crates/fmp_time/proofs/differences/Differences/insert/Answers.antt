use Rattle.std.proofs.Common.{List, length, sym, ap, ◌∙◌, arith, rules}
use Rattle.std.specs.Prelude.{slice_index, slice_set}
use Rattle.std.proofs.lemmas.List.{length-map}
use Rattle.fmp_kernel_parts.specs.Lists as links
use Rattle.fmp_time.specs.Differences.{Entry, entries_at, has_entry, sorted_in, entries_from, entries_of}
use Rattle.fmp_time.proofs.Sums.{spot_there, spot_less}
use Rattle.fmp_time.proofs.Entries.{has_entry-entries_of, some_summed, some_entries, none_summed, none_entries}
use Rattle.fmp_time.proofs.differences.Differences.insert.Goals as goal

pub offset_bounds-self-inside-following : goal.offset_bounds-self-inside-following
offset_bounds-self-inside-following c =
    let low = c.spot-following.ensures.disjoint.small c.args.list c.in-Some.following (spot_there _ c.args.ticks _ c.in-Some.following (sym c.spot-following.ensures.item ∙ c.in-Some.is)) in
    omega (arith, low)

pub bounds-self-inside-following : goal.bounds-self-inside-following
bounds-self-inside-following c =
    c.spot-following.ensures.disjoint.small c.args.list c.in-Some.following (spot_there _ c.args.ticks _ c.in-Some.following (sym c.spot-following.ensures.item ∙ c.in-Some.is))

pub overflow_sub-self : goal.overflow_sub-self
overflow_sub-self c =
    let less = spot_less (slice_index c.self.inside.more) c.args.ticks (links.list_at c.self.inside.links c.args.list) c.in-Some.following (sym c.spot-following.ensures.item ∙ c.in-Some.is) in
    omega (arith, less, c.spot-following.ensures.rest)

pub bounds-self-inside-following-in-Some : goal.bounds-self-inside-following-in-Some
bounds-self-inside-following-in-Some c =
    c.spot-following.ensures.disjoint.small c.args.list c.in-Some.following (spot_there _ c.args.ticks _ c.in-Some.following (sym c.spot-following.ensures.item ∙ c.in-Some.is))

pub insert_before-requires : goal.insert_before-requires
insert_before-requires c =
    let there = spot_there (slice_index c.self.inside.more) c.args.ticks (links.list_at c.self.inside.links c.args.list) c.in-Some.following (sym c.spot-following.ensures.item ∙ c.in-Some.is) in (
      search rules,
      (
        c.requires.list_in,
        (
          c.spot-following.ensures.disjoint.small c.args.list c.in-Some.following there,
          (
            there,
            (
              c.requires.item_in,
              (λ i. sym (has_entry-entries_of c.self.inside.more c.self.inside.links c.args.item i) ∙ ap (λ (q : List (List Entry)). has_entry c.args.item (entries_at q i)) c.self.view_is ∙ c.requires.nowhere i),
            ),
          ),
        ),
      ),
    )

pub push_last-requires : goal.push_last-requires
push_last-requires c = (
  search rules,
  (
    c.requires.list_in,
    (
      c.requires.item_in,
      (λ i. sym (has_entry-entries_of c.self.inside.more c.self.inside.links c.args.item i) ∙ ap (λ (q : List (List Entry)). has_entry c.args.item (entries_at q i)) c.self.view_is ∙ c.requires.nowhere i),
    ),
  ),
)

pub invariant_of-self : goal.invariant_of-self
invariant_of-self c =
    rw c.insert_before.ensures (some_summed c.self.inside.more c.self.inside.links c.args.list c.args.item c.in-Some.following c.args.ticks c.spot-following.result.1 c.self.invariant
    c.spot-following.ensures.disjoint c.self.told c.requires.list_in c.requires.item_in
    (λ i. sym (has_entry-entries_of c.self.inside.more c.self.inside.links c.args.item i) ∙ ap (λ (q : List (List Entry)). has_entry c.args.item (entries_at q i)) c.self.view_is ∙ c.requires.nowhere i)
    (sym c.spot-following.ensures.item ∙ c.in-Some.is) c.spot-following.ensures.rest)

pub returns-in-Some-clause-entries : goal.returns-in-Some-clause-entries
returns-in-Some-clause-entries c =
    ap (entries_of _) c.insert_before.ensures
    ∙ some_entries c.self.inside.more c.self.inside.links c.args.list c.args.item c.in-Some.following c.args.ticks c.spot-following.result.1 c.self.invariant
    c.spot-following.ensures.disjoint c.self.told c.requires.list_in c.requires.item_in
    (λ i. sym (has_entry-entries_of c.self.inside.more c.self.inside.links c.args.item i) ∙ ap (λ (q : List (List Entry)). has_entry c.args.item (entries_at q i)) c.self.view_is ∙ c.requires.nowhere i)
    (sym c.spot-following.ensures.item ∙ c.in-Some.is) c.spot-following.ensures.rest
    ∙ ap (λ (q : List (List Entry)). slice_set q c.args.list (sorted_in c.args.item c.args.ticks (entries_at q c.args.list))) c.self.view_is

pub invariant_of-self-in-None : goal.invariant_of-self-in-None
invariant_of-self-in-None c =
    rw c.push_last.ensures (none_summed c.self.inside.more c.self.inside.links c.args.list c.args.item c.args.ticks c.spot-following.result.1 c.self.invariant
    c.self.told c.requires.list_in c.requires.item_in c.ranges.ticks.fits
    (λ i. sym (has_entry-entries_of c.self.inside.more c.self.inside.links c.args.item i) ∙ ap (λ (q : List (List Entry)). has_entry c.args.item (entries_at q i)) c.self.view_is ∙ c.requires.nowhere i)
    (sym c.spot-following.ensures.item ∙ c.in-None.is) c.spot-following.ensures.rest)

pub returns-in-None-clause-entries : goal.returns-in-None-clause-entries
returns-in-None-clause-entries c =
    ap (entries_of _) c.push_last.ensures
    ∙ none_entries c.self.inside.more c.self.inside.links c.args.list c.args.item c.args.ticks c.spot-following.result.1 c.self.invariant
    c.self.told c.requires.list_in c.requires.item_in
    (λ i. sym (has_entry-entries_of c.self.inside.more c.self.inside.links c.args.item i) ∙ ap (λ (q : List (List Entry)). has_entry c.args.item (entries_at q i)) c.self.view_is ∙ c.requires.nowhere i)
    (sym c.spot-following.ensures.item ∙ c.in-None.is) c.spot-following.ensures.rest
    ∙ ap (λ (q : List (List Entry)). slice_set q c.args.list (sorted_in c.args.item c.args.ticks (entries_at q c.args.list))) c.self.view_is

pub returns-in-Some-clause-count : goal.returns-in-Some-clause-count
returns-in-Some-clause-count c = ap length (sym c.self.view_is) ∙ length-map c.self.inside.links (entries_from (slice_index c.self.inside.more) 0) ∙ c.self.invariant.count

pub returns-in-None-clause-count : goal.returns-in-None-clause-count
returns-in-None-clause-count c = ap length (sym c.self.view_is) ∙ length-map c.self.inside.links (entries_from (slice_index c.self.inside.more) 0) ∙ c.self.invariant.count
