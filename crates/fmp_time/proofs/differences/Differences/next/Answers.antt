use Rattle.std.proofs.Common.{Some, List, sym, ap, subst, ◌∙◌, arith}
use Rattle.std.specs.Prelude.{slice_index}
use Rattle.fmp_kernel_parts.specs.Lists as links
use Rattle.fmp_kernel_parts.proofs.Soundness.{first_there}
use Rattle.fmp_time.specs.Differences.{Entry, entries_at, least_of, IsLeastIn}
use Rattle.fmp_time.specs.Left.{AreDisjoint}
use Rattle.fmp_time.proofs.Entries.{list_at-entries_of}
use Rattle.fmp_time.proofs.Reading.{least_some, least_none}
use Rattle.fmp_time.proofs.Found.{least_first, disjoint-entries_of}
use Rattle.fmp_time.proofs.differences.Differences.next.Goals as goal

pub offset_bounds-self-inside-item : goal.offset_bounds-self-inside-item
offset_bounds-self-inside-item c =
    let low = c.first.ensures.disjoint.small c.args.list c.in_ok-item.item (first_there c.in_ok-item.item _ (sym c.in_ok-item.ensures.value)) in
    omega (arith, low)

pub bounds-self-inside-item : goal.bounds-self-inside-item
bounds-self-inside-item c = c.first.ensures.disjoint.small c.args.list c.in_ok-item.item (first_there c.in_ok-item.item _ (sym c.in_ok-item.ensures.value))

pub returns-in_err-item : goal.returns-in_err-item
returns-in_err-item c = record {
  value = c.from_residual.ensures ∙ sym (least_none (slice_index c.self.inside.more) (links.list_at c.self.inside.links c.args.list) (sym c.in_err-item.ensures.value))
      ∙ ap least_of (sym (list_at-entries_of c.self.inside.more c.self.inside.links c.args.list)) ∙ ap (λ (q : List (List Entry)). least_of (entries_at q c.args.list)) c.self.view_is;
  least = subst (IsLeastIn (entries_at c.args.self.now c.args.list)) (sym c.from_residual.ensures) tt;
  disjoint = subst AreDisjoint c.self.view_is (disjoint-entries_of c.self.inside.more c.self.inside.links c.self.invariant.count c.first.ensures.disjoint);
}

pub returns : goal.returns
returns c = record {
  value = sym (least_some (slice_index c.self.inside.more) (links.list_at c.self.inside.links c.args.list) c.in_ok-item.item (sym c.in_ok-item.ensures.value))
      ∙ ap least_of (sym (list_at-entries_of c.self.inside.more c.self.inside.links c.args.list)) ∙ ap (λ (q : List (List Entry)). least_of (entries_at q c.args.list)) c.self.view_is;
  least = subst (λ (es : List Entry). IsLeastIn es (Some (slice_index c.self.inside.more c.in_ok-item.item)))
      (sym (list_at-entries_of c.self.inside.more c.self.inside.links c.args.list) ∙ ap (λ (q : List (List Entry)). entries_at q c.args.list) c.self.view_is)
      (least_first (slice_index c.self.inside.more) (links.list_at c.self.inside.links c.args.list) c.in_ok-item.item (sym c.in_ok-item.ensures.value));
  disjoint = subst AreDisjoint c.self.view_is (disjoint-entries_of c.self.inside.more c.self.inside.links c.self.invariant.count c.first.ensures.disjoint);
}
