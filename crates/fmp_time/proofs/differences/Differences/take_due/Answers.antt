use Rattle.std.proofs.Common.{◌≡◌, List, [], sym, ap, ◌∙◌, arith}
use Rattle.std.specs.Prelude.{slice_set}
use Rattle.std.proofs.lemmas.List.{set-get_or}
use Rattle.fmp_kernel_parts.proofs.Soundness.{first_there}
use Rattle.fmp_time.specs.Differences.{Entry, entries_at, due, not_due, entries_of, items_of, items_given}
use Rattle.fmp_time.proofs.Expiring.{rest_entries, rest_summed, rest_due, quiet_entries, quiet_due, empty_is}
use Rattle.fmp_time.proofs.differences.Differences.take_due.Goals as goal

pub offset_bounds-self-inside-first : goal.offset_bounds-self-inside-first
offset_bounds-self-inside-first c =
    let low = c.first.ensures.disjoint.small c.args.list c.in_ok-first.first (first_there c.in_ok-first.first _ (sym c.in_ok-first.ensures.value)) in
    omega (arith, low)

pub bounds-self-inside-first : goal.bounds-self-inside-first
bounds-self-inside-first c = c.first.ensures.disjoint.small c.args.list c.in_ok-first.first (first_there c.in_ok-first.first _ (sym c.in_ok-first.ensures.value))

pub returns-in_err-first : goal.returns-in_err-first
returns-in_err-first c =
    let empty : entries_at c.args.self.now c.args.list ≡ [] =
    ap (λ (q : List (List Entry)). entries_at q c.args.list) (sym c.self.view_is) ∙ empty_is c.self.inside.more c.self.inside.links c.args.list (sym c.in_err-first.ensures.value) in
    record {
      entries = sym (ap (λ (es : List Entry). slice_set c.args.self.now c.args.list (not_due es)) empty ∙ ap (slice_set c.args.self.now c.args.list) (sym empty)
          ∙ set-get_or c.args.self.now c.args.list []);
      due = ap items_given c.from_residual.ensures ∙ sym (ap (λ (es : List Entry). items_of (due es)) empty);
    }

pub returns-then-self-first-gt0-clause-entries : goal.returns-then-self-first-gt0-clause-entries
returns-then-self-first-gt0-clause-entries c =
    sym c.self.view_is ∙ quiet_entries c.self.inside.more c.self.inside.links c.args.list c.self.invariant c.requires c.in_ok-first.first (sym c.in_ok-first.ensures.value) c.if-self-first-gt0.true
    ∙ ap (λ (q : List (List Entry)). slice_set q c.args.list (not_due (entries_at q c.args.list))) c.self.view_is

pub returns-then-self-first-gt0-clause-due : goal.returns-then-self-first-gt0-clause-due
returns-then-self-first-gt0-clause-due c =
    quiet_due c.self.inside.more c.self.inside.links c.args.list c.self.invariant c.requires c.in_ok-first.first (sym c.in_ok-first.ensures.value) c.if-self-first-gt0.true
    ∙ ap (λ (q : List (List Entry)). items_of (due (entries_at q c.args.list))) c.self.view_is

pub invariant_of-self : goal.invariant_of-self
invariant_of-self c = rw c.expire.ensures.lists (rest_summed c.self.inside.more c.self.inside.links c.args.list c.self.invariant c.requires)

pub returns-clause-entries : goal.returns-clause-entries
returns-clause-entries c =
    ap (entries_of _) c.expire.ensures.lists ∙ rest_entries c.self.inside.more c.self.inside.links c.args.list c.self.invariant c.requires
    ∙ ap (λ (q : List (List Entry)). slice_set q c.args.list (not_due (entries_at q c.args.list))) c.self.view_is

pub returns-clause-due : goal.returns-clause-due
returns-clause-due c =
    c.expire.ensures.items ∙ rest_due c.self.inside.more c.self.inside.links c.args.list c.self.invariant c.requires
    ∙ ap (λ (q : List (List Entry)). items_of (due (entries_at q c.args.list))) c.self.view_is
