use Rattle.std.proofs.Common.{◌≡◌, ℕ, ◌+◌, ◌<◌, ◌++◌, ◌∷◌, [], List, length, append_assoc, refl, sym, ap, ◌∙◌, arith, rules}
use Rattle.std.specs.Prelude.{slice_index, slice_set}
use Rattle.std.proofs.lemmas.List.{get_or-set_same, length-set, set-set, set-get_or, append-nil, length_push}
use Rattle.fmp_kernel_parts.specs.Lists as links
use Rattle.fmp_kernel_parts.proofs.Soundness.{first_there}
use Rattle.fmp_time.specs.Differences.{zeros_of, rest_of}
use Rattle.fmp_time.proofs.Expiring.{tail_of, first_is, no_first, zeros_on, rest_on, zeros_end, rest_end, pop_is}
use Rattle.fmp_time.proofs.differences.expire.Goals as goal

pub loop-init : goal.loop-init
loop-init c = record {
  items = ap (λ (xs : List ℕ). xs ++ zeros_of (slice_index c.args.more.now) (links.list_at c.args.links.now c.args.list)) c.new-items.ensures;
  rest = refl;
  others = sym (set-get_or c.args.links.now c.args.list []);
  taken = ap length c.new-items.ensures;
  few = omega (arith, c.first-here.ensures.few);
  count = c.requires.counted;
  here = c.first-here.ensures.value;
  disjoint = c.first-here.ensures.disjoint;
}

pub offset_bounds-more-item : goal.offset_bounds-more-item
offset_bounds-more-item c =
    let low = c.loop.invariant.disjoint.small c.args.list c.in-Some.item (first_there c.in-Some.item _ (sym c.loop.invariant.here ∙ c.in-Some.is)) in
    omega (arith, low)

pub bounds-more-item : goal.bounds-more-item
bounds-more-item c = c.loop.invariant.disjoint.small c.args.list c.in-Some.item (first_there c.in-Some.item _ (sym c.loop.invariant.here ∙ c.in-Some.is))

pub remove-requires : goal.remove-requires
remove-requires c =
    let there = first_there c.in-Some.item (links.list_at c.loop.links c.args.list) (sym c.loop.invariant.here ∙ c.in-Some.is) in
    (search rules, (c.loop.invariant.disjoint.small c.args.list c.in-Some.item there, (c.args.list, there)))

pub returns-then-more-item-gt0 : goal.returns-then-more-item-gt0
returns-then-more-item-gt0 c =
    let d = slice_index c.args.more.now in
    let xs = links.list_at c.loop.links c.args.list in
    let whole = first_is xs c.in-Some.item (sym c.loop.invariant.here ∙ c.in-Some.is) in
    let more : d c.in-Some.item ≡ 0 → ⊥ = λ e. omega (arith, e, c.if-more-item-gt0.true) in
    record {
      lists = c.loop.invariant.others ∙ ap (slice_set c.args.links.now c.args.list)
          (whole ∙ sym (rest_end d c.in-Some.item (tail_of xs) more) ∙ ap (rest_of d) (sym whole) ∙ c.loop.invariant.rest);
      items = sym (append-nil c.loop.items.items) ∙ ap (λ (ys : List ℕ). c.loop.items.items ++ ys) (sym (zeros_end d c.in-Some.item (tail_of xs) more) ∙ ap (zeros_of d) (sym whole))
          ∙ c.loop.invariant.items;
    }

pub returns-in-None : goal.returns-in-None
returns-in-None c =
    let d = slice_index c.args.more.now in
    let xs = links.list_at c.loop.links c.args.list in
    let empty = no_first xs (sym c.loop.invariant.here ∙ c.in-None.is) in
    record {
      lists = c.loop.invariant.others ∙ ap (slice_set c.args.links.now c.args.list) (empty ∙ ap (rest_of d) (sym empty) ∙ c.loop.invariant.rest);
      items = sym (append-nil c.loop.items.items) ∙ ap (λ (ys : List ℕ). c.loop.items.items ++ ys) (ap (zeros_of d) (sym empty)) ∙ c.loop.invariant.items;
    }

pub loop-preserved : goal.loop-preserved
loop-preserved c =
    let d = slice_index c.args.more.now in
    let i = c.args.list in
    let x = c.in-Some.item in
    let q = c.loop.links in
    let ys = tail_of (links.list_at c.loop.links c.args.list) in
    let whole = first_is (links.list_at c.loop.links c.args.list) c.in-Some.item (sym c.loop.invariant.here ∙ c.in-Some.is) in
    let zero : d c.in-Some.item ≡ 0 = omega (arith, c.if-more-item-gt0.false) in
    let within : c.args.list < length c.loop.links = omega (arith, c.loop.invariant.count, c.requires.list_in) in
    let new : c.remove.new.self ≡ slice_set q i ys = c.remove.ensures ∙ pop_is c.loop.links c.args.list c.in-Some.item ys c.loop.invariant.disjoint within whole in
    let here : links.list_at c.remove.new.self i ≡ ys = ap (λ (r : List (List ℕ)). links.list_at r i) new ∙ get_or-set_same c.loop.links c.args.list ys [] within in
    record {
      items = ap (λ (zs : List ℕ). zs ++ zeros_of d (links.list_at c.remove.new.self i)) c.push.ensures.items
          ∙ ap (λ (zs : List ℕ). (c.loop.items.items ++ x ∷ []) ++ zeros_of d zs) here
          ∙ append_assoc c.loop.items.items (x ∷ []) (zeros_of d ys)
          ∙ ap (λ (zs : List ℕ). c.loop.items.items ++ zs) (sym (zeros_on d x ys zero) ∙ ap (zeros_of d) (sym whole)) ∙ c.loop.invariant.items;
      rest = ap (rest_of d) here ∙ sym (rest_on d x ys zero) ∙ ap (rest_of d) (sym whole) ∙ c.loop.invariant.rest;
      others = new ∙ ap (λ (r : List (List ℕ)). slice_set r i ys) c.loop.invariant.others ∙ set-set c.args.links.now c.args.list (links.list_at c.loop.links c.args.list) ys
          ∙ ap (slice_set c.args.links.now i) (sym here);
      taken = ap length c.push.ensures.items ∙ length_push c.loop.items.items x ∙ ap (λ (n : ℕ). n + 1) c.loop.invariant.taken;
      few = omega (arith, ap length here, ap length whole, c.loop.invariant.few);
      count = ap length new ∙ length-set c.loop.links c.args.list ys ∙ c.loop.invariant.count;
      here = c.first-here-in-Some.ensures.value;
      disjoint = c.first-here-in-Some.ensures.disjoint;
    }
