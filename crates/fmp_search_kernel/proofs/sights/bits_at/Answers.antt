use Rattle.std.proofs.Common.{◌∙◌, ℕ, ◌<◌, ◌*◌, ◌+◌, ◌-◌, get_or, Bool, List, length, map, cond, sym, ap, subst, arith}
use Rattle.std.proofs.lemmas.List.{at_drop_all}
use Rattle.fmp_search_pattern.specs.Lasting.{Lasting, is_so}
use Rattle.fmp_search_orders.specs.Watched.{bits_of}
use Rattle.fmp_search_kernel.specs.Seen.{seen_of}
use Rattle.fmp_search_kernel.proofs.Bitted.{room, one_bit}
use Rattle.fmp_search_kernel.proofs.sights.bits_at.Goals as goal

pub loop-at-init : goal.loop-at-init
loop-at-init c =
    let xs = c.args.lasting.now in
    record { within = omega arith; bits = sym (at_drop_all (λ (ys : List Lasting). bits_of (map (λ x. is_so x (seen_of c.args.event.now)) ys)) xs (length xs) (omega arith)) }

pub with_bit-bits-requires : goal.with_bit-bits-requires
with_bit-bits-requires c =
    subst (λ n. n < 9223372036854775808) (sym c.loop-at.invariant.bits)
    (room (λ x. is_so x (seen_of c.args.event.now)) c.args.lasting.now c.loop-at.at c.loop-at-test.true c.loop-at.invariant.within c.requires)

pub loop-at-preserved : goal.loop-at-preserved
loop-at-preserved c =
    let f = λ (x : Lasting). is_so x (seen_of c.args.event.now) in
    let xs = c.args.lasting.now in
    let within = c.loop-at.invariant.within in
    record {
      within = omega (arith, within);
      bits =
          c.with_bit-bits.ensures
          ∙ ap (λ (b : Bool). cond b 1 0 + 2 * c.loop-at.bits) (c.has_moment-so.ensures ∙ ap f c.index-lasting-at.is)
          ∙ ap (λ (n : ℕ). cond (f (get_or xs (c.loop-at.at - 1) c.index-lasting-at.result)) 1 0 + 2 * n) c.loop-at.invariant.bits
          ∙ one_bit f xs c.loop-at.at c.loop-at-test.true within c.index-lasting-at.result;
    }
