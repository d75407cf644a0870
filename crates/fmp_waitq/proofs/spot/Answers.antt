use Rattle.std.proofs.Common.{◌≡◌, ℕ, ◌+◌, ◌≤◌, Bool, Some, take, drop, cond, subst, ap, sym, ◌∙◌}
use Rattle.std.proofs.lemmas.Bool.{le-ltb}
use Rattle.std.specs.Prelude.{slice_index}
use Rattle.fmp_kernel_parts.specs.Lists.{first_of}
use Rattle.fmp_kernel_parts.proofs.Walking.{part, left_over}
use Rattle.fmp_waitq.specs.Kept.{rank_in, spot_in}
use Rattle.fmp_waitq.proofs.spot.Goals as goal

pub loop-preserved : goal.loop-preserved
loop-preserved c =
    let ts = c.args.tasks.now in
    let t = c.in-Some.task in
    let f = rank_in c.args.ranks.now in
    let e : first_of (drop c.loop.counter c.args.tasks.now) ≡ Some c.in-Some.task = sym c.loop.invariant.here ∙ c.in-Some.is in
    let low : rank_in c.args.ranks.now c.in-Some.task ≤ c.args.rank = subst (λ (i : ℕ). slice_index c.args.ranks.now i ≤ c.args.rank) c.index.ensures.value c.if-rank-ranks.false in
    let on : spot_in (rank_in c.args.ranks.now) c.args.rank (drop c.loop.counter c.args.tasks.now) ≡ spot_in (rank_in c.args.ranks.now) c.args.rank (drop (c.loop.counter + 1) c.args.tasks.now) =
    ap (spot_in f c.args.rank) (left_over ts c.loop.counter t e) ∙ ap (λ (b : Bool). cond b (Some t) (spot_in f c.args.rank (drop (c.loop.counter + 1) ts))) (le-ltb c.args.rank (f t) low) in
    record {
      found = sym on ∙ c.loop.invariant.found;
      here = c.next-here.ensures (take c.loop.counter ts) (drop (c.loop.counter + 1) ts) (part ts c.loop.counter t e);
      few = c.loop.invariant.few;
    }
