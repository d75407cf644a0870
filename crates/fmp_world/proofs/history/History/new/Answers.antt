use Rattle.std.proofs.Common.{arith, refl, length, ap}
use Rattle.fmp_world.proofs.Played.{played_none}
use Rattle.fmp_world.proofs.Runs.{opening_keeps}
use Rattle.fmp_world.proofs.history.History.new.Goals as goal

pub invariant_of-result : goal.invariant_of-result
invariant_of-result c =
    let keeps = opening_keeps c.args.config.now c.args.scripts.now c.in_ok-boot.field-0 c.in_ok-boot.ensures.valid c.in_ok-boot.ensures.stands in
    let none = ap length c.in_ok-with_capacity.ensures.items in (
      rw (c.in_ok-with_capacity.ensures.items, played_none) keeps,
      rw c.in_ok-with_capacity.ensures.items tt,
      record {
        within = omega arith;
        room = omega (arith, c.in_ok-with_capacity.ensures.exact);
        few = c.requires;
        task_places = refl;
        handler_places = refl;
      },
    )

pub returns : goal.returns
returns c = rw (c.in_ok-with_capacity.ensures.items, played_none) refl
