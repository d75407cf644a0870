use Rattle.std.proofs.Common.{refl}
use Rattle.fmp_search_shrink.proofs.Parts.{part_of_itself, part_of_part}
use Rattle.fmp_search_shrink.proofs.Without.{part_is_on}
use Rattle.fmp_search_shrink.proofs.shrinking.one_by_one.Goals as goal

pub loop-rest-init : goal.loop-rest-init
loop-rest-init c = record {
  left = (part_of_itself c.args.events.items, c.requires.shows, c.requires.keeps);
  on = c.requires.on;
}

pub returns-then-not-fewer-clause-left : goal.returns-then-not-fewer-clause-left
returns-then-not-fewer-clause-left c =
    let less = c.in_ok-rest.ensures.left in
    (part_of_part c.in_ok-rest.rest.items c.loop-rest.left.items c.args.events.items less.0 c.loop-rest.invariant.left.0, less.1, less.2)

pub returns-then-not-fewer-clause-none : goal.returns-then-not-fewer-clause-none
returns-then-not-fewer-clause-none c = c.in_ok-rest.ensures.none refl c.if-not-fewer.true

pub loop-rest-preserved : goal.loop-rest-preserved
loop-rest-preserved c =
    let so_far = c.loop-rest.invariant in
    let less = c.in_ok-rest.ensures.left in
    record {
      left = (part_of_part c.in_ok-rest.rest.items c.loop-rest.left.items c.args.events.items less.0 so_far.left.0, less.1, less.2);
      on = part_is_on c.args.config.now.processors c.in_ok-rest.rest.items c.loop-rest.left.items less.0 so_far.on;
    }
