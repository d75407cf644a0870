use Rattle.fmp_search_shrink.proofs.Parts.{part_of_itself, part_of_part}
use Rattle.fmp_search_shrink.proofs.Without.{part_is_on}
use Rattle.fmp_search_shrink.proofs.shrinking.in_rows.Goals as goal

pub loop-size-init : goal.loop-size-init
loop-size-init c = record {
  left = (part_of_itself c.args.events.items, c.requires.shows, c.requires.keeps);
  on = c.requires.on;
}

pub loop-size-preserved : goal.loop-size-preserved
loop-size-preserved c =
    let so_far = c.loop-size.invariant in
    let less = c.in_ok-rest.ensures.left in
    record {
      left = (part_of_part c.in_ok-rest.rest.items c.loop-size.left.items c.args.events.items less.0 so_far.left.0, less.1, less.2);
      on = part_is_on c.args.config.now.processors c.in_ok-rest.rest.items c.loop-size.left.items less.0 so_far.on;
    }
