use Rattle.std.proofs.Common.{inr, sym}
use Rattle.fmp_cli_notes.proofs.left.tell_left.Goals as goal

pub returns-in-Ok : goal.returns-in-Ok
returns-in-Ok g c = λ whole. inr (record {
  left = c.args.left.now;
  counts = c.requires;
  things = c.in-Ok.things.items;
  fewest = c.in-Ok.ensures;
  told = rw (sym c.as_slice.ensures.value) c.tell_things.ensures;
})
