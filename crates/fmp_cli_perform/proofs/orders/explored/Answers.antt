use Rattle.fmp_cli_perform.proofs.orders.explored.Goals as goal

pub returns : goal.returns
returns g c =
    let is = c.with_room.ensures in (
      c.searched-run.result,
      (c.free_memory.result, c.with_room.result, record { memory = is.memory; places = is.places; turns = is.turns; others = is.others }, c.searched-run.ensures),
      c.replied.ensures,
    )
