-- What was told of a thing that is watched.
use Rattle.fmp_show_changes.specs.declared.life.life.Watched.{Watched}
use Rattle.fmp_show_changes.specs.Life.Lives.{Seen}

abbrev pub seen_of : Watched → Seen
seen_of x = record { thing = x.thing; text = x.text.items }
