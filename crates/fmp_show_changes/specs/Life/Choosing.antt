-- Which things a list of names chooses.
use Rattle.std.specs.Prelude.{◌≡◌, ℕ, List, Ok, Err, map}
use Rattle.fmp_names.specs.Names.{NameLists}
use Rattle.fmp_show_changes.specs.declared.life.choosing.NameFault.{NameFault}
use Rattle.fmp_show_changes.specs.declared.life.choosing.NameFault.TheVariants as fault
use Rattle.fmp_show_changes.specs.declared.life.things.Thing.{Thing}
use Rattle.fmp_show_changes.specs.Life.Lives.{Seen, unseen}
use Rattle.fmp_show_changes.specs.Life.Things.{chosen_in}

-- these are the things that the text names, and nothing was told of them yet
abbrev pub IsChosen : NameLists → List ℕ → List Seen → Type 0
IsChosen lists text seen = (xs : List Thing) × (chosen_in lists text ≡ Ok xs) × (seen ≡ map unseen xs)

-- the name with this number is the first one that names nothing, or memory ran out
abbrev pub IsUnknown : NameLists → List ℕ → NameFault → Type 0
IsUnknown lists text fault.Memory = Unit {0}
IsUnknown lists text (fault.Unknown i) = chosen_in lists text ≡ Err i
