-- What of some things changed.
use Rattle.std.specs.Prelude.{ℕ, true, false, List, [], if◌then◌else◌}
use Rattle.std.specs.List.{flat_map}
use Rattle.std.specs.Str.{bytes_eq}
use Rattle.fmp_rules.specs.World.{World}
use Rattle.fmp_names.specs.Names.{NameLists}
use Rattle.fmp_show_changes.specs.declared.life.things.Thing.{Thing}
use Rattle.fmp_show_changes.specs.Life.Lines.{thing_line}

-- a thing, and what was told of it last without how many ticks it has left. That they count down is no change
pub record Seen : Type 0 where
  pub thing : Thing
  pub text : List ℕ

-- nothing was told of it yet
abbrev pub unseen : Thing → Seen
unseen x = record { thing = x; text = [] }

module _ {Q : Type 0} (lists : NameLists) (w : World Q) where
  -- what is told of it in a state
  abbrev pub seen_in : Thing → Seen
  seen_in x = record { thing = x; text = thing_line lists false w x }

  abbrev pub renewed : Seen → Seen
  renewed s = seen_in s.thing

  -- its line, where something else is told of it now
  abbrev pub report_since : Seen → List ℕ
  report_since s = if bytes_eq (thing_line lists false w s.thing) s.text then [] else thing_line lists true w s.thing

-- what is told of these things
abbrev pub lines_of : {Q : Type 0} → NameLists → World Q → List Thing → List ℕ
lines_of lists w xs = flat_map (thing_line lists true w) xs

-- the line of a thing after a change, where what is told of it changed by more than ticks that count down
abbrev pub change_of : {P Q : Type 0} → NameLists → World P → World Q → Thing → List ℕ
change_of lists before after x =
    if bytes_eq (thing_line lists false after x) (thing_line lists false before x) then [] else thing_line lists true after x

-- the lines of those of these things of which something changed
abbrev pub changes_of : {P Q : Type 0} → NameLists → World P → World Q → List Thing → List ℕ
changes_of lists before after xs = flat_map (change_of lists before after) xs
