-- What a run writes that tells what of some things changed.
use Rattle.std.specs.Prelude.{◌≡◌, ℕ, ◌+◌, List, [], ◌∷◌, ◌++◌, Result, Ok, Err, map}
use Rattle.std.specs.List.{flat_map}
use Rattle.fmp_codes.specs.declared.records.Event.{Event}
use Rattle.fmp_names.specs.Names.{NameLists}
use Rattle.fmp_setup.specs.Setup.{Setup}
use Rattle.fmp_rules.specs.Boot.{booted}
use Rattle.fmp_rules.specs.Arrivals.{State, numbered}
use Rattle.fmp_rules.specs.Step.{step}
use Rattle.fmp_trace.specs.Lines.{line_text}
use Rattle.fmp_show_changes.specs.declared.life.things.Thing.{Thing}
use Rattle.fmp_show_changes.specs.Life.Lives.{Seen, changes_of, lines_of, report_since}
use Rattle.fmp_show_changes.specs.Life.Things.{chosen_in}
use Rattle.fmp_run_stream.specs.Runs.{Written}

-- the line of an event with what changed, and nothing where nothing did
abbrev pub with_changes : List ℕ → List ℕ → List ℕ
with_changes line [] = []
with_changes line (b ∷ changes) = line ++ b ∷ changes

-- of each event from line n on that changes what is told of one of these things: its line, and below it those of the things
abbrev pub life_from : NameLists → List Thing → ℕ → State → List Event → List ℕ
life_from lists xs n m [] = []
life_from lists xs n m (e ∷ es) =
    with_changes (line_text lists n (step numbered m e).1) (changes_of lists m (step numbered m e).0 xs) ++ life_from lists xs (n + 1) (step numbered m e).0 es

-- what is told of these things at boot, and each event that changes it
unfoldable pub life_of : List Thing → Setup → List Event → List ℕ
life_of xs config events = lines_of config.names (booted config) xs ++ life_from config.names xs 1 (booted config) events

-- the same where something was told of them before
unfoldable pub life_since : List Seen → Setup → List Event → List ℕ
life_since seen config events =
    flat_map (report_since config.names (booted config)) seen ++ life_from config.names (map (λ s. s.thing) seen) 1 (booted config) events

-- the same of the things that a text names, and nothing where a name names nothing
abbrev pub chosen_life : Result (List Thing) ℕ → Setup → List Event → List ℕ
chosen_life (Ok xs) config events = life_of xs config events
chosen_life (Err i) config events = []

abbrev pub named_life : List ℕ → Setup → List Event → List ℕ
named_life names config events = chosen_life (chosen_in config.names names) config events

-- The output is what is told, of the machine of one text, of the things that the names name there: at boot, and after each of the
-- other text's events that changes it.
pub record ReportLife (names config_text event_text output : List ℕ) : Type 0 where
  pub things : List Thing
  pub written : Written (life_of things) config_text event_text output
  pub chosen : chosen_in written.config.names names ≡ Ok things

-- the output was written after old, all of it
abbrev pub IsLifeReported : List ℕ → List ℕ → List ℕ → List ℕ → List ℕ → Type 0
IsLifeReported names config_text event_text old new = (output : List ℕ) × ReportLife names config_text event_text output × (new ≡ old ++ output)
