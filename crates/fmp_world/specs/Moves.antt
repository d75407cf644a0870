-- Who made the records of a history, and that these are made again from it.
use Rattle.std.specs.Prelude.{◌≤◌, List, [], ◌∷◌, ◌++◌, length, drop, fold, Option, Some, None, IsSome}
use Rattle.fmp_codes.specs.declared.numbers.Proc.{Proc}
use Rattle.fmp_codes.specs.declared.records.Event.{Event}
use Rattle.fmp_codes.specs.declared.records.Event.TheVariants as event
use Rattle.fmp_codes.specs.declared.records.Record.{Record}
use Rattle.fmp_text_scripts.specs.Scripts.{Steps}
use Rattle.fmp_setup.specs.Setup.{Setup}
use Rattle.fmp_rules.specs.Arrivals.{numbered}
use Rattle.fmp_rules.specs.Step.{step}
use Rattle.fmp_world.specs.declared.history.Move.{Move}
use Rattle.fmp_world.specs.declared.history.Move.TheVariants.{Turn, Tick}
use Rattle.fmp_smp_histories.specs.Histories.{state_after}
use Rattle.fmp_smp_histories.specs.Scripted.{choice}
use Rattle.fmp_world.specs.Views.{History}

-- the processor of a move
abbrev pub mover_of : Move → Proc
mover_of (Turn p) = p
mover_of (Tick p) = p

-- the event of a move after a history: what its processor picks there, or its tick
abbrev pub moved : Setup → List Steps → List Record → Move → Option Event
moved c scripts h (Turn p) = choice c scripts h p
moved c scripts h (Tick p) = Some (event.Tick p)

-- a history with the record of an event, if there is one
abbrev pub recorded : Setup → List Record → Option Event → List Record
recorded c h None = h
recorded c h (Some e) = h ++ (step numbered (state_after c h) e).1 ∷ []

-- a history with the record of one move more
abbrev pub played_one : Setup → List Steps → List Record → Move → List Record
played_one c scripts h by = recorded c h (moved c scripts h by)

-- the same of what contracts see
abbrev pub played_on : History → Move → History
played_on w by = record w { records = played_one w.config w.scripts w.records by }

-- the records of moves after a history, which they follow
unfoldable pub played_from : Setup → List Steps → List Record → List Move → List Record
played_from c scripts h moves = fold (played_one c scripts) h moves

-- the history that moves make
abbrev pub played : Setup → List Steps → List Move → List Record
played c scripts moves = played_from c scripts [] moves

-- the records that moves add to a history
unfoldable pub added_by : Setup → List Steps → List Record → List Move → List Record
added_by c scripts h moves = drop (length h) (played_from c scripts h moves)

-- each move, after the records of those before it, is one on a processor of the machine that makes a record
abbrev pub AreMade : Setup → List Steps → List Record → List Move → Type 0
AreMade c scripts h [] = Unit {0}
AreMade c scripts h (by ∷ later) =
    ((mover_of by).number ≤ c.processors) × IsSome (moved c scripts h by) × AreMade c scripts (played_one c scripts h by) later
