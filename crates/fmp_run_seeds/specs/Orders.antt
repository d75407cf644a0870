-- The runs of seeds: processors take turns as a seed says, or a seed draws one of all orders.
use Rattle.std.specs.Prelude.{◌≡◌, ℕ, Bool, true, false, List, Some, None}
use Rattle.fmp_codes.specs.declared.records.Event.{Event}
use Rattle.fmp_codes.specs.declared.records.Record.{Record}
use Rattle.fmp_setup.specs.Setup.{Setup}
use Rattle.fmp_text_scripts.specs.Scripts.{Steps}
use Rattle.fmp_smp.specs.Rounds.{TicksInTurn}
use Rattle.fmp_smp.specs.Seeds.{IsInOrderOf}
use Rattle.fmp_smp_histories.specs.Histories.{events_of}
use Rattle.fmp_world.specs.declared.finishing.Ended.{Ended}
use Rattle.fmp_world.specs.declared.finishing.Ended.TheVariants.{Quiet, Limit}
use Rattle.fmp_world.specs.declared.seats.Receipt.{Receipt}
use Rattle.fmp_world.specs.Ends.{IsSmpRun}
use Rattle.fmp_search_orders.specs.declared.rules.Rules.{Rules}
use Rattle.fmp_search_random.specs.Drawn as drawn
use Rattle.fmp_search_random.specs.Drawn.{IsDrawn}
use Rattle.fmp_run_seeds.specs.declared.orders.SeedOrder.{SeedOrder}
use Rattle.fmp_run_seeds.specs.declared.orders.SeedOrder.TheVariants.{InTurn, Drawn}

-- when the line `end` stands in such a run: each processor takes so many ticks
abbrev pub rules_of : SeedOrder → ℕ → Rules
rules_of InTurn ticks = record { ticks = Some ticks; prompt = true; drift = None; pace = None; spurious = false }
rules_of (Drawn drawing) ticks = drawn.rules_of drawing ticks

-- a run by the scripts in which processors take turns as a seed says, which ended so
pub record IsRunOfSeed (seed : ℕ) (c : Setup) (scripts : List Steps) (ticks turns : ℕ) (h : List Record) (ended : Ended) : Type 0 where
  pub receipts : List (List Receipt)
  pub run : IsSmpRun c scripts ticks turns h receipts ended
  pub order : IsInOrderOf seed c scripts ticks h
  pub ticked : TicksInTurn c ticks h

-- nothing was left to do
abbrev pub is_quiet : Ended → Bool
is_quiet Quiet = true
is_quiet Limit = false

-- these are the events of the run of a seed, and after them something was left to do or was not
abbrev pub AreOfSeed : SeedOrder → ℕ → Setup → List Steps → ℕ → ℕ → List Event → Bool → Type 0
AreOfSeed InTurn seed c scripts ticks turns events quiet =
    (h : List Record) × (ended : Ended) × IsRunOfSeed seed c scripts ticks turns h ended × (events ≡ events_of h) × (quiet ≡ is_quiet ended)
AreOfSeed (Drawn drawing) seed c scripts ticks turns events quiet = IsDrawn drawing seed c scripts ticks turns events quiet
