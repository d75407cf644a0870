-- Runs by a seed, and the orders that they are among.
use Rattle.std.specs.Prelude.{◌≡◌, ℕ, true, false, List, Some, None}
use Rattle.fmp_codes.specs.declared.records.Record.{Record}
use Rattle.fmp_setup.specs.Setup.{Setup}
use Rattle.fmp_text_scripts.specs.Scripts.{Steps}
use Rattle.fmp_smp.specs.Seeds.{IsInOrderOf}
use Rattle.fmp_world.specs.declared.finishing.Ended.{Ended}
use Rattle.fmp_world.specs.declared.seats.Receipt.{Receipt}
use Rattle.fmp_world.specs.Ends.{IsSmpRun}
use Rattle.fmp_search_orders.specs.declared.rules.Rules.{Rules}

-- the rules of orders in which each processor takes at most so many ticks, and each request is taken before its processor's next call
abbrev pub promptly : ℕ → Rules
promptly ticks = record { ticks = Some ticks; prompt = true; drift = None; pace = None; spurious = false }

-- a run by scripts in the order of a seed, which ended so
pub record IsSeeded (seed : ℕ) (c : Setup) (scripts : List Steps) (ticks turns : ℕ) (h : List Record) (ended : Ended) : Type 0 where
  pub receipts : List (List Receipt)
  pub run : IsSmpRun c scripts ticks turns h receipts ended
  pub order : IsInOrderOf seed c scripts ticks h

-- they have the same records, and ended in the same way
abbrev pub AreOne : List Record → List Record → Ended → Ended → Type 0
AreOne h others ended other = (h ≡ others) × (ended ≡ other)
