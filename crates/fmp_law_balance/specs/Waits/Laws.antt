-- What the records of a run and its states say of waits.
use Rattle.std.specs.Prelude.{◌≡◌, ℕ, Option, None, Some, List, IfSome, take, option_map}
use Rattle.fmp_codes.specs.declared.numbers.Proc.{Proc}
use Rattle.fmp_codes.specs.declared.numbers.Task.{Task}
use Rattle.fmp_codes.specs.declared.records.Event.{Event}
use Rattle.fmp_codes.specs.declared.records.Record.{Record}
use Rattle.fmp_setup.specs.Setup.{Setup}
use Rattle.fmp_rules.specs.declared.machine.Wait.{Wait}
use Rattle.fmp_rules.specs.World.{World, item, task}
use Rattle.fmp_rules.specs.Arrivals.{numbered}
use Rattle.fmp_rules.specs.Step.{replay}
use Rattle.fmp_rules.specs.Boot.{booted}
use Rattle.fmp_law_balance.specs.Waits.Asked.{OpenWait}
use Rattle.fmp_law_balance.specs.Waits.Waits.{nobody_waits, after_records}

-- the ticks left of an open wait, if there is one and it has a timeout
abbrev pub left_of : Option OpenWait → Option ℕ
left_of None = None
left_of (Some o) = o.left

-- a task that waits for this now, with these ticks left, on this processor, has this open wait; where it has none it does not wait
pub record Waits (pending : Option OpenWait) (now : Option Wait) (ticks : Option ℕ) (processor : Proc) : Type 0 where
  pub wait : now ≡ option_map (λ o. o.wait) pending
  pub left : ticks ≡ left_of pending
  pub assigned : IfSome pending (λ o. processor ≡ o.assigned)

-- so does this task in this state
abbrev pub IsReported : {Q : Type 0} → World Q → Task → Option OpenWait → Type 0
IsReported w t pending = Waits pending (task w t).wait (item None w.waits_left t.number) (task w t).assigned

-- at every prefix of a run of these events with these records, the records so far tell each task's wait
abbrev pub AreWaitsReported : Setup → List Event → List Record → Type 0
AreWaitsReported c events records = (n : ℕ) (t : Task) → IsReported (replay numbered (booted c) (take n events)) t (after_records c nobody_waits (take n records) t)
