-- How far a figure goes in all orders, and what is known of it.
use Rattle.std.specs.Prelude.{◌≡◌, ℕ, ◌+◌, ◌/◌, ◌<◌, ◌≤◌, Bool, false, List, length, Some, slice_get, slice_index}
use Rattle.fmp_codes.specs.declared.records.Record.{Record}
use Rattle.fmp_setup.specs.Setup.{Setup}
use Rattle.fmp_text_scripts.specs.Scripts.{Steps}
use Rattle.fmp_smp_histories.specs.Histories.{state_after}
use Rattle.fmp_search_orders.specs.declared.rules.Rules.{Rules}
use Rattle.fmp_search_orders.specs.Orders.{IsOrder}
use Rattle.fmp_search_orders.specs.Unknown.{IsNotKnown}
use Rattle.fmp_run_texts.specs.declared.status.Status.{Status}
use Rattle.fmp_run_texts.specs.declared.status.Status.TheVariants.{Done, Limit}
use Rattle.fmp_run_most.specs.declared.figure.Figure.{Figure}
use Rattle.fmp_run_most.specs.declared.settling.Reach.{Reach}
use Rattle.fmp_run_most.specs.declared.settling.Reach.TheVariants.{Whole, Within, Part}
use Rattle.fmp_run_most.specs.Figures.{is_beyond, value}

-- a number is that of a figure after some order of at most so many lines: at boot after the one that has none
pub record IsReached (c : Setup) (scripts : List Steps) (rules : Rules) (turns : ℕ) (f : Figure) (n : ℕ) : Type 0 where
  pub history : List Record
  pub order : IsOrder c scripts rules history
  pub short : length history ≤ turns
  pub there : value (state_after c history) f ≡ n

-- and after none it is beyond that number
abbrev pub NoneBeyond : Setup → List Steps → Rules → Figure → ℕ → Type 0
NoneBeyond c scripts rules f n = (h : List Record) → IsOrder c scripts rules h → is_beyond f.measure n (value (state_after c h) f) ≡ false

-- or after none of at most so many lines
abbrev pub NoneBeyondWithin : Setup → List Steps → Rules → ℕ → Figure → ℕ → Type 0
NoneBeyondWithin c scripts rules turns f n =
    (h : List Record) → IsOrder c scripts rules h → length h ≤ turns → is_beyond f.measure n (value (state_after c h) f) ≡ false

-- how far a figure goes: in all orders, in all of at most so many lines, or at least so far
abbrev pub IsMost : Setup → List Steps → Rules → ℕ → Reach → Figure → ℕ → Type 0
IsMost c scripts rules turns Whole f n = IsReached c scripts rules turns f n × NoneBeyond c scripts rules f n
IsMost c scripts rules turns Within f n = IsReached c scripts rules turns f n × NoneBeyondWithin c scripts rules turns f n
IsMost c scripts rules turns Part f n = IsReached c scripts rules turns f n

-- the same of a list of figures, each with its number
pub record AreMost (c : Setup) (scripts : List Steps) (rules : Rules) (turns : ℕ) (reach : Reach) (figures : List Figure) (bounds : List ℕ) : Type 0 where
  pub as_many : length bounds ≡ length figures
  pub most : (k : ℕ) (f : Figure) → slice_get figures k ≡ Some f → IsMost c scripts rules turns reach f (slice_index bounds k)

-- where not all orders of at most so many lines were gone through, the numbers are of all those of fewer, if all those of a line were; and not all those of a few lines
-- more were, at most a quarter more and one
pub record IsNearest (c : Setup) (scripts : List Steps) (rules : Rules) (turns room : ℕ) (over : Bool) (figures : List Figure) (bounds : List ℕ) : Type 0 where
  pub lines : ℕ
  pub most : 0 < lines → AreMost c scripts rules lines Within figures bounds
  pub next : ℕ
  pub more : lines < next
  pub near : next ≤ lines + 1 + lines / 4
  pub asked : next ≤ turns
  pub stopped : IsNotKnown c scripts rules next room over

-- how far figures go, and why no more is known, where that is of some orders
pub record IsSettled (c : Setup) (scripts : List Steps) (rules : Rules) (turns room : ℕ) (over : Bool) (reach : Reach) (figures : List Figure) (bounds : List ℕ) : Type 0 where
  pub most : AreMost c scripts rules turns reach figures bounds
  pub part : reach ≡ Part → IsNearest c scripts rules turns room over figures bounds

-- how the program ends after it
abbrev pub status_of : Reach → Status
status_of Whole = Done
status_of Within = Limit
status_of Part = Limit
