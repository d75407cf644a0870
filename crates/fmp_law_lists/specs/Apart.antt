-- What it is that two events have nothing in common, and that they commute.
use Rattle.std.specs.Prelude.{◌≡◌, Bool, true, None}
use Rattle.fmp_codes.specs.declared.records.Event.{Event}
use Rattle.fmp_codes.specs.declared.records.Event.TheVariants as event
use Rattle.fmp_rules.specs.World.{World}
use Rattle.fmp_rules.specs.Rows.{check}
use Rattle.fmp_rules.specs.Step.{row_of, step}
use Rattle.fmp_law_safety.specs.Runs.{processor_of}
use Rattle.fmp_kernel_order.specs.Queues.{Queues, listed}
use Rattle.fmp_law_footprint.specs.Cells.{Cell, Shape}
use Rattle.fmp_law_footprint.specs.Footprints.{Within}
use Rattle.fmp_law_footprint.specs.CoversCalls.{CoversCall}
use Rattle.fmp_law_footprint.specs.Covers.{CoversTick, Settles}
use Rattle.fmp_law_lists.specs.Reads.{Own}
use Rattle.fmp_law_lists.specs.ReadsCalls.{ReadsCall, ReadsTick}
use Rattle.fmp_law_lists.specs.Alike.{AgreeOn, GoodFor}

-- no cell passes both tests
abbrev pub Apart : (Cell → Bool) → (Cell → Bool) → Type 0
Apart f g = (c : Cell) → f c ≡ true → g c ≡ true → ⊥

module _ (f : Cell → Bool) (w : World Queues) where
  -- the cells have what an event reads and what it may change, but for what every event of its processor does
  abbrev pub HaveNeeds : Event → Type 0
  HaveNeeds (event.Call p c) = ReadsCall listed (Within f) w p c × (check w p (row_of listed w p c) ≡ None → CoversCall listed (Within f) w p c)
  HaveNeeds (event.Tick p) = ReadsTick listed (Within f) w p × CoversTick listed (Within f) w p
  HaveNeeds (event.Ipi p) = Unit {0}

  -- the cells are enough for an event in this state: it changes no other, and reads no other
  pub record AreEnough (e : Event) : Type 0 where
    pub shape : Within f Shape → ⊥
    pub own : Own (Within f) (processor_of e)
    pub settles : Settles (Within f) (processor_of e)
    pub good : GoodFor f w
    pub needs : HaveNeeds e

abbrev pub after : World Queues → Event → World Queues
after w e = (step listed w e).0

-- each of two events has the same record whether it comes first or second, and in either order they lead to states that have the same in all cells
pub record Commute (w : World Queues) (d e : Event) : Type 0 where
  pub one : (step listed (after w e) d).1 ≡ (step listed w d).1
  pub other : (step listed (after w d) e).1 ≡ (step listed w e).1
  pub states : AgreeOn (λ c. true) (after (after w d) e) (after (after w e) d)
