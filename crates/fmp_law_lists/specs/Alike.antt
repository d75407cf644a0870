-- The words of footprints, over the kernel's lists and for the cells that pass a test.
use Rattle.std.specs.Prelude.{Bool}
use Rattle.fmp_codes.specs.declared.numbers.Proc.{Proc}
use Rattle.fmp_rules.specs.World.{World}
use Rattle.fmp_kernel_order.specs.Queues.{Queues}
use Rattle.fmp_law_footprint.specs.Cells.{Cell, Shape}
use Rattle.fmp_law_footprint.specs.Footprints.{Good, Moves, Within}
use Rattle.fmp_law_lists.specs.Reads.{Agree, Own}
use Rattle.fmp_law_lists.specs.Lists.{Lists, lists, StandsInside}

module _ (f : Cell → Bool) where
  -- the cells are enough for all places of the tasks whose spots they have
  abbrev pub GoodFor : World Queues → Type 0
  GoodFor = Good Lists lists (Within f) (StandsInside (Within f))

  -- from a state for which they are enough, only they change, and they are enough after it
  abbrev pub ChangesOnly : World Queues → World Queues → Type 0
  ChangesOnly = Moves Lists lists (Within f) (StandsInside (Within f))

  -- two states have the same in the cells
  abbrev pub AgreeOn : World Queues → World Queues → Type 0
  AgreeOn = Agree Lists lists (Within f)

  -- they do so, the cells are enough for both, and have what each event of p reads
  pub record AreAlike (v w : World Queues) (p : Proc) : Type 0 where
    pub shape : Within f Shape → ⊥
    pub own : Own (Within f) p
    pub before : GoodFor v
    pub other : GoodFor w
    pub agree : AgreeOn v w
