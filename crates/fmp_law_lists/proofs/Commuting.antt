-- Events commute for which cells are enough that have none in common.
use Rattle.std.proofs.Common.{◌≡◌, Bool, true, false, refl, sym, ◌∙◌}
use Rattle.std.proofs.lemmas.Bool.{false≢true}
use Rattle.fmp_codes.specs.declared.records.Event.{Event}
use Rattle.fmp_codes.specs.declared.records.Event.TheVariants as event
use Rattle.fmp_rules.specs.World.{World}
use Rattle.fmp_rules.specs.Step.{step}
use Rattle.fmp_kernel_order.specs.Queues.{Queues, listed}
use Rattle.fmp_law_footprint.specs.Cells.{Cell, Shape, value}
use Rattle.fmp_law_footprint.specs.Footprints.{Moved, Within}
use Rattle.fmp_law_footprint.specs.Covers.{Covers}
use Rattle.fmp_law_footprint.proofs.Steps.{moves_step}
use Rattle.fmp_law_lists.specs.Lists.{Lists, lists, StandsInside}
use Rattle.fmp_law_lists.specs.Reads.{StepsAlike}
use Rattle.fmp_law_lists.specs.Alike.{AgreeOn}
use Rattle.fmp_law_lists.specs.Apart.{Apart, AreEnough, after, Commute}
use Rattle.fmp_law_lists.proofs.Listed.{listed_is_local, listed_tells}
use Rattle.fmp_law_lists.proofs.ListsRead.{listed_reads}
use Rattle.fmp_law_lists.proofs.AlikeSteps.{call_step_alike, ipi_alike}
use Rattle.fmp_law_lists.proofs.AlikeTicks.{tick_step_alike}

module _ (f : Cell → Bool) where
  covers : (w : World Queues) (e : Event) → AreEnough f w e → Covers listed (Within f) w e
  covers w (event.Call p c) h = λ _. (h.settles, h.needs.1)
  covers w (event.Tick p) h = λ _ _. (h.settles, h.needs.1)
  covers w (event.Ipi p) h = λ _. h.settles

  moves : (w : World Queues) (e : Event) → AreEnough f w e → Moved Lists lists (Within f) (StandsInside (Within f)) w (after w e)
  moves w e h =
      moves_step Lists lists (Within f) (StandsInside (Within f)) listed (listed_is_local (Within f)) (listed_tells (Within f)) h.shape w e (covers w e h) h.good

  alike : (v w : World Queues) (e : Event) → AreEnough f v e → AreEnough f w e → AgreeOn f v w
      → StepsAlike Lists lists (Within f) (step listed v e) (step listed w e)
  alike v w (event.Call p c) a b g =
      call_step_alike Lists lists f (StandsInside (Within f)) listed (listed_is_local (Within f)) (listed_tells (Within f)) b.shape (listed_reads (Within f)) v w p
      b.own a.good b.good g c b.needs.0 a.needs.1 b.needs.1
  alike v w (event.Tick p) a b g =
      tick_step_alike Lists lists f (StandsInside (Within f)) listed (listed_is_local (Within f)) (listed_tells (Within f)) b.shape (listed_reads (Within f)) v w p
      b.own a.good b.good g b.needs.0 a.needs.1 b.needs.1
  alike v w (event.Ipi p) a b g =
      ipi_alike Lists lists f (StandsInside (Within f)) listed (listed_is_local (Within f)) (listed_tells (Within f)) b.shape (listed_reads (Within f)) v w p
      b.own a.good b.good g

-- an event for which other cells are enough leaves these
module _ (f g : Cell → Bool) (apart : Apart f g) where
  left : (w : World Queues) (e : Event) → AreEnough g w e → AgreeOn f (after w e) w
  left w e h =
      let m = moves g w e h in
      record { shape = m.leaves Shape h.shape; values = λ c x. m.leaves c (λ y. apart c x y); parts = λ c x. m.spares c (λ y. apart c x y) }

-- what a cell has after both events, x and y, by which of the two may change it
joined : {X : Type 0} (a b : Bool) (x y u v z : X) → (a ≡ true → b ≡ true → ⊥) → ((b ≡ true → ⊥) → x ≡ u) → (a ≡ true → y ≡ u) → ((a ≡ true → ⊥) → y ≡ v)
    → (b ≡ true → x ≡ v) → ((a ≡ true → ⊥) → u ≡ z) → ((b ≡ true → ⊥) → v ≡ z) → x ≡ y
joined true b x y u v z apart leaves agrees others also first second = leaves (apart refl) ∙ sym (agrees refl)
joined false true x y u v z apart leaves agrees others also first second = also refl ∙ sym (others false≢true)
joined false false x y u v z apart leaves agrees others also first second =
    leaves false≢true ∙ first false≢true ∙ sym (second false≢true) ∙ sym (others false≢true)

pub enough_commute : (f g : Cell → Bool) (w : World Queues) (d e : Event) → Apart f g → AreEnough f w d → AreEnough g w e → AreEnough f (after w e) d
    → AreEnough g (after w d) e → Commute w d e
enough_commute f g w d e apart hd he hd' he' =
    let swapped : Apart g f = λ c x y. apart c y x in
    let one = alike f (after w e) w d hd' hd (left f g apart w e he) in
    let other = alike g (after w d) w e he' he (left g f swapped w d hd) in
    let md = moves f w d hd in
    let me = moves g w e he in
    let md' = moves f (after w e) d hd' in
    let me' = moves g (after w d) e he' in
    record {
      one = one.1;
      other = other.1;
      states = record {
        shape = me'.leaves Shape he'.shape ∙ md.leaves Shape hd.shape ∙ sym (me.leaves Shape he.shape) ∙ sym (md'.leaves Shape hd'.shape);
        values = λ c _.
            joined (f c) (g c) (value (after (after w d) e) c) (value (after (after w e) d) c) (value (after w d) c) (value (after w e) c) (value w c) (apart c)
            (me'.leaves c) (one.0.values c) (md'.leaves c) (other.0.values c) (md.leaves c) (me.leaves c);
        parts = λ c _.
            joined (f c) (g c) (lists (after (after w d) e).order c) (lists (after (after w e) d).order c) (lists (after w d).order c) (lists (after w e).order c)
            (lists w.order c) (apart c) (me'.spares c) (one.0.parts c) (md'.spares c) (other.0.parts c) (md.spares c) (me.spares c);
      };
    }
