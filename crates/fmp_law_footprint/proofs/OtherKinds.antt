-- A call and a tick leave the cells of kinds that they do not change, whatever the order is kept by.
use Rattle.std.proofs.Common.{◌≡◌, ℕ, Option, false, refl}
use Rattle.std.proofs.lemmas.Bool.{both_ways}
use Rattle.fmp_codes.specs.declared.numbers.Proc.{Proc}
use Rattle.fmp_codes.specs.declared.numbers.Task.{Task}
use Rattle.fmp_codes.specs.declared.calls.Call.{Call}
use Rattle.fmp_rules.specs.declared.machine.Wait.{Wait}
use Rattle.fmp_rules.specs.World.{World}
use Rattle.fmp_rules.specs.Ordering.{Ordering, begin_wait}
use Rattle.fmp_rules.specs.Tasks.{make_ready}
use Rattle.fmp_rules.specs.Rows.{called}
use Rattle.fmp_rules.specs.Step.{row_of}
use Rattle.fmp_rules.specs.Tick.{tick}
use Rattle.fmp_law_footprint.specs.Cells.{Cell, value}
use Rattle.fmp_law_footprint.specs.Footprints.{IsLocal, Within}
use Rattle.fmp_law_footprint.specs.Kinds.{group, may_change, of_tick, of_waits}
use Rattle.fmp_law_footprint.proofs.Calls.{moves_call}
use Rattle.fmp_law_footprint.proofs.Ticks.{moves_tick}
use Rattle.fmp_law_footprint.proofs.Coarse.{closed_coarse, covers_coarse, closed_tick, covers_tick, closed_waits, wakes_waits, sleeps_waits}
use Rattle.fmp_law_footprint.proofs.Words.{moves_ready, moves_begin}

-- no cell has anything of an order
abbrev pub Nothing : Cell → Type 0
Nothing c = Unit {0}

module _ {Q : Type 0} (k : Ordering Q) where
  pub any_is_local : (S : Cell → Type 0) → IsLocal Nothing (λ (q : Q) c. tt) S (λ q. Unit {0}) k
  any_is_local S = record {
    put_last = λ q r t spot ready i. (tt, λ c off. refl);
    take_out = λ q r t spot ready i. (tt, λ c off. refl);
    join = λ q o r left t spot queue timed i. (tt, λ c off. refl);
    leave = λ q r t spot queue i. (tt, λ c off. refl);
  }

  -- all but waits stays where one ends, and where one begins
  pub ready_leaves : (w : World Q) (t : Task) (x : Cell) → of_waits x ≡ false → value (make_ready k w t) x ≡ value w x
  ready_leaves w t x off =
      (moves_ready Nothing (λ q c. tt) (Within of_waits) (λ q. Unit {0}) k (any_is_local (Within of_waits)) w t (wakes_waits t)
      (record { closed = closed_waits w.tasks w.waits_left; inside = tt })).leaves x (λ e. both_ways _ off e)

  pub begin_leaves : (w : World Q) (t : Task) (y : Wait) (left : Option ℕ) (x : Cell) → of_waits x ≡ false → value (begin_wait k w t y left) x ≡ value w x
  begin_leaves w t y left x off =
      (moves_begin Nothing (λ q c. tt) (Within of_waits) (λ q. Unit {0}) k (any_is_local (Within of_waits)) w t y left (sleeps_waits t y left)
      (record { closed = closed_waits w.tasks w.waits_left; inside = tt })).leaves x (λ e. both_ways _ off e)

  pub call_leaves : (w : World Q) (p : Proc) (c : Call) (x : Cell) → may_change c x ≡ false → value (called w p (row_of k w p c)).0 x ≡ value w x
  call_leaves w p c x off =
      (moves_call Nothing (λ q c. tt) (Within (may_change c)) (λ q. Unit {0}) k (any_is_local (Within (may_change c))) w p c (λ _. covers_coarse k w p c)
      (record { closed = closed_coarse (group c) w.tasks w.waits_left; inside = tt })).leaves x (λ e. both_ways _ off e)

  pub tick_leaves : (w : World Q) (p : Proc) (x : Cell) → of_tick x ≡ false → value (tick k w p).0 x ≡ value w x
  tick_leaves w p x off =
      (moves_tick Nothing (λ q c. tt) (Within of_tick) (λ q. Unit {0}) k (any_is_local (Within of_tick)) w p (covers_tick k w p)
      (record { closed = closed_tick w.tasks w.waits_left; inside = tt })).leaves x (λ e. both_ways _ off e)
