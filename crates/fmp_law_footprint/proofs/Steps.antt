-- The end of an event, and events: each changes at most the cells that cover it.
use Rattle.std.proofs.Common.{◌≡◌, ℕ, zero, suc, ◌+◌, ◌≤◌, ◌==◌, Bool, true, false, not, ◌&&◌, ◌||◌, List, [], ◌∷◌, length, map, filter, refl, ap, Option, arith}
use Rattle.std.specs.Prelude.{is_some}
use Rattle.std.specs.List.{range_with_len}
use Rattle.std.proofs.lemmas.Bool.{cond_both, false≢true}
use Rattle.fmp_codes.specs.Numbers.{as_proc}
use Rattle.fmp_codes.specs.declared.numbers.Proc.{Proc}
use Rattle.fmp_codes.specs.declared.numbers.Task.{Task}
use Rattle.fmp_codes.specs.declared.records.Event.{Event}
use Rattle.fmp_codes.specs.declared.records.Event.TheVariants as event
use Rattle.fmp_codes.specs.declared.records.Record.{Record}
use Rattle.fmp_setup.specs.Setup.{has_time}
use Rattle.fmp_rules.specs.declared.machine.Processor.{Processor}
use Rattle.fmp_rules.specs.World.{World, processor, processors_of, handler, runner_of, is_held, with_processor}
use Rattle.fmp_rules.specs.Ordering.{Ordering, top}
use Rattle.fmp_rules.specs.Rows.{called}
use Rattle.fmp_rules.specs.Tick.{tick}
use Rattle.fmp_rules.specs.Step.{is_same, tops, is_requested, requests, latched, dispatched, settle, settled, before_event, unchanged, row_of, step}
use Rattle.fmp_law_footprint.specs.Cells.{Cell, LatchOf, Shape, on}
use Rattle.fmp_law_footprint.specs.Shapes.{Frame}
use Rattle.fmp_law_footprint.specs.Footprints.{Leaves, IsLocal, Good, Moved, Moves, TellsTops}
use Rattle.fmp_law_footprint.specs.Words.{Each}
use Rattle.fmp_law_footprint.specs.Covers.{Settles, Covers}
use Rattle.fmp_rules.proofs.Runners.{same_as_itself}
use Rattle.fmp_law_safety.proofs.Settling.{settle_is, top_before}
use Rattle.fmp_law_footprint.proofs.Moves.{moves_all, moves_then, moves_beside, leaves_all, leaves_then}
use Rattle.fmp_law_footprint.proofs.Others.{leaves_processor}
use Rattle.fmp_law_footprint.proofs.Calls.{moves_call}
use Rattle.fmp_law_footprint.proofs.Ticks.{moves_tick}

-- no request is sent where the top is the same
not_requested : (a : Bool) (o : Option Task) → (a && not (is_same o o)) ≡ true → ⊥
not_requested true o e = false≢true (rw same_as_itself at e)
not_requested false o e = false≢true e

-- what holds of the processors 1 to m holds of each from a on
pub each_proc : (P : Proc → Type 0) (m a n : ℕ) → 1 ≤ a → a + n ≤ m + 1 → ((p : Proc) → 1 ≤ p.number → p.number ≤ m → P p) → Each P (map as_proc (range_with_len a n))
each_proc P m a zero least most h = tt
each_proc P m a (suc n) least most h =
    (h (as_proc a) (as_proc a).least (omega (arith, least, most)), each_proc P m (a + 1) n (omega (arith, least)) (omega (arith, most)) h)

module _ {Q : Type 0} (S : Cell → Type 0) where
  -- latches are set of processors of which S cannot lack them
  leaves_latched : (u : World Q) (f : Proc → Bool) (xs : List Proc) → Each (λ p. f p ≡ true → (S (LatchOf (on p)) → ⊥) → ⊥) xs → Leaves S u (latched u (filter f xs))
  leaves_latched u f [] h = leaves_all S u
  leaves_latched u f (p ∷ xs) h =
      cond_both (f p) _ _ (λ (ps : List Proc). Leaves S u (latched u ps))
      (λ e.
      let x : Processor = record (processor u p) { latch = true } in
      leaves_then S u (with_processor u p x) (latched (with_processor u p x) (filter f xs)) (leaves_processor S u p x (λ _. refl) (λ off. absurd (h.0 e off)))
      (leaves_latched (with_processor u p x) f xs h.1))
      (λ _. leaves_latched u f xs h.1)

module _ {Q : Type 0} (Part : Cell → Type 0) (part : Q → (c : Cell) → Part c) (S : Cell → Type 0) (Inside : Q → Type 0) (k : Ordering Q)
    (laws : IsLocal Part part S Inside k)
    (tells : TellsTops Part part S Inside k) (shape : S Shape → ⊥) where
  abbrev MovesTo : World Q → World Q → Type 0
  MovesTo = Moves Part part S Inside

  module _ (w : World Q) (q : Proc) (h : Settles S q) where
    -- S has the latch of each processor that is sent a request
    requested : (v : World Q) → Good Part part S Inside w → Moved Part part S Inside w v → (p : Proc) → 1 ≤ p.number → p.number ≤ length v.processors
        → is_requested k (tops k w) v q p ≡ true → (S (LatchOf (on p)) → ⊥) → ⊥
    requested v g m p least most e off =
        let few : length v.processors ≡ length w.processors = ap (λ (f : Frame). f.processors) (m.leaves Shape shape) in
        let among : p.number ≤ length w.processors = rw few at most in
        let same : top k v p ≡ top k w p = tells.top w v p g m (λ r. off (h.latches (on p) r)) in
        not_requested (not (p.number == q.number)) (top k w p) (rw (top_before k w p (least, among), same) at e)

    leaves_requests : (v : World Q) → Good Part part S Inside w → Moved Part part S Inside w v → Leaves S v (latched v (requests k (tops k w) v q))
    leaves_requests v g m =
        leaves_latched S v (is_requested k (tops k w) v q) (processors_of v)
        (each_proc (λ p. is_requested k (tops k w) v q p ≡ true → (S (LatchOf (on p)) → ⊥) → ⊥) (length v.processors) 1 (length v.processors) (omega arith)
        (omega arith) (requested v g m))

    leaves_dispatched : (u : World Q) → Leaves S u (dispatched k u q)
    leaves_dispatched u =
        cond_both (is_held u q) _ _ (Leaves S u) (λ _. leaves_all S u)
        (λ _. leaves_processor S u q (record (processor u q) { running = top k u q; latch = false }) (λ off. absurd (off h.processor)) (λ off. absurd (off h.latch)))

    -- what an event did, and then its end
    moves_settle : (v : World Q) → MovesTo w v → MovesTo w (settle k (tops k w) v q)
    moves_settle v did g =
        let m = did g in
        let u : World Q = latched v (requests k (tops k w) v q) in
        let is = settle_is k (tops k w) v q in
        moves_then Part part S Inside w v (settle k (tops k w) v q) did
        (moves_beside Part part S Inside v (settle k (tops k w) v q) (ap (λ (x : World Q). x.tasks) is) (ap (λ (x : World Q). x.waits_left) is)
        (ap (λ (x : World Q). x.order) is)
        (leaves_then S v u (dispatched k u q) (leaves_requests v g m) (leaves_dispatched u))) g

  -- each event
  pub moves_step : (w : World Q) (e : Event) → Covers k S w e → MovesTo w (step k w e).0
  unfolding settled before_event unchanged
  moves_step w (event.Call p c) h =
      cond_both (is_some (runner_of w p)) _ _ (λ (did : World Q × Record). MovesTo w did.0)
      (λ e. let both = h e in moves_settle w p both.0 (called w p (row_of k w p c)).0 (moves_call Part part S Inside k laws w p c both.1))
      (λ _. moves_all Part part S Inside w)
  moves_step w (event.Tick p) h =
      cond_both (has_time w.timer p) _ _ (λ (did : World Q × Record). MovesTo w did.0)
      (λ e.
      cond_both ((processor w p).locked || is_some (handler w p)) _ _ (λ (did : World Q × Record). MovesTo w did.0) (λ _. moves_all Part part S Inside w)
      (λ free. let both = h e free in moves_settle w p both.0 (tick k w p).0 (moves_tick Part part S Inside k laws w p both.1)))
      (λ _. moves_all Part part S Inside w)
  moves_step w (event.Ipi p) h =
      cond_both (is_held w p) _ _ (λ (did : World Q × Record). MovesTo w did.0) (λ _. moves_all Part part S Inside w)
      (λ free. moves_settle w p (h free) w (moves_all Part part S Inside w))
