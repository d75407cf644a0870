-- What the words change by which calls change tasks.
use Rattle.std.proofs.Common.{◌≡◌, ℕ, ◌==◌, Bool, refl, ◌∙◌, Option, None, Some}
use Rattle.std.specs.Prelude.{nat_lt, IfSome}
use Rattle.std.proofs.lemmas.Bool.{cond_both}
use Rattle.fmp_codes.specs.declared.numbers.Pri.{Pri}
use Rattle.fmp_codes.specs.declared.numbers.Proc.{Proc}
use Rattle.fmp_codes.specs.declared.numbers.Task.{Task}
use Rattle.fmp_setup.specs.declared.setup.Order.{Order}
use Rattle.fmp_setup.specs.declared.setup.Order.TheVariants as order
use Rattle.fmp_rules.specs.declared.machine.TaskRecord.{TaskRecord}
use Rattle.fmp_rules.specs.declared.machine.Wait.{Wait}
use Rattle.fmp_rules.specs.World.{World, task, item, with_item}
use Rattle.fmp_rules.specs.Ordering.{Ordering, is_runnable, with_task, depart, arrive, rejoin, place, end_wait, begin_wait, put_last, requeue, order_of}
use Rattle.fmp_rules.specs.Tasks.{started, ended, activate, finish, make_ready, change_priority, migrate, rotate}
use Rattle.fmp_law_footprint.specs.Cells.{Cell, LeftOf, SpotOf, ReadyOn, at, on, tally}
use Rattle.fmp_law_footprint.specs.Footprints.{InQueue, InTimed, Closed, Orders, IsLocal, Moves}
use Rattle.fmp_law_footprint.specs.Words.{Wakes, Sleeps, Changes, Activates, Ends, Migrates}
use Rattle.fmp_law_footprint.proofs.Moves.{Becomes, moves_all, moves_then, moves_order, moves_task, moves_left}

module _ {Q : Type 0} (Part : Cell → Type 0) (part : Q → (c : Cell) → Part c) (S : Cell → Type 0) (Inside : Q → Type 0) where
  abbrev MovesTo : World Q → World Q → Type 0
  MovesTo = Moves Part part S Inside

  abbrev OrdersTo : Q → Q → Type 0
  OrdersTo = Orders Part part S Inside

  orders_all : (q : Q) → OrdersTo q q
  orders_all q i = (i, λ c off. refl)

  orders_then : (q r s : Q) → OrdersTo q r → OrdersTo r s → OrdersTo q s
  orders_then q r s a b i =
      let x = a i in
      let y = b x.0 in
      (y.0, λ c off. y.1 c off ∙ x.1 c off)

  -- from here on the state may be taken to be closed
  pub knowing : (w v : World Q) → (Closed S w.tasks w.waits_left → MovesTo w v) → MovesTo w v
  knowing w v f g = f g.closed g

  module _ (k : Ordering Q) (laws : IsLocal Part part S Inside k) where
    departs : (q : Q) (r : TaskRecord) (t : Task) → S (SpotOf (at t)) → S (ReadyOn (on r.assigned)) → OrdersTo q (depart k q r t)
    departs q r t spot ready = cond_both (is_runnable r) _ _ (OrdersTo q) (λ _. laws.take_out q r t spot ready) (λ _. orders_all q)

    arrives : (q : Q) (r : TaskRecord) (t : Task) → S (SpotOf (at t)) → S (ReadyOn (on r.assigned)) → OrdersTo q (arrive k q r t)
    arrives q r t spot ready = cond_both (is_runnable r) _ _ (OrdersTo q) (λ _. laws.put_last q r t spot ready) (λ _. orders_all q)

    rejoins : (q : Q) (o : Order) (r : TaskRecord) (left : Option ℕ) (t : Task) → S (SpotOf (at t)) → InQueue S r.wait → InTimed S left
        → OrdersTo q (rejoin k q o r left t)
    rejoins q order.First r left t spot queue timed = orders_all q
    rejoins q order.Priority r left t spot queue timed =
        orders_then q (k.leave q r t) _ (laws.leave q r t spot queue) (laws.join (k.leave q r t) order.Priority r left t spot queue timed)

    puts_last : (w : World Q) (t : Task) (r : TaskRecord) (o : Option Wait) → S (SpotOf (at t)) → S (ReadyOn (on (task w t).assigned)) → S (ReadyOn (on r.assigned))
        → InQueue S r.wait
        → InTimed S (item None w.waits_left t.number) → OrdersTo w.order (put_last k w t r o)
    puts_last w t r None spot ready goal queue timed =
        orders_then w.order (depart k w.order (task w t) t) _ (departs w.order (task w t) t spot ready) (arrives _ r t spot goal)
    puts_last w t r (Some x) spot ready goal queue timed = rejoins w.order (order_of w x) r (item None w.waits_left t.number) t spot queue timed

    pub moves_place : (w : World Q) (t : Task) (r : TaskRecord) → S (SpotOf (at t)) → S (ReadyOn (on r.assigned)) → Becomes S (at t) (task w t) r
        → MovesTo w (place k w t r)
    moves_place w t r spot ready b =
        let q : Q = depart k w.order (task w t) t in
        let u : World Q = record w { order = q } in
        moves_then Part part S Inside w u _ (moves_order Part part S Inside w q (λ c. departs w.order (task w t) t spot (c.ready (at t) spot)))
        (moves_then Part part S Inside u (with_task u t r) _ (moves_task Part part S Inside u t r b)
        (moves_order Part part S Inside (with_task u t r) (arrive k q r t) (λ c. arrives q r t spot ready)))

    -- the wait of t is over
    pub moves_end : (w : World Q) (t : Task) (r : TaskRecord) → S (SpotOf (at t)) → S (LeftOf (at t)) → S (ReadyOn (on r.assigned)) → Becomes S (at t) (task w t) r
        → MovesTo w (end_wait k w t r)
    moves_end w t r spot left ready b =
        let q : Q = k.leave w.order (task w t) t in
        let u : World Q = record w { order = q } in
        let v : World Q = record u { waits_left = with_item w.waits_left t.number None } in
        moves_then Part part S Inside w u _ (moves_order Part part S Inside w q (λ c. laws.leave w.order (task w t) t spot (c.queue (at t) spot)))
        (moves_then Part part S Inside u v _ (moves_left Part part S Inside u t None (λ off. absurd (off left)) (λ _. tt)) (moves_place v t r spot ready b))

    pub moves_begin : (w : World Q) (t : Task) (x : Wait) (left : Option ℕ) → Sleeps S t x left → MovesTo w (begin_wait k w t x left)
    moves_begin w t x left h =
        let spot : S (SpotOf (at t)) = h.0.2 in
        let r : TaskRecord = record (task w t) { wait = Some x } in
        let q : Q = depart k w.order (task w t) t in
        let u : World Q = record w { order = q } in
        let v : World Q = record (with_task u t r) { waits_left = with_item w.waits_left t.number left } in
        knowing w (begin_wait k w t x left) λ c.
        moves_then Part part S Inside w u (begin_wait k w t x left) (moves_order Part part S Inside w q (λ c. departs w.order (task w t) t spot (c.ready (at t) spot)))
        (moves_then Part part S Inside u (with_task u t r) (begin_wait k w t x left)
        (moves_task Part part S Inside u t r
        (record { standing = λ _. refl; tally = λ _. refl; wait = λ off. absurd (off h.0.0); ready = c.ready (at t); queue = λ _. h.1 }))
        (moves_then Part part S Inside (with_task u t r) v (begin_wait k w t x left)
        (moves_left Part part S Inside (with_task u t r) t left (λ off. absurd (off h.0.1)) (λ _. h.2))
        (moves_order Part part S Inside v (k.join q (order_of w x) r left t) (λ _. laws.join q (order_of w x) r left t spot h.1 h.2))))

    pub moves_requeue : (w : World Q) (t : Task) (r : TaskRecord) → S (SpotOf (at t)) → S (ReadyOn (on r.assigned)) → InQueue S r.wait → Becomes S (at t) (task w t) r
        → MovesTo w (requeue k w t r)
    moves_requeue w t r spot ready queue b =
        let q : Q = put_last k w t r (task w t).wait in
        let u : World Q = record w { order = q } in
        moves_then Part part S Inside w u _
        (moves_order Part part S Inside w q (λ c. puts_last w t r (task w t).wait spot (c.ready (at t) spot) ready queue (c.timed (at t) spot)))
        (moves_task Part part S Inside u t r b)

    -- The words.

    pub moves_ready : (w : World Q) (t : Task) → Wakes S t → MovesTo w (make_ready k w t)
    moves_ready w t h =
        knowing w _ λ c.
        moves_end w t (record (task w t) { wait = None }) h.2 h.1 (c.ready (at t) h.2)
        (record { standing = λ _. refl; tally = λ _. refl; wait = λ off. absurd (off h.0); ready = c.ready (at t); queue = λ _. tt })

    pub moves_finish : (w : World Q) (t : Task) → Ends S w t → MovesTo w (finish k w t)
    unfolding finish
    moves_finish w t h =
        moves_end w t (ended (task w t)) h.0.2 h.0.1 h.3
        (record {
          standing = λ off. absurd (off h.1);
          tally = λ off. absurd (off h.2);
          wait = λ off. absurd (off h.0.0);
          ready = λ _. h.3;
          queue = λ _. cond_both (nat_lt 0 (task w t).activations) _ _ (λ (r : TaskRecord). InQueue S r.wait) (λ _. tt) (λ _. tt);
        })

    pub moves_activate : (w : World Q) (t : Task) (p : Proc) (kept : Option Proc) → Activates S w t p → MovesTo w (activate k w t p kept)
    moves_activate w t p kept h =
        cond_both (task w t).active _ _ (MovesTo w)
        (λ e. knowing w _ λ c. moves_task Part part S Inside w t (record (task w t) { activations = 1; kept = kept })
        (record { standing = λ _. refl; tally = λ off. absurd (off (h.0 e)); wait = λ _. refl; ready = c.ready (at t); queue = c.queue (at t) }))
        (λ e.
        let s = h.1 e in
        moves_place w t (started (task w t) p) s.0.1 s.3
        (record { standing = λ off. absurd (off s.0.0); tally = λ off. absurd (off s.1); wait = λ off. absurd (off s.2); ready = λ _. s.3; queue = λ _. tt }))

    -- the fields of a task change, but not where it is assigned and not its wait
    pub becomes_alike : (w : World Q) (t : Task) (r : TaskRecord) → Changes S t → r.assigned ≡ (task w t).assigned → r.wait ≡ (task w t).wait → tally r ≡ tally (task w t)
        → Closed S w.tasks w.waits_left → Becomes S (at t) (task w t) r
    becomes_alike w t r h assigned wait counts c = record {
      standing = λ off. absurd (off h.0);
      tally = λ _. counts;
      wait = λ _. wait;
      ready = λ s. rw assigned (c.ready (at t) s);
      queue = λ s. rw wait (c.queue (at t) s);
    }

    pub moves_priority : (w : World Q) (t : Task) (n : Pri) → Changes S t → MovesTo w (change_priority k w t n)
    moves_priority w t n h =
        knowing w _ λ c.
        let r : TaskRecord = record (task w t) { priority = n } in
        moves_requeue w t r h.1 (c.ready (at t) h.1) (c.queue (at t) h.1) (becomes_alike w t r h refl refl refl c)

    pub moves_suspend : (w : World Q) (t : Task) (b : Bool) → Changes S t → MovesTo w (place k w t (record (task w t) { suspended = b }))
    moves_suspend w t b h =
        knowing w _ λ c.
        let r : TaskRecord = record (task w t) { suspended = b } in
        moves_place w t r h.1 (c.ready (at t) h.1) (becomes_alike w t r h refl refl refl c)

    pub moves_migrate : (w : World Q) (t : Task) (p : Proc) → Migrates S w t p → MovesTo w (migrate k w t p)
    moves_migrate w t p h =
        cond_both ((task w t).assigned.number == p.number) _ _ (MovesTo w) (λ _. moves_all Part part S Inside w)
        (λ e.
        knowing w _ λ c.
        let s = h.1 e in
        moves_place w t (record (task w t) { assigned = p }) s.0.1 s.1
        (record { standing = λ off. absurd (off s.0.0); tally = λ _. refl; wait = λ _. refl; ready = λ _. s.1; queue = c.queue (at t) }))

    pub moves_rotate : (w : World Q) (t : Option Task) → IfSome t (λ u. S (SpotOf (at u))) → MovesTo w (rotate k w t)
    moves_rotate w None h = moves_all Part part S Inside w
    moves_rotate w (Some t) h =
        knowing w _ λ c.
        moves_place w t (task w t) h (c.ready (at t) h)
        (record { standing = λ _. refl; tally = λ _. refl; wait = λ _. refl; ready = c.ready (at t); queue = c.queue (at t) })
