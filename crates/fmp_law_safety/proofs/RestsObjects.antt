-- What is kept of the objects when one of them changes.
use Rattle.std.proofs.Common.{◌≡◌, ℕ, ℤ, ◌-◌, ◌≤◌, true, false, List, [], length, sym, ap, ◌∙◌, subst, Option, Some, None}
use Rattle.std.specs.Prelude.{Bool, position, take, not}
use Rattle.std.proofs.lemmas.Bool.{eq-eqb}
use Rattle.std.proofs.lemmas.List.{length-set}
use Rattle.fmp_codes.specs.declared.numbers.Task.{Task}
use Rattle.fmp_codes.specs.declared.numbers.Object.{Object}
use Rattle.fmp_codes.specs.declared.calls.Mode.{Mode}
use Rattle.fmp_rules.specs.declared.machine.Wait.{Wait}
use Rattle.fmp_rules.specs.declared.machine.Wait.TheVariants as wait
use Rattle.fmp_rules.specs.declared.machine.QueueKind.{QueueKind}
use Rattle.fmp_rules.specs.declared.machine.QueueKind.TheVariants as kind
use Rattle.fmp_rules.specs.declared.machine.Semaphore.{Semaphore}
use Rattle.fmp_rules.specs.declared.machine.Eventflag.{Eventflag}
use Rattle.fmp_rules.specs.declared.machine.Pool.{Pool}
use Rattle.fmp_rules.specs.World.{World, task}
use Rattle.fmp_rules.specs.Objects.{semaphore, eventflag, data_queue, values, free_block, holds}
use Rattle.fmp_rules.specs.Ordering.{is_in, waits_in}
use Rattle.fmp_rules.specs.SyncCalls.{with_count, with_pattern}
use Rattle.fmp_rules.specs.BufferCalls.{with_values, with_handed}
use Rattle.fmp_law_safety.specs.Safe.{IsNumberOf, MayWait}
use Rattle.fmp_law_safety.proofs.Items.{object_at, item_after, all_after}
use Rattle.fmp_law_safety.proofs.Rests.{Rests}

-- a wait of each kind
each_wait : (P : Wait → Type 0) → P wait.Sleep → P wait.Delay → ((s : Object) → P (wait.Semaphore s)) → ((f : Object) (x : ℕ) (m : Mode) → P (wait.Eventflag f x m)) →
    ((d : Object) (v : ℤ) → P (wait.Send d v)) → ((d : Object) → P (wait.Receive d)) → ((m : Object) → P (wait.Pool m)) → (x : Wait) → P x
each_wait P a b c d e f g wait.Sleep = a
each_wait P a b c d e f g wait.Delay = b
each_wait P a b c d e f g (wait.Semaphore s) = c s
each_wait P a b c d e f g (wait.Eventflag o x m) = d o x m
each_wait P a b c d e f g (wait.Send o v) = e o v
each_wait P a b c d e f g (wait.Receive o) = f o
each_wait P a b c d e f g (wait.Pool o) = g o

-- who waits for this is in its queue
pub in_queue : (k : QueueKind) (o : Object) (x : Wait) (a : Option Wait) → a ≡ Some x → is_in k o x ≡ true → waits_in k o a ≡ true
in_queue k o x a e i = ap (waits_in k o) e ∙ i

module _ {Q : Type 0} (w : World Q) where
  -- what is kept where this is the state
  abbrev Still : World Q → Task → Wait → Type 0
  Still v t x = (task w t).wait ≡ Some x → MayWait w x → MayWait v x

  module _ (s : Object) (n : ℕ) where
    -- a semaphore has another count, which is 0 if somebody waits
    pub rests_count : ((t : Task) → waits_in kind.Semaphore s (task w t).wait ≡ true → (semaphore w s).count ≡ 0 → n ≡ 0) →
        ((semaphore w s).count ≤ (semaphore w s).setup.most → n ≤ (semaphore w s).setup.most) → Rests w → Rests (with_count w s n)
    rests_count waited range r = record {
      waits = λ t x e.
          each_wait (Still (with_count w s n) t) (λ e h. h) (λ e h. h)
          (λ o e h.
          item_after _ w.semaphores s.number (record (semaphore w s) { count = n }) (λ (x : Semaphore). x.count ≡ 0) o.number
          (λ i. here t o (object_at o s i) e h) h)
          (λ f x m e h. h) (λ d v e h. h) (λ d e h. h) (λ m e h. h) x e (r.waits t x e);
      in_range = record {
        tasks = r.in_range.tasks;
        semaphores = all_after _ w.semaphores s.number _ (λ (x : Semaphore). x.count ≤ x.setup.most) range r.in_range.semaphores;
        contents = r.in_range.contents;
        one_waiter = r.in_range.one_waiter;
        cyclics = r.in_range.cyclics;
        alarms = r.in_range.alarms;
        locked = r.in_range.locked;
        one_lock = r.in_range.one_lock;
      };
    }
      where
        here : (t : Task) (o : Object) → o ≡ s → (task w t).wait ≡ Some (wait.Semaphore o) → (semaphore w o).count ≡ 0 → n ≡ 0
        here t o i e h = waited t (in_queue kind.Semaphore s (wait.Semaphore o) _ e (eq-eqb o.number s.number (ap (λ (x : Object). x.number) i))) (subst (λ (x : Object). (semaphore w x).count ≡ 0) i h)

  module _ (f : Object) (n : ℕ) where
    -- an eventflag has another pattern, at which no wait is over
    pub rests_pattern : ((t : Task) (x : ℕ) (m : Mode) → (task w t).wait ≡ Some (wait.Eventflag f x m) → holds (eventflag w f).pattern x m ≡ false → holds n x m ≡ false) →
        Rests w → Rests (with_pattern w f n)
    rests_pattern waited r = record {
      waits = λ t x e.
          each_wait (Still (with_pattern w f n) t) (λ e h. h) (λ e h. h) (λ s e h. h)
          (λ o x m e h.
          item_after _ w.eventflags f.number (record (eventflag w f) { pattern = n }) (λ (y : Eventflag). holds y.pattern x m ≡ false) o.number
          (λ i. here t o x m (object_at o f i) e h) h)
          (λ d v e h. h) (λ d e h. h) (λ m e h. h) x e (r.waits t x e);
      in_range = record {
        tasks = r.in_range.tasks;
        semaphores = r.in_range.semaphores;
        contents = r.in_range.contents;
        one_waiter = λ o t u i one.
            r.in_range.one_waiter o t u (i.0, subst (λ l. o.number ≤ l) (length-set w.eventflags (f.number - 1) (record (eventflag w f) { pattern = n })) i.1)
            (item_after _ w.eventflags f.number (record (eventflag w f) { pattern = n }) (λ (y : Eventflag). y.setup.many ≡ false → (eventflag w o).setup.many ≡ false) o.number
            (λ j e. subst (λ (x : Object). (eventflag w x).setup.many ≡ false) (sym (object_at o f j)) e) (λ e. e) one);
        cyclics = r.in_range.cyclics;
        alarms = r.in_range.alarms;
        locked = r.in_range.locked;
        one_lock = r.in_range.one_lock;
      };
    }
      where
        here : (t : Task) (o : Object) (x : ℕ) (m : Mode) → o ≡ f → (task w t).wait ≡ Some (wait.Eventflag o x m) → holds (eventflag w o).pattern x m ≡ false → holds n x m ≡ false
        here t o x m i =
            subst (λ (y : Object). (task w t).wait ≡ Some (wait.Eventflag y x m) → holds (eventflag w y).pattern x m ≡ false → holds n x m ≡ false) (sym i) (waited t x m)

  module _ (d : Object) (vs : List ℤ) where
    -- a data queue has other contents: full where somebody waits to send, and empty where somebody waits to receive
    pub rests_values : ((t : Task) → waits_in kind.Send d (task w t).wait ≡ true → length (values w d) ≡ (data_queue w d).capacity → length vs ≡ (data_queue w d).capacity) →
        ((t : Task) → waits_in kind.Receive d (task w t).wait ≡ true → MayWait w (wait.Receive d) → vs ≡ []) →
        (IsNumberOf w.data_queues d.number → length (values w d) ≤ (data_queue w d).capacity → length vs ≤ (data_queue w d).capacity) → Rests w → Rests (with_values w d vs)
    rests_values sending receiving range r = record {
      waits = λ t x e.
          each_wait (Still (with_values w d vs) t) (λ e h. h) (λ e h. h) (λ s e h. h) (λ f x m e h. h)
          (λ o v e h.
          item_after [] w.contents d.number vs (λ (xs : List ℤ). length xs ≡ (data_queue w o).capacity) o.number (λ i. full t o v (object_at o d i) e h) h)
          (λ o e h.
          (item_after [] w.contents d.number vs (λ (xs : List ℤ). xs ≡ []) o.number (λ i. empty t o (object_at o d i) e h) h.0, h.1))
          (λ m e h. h) x e (r.waits t x e);
      in_range = record {
        tasks = r.in_range.tasks;
        semaphores = r.in_range.semaphores;
        contents = λ o i.
            item_after [] w.contents d.number vs (λ (xs : List ℤ). length xs ≤ (data_queue w o).capacity) o.number
            (λ j. within o (object_at o d j) i (r.in_range.contents o i)) (r.in_range.contents o i);
        one_waiter = r.in_range.one_waiter;
        cyclics = r.in_range.cyclics;
        alarms = r.in_range.alarms;
        locked = r.in_range.locked;
        one_lock = r.in_range.one_lock;
      };
    }
      where
        full : (t : Task) (o : Object) (v : ℤ) → o ≡ d → (task w t).wait ≡ Some (wait.Send o v) → length (values w o) ≡ (data_queue w o).capacity → length vs ≡ (data_queue w o).capacity
        full t o v i e h =
            subst (λ (x : Object). length vs ≡ (data_queue w x).capacity) (sym i)
            (sending t (in_queue kind.Send d (wait.Send o v) _ e (eq-eqb o.number d.number (ap (λ (x : Object). x.number) i)))
            (subst (λ (x : Object). length (values w x) ≡ (data_queue w x).capacity) i h))

        empty : (t : Task) (o : Object) → o ≡ d → (task w t).wait ≡ Some (wait.Receive o) → MayWait w (wait.Receive o) → vs ≡ []
        empty t o i e h =
            receiving t (in_queue kind.Receive d (wait.Receive o) _ e (eq-eqb o.number d.number (ap (λ (x : Object). x.number) i))) (subst (λ (x : Object). MayWait w (wait.Receive x)) i h)

        within : (o : Object) → o ≡ d → IsNumberOf w.data_queues o.number → length (values w o) ≤ (data_queue w o).capacity → length vs ≤ (data_queue w o).capacity
        within o i =
            subst (λ (x : Object). IsNumberOf w.data_queues x.number → length (values w x) ≤ (data_queue w x).capacity → length vs ≤ (data_queue w x).capacity) (sym i) range

  module _ (m : Object) (b : ℕ) (handed : Bool) where
    -- a block of a pool is handed out or is free again, where nobody waits
    pub rests_handed : ((t : Task) → waits_in kind.Pool m (task w t).wait ≡ true → free_block w m ≡ None → ⊥) → Rests w → Rests (with_handed w m b handed)
    rests_handed none r = record {
      waits = λ t x e.
          each_wait (Still (with_handed w m b handed) t) (λ e h. h) (λ e h. h) (λ s e h. h) (λ f x m e h. h) (λ d v e h. h) (λ d e h. h)
          (λ o e h.
          item_after _ w.pools m.number _ (λ (x : Pool). position not (take x.setup.blocks x.handed) ≡ None) o.number (λ i. absurd (here t o (object_at o m i) e h)) h)
          x e (r.waits t x e);
      in_range = record {
        tasks = r.in_range.tasks;
        semaphores = r.in_range.semaphores;
        contents = r.in_range.contents;
        one_waiter = r.in_range.one_waiter;
        cyclics = r.in_range.cyclics;
        alarms = r.in_range.alarms;
        locked = r.in_range.locked;
        one_lock = r.in_range.one_lock;
      };
    }
      where
        here : (t : Task) (o : Object) → o ≡ m → (task w t).wait ≡ Some (wait.Pool o) → free_block w o ≡ None → ⊥
        here t o i e h = none t (in_queue kind.Pool m (wait.Pool o) _ e (eq-eqb o.number m.number (ap (λ (x : Object). x.number) i))) (subst (λ (x : Object). free_block w x ≡ None) i h)
