-- The ticks that are left after a tick.
use Rattle.std.proofs.Common.{◌≡◌, ℕ, zero, suc, ◌+◌, ◌-◌, ◌<◌, ◌≤◌, ◌⊎◌, inl, inr, Bool, true, false, List, [], ◌∷◌, length, map, filter, refl, sym, subst, arith, Option, Some, None, ⊎_elim}
use Rattle.std.specs.Prelude.{is_some, slice_index_or}
use Rattle.std.specs.List.{range_with_len}
use Rattle.std.proofs.Math.Logic.{⊎_map}
use Rattle.std.proofs.lemmas.Bool.{cases_eq, both_ways, cond_both, false≢true, eqb-false}
use Rattle.fmp_codes.specs.Numbers.{as_object, within}
use Rattle.fmp_codes.specs.declared.numbers.Proc.{Proc}
use Rattle.fmp_codes.specs.declared.numbers.Task.{Task}
use Rattle.fmp_codes.specs.declared.numbers.Object.{Object}
use Rattle.fmp_codes.specs.declared.records.Runner.TheVariants as runner
use Rattle.fmp_codes.proofs.Same.{objects_same}
use Rattle.fmp_rules.specs.World.{World, item, with_item}
use Rattle.fmp_rules.specs.Objects.{cyclic}
use Rattle.fmp_rules.specs.Ordering.{Ordering}
use Rattle.fmp_rules.specs.Tasks.{make_ready}
use Rattle.fmp_rules.specs.TimeCalls.{with_cyclic_left, with_alarm_left}
use Rattle.fmp_rules.specs.Tick.{one_less, lowered, released, with_due, alarms_due, cyclics_due, is_over, tasks_expired, expired, with_handlers_due}
use Rattle.fmp_law_safety.specs.Safe.{TicksInRange, CountsInRange}
use Rattle.fmp_law_safety.proofs.Items.{item_after, item_put}
use Rattle.fmp_law_safety.proofs.Queues.{IsAmong}
use Rattle.fmp_law_safety.proofs.KeepsDue.{alarms_keep, cyclics_keep}

-- ticks that were left, perhaps one less now
abbrev pub Fallen : Option ℕ → Type 0
Fallen None = Unit {0}
Fallen (Some n) = n ≤ 2147483648

one_less_fallen : (o : Option ℕ) → TicksInRange o → Fallen (one_less o)
one_less_fallen None h = tt
one_less_fallen (Some n) h = let most = h.1 in omega (arith, most)

in_range_unless_over : (o : Option ℕ) → Fallen o → is_over o ≡ false → TicksInRange o
in_range_unless_over None h e = tt
in_range_unless_over (Some n) h e = let positive = eqb-false n 0 e in (omega (arith, positive), h)

pub in_range_fallen : (o : Option ℕ) → TicksInRange o → Fallen o
in_range_fallen None h = tt
in_range_fallen (Some n) h = h.1

over_some : (o : Option ℕ) → is_over o ≡ true → is_some o ≡ true
over_some None e = absurd (false≢true e)
over_some (Some n) e = refl

-- a count that fell belongs to one of so many
pub lowered_item : {X : Type 0} (qualifies : X → Bool) (xs : List X) (counts : List (Option ℕ)) (i : ℕ) → TicksInRange (slice_index_or counts i None) →
    TicksInRange (slice_index_or (lowered qualifies xs counts) i None) ⊎ ((i < length xs) × Fallen (slice_index_or (lowered qualifies xs counts) i None))
lowered_item qualifies [] counts i h = inl h
lowered_item qualifies (x ∷ xs) [] i h = inl tt
lowered_item qualifies (x ∷ xs) (n ∷ ns) zero h =
    cond_both (qualifies x) (one_less n) n (λ (o : Option ℕ). TicksInRange o ⊎ ((0 < suc (length xs)) × Fallen o))
    (λ _. inr (omega arith, one_less_fallen n h)) (λ _. inl h)
lowered_item qualifies (x ∷ xs) (n ∷ ns) (suc i) h = ⊎_map (λ r. r) (λ r. let below = r.0 in (omega (arith, below), r.1)) (lowered_item qualifies xs ns i h)

among_filter : {X : Type 0} (test : X → Bool) (x : X) (xs : List X) → test x ≡ true → IsAmong x xs → IsAmong x (filter test xs)
among_filter test x [] e i = i
among_filter test x (y ∷ ys) e (inl i) =
    cond_both (test y) (y ∷ filter test ys) (filter test ys) (IsAmong x) (λ _. inl i) (λ none. absurd (both_ways _ none (subst (λ z. test z ≡ true) (sym i) e)))
among_filter test x (y ∷ ys) e (inr i) =
    cond_both (test y) (y ∷ filter test ys) (filter test ys) (IsAmong x) (λ _. inr (among_filter test x ys e i)) (λ _. among_filter test x ys e i)

among_objects : (o : Object) (a n : ℕ) → a ≤ o.number → o.number < a + n → IsAmong o (map as_object (range_with_len a n))
among_objects o a zero l h = absurd (omega (arith, l, h))
among_objects o a (suc n) l h =
    ⊎_elim (λ (e : o.number ≡ a). let here : within 32 a ≡ o.number = omega (arith, e, o.least, o.most) in inl (objects_same (as_object a) o here))
    (λ (d : o.number ≡ a → ⊥). inr (among_objects o (a + 1) n (omega (arith, l, d)) (omega (arith, h)))) (cases_eq o.number a)

-- an object's count is in range, or it is one of those whose time is over
served_object : {X : Type 0} (counts : List (Option ℕ)) (xs : List X) (o : Object) →
    TicksInRange (item None counts o.number) ⊎ ((o.number - 1 < length xs) × Fallen (item None counts o.number)) → TicksInRange (item None counts o.number) ⊎ IsAmong o (expired counts xs)
served_object counts xs o (inl h) = inl h
served_object counts xs o (inr h) = go (is_over (item None counts o.number)) refl
  where
    go : (b : Bool) → is_over (item None counts o.number) ≡ b → TicksInRange (item None counts o.number) ⊎ IsAmong o (expired counts xs)
    go true e = let below = h.0 in inr (among_filter (λ (x : Object). is_over (item None counts x.number)) o _ e (among_objects o 1 (length xs) o.least (omega (arith, below, o.least))))
    go false e = inl (in_range_unless_over (item None counts o.number) h.1 e)

-- and so a task's
pub served_task : (counts : List (Option ℕ)) (ts : List Task) (t : Task) → Fallen (item None counts t.number) → (is_some (item None counts t.number) ≡ true → IsAmong t ts) →
    TicksInRange (item None counts t.number) ⊎ IsAmong t (tasks_expired counts ts)
served_task counts ts t fallen timed = go (is_over (item None counts t.number)) refl
  where
    go : (b : Bool) → is_over (item None counts t.number) ≡ b → TicksInRange (item None counts t.number) ⊎ IsAmong t (tasks_expired counts ts)
    go true e = inr (among_filter (λ (x : Task). is_over (item None counts x.number)) t ts e (timed (over_some _ e)))
    go false e = inl (in_range_unless_over (item None counts t.number) fallen e)

module _ {Q : Type 0} (p : Proc) where
  pub waits_served : (k : Ordering Q) (w : World Q) (ts : List Task) (t : Task) → TicksInRange (item None w.waits_left t.number) ⊎ IsAmong t ts →
      TicksInRange (item None (released k w ts).0.waits_left t.number)
  waits_served k w [] t (inl h) = h
  waits_served k w [] t (inr i) = absurd i
  waits_served k w (u ∷ ts) t (inl h) = waits_served k (make_ready k w u) ts t (inl (item_after None w.waits_left u.number None TicksInRange t.number (λ _. tt) h))
  waits_served k w (u ∷ ts) t (inr (inl e)) =
      waits_served k (make_ready k w u) ts t
      (inl (subst (λ (x : Task). TicksInRange (item None (with_item w.waits_left u.number None) x.number)) e (item_put None w.waits_left u.number None TicksInRange tt tt)))
  waits_served k w (u ∷ ts) t (inr (inr i)) = waits_served k (make_ready k w u) ts t (inr i)

  alarms_served : (w : World Q) (os : List Object) (a : Object) → TicksInRange (item None w.alarms_left a.number) ⊎ IsAmong a os → TicksInRange (item None (alarms_due w p os).alarms_left a.number)
  alarms_served w [] a (inl h) = h
  alarms_served w [] a (inr i) = absurd i
  alarms_served w (b ∷ os) a (inl h) =
      alarms_served (with_alarm_left (with_due w p (runner.Alarm b)) b None) os a (inl (item_after None w.alarms_left b.number None TicksInRange a.number (λ _. tt) h))
  alarms_served w (b ∷ os) a (inr (inl e)) =
      alarms_served (with_alarm_left (with_due w p (runner.Alarm b)) b None) os a
      (inl (subst (λ (x : Object). TicksInRange (item None (with_item w.alarms_left b.number None) x.number)) e (item_put None w.alarms_left b.number None TicksInRange tt tt)))
  alarms_served w (b ∷ os) a (inr (inr i)) = alarms_served (with_alarm_left (with_due w p (runner.Alarm b)) b None) os a (inr i)

  cyclics_served : (w : World Q) (os : List Object) (c : Object) → ((x : Object) → TicksInRange (Some (cyclic w x).setup.period)) → TicksInRange (item None w.cyclics_left c.number) ⊎ IsAmong c os →
      TicksInRange (item None (cyclics_due w p os).cyclics_left c.number)
  cyclics_served w [] c periods (inl h) = h
  cyclics_served w [] c periods (inr i) = absurd i
  cyclics_served w (b ∷ os) c periods (inl h) =
      cyclics_served (with_cyclic_left (with_due w p (runner.Cyclic b)) b (Some (cyclic w b).setup.period)) os c periods
      (inl (item_after None w.cyclics_left b.number (Some (cyclic w b).setup.period) TicksInRange c.number (λ _. periods b) h))
  cyclics_served w (b ∷ os) c periods (inr (inl e)) =
      cyclics_served (with_cyclic_left (with_due w p (runner.Cyclic b)) b (Some (cyclic w b).setup.period)) os c periods
      (inl (subst (λ (x : Object). TicksInRange (item None (with_item w.cyclics_left b.number (Some (cyclic w b).setup.period)) x.number)) e
      (item_put None w.cyclics_left b.number (Some (cyclic w b).setup.period) TicksInRange (periods b) tt)))
  cyclics_served w (b ∷ os) c periods (inr (inr i)) =
      cyclics_served (with_cyclic_left (with_due w p (runner.Cyclic b)) b (Some (cyclic w b).setup.period)) os c periods (inr i)

-- what is so of a state before its handlers become due
pub record Counting {Q : Type 0} (w : World Q) : Type 0 where
  pub waits : (t : Task) → TicksInRange (item None w.waits_left t.number)
  pub cyclics : (c : Object) → TicksInRange (item None w.cyclics_left c.number) ⊎ ((c.number - 1 < length w.cyclics) × Fallen (item None w.cyclics_left c.number))
  pub alarms : (a : Object) → TicksInRange (item None w.alarms_left a.number) ⊎ ((a.number - 1 < length w.alarms) × Fallen (item None w.alarms_left a.number))
  pub periods : (c : Object) → TicksInRange (Some (cyclic w c).setup.period)

module _ {Q : Type 0} (w : World Q) (p : Proc) where
  pub counts_handlers_due : Counting w → CountsInRange (with_handlers_due w p)
  unfolding with_handlers_due
  counts_handlers_due h =
      let os : List Object = expired w.alarms_left w.alarms in
      let cs : List Object = expired w.cyclics_left w.cyclics in
      let u : World Q = alarms_due w p os in
      record {
        waits = λ t.
            cyclics_keep p (λ (v : World Q). TicksInRange (item None v.waits_left t.number)) (λ v c e. e) u cs
            (alarms_keep p (λ (v : World Q). TicksInRange (item None v.waits_left t.number)) (λ v a e. e) w os (h.waits t));
        cyclics = λ c.
            cyclics_served p u cs c (alarms_keep p (λ (v : World Q). (x : Object) → TicksInRange (Some (cyclic v x).setup.period)) (λ v a e. e) w os h.periods)
            (alarms_keep p (λ (v : World Q). TicksInRange (item None v.cyclics_left c.number) ⊎ IsAmong c cs) (λ v a e. e) w os (served_object w.cyclics_left w.cyclics c (h.cyclics c)));
        alarms = λ a.
            cyclics_keep p (λ (v : World Q). TicksInRange (item None v.alarms_left a.number)) (λ v c e. e) u cs
            (alarms_served p w os a (served_object w.alarms_left w.alarms a (h.alarms a)));
      }
