-- The kernel's lists: each word changes only those that it names.
use Rattle.std.proofs.Common.{◌≡◌, ℕ, ◌-◌, ◌+◌, ◌*◌, ◌<◌, ◌≤◌, ◌==◌, Bool, true, false, not, ◌||◌, List, [], ◌∷◌, ◌++◌, map, take, drop, refl, sym, ap, ◌∙◌, subst, ⊎_elim, Option, None, Some, arith}
use Rattle.std.specs.Prelude.{slice_set}
use Rattle.std.specs.List.{list_any}
use Rattle.std.proofs.lemmas.Bool.{cases_eq, cases_lt, cond_both, false_from_ne_true, or_parts, or_left, or_right, eqb-true, eq-eqb, false≢true}
use Rattle.std.proofs.lemmas.List.{drop-set-lt, take-set-le, drop-set-add, drop-map, take-map}
use Rattle.fmp_codes.specs.declared.numbers.Pri.{Pri}
use Rattle.fmp_codes.specs.declared.numbers.Proc.{Proc}
use Rattle.fmp_codes.specs.declared.numbers.Task.{Task}
use Rattle.fmp_rules.specs.declared.machine.Wait.{Wait}
use Rattle.fmp_rules.specs.declared.machine.Wait.TheVariants as wait
use Rattle.fmp_rules.specs.declared.machine.QueueKind.TheVariants as kind
use Rattle.fmp_kernel_parts.specs.Tasks.{has_task, without}
use Rattle.fmp_ready.specs.Queues.{list_number, push_last, take_out, first_of}
use Rattle.fmp_waitq.specs.Queue.{Waiter, left_by, joined_by, waiter_of}
use Rattle.fmp_kernel_order.specs.Queues.{Queues, listed, changed, place_in, timed_by}
use Rattle.fmp_law_footprint.specs.Cells.{Cell, OfTask, SpotOf, ReadyOn, WaitersOf, TimedWaits, at, there, on}
use Rattle.fmp_law_footprint.specs.Footprints.{InQueue, InTimed, Spares, Orders, IsLocal, TellsTops}
use Rattle.fmp_law_lists.specs.Lists.{Lists, lists, lists_on, queue_on, StandsInside}

-- The lists of a processor.

-- a list of one processor changes, and those of another stay
pub lists_other : (q : List (List Task)) (n m j : ℕ) (x : List Task) → j < 32 → (n ≡ m → ⊥) → lists_on (slice_set q (32 * m + j) x) n ≡ lists_on q n
lists_other q n m j x few other =
    ⊎_elim
    (λ (l : m < n). ap (take 32) (drop-set-lt (32 * n) q (32 * m + j) x (omega (arith, l, few))))
    (λ (l : n ≤ m).
    let d : ℕ = 32 * m + j - 32 * n in
    let far : 32 ≤ d = omega (arith, l, other) in
    let is : 32 * m + j ≡ 32 * n + d = omega (arith, l) in
    ap (λ i. lists_on (slice_set q i x) n) is ∙ ap (take 32) (drop-set-add (32 * n) q d x) ∙ take-set-le 32 (drop (32 * n) q) d x far)
    (cases_lt m n)

pub lists_out : (q : List (List Task)) (t : Task) (n : ℕ) → lists_on (take_out q t) n ≡ map (without t) (lists_on q n)
lists_out q t n = ap (take 32) (drop-map (without t) (32 * n) q) ∙ take-map (without t) 32 (drop (32 * n) q)

-- a list stays where one is taken out who does not stand there
without_same : (t : Task) (us : List Task) → has_task t us ≡ false → without t us ≡ us
without_same t [] e = refl
without_same t (u ∷ us) e =
    let parts = or_parts (t.number == u.number) (has_task t us) e in
    cond_both (not (u.number == t.number)) _ _ (λ (vs : List Task). vs ≡ u ∷ us) (λ _. ap (λ vs. u ∷ vs) (without_same t us parts.1)) (λ f. absurd (differs u parts.0 f))
  where
    differs : (u : Task) → (t.number == u.number) ≡ false → not (u.number == t.number) ≡ false → ⊥
    differs u e f = false≢true (sym e ∙ eq-eqb t.number u.number (sym (eqb-true u.number t.number (turned (u.number == t.number) f))))
      where
        turned : (b : Bool) → not b ≡ false → b ≡ true
        turned true e = refl
        turned false e = absurd (false≢true (sym e))

all_without_same : (t : Task) (qs : List (List Task)) → list_any (has_task t) qs ≡ false → map (without t) qs ≡ qs
all_without_same t [] e = refl
all_without_same t (us ∷ qs) e =
    let parts = or_parts (has_task t us) (list_any (has_task t) qs) e in
    λ i. without_same t us parts.0 i ∷ all_without_same t qs parts.1 i

-- who stands in a list after others were taken out stood there before
or_more : (b x y : Bool) → (x ≡ true → y ≡ true) → (b || x) ≡ true → (b || y) ≡ true
or_more true x y more f = refl
or_more false x y more f = more f

or_both : (a b x y : Bool) → (a ≡ true → b ≡ true) → (x ≡ true → y ≡ true) → (a || x) ≡ true → (b || y) ≡ true
or_both true b x y here more f = or_left b y (here refl)
or_both false b x y here more f = or_right b y (more f)

has_after : (t u : Task) (us : List Task) → has_task u (without t us) ≡ true → has_task u us ≡ true
has_after t u [] e = e
has_after t u (v ∷ us) e =
    cond_both (not (v.number == t.number)) _ _ (λ (vs : List Task). has_task u vs ≡ true → has_task u (v ∷ us) ≡ true)
    (λ _. or_more (u.number == v.number) _ _ (has_after t u us)) (λ _ f. or_right _ _ (has_after t u us f)) e

any_after : (t u : Task) (qs : List (List Task)) → list_any (has_task u) (map (without t) qs) ≡ true → list_any (has_task u) qs ≡ true
any_after t u [] e = e
any_after t u (us ∷ qs) e = or_both _ _ _ _ (has_after t u us) (any_after t u qs) e

-- one queue changes, and another stays
pub queue_other : (qs : List (List Waiter)) (n m : ℕ) (x : List Waiter) → (n ≡ m → ⊥) → queue_on (slice_set qs m x) n ≡ queue_on qs n
queue_other qs n m x other =
    ⊎_elim (λ (l : m < n). ap (take 1) (drop-set-lt n qs m x l))
    (λ (l : n ≤ m).
    let d : ℕ = m - n in
    let far : 1 ≤ d = omega (arith, l, other) in
    let is : m ≡ n + d = omega (arith, l) in
    ap (λ i. queue_on (slice_set qs i x) n) is ∙ ap (take 1) (drop-set-add n qs d x) ∙ take-set-le 1 (drop n qs) d x far)
    (cases_lt m n)

module _ (S : Cell → Type 0) where
  abbrev Leaving : Queues → Queues → Type 0
  Leaving = Orders Lists lists S (StandsInside S)

  -- t is taken out of all ready lists, of which it stands only in those that S has
  lists_kept : (q : Queues) (t : Task) → S (SpotOf (at t)) → StandsInside S q → (n : ℕ) → (S (ReadyOn n) → ⊥) → lists_on (take_out q.ready t) n ≡ lists_on q.ready n
  lists_kept q t spot s n off =
      lists_out q.ready t n ∙ all_without_same t (lists_on q.ready n) (false_from_ne_true _ (λ e. off (s.ready n t e spot)))

  takes_out : (q : Queues) (t : Task) → S (SpotOf (at t)) → Leaving q (record q { ready = take_out q.ready t })
  takes_out q t spot s = (
    record {
      ready = λ n u e h. s.ready n u (any_after t u (lists_on q.ready n) (subst (λ qs. list_any (has_task u) qs ≡ true) (lists_out q.ready t n) e)) h;
      timed = s.timed;
    },
    spared,
  )
    where
      spared : Spares Lists lists S (StandsInside S) q (record q { ready = take_out q.ready t })
      spared (ReadyOn n) off = lists_kept q t spot s n off
      spared _ off = refl

  pushes : (q : Queues) (p : Proc) (i : Pri) (t : Task) → S (ReadyOn (on p)) → Leaving q (record q { ready = push_last q.ready (list_number p i) t })
  pushes q p i t ready s = (
    record {
      ready = λ n u e h.
          ⊎_elim (λ (same : n ≡ on p). subst (λ m. S (ReadyOn m)) (sym same) ready)
          (λ (other : n ≡ on p → ⊥). s.ready n u (subst (λ qs. list_any (has_task u) qs ≡ true) (elsewhere n other) e) h) (cases_eq n (on p));
      timed = s.timed;
    },
    spared,
  )
    where
      elsewhere : (n : ℕ) → (n ≡ on p → ⊥) → lists_on (push_last q.ready (list_number p i) t) n ≡ lists_on q.ready n
      elsewhere n other = lists_other q.ready n (on p) (i.number - 1) _ (let l = i.most in omega (arith, l)) other

      spared : Spares Lists lists S (StandsInside S) q (record q { ready = push_last q.ready (list_number p i) t })
      spared (ReadyOn n) off = elsewhere n (λ same. off (subst (λ m. S (ReadyOn m)) (sym same) ready))
      spared _ off = refl

  -- Queues and timed waits.

  spares_waits : (q : Queues) (x : Option Wait) (f : List Waiter → List Waiter) → InQueue S x
      → Spares Lists lists S (StandsInside S) q (record q { waits = changed q.waits (place_in x) f })
  spares_waits q None f h (OfTask n) off = refl
  spares_waits q None f h _ off = refl
  spares_waits q (Some wait.Sleep) f h _ off = refl
  spares_waits q (Some wait.Delay) f h _ off = refl
  spares_waits q (Some (wait.Semaphore s)) f h (WaitersOf kind.Semaphore n) off =
      queue_other q.waits.semaphores n (there s) _ (λ e. off (subst (λ i. S (WaitersOf kind.Semaphore i)) (sym e) h))
  spares_waits q (Some (wait.Semaphore s)) f h (WaitersOf _ n) off = refl
  spares_waits q (Some (wait.Semaphore s)) f h _ off = refl
  spares_waits q (Some (wait.Eventflag o x m)) f h (WaitersOf kind.Eventflag n) off =
      queue_other q.waits.eventflags n (there o) _ (λ e. off (subst (λ i. S (WaitersOf kind.Eventflag i)) (sym e) h))
  spares_waits q (Some (wait.Eventflag o x m)) f h (WaitersOf _ n) off = refl
  spares_waits q (Some (wait.Eventflag o x m)) f h _ off = refl
  spares_waits q (Some (wait.Send d v)) f h (WaitersOf kind.Send n) off =
      queue_other q.waits.senders n (there d) _ (λ e. off (subst (λ i. S (WaitersOf kind.Send i)) (sym e) h))
  spares_waits q (Some (wait.Send d v)) f h (WaitersOf _ n) off = refl
  spares_waits q (Some (wait.Send d v)) f h _ off = refl
  spares_waits q (Some (wait.Receive d)) f h (WaitersOf kind.Receive n) off =
      queue_other q.waits.receivers n (there d) _ (λ e. off (subst (λ i. S (WaitersOf kind.Receive i)) (sym e) h))
  spares_waits q (Some (wait.Receive d)) f h (WaitersOf _ n) off = refl
  spares_waits q (Some (wait.Receive d)) f h _ off = refl
  spares_waits q (Some (wait.Pool m)) f h (WaitersOf kind.Pool n) off =
      queue_other q.waits.pools n (there m) _ (λ e. off (subst (λ i. S (WaitersOf kind.Pool i)) (sym e) h))
  spares_waits q (Some (wait.Pool m)) f h (WaitersOf _ n) off = refl
  spares_waits q (Some (wait.Pool m)) f h _ off = refl

  waits_change : (q : Queues) (x : Option Wait) (f : List Waiter → List Waiter) → InQueue S x → Leaving q (record q { waits = changed q.waits (place_in x) f })
  waits_change q x f h s = (record { ready = s.ready; timed = s.timed }, spares_waits q x f h)

  timed_kept : (q : Queues) (t : Task) → S (SpotOf (at t)) → StandsInside S q → (S TimedWaits → ⊥) → without t q.timed ≡ q.timed
  timed_kept q t spot s off = without_same t q.timed (false_from_ne_true _ (λ e. off (s.timed t e spot)))

  timed_changes : (q : Queues) (t : Task) (left : Option ℕ) → S (SpotOf (at t)) → InTimed S left → Leaving q (record q { timed = timed_by left t q.timed })
  timed_changes q t None spot h s = (record { ready = s.ready; timed = λ u e. s.timed u (has_after t u q.timed e) }, spared)
    where
      spared : Spares Lists lists S (StandsInside S) q (record q { timed = without t q.timed })
      spared TimedWaits off = timed_kept q t spot s off
      spared _ off = refl
  timed_changes q t (Some n) spot h s = (record { ready = s.ready; timed = λ u e f. h }, spared)
    where
      spared : Spares Lists lists S (StandsInside S) q (record q { timed = without t q.timed ++ t ∷ [] })
      spared TimedWaits off = absurd (off h)
      spared _ off = refl

  in_turn : (q r s : Queues) → Leaving q r → Leaving r s → Leaving q s
  in_turn q r s a b i =
      let x = a i in
      let y = b x.0 in
      (y.0, λ c off. y.1 c off ∙ x.1 c off)

  pub listed_is_local : IsLocal Lists lists S (StandsInside S) listed
  unfolding listed
  listed_is_local = record {
    put_last =
        λ q r t spot ready. in_turn q (record q { ready = take_out q.ready t }) _ (takes_out q t spot)
        (pushes (record q { ready = take_out q.ready t }) r.assigned r.priority t ready);
    take_out = λ q r t spot ready. takes_out q t spot;
    join = λ q o r left t spot queue timed.
        let f : List Waiter → List Waiter = joined_by (waiter_of o t r.priority) in
        let u : Queues = record q { waits = changed q.waits (place_in r.wait) f } in
        in_turn q u _ (waits_change q r.wait f queue) (timed_changes u t left spot timed);
    leave = λ q r t spot queue.
        let u : Queues = record q { waits = changed q.waits (place_in r.wait) (left_by t) } in
        in_turn q u _ (waits_change q r.wait (left_by t) queue) (timed_changes u t None spot tt);
  }

  pub listed_tells : TellsTops Lists lists S (StandsInside S) listed
  unfolding listed
  listed_tells = record { top = λ w v p g m off. ap first_of (m.spares (ReadyOn (on p)) off) }
