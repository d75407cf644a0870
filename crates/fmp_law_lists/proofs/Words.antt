-- The words by which calls change tasks, on lists and on numbers.
use Rattle.std.proofs.Common.{◌≡◌, ℕ, ◌+◌, ◌-◌, ◌<◌, ◌≤◌, Bool, true, false, not, cond, List, [], length, map, refl, sym, ap, ◌∙◌, subst, arith, Option, Some, None, ⊎_elim}
use Rattle.std.specs.Prelude.{is_some}
use Rattle.std.proofs.lemmas.Bool.{cond_both, cases_lt, and_left, and_right, false≢true}
use Rattle.std.proofs.lemmas.Option.{none-some, same_Some}
use Rattle.std.proofs.lemmas.List.{length-set, get_or_past}
use Rattle.fmp_codes.specs.declared.numbers.Task.{Task}
use Rattle.fmp_codes.specs.declared.numbers.Object.{Object}
use Rattle.fmp_setup.specs.declared.setup.Order.{Order}
use Rattle.fmp_rules.specs.declared.machine.TaskRecord.{TaskRecord}
use Rattle.fmp_rules.specs.declared.machine.Wait.{Wait}
use Rattle.fmp_rules.specs.declared.machine.Wait.TheVariants as wait
use Rattle.fmp_rules.specs.declared.machine.QueueKind.{QueueKind}
use Rattle.fmp_rules.specs.declared.machine.QueueKind.TheVariants as kind
use Rattle.fmp_rules.specs.World.{World, item, with_item, no_task}
use Rattle.fmp_rules.specs.Ordering.{is_runnable, order_in, order_of, depart, arrive}
use Rattle.fmp_rules.specs.Arrivals.{Arrivals, numbered, rank_in}
use Rattle.fmp_kernel_parts.specs.Tasks.{has_task, without}
use Rattle.fmp_ready.specs.Queues.{take_out}
use Rattle.fmp_waitq.specs.Queue.{Waiter, task_of, rank_of, waiter_of, left_by, joined_by}
use Rattle.fmp_kernel_order.specs.Queues.{WaitQueues, Queues, queues, queue, Place, place_of, place_in, changed, timed_by, listed}
use Rattle.fmp_law_lists.specs.Listing.{is_task}
use Rattle.fmp_law_lists.specs.Stands.{record_in, waits_for, ReadyIs, WaitsAre, IsOrderOf}
use Rattle.fmp_law_lists.proofs.Numbering.{other_item, own_item}
use Rattle.fmp_law_lists.proofs.Ready.{ReadyBut, departed, ready_out, ready_still, ready_away, ready_arrives, ready_noted}
use Rattle.fmp_law_lists.proofs.Places.{in_its_place, HasPlace, HasOrder, queues_after}
use Rattle.fmp_law_lists.proofs.OneQueue.{rank_is}
use Rattle.fmp_law_lists.proofs.Waits.{WaitsBut, SameRank, waits_out, waits_still, waits_changed, waits_rest, waits_in_place, waits_kept}

-- what holds of both in both cases of one test
pub by_tests : {X Y : Type 0} (R : X → Y → Type 0) (b : Bool) (x y : X) (v w : Y) → (b ≡ true → R x v) → (b ≡ false → R y w) → R (cond b x y) (cond b v w)
by_tests R true x y v w f g = f refl
by_tests R false x y v w f g = g refl

depart_is : (q : Queues) (o : TaskRecord) (u : Task) → depart listed q o u ≡ record q { ready = departed o u q.ready }
unfolding listed
depart_is q o u = elim (is_runnable o) as (λ b. cond b (listed.take_out q o u) q ≡ record q { ready = cond b (take_out q.ready u) q.ready })
    [ true ↦ refl | false ↦ refl ]

depart_numbers : (n : Arrivals) (o : TaskRecord) (u : Task) → depart numbered n o u ≡ n
unfolding numbered
depart_numbers n o u = cond_both (is_runnable o) n n (λ x. x ≡ n) (λ _. refl) (λ _. refl)

pub length_changed : (q : WaitQueues) (a : Option Place) (f : List Waiter → List Waiter) (k : QueueKind) → length (queues (changed q a f) k) ≡ length (queues q k)
length_changed q None f k = refl
length_changed q (Some at) f k =
    queues_after q at.kind _ k (λ v. length v ≡ length (queues q k)) (λ e. length-set (queues q at.kind) _ _ ∙ ap (λ y. length (queues q y)) (sym e)) (λ _. refl)

-- who waits is not runnable
waiting_rests : (r : TaskRecord) (x : Wait) → r.wait ≡ Some x → is_runnable r ≡ false
waiting_rests r x e = and_left _ _ (and_right r.active _ (ap (λ a. not (is_some a)) e))

module _ (tasks : List TaskRecord) (orders : QueueKind → Object → Order) (counts : QueueKind → ℕ) (n : Arrivals)
    (u : Task) (within : u.number ≤ length tasks) (r : TaskRecord) where
  abbrev o : TaskRecord
  o = record_in tasks u

  abbrev new : List TaskRecord
  new = with_item tasks u.number r

  mine : record_in new u ≡ r
  mine = own_item no_task tasks r u within

  -- the order after the change
  abbrev Fits : List (Option ℕ) → Queues → Arrivals → Type 0
  Fits left q m = IsOrderOf new orders counts left q m

  -- the order after the task left its ready queue and went last where it is ready then
  abbrev Moved : List (Option ℕ) → Queues → Arrivals → Type 0
  Moved left q m = Fits left (arrive listed (depart listed q o u) r u) (arrive numbered (depart numbered m o u) r u)

  moved : (q : Queues) (left : List (Option ℕ)) → ReadyIs tasks q.ready n.ready n.next →
      ((more : ℕ) → n.next ≤ more → WaitsAre new orders left q.waits q.timed n.begun more) → ((x : QueueKind) → length (queues q.waits x) ≡ counts x) → Moved left q n
  unfolding listed numbered
  moved q left s waits sized =
      subst (λ (x : Queues). Fits left (arrive listed x r u) (arrive numbered (depart numbered n o u) r u)) (sym (depart_is q o u))
      (subst (λ (m : Arrivals). Fits left (arrive listed (record q { ready = departed o u q.ready }) r u) (arrive numbered m r u)) (sym (depart_numbers n o u))
      (by_tests (Fits left) (is_runnable r) _ _ _ _
      (λ runs. record { ready = ready_arrives u r tasks (departed o u q.ready) n.ready n.next within runs out; waits = waits (n.next + 1) (omega arith); sized = sized })
      (λ rests. record { ready = ready_away u r tasks (departed o u q.ready) n.ready n.next within rests n.next (omega arith) out; waits = waits n.next (omega arith); sized = sized })))
    where
      out : ReadyBut u tasks (departed o u q.ready) n.ready n.next
      out = ready_out u tasks q.ready n.ready n.next s

  -- the task is not ready, neither before nor after
  resting : (ready : List (List Task)) → is_runnable o ≡ false → is_runnable r ≡ false → (more : ℕ) → n.next ≤ more →
      ReadyIs tasks ready n.ready n.next → ReadyIs new ready n.ready more
  resting ready rested rests more up s = ready_away u r tasks ready n.ready n.next within rests more up (ready_still u tasks ready n.ready n.next rested s)

  module _ (left : List (Option ℕ)) (q : Queues) (s : IsOrderOf tasks orders counts left q n) where
    -- the fields change, and the task keeps its place
    pub order_with_task : is_runnable r ≡ is_runnable o → r.assigned ≡ o.assigned → r.priority ≡ o.priority → r.wait ≡ o.wait → Fits left q n
    order_with_task runs assigned priority wait = record {
      ready = ready_noted u r tasks q.ready n.ready n.next within runs assigned priority s.ready;
      waits = waits_kept u tasks orders left q.waits q.timed n.begun n.next r wait (λ x i _. ap (rank_of (orders x i)) priority) n.next (omega arith) within s.waits;
      sized = s.sized;
    }

    -- the task leaves its place, and goes last where it is ready then
    pub order_place : r.wait ≡ o.wait → SameRank orders o r → Moved left q n
    order_place wait rank = moved q left s.ready (λ more up. waits_kept u tasks orders left q.waits q.timed n.begun n.next r wait rank more up within s.waits) s.sized

    -- its wait is over
    pub order_end : r.wait ≡ None → Moved (with_item left u.number None) (listed.leave q o u) (numbered.leave n o u)
    unfolding listed numbered
    order_end none = moved (listed.leave q o u) untimed s.ready over (λ x. length_changed q.waits (place_in o.wait) (left_by u) x ∙ s.sized x)
      where
        untimed : List (Option ℕ)
        untimed = with_item left u.number None

        over : (more : ℕ) → n.next ≤ more → WaitsAre new orders untimed (changed q.waits (place_in o.wait) (left_by u)) (without u q.timed) n.begun more
        over more up =
            waits_rest u new orders untimed _ (without u q.timed) n.begun more (ap (λ (x : TaskRecord). x.wait) mine ∙ none)
            (ap is_some (own_item None left None u (rw s.waits.left_counted within)))
            (waits_changed u tasks orders left _ (without u q.timed) n.begun n.next r untimed n.begun more
            (λ _ _. refl) (λ t d. sym (other_item None left None u t d)) up refl (length-set left _ None)
            (waits_out u tasks orders left q.waits q.timed n.begun n.next s.waits))

  -- A wait begins, or begins anew: the task joins its queue and the timed waits, after all others.
  module _ (x : Wait) (waiting : r.wait ≡ Some x) (i : Order) (ranks : HasOrder orders x i) where
    abbrev begun : List ℕ
    begun = with_item n.begun u.number n.next

    abbrev joins : List Waiter → List Waiter
    joins = joined_by (waiter_of i u r.priority)

    joined : (left more : List (Option ℕ)) (waits : WaitQueues) (ticking : List Task) → HasPlace (λ k. length (queues waits k)) x →
        ((t : Task) → is_task t u ≡ false → item None left t.number ≡ item None more t.number) → length more ≡ length left →
        WaitsBut u tasks orders left waits ticking n.begun n.next →
        WaitsAre new orders more (changed waits (place_in r.wait) joins) (timed_by (item None more u.number) u ticking) begun (n.next + 1)
    joined left more waits ticking known ticks count b =
        subst (λ (a : Option Place). WaitsAre new orders more (changed waits a joins) (timed_by (item None more u.number) u ticking) begun (n.next + 1)) (sym (ap place_in waiting))
        (waits_in_place u new orders more waits ticking begun (n.next + 1) last (let c = number in omega (arith, c)) x (ap (λ (y : TaskRecord). y.wait) mine ∙ waiting)
        (waits_changed u tasks orders left waits ticking n.begun n.next r more begun (n.next + 1)
        (λ t d. sym (other_item 0 n.begun n.next u t d)) ticks (omega arith) (length-set n.begun _ n.next) count b)
        (rank_of i r.priority) rank known)
      where
        number : item 0 begun u.number ≡ n.next
        number = own_item 0 n.begun n.next u (rw b.counted within)

        last : (t : Task) → is_task t u ≡ false → waits_for new t ≡ true → item 0 begun t.number < item 0 begun u.number
        last t d e =
            let l = b.numbered.below t (rw d (ap (λ (y : TaskRecord). is_some y.wait) (sym (other_item no_task tasks r u t d)) ∙ e)) in
            let a = other_item 0 n.begun n.next u t d in let c = number in omega (arith, l, a, c)

        rank : (at : Place) → place_of x ≡ Some at → rank_of i r.priority ≡ rank_in (orders at.kind at.object) new u
        rank at e =
            let by : Order = orders at.kind at.object in
            sym (rank_is by new u ∙ ap (λ (y : TaskRecord). rank_of by y.priority) mine ∙ ap (λ j. rank_of j r.priority) (ranks at e))

    module _ (left : List (Option ℕ)) (q : Queues) (s : IsOrderOf tasks orders counts left q n) where
      -- a wait begins, of a task that has none
      pub order_begin : (l : Option ℕ) → o.wait ≡ None → HasPlace counts x →
          Fits (with_item left u.number l) (listed.join (depart listed q o u) i r l u) (numbered.join (depart numbered n o u) i r l u)
      unfolding listed numbered
      order_begin l none known =
          subst (λ (y : Queues). Fits more (listed.join y i r l u) (numbered.join (depart numbered n o u) i r l u)) (sym (depart_is q o u))
          (subst (λ (m : Arrivals). Fits more (listed.join (record q { ready = departed o u q.ready }) i r l u) (numbered.join m i r l u)) (sym (depart_numbers n o u))
          (record {
            ready = ready_away u r tasks (departed o u q.ready) n.ready n.next within (waiting_rests r x waiting) (n.next + 1) (omega arith)
                (ready_out u tasks q.ready n.ready n.next s.ready);
            waits = subst (λ a. WaitsAre new orders more (changed q.waits (place_in r.wait) joins) (timed_by a u q.timed) begun (n.next + 1))
                (own_item None left l u (rw s.waits.left_counted within))
                (joined left more q.waits q.timed (λ at e. rw (s.sized at.kind) (known at e)) (λ t d. sym (other_item None left l u t d)) (length-set left _ l)
                (waits_still u tasks orders left q.waits q.timed n.begun n.next s.waits none));
            sized = λ y. length_changed q.waits (place_in r.wait) joins y ∙ s.sized y;
          }))
        where
          more : List (Option ℕ)
          more = with_item left u.number l

      -- who waits stands in a queue that there is
      queue_there : o.wait ≡ Some x → HasPlace (λ k. length (queues q.waits k)) x
      queue_there own at e = ⊎_elim
          (λ (l : length (queues q.waits at.kind) < at.object.number).
          let none : queue q.waits at.kind at.object ≡ [] = get_or_past (queues q.waits at.kind) (at.object.number - 1) [] (omega (arith, l)) in
          let there = (s.waits.lists at.kind at.object).members u ∙ in_its_place o.wait at (ap place_in own ∙ e) in
          absurd (false≢true (sym (ap (λ es. has_task u (map task_of es)) none) ∙ there)))
          (λ l. l) (cases_lt (length (queues q.waits at.kind)) at.object.number)

      -- a wait begins anew, with the ticks that it has left
      pub order_anew : r.wait ≡ o.wait →
          Fits left (listed.join (listed.leave q r u) i r (item None left u.number) u) (numbered.join (numbered.leave n r u) i r (item None left u.number) u)
      unfolding listed numbered
      order_anew same = record {
        ready = resting q.ready (waiting_rests o x own) (waiting_rests r x waiting) (n.next + 1) (omega arith) s.ready;
        waits = joined left left gone (without u q.timed) (λ at e. rw (length_changed q.waits (place_in r.wait) (left_by u) at.kind) (queue_there own at e)) (λ _ _. refl) refl
            (subst (λ (a : Option Wait). WaitsBut u tasks orders left (changed q.waits (place_in a) (left_by u)) (without u q.timed) n.begun n.next) (sym same)
            (waits_out u tasks orders left q.waits q.timed n.begun n.next s.waits));
        sized = λ y. length_changed gone (place_in r.wait) joins y ∙ length_changed q.waits (place_in r.wait) (left_by u) y ∙ s.sized y;
      }
        where
          own : o.wait ≡ Some x
          own = sym same ∙ waiting

          gone : WaitQueues
          gone = changed q.waits (place_in r.wait) (left_by u)

      -- its fields change, and it stays in its queue
      pub order_stays : r.wait ≡ o.wait → SameRank orders o r → Fits left q n
      order_stays same rank = record {
        ready = resting q.ready (waiting_rests o x (sym same ∙ waiting)) (waiting_rests r x waiting) n.next (omega arith) s.ready;
        waits = waits_kept u tasks orders left q.waits q.timed n.begun n.next r same rank n.next (omega arith) within s.waits;
        sized = s.sized;
      }

-- The order of the queue of a wait.

order_here : {Q : Type 0} (w : World Q) (p at : Place) → Some p ≡ Some at → order_in w at.kind at.object ≡ order_in w p.kind p.object
order_here w p at e = ap (λ (a : Place). order_in w a.kind a.object) (sym (same_Some p at e))

pub order_at : {Q : Type 0} (w : World Q) (x : Wait) → HasOrder (order_in w) x (order_of w x)
order_at w wait.Sleep at e = absurd (none-some at e)
order_at w wait.Delay at e = absurd (none-some at e)
order_at w (wait.Semaphore s) at e = order_here w (record { kind = kind.Semaphore; object = s }) at e
order_at w (wait.Eventflag f pattern mode) at e = order_here w (record { kind = kind.Eventflag; object = f }) at e
order_at w (wait.Send d value) at e = order_here w (record { kind = kind.Send; object = d }) at e
order_at w (wait.Receive d) at e = order_here w (record { kind = kind.Receive; object = d }) at e
order_at w (wait.Pool m) at e = order_here w (record { kind = kind.Pool; object = m }) at e
