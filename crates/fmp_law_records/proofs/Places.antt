-- Each step gives the tasks the places that its record says, in the queues that are configured so.
use Rattle.std.proofs.Common.{◌≡◌, ℕ, ◌+◌, ◌-◌, ◌<◌, ◌≤◌, ◌==◌, ℤ, Bool, true, false, ◌&&◌, ◌||◌, List, length, arith, refl, sym, ap, ◌∙◌, subst, Option, Some, None, ⊎_elim}
use Rattle.std.specs.Prelude.{if◌then◌else◌, is_some, unwrap_or, nat_lt, option_map}
use Rattle.std.specs.Option.{option_or}
use Rattle.std.proofs.lemmas.Bool.{cond_both, cond-true, cond-false, false≢true, both_ways, and_right, or_left, eq-eqb, ne_eqb, cases_eq, le-ltb, lt-ltb}
use Rattle.std.proofs.lemmas.List.{length-set}
use Rattle.fmp_codes.specs.Numbers.{as_task}
use Rattle.fmp_codes.specs.declared.numbers.Proc.{Proc}
use Rattle.fmp_codes.specs.declared.numbers.Task.{Task}
use Rattle.fmp_codes.specs.declared.numbers.Pri.{Pri}
use Rattle.fmp_codes.specs.declared.numbers.Object.{Object}
use Rattle.fmp_codes.specs.declared.calls.Call.{Call}
use Rattle.fmp_codes.specs.declared.calls.Call.TheVariants as call
use Rattle.fmp_codes.specs.declared.calls.TaskCall.TheVariants as tasks
use Rattle.fmp_codes.specs.declared.records.Answer.{Answer}
use Rattle.fmp_codes.specs.declared.records.Answer.TheVariants as answer
use Rattle.fmp_codes.specs.declared.records.Event.{Event}
use Rattle.fmp_codes.specs.declared.records.Event.TheVariants as event
use Rattle.fmp_codes.specs.declared.records.Record.{Record}
use Rattle.fmp_codes.specs.declared.records.Runner.{Runner}
use Rattle.fmp_codes.specs.declared.records.Runner.TheVariants as runner
use Rattle.fmp_codes.proofs.Same.{tasks_same}
use Rattle.fmp_setup.specs.declared.setup.Order.{Order}
use Rattle.fmp_setup.specs.declared.setup.Order.TheVariants as order
use Rattle.fmp_setup.specs.Setup.{Setup, no_semaphore, no_eventflag, no_data_queue, no_pool}
use Rattle.fmp_rules.specs.Effects.{Effect}
use Rattle.fmp_rules.specs.declared.machine.TaskRecord.{TaskRecord}
use Rattle.fmp_rules.specs.declared.machine.Wait.{Wait}
use Rattle.fmp_rules.specs.declared.machine.Wait.TheVariants as wait
use Rattle.fmp_rules.specs.declared.machine.QueueKind.{QueueKind}
use Rattle.fmp_rules.specs.declared.machine.QueueKind.TheVariants as kind
use Rattle.fmp_rules.specs.World.{no_task, item, with_item, task, runner_of}
use Rattle.fmp_rules.specs.Ordering.{order_in, order_of, rejoin, put_last}
use Rattle.fmp_rules.specs.Arrivals.{Arrivals, State, numbered}
use Rattle.fmp_rules.specs.Arguments.{caller, task_or_caller, priority_or}
use Rattle.fmp_rules.specs.Rows.{called, plain, refused, done}
use Rattle.fmp_rules.specs.Tasks.{make_ready, change_priority}
use Rattle.fmp_rules.specs.TaskCalls.{chg_pri}
use Rattle.fmp_rules.specs.Tick.{tick, ticked, counted_down, released, tasks_expired, with_handlers_due, alarms_due, expired}
use Rattle.fmp_rules.specs.Step.{row_of, step}
use Rattle.fmp_law_safety.specs.Safe.{Safe}
use Rattle.fmp_law_safety.proofs.Calls.{from_task}
use Rattle.fmp_law_safety.proofs.Items.{item_same, item_other}
use Rattle.fmp_law_safety.proofs.KeepsDue.{alarms_keep, cyclics_keep, released_keep}
use Rattle.fmp_law_safety.proofs.Listed.{not_past}
use Rattle.fmp_law_balance.specs.Accepted.{is_accepted}
use Rattle.fmp_law_balance.specs.Queues.{is_task, is_call_of}
use Rattle.fmp_law_balance.proofs.Called.{by_called, not_accepted}
use Rattle.fmp_law_balance.proofs.Steps.{report}
use Rattle.fmp_law_balance.specs.Waits.Asked.{OpenWait, asked_by}
use Rattle.fmp_law_balance.specs.Waits.Waits.{OpenWaits, begins, is_waiting, ends, lasts, after_record, setup_of}
use Rattle.fmp_law_balance.proofs.waits.Events.{by_event}
use Rattle.fmp_law_balance.proofs.waits.Follows.{Sound, running_within, running_waits_not}
use Rattle.fmp_law_balance.proofs.waits.Named.{caller_runs}
use Rattle.fmp_law_balance.proofs.waits.Words.{IsKept}
use Rattle.fmp_law_records.proofs.counts.Tasks.{named_or_caller_is}
use Rattle.fmp_law_records.specs.Counts.Naming.{names_task}
use Rattle.fmp_law_records.specs.Priorities.{given_by, gives_priority}
use Rattle.fmp_law_records.specs.Served.{is_priority, is_by_priority, Places, is_placed_anew, takes_place, places_after}
use Rattle.fmp_law_records.proofs.Joins.{Quiet, quiet_all, quiet_then, quiet_ready, placed, Stands, Joins, is_of_priority, call_did}

-- how a queue is configured
abbrev pub ordered_as : Setup → QueueKind → Object → Order
ordered_as c kind.Semaphore o = (item no_semaphore c.semaphores o.number).order
ordered_as c kind.Eventflag o = (item no_eventflag c.eventflags o.number).order
ordered_as c kind.Send o = (item no_data_queue c.data_queues o.number).order
ordered_as c kind.Receive o = order.First
ordered_as c kind.Pool o = (item no_pool c.pools o.number).order

-- waiting tasks have their numbers in the order of their places, and queues are ordered as configured
pub record ArePlaced (c : Setup) (x : Places) (m : State) : Type 0 where
  pub since : (t : Task) → x.since t ≤ x.count
  pub begun : (t : Task) → is_some (x.waits t) ≡ true → item 0 m.order.begun t.number < m.order.next
  pub same : (t u : Task) → is_some (x.waits t) ≡ true → is_some (x.waits u) ≡ true → nat_lt (x.since t) (x.since u) ≡ nat_lt (item 0 m.order.begun t.number) (item 0 m.order.begun u.number)
  pub count : length m.order.begun ≡ length m.tasks
  pub orders : (k : QueueKind) (o : Object) → order_in m k o ≡ ordered_as c k o

-- who takes a place with a record and waits then has the next number, and all others who wait have theirs
pub record Takes (c : Setup) (x : Places) (m v : State) (r : Record) : Type 0 where
  pub begun : (t : Task) → is_some (after_record c x.waits r t) ≡ true → item 0 v.order.begun t.number ≡ (if takes_place c x r t then m.order.next else item 0 m.order.begun t.number)
  pub next : m.order.next ≤ v.order.next
  pub later : (t : Task) → is_some (after_record c x.waits r t) ≡ true → takes_place c x r t ≡ true → m.order.next < v.order.next
  pub count : length v.order.begun ≡ length m.order.begun
  pub orders : (k : QueueKind) (o : Object) → order_in v k o ≡ order_in m k o

-- Who takes no place.

not_anew : (c : Setup) (o : Option OpenWait) → is_placed_anew c o None ≡ false
not_anew c None = refl
not_anew c (Some o) = refl

not_given : (initial : Pri) (t : Task) (r : Option Runner) (p : Proc) (a : Call) → is_of_priority a ≡ false → gives_priority initial t r (event.Call p a) ≡ None
not_given initial t r p (call.Task (tasks.ChgPri id n)) h = absurd (false≢true (sym h))
not_given initial t r p (call.Task a) h = refl
not_given initial t r p a h = refl

-- a task that waits after a record waited before, or its wait begins
waited : (c : Setup) (pending : OpenWaits) (r : Record) (t : Task) → is_some (after_record c pending r t) ≡ true → (is_some (pending t) ≡ false → is_some (begins t r) ≡ true) × (is_some (begins t r) ≡ false → is_some (pending t) ≡ true)
waited c pending r t = go (ends t r) (begins t r) (pending t)
  where
    go : (b : Bool) (o q : Option OpenWait) → is_some (if b then None else option_or o (option_map (lasts c t r) q)) ≡ true → (is_some q ≡ false → is_some o ≡ true) × (is_some o ≡ false → is_some q ≡ true)
    go true o q h = absurd (false≢true h)
    go false (Some o) q h = (λ _. refl, λ e. absurd (false≢true (sym e)))
    go false None (Some q) h = (λ e. absurd (false≢true (sym e)), λ _. refl)
    go false None None h = absurd (false≢true h)

no_wait_reported : (o : Option Wait) (q : Option OpenWait) → o ≡ option_map (λ y. y.wait) q → o ≡ None → is_some q ≡ false
no_wait_reported o None is none = refl
no_wait_reported o (Some y) is none = absurd (false≢true (ap is_some (sym none ∙ is)))

module _ (c : Setup) (m : State) (x : Places) (placed_before : ArePlaced c x m) (s : Safe numbered m) (sound : Sound c m) (waits : (t : Task) → IsKept c m t (x.waits t)) where
  abbrev pub TakesIn : State → Record → Type 0
  TakesIn v r = Takes c x m v r

  -- nobody takes a place
  none_takes : (v : State) (r : Record) → Quiet m v → ((t : Task) → takes_place c x r t ≡ false) → TakesIn v r
  none_takes v r q none = record {
    begun = λ t _. ap (λ ns. item 0 ns t.number) q.begun ∙ sym (cond-false (takes_place c x r t) m.order.next (item 0 m.order.begun t.number) (none t));
    next = q.next;
    later = λ t _ takes. absurd (both_ways _ (none t) takes);
    count = ap length q.begun;
    orders = q.orders;
  }

  -- no wait begins, and no priority is given
  stands_takes : (p : Proc) (a : Call) → is_of_priority a ≡ false → (did : State × Effect) → Stands m (event.Call p a) did → TakesIn did.0 (report (event.Call p a) (runner_of m p) did.1)
  stands_takes p a other did h =
      let r : Record = report (event.Call p a) (runner_of m p) did.1 in
      none_takes did.0 r h.quiet
      (λ t.
      let given : Option Pri = gives_priority (setup_of c t).priority t r.runner r.event in
      let begun : is_some (begins t r) ≡ false = ap (λ b. is_some (if b && is_call_of t r.runner r.event then asked_by r.event else None)) h.answer in
      let anew : is_placed_anew c (x.waits t) given ≡ false = ap (is_placed_anew c (x.waits t)) (not_given (setup_of c t).priority t (runner_of m p) p a other) ∙ not_anew c (x.waits t) in
      ap (λ b. b || (is_accepted r.answer && is_placed_anew c (x.waits t) given)) begun ∙ and_right (is_accepted r.answer) (is_placed_anew c (x.waits t) given) anew)

  -- the caller waits
  joins_takes : (p : Proc) (a : Call) (did : State × Effect) → Joins m p did → TakesIn did.0 (report (event.Call p a) (runner_of m p) did.1)
  joins_takes p a did h =
      let r : Record = report (event.Call p a) (runner_of m p) did.1 in
      let u : Task = caller m p in
      let runs : runner_of m p ≡ Some (runner.Task u) = caller_runs m p h.from in
      let within : u.number ≤ length m.order.begun = rw placed_before.count (running_within numbered m p s u h.from.running) in
      let none : is_some (x.waits u) ≡ false = no_wait_reported (task m u).wait (x.waits u) (waits u).0.wait (running_waits_not numbered m p s u h.from.running) in
      let begun_at : (t : Task) → is_some (after_record c x.waits r t) ≡ true → item 0 did.0.order.begun t.number ≡ (if takes_place c x r t then m.order.next else item 0 m.order.begun t.number) =
      λ t after.
      ⊎_elim
      (λ (i : u.number ≡ t.number).
      subst (λ (y : Task). is_some (after_record c x.waits r y) ≡ true → item 0 did.0.order.begun y.number ≡ (if takes_place c x r y then m.order.next else item 0 m.order.begun y.number)) (tasks_same u t i)
      (λ w.
      ap (λ ns. item 0 ns u.number) h.begun ∙ item_same 0 m.order.begun u.number m.order.next u.least within
      ∙ sym (cond-true (takes_place c x r u) m.order.next (item 0 m.order.begun u.number) (or_left _ _ ((waited c x.waits r u w).0 none)))) after)
      (λ (d : u.number ≡ t.number → ⊥).
      let not_his : is_call_of t r.runner r.event ≡ false = ap (is_task t) runs ∙ ne_eqb t.number u.number (λ e. d (sym e)) in
      let no_begin : is_some (begins t r) ≡ false = ap (λ b. is_some (if b then asked_by r.event else None)) (and_right (is_waiting r.answer) (is_call_of t r.runner r.event) not_his) in
      let not_done : is_accepted r.answer ≡ false = ap is_accepted h.answer in
      let takes_none : takes_place c x r t ≡ false =
      ap (λ b. b || (is_accepted r.answer && is_placed_anew c (x.waits t) (gives_priority (setup_of c t).priority t r.runner r.event))) no_begin
      ∙ ap (λ b. b && is_placed_anew c (x.waits t) (gives_priority (setup_of c t).priority t r.runner r.event)) not_done in
      ap (λ ns. item 0 ns t.number) h.begun ∙ item_other 0 m.order.begun u.number m.order.next t.number t.least u.least (λ e. d (sym e))
      ∙ sym (cond-false (takes_place c x r t) m.order.next (item 0 m.order.begun t.number) takes_none))
      (cases_eq u.number t.number) in
      let next = h.next in
      record { begun = begun_at; next = omega (arith, next); later = λ t _ _. omega (arith, next); count = ap length h.begun ∙ length-set m.order.begun (u.number - 1) m.order.next; orders = h.orders }

  -- A priority is given.

  -- the order of the queue of a wait
  order_is : (y : Wait) → is_priority (order_of m y) ≡ is_by_priority c y
  order_is (wait.Semaphore o) = ap is_priority (placed_before.orders kind.Semaphore o)
  order_is (wait.Eventflag o pattern mode) = ap is_priority (placed_before.orders kind.Eventflag o)
  order_is (wait.Send o value) = ap is_priority (placed_before.orders kind.Send o)
  order_is (wait.Pool o) = ap is_priority (placed_before.orders kind.Pool o)
  order_is y = refl

  abbrev joins_anew : Option Wait → Bool
  joins_anew None = false
  joins_anew (Some y) = is_priority (order_of m y)

  -- a task is placed anew where it waits in a queue by priority
  record Anew (b : Bool) (u : Task) (q : Arrivals) : Type 0 where
    pub begun : q.begun ≡ (if b then with_item m.order.begun u.number m.order.next else m.order.begun)
    pub next : m.order.next ≤ q.next
    pub later : b ≡ true → m.order.next < q.next

  rejoins : (o : Order) (u : Task) (r : TaskRecord) (left : Option ℕ) → Anew (is_priority o) u (rejoin numbered m.order o r left u)
  unfolding numbered
  rejoins order.First u r left = record { begun = refl; next = omega arith; later = λ e. absurd (false≢true e) }
  rejoins order.Priority u r left = record { begun = refl; next = omega arith; later = λ e. omega arith }

  goes_after : (o : Option Wait) (u : Task) (r : TaskRecord) → Anew (joins_anew o) u (put_last numbered m u r o)
  goes_after None u r = let h = placed m.order (task m u) r u in record { begun = h.0; next = h.1; later = λ e. absurd (false≢true e) }
  goes_after (Some y) u r = rejoins (order_of m y) u r (item None m.waits_left u.number)

  anew_reported : (o : Option Wait) (q : Option OpenWait) (given : Pri) → o ≡ option_map (λ y. y.wait) q → joins_anew o ≡ is_placed_anew c q (Some given)
  anew_reported o None given is = ap joins_anew is
  anew_reported o (Some y) given is = ap joins_anew is ∙ order_is y.wait

  anew_waits : (o : Option Wait) → joins_anew o ≡ true → is_some o ≡ true
  anew_waits None e = e
  anew_waits (Some y) e = refl

  priority_takes : (p : Proc) (id n : ℤ) (few : length m.tasks ≤ 64) →
      TakesIn (called m p (chg_pri numbered m (task_or_caller m p id) n)).0 (report (event.Call p (call.Task (tasks.ChgPri id n))) (runner_of m p) (called m p (chg_pri numbered m (task_or_caller m p id) n)).1)
  unfolding chg_pri
  priority_takes p id n few =
      let e : Event = event.Call p (call.Task (tasks.ChgPri id n)) in
      by_called m p (λ did. TakesIn did.0 (report e (runner_of m p) did.1)) (chg_pri numbered m (task_or_caller m p id) n) (refl, tt)
      (λ y refuses_.
      none_takes m (report e (runner_of m p) (refused y)) (quiet_all m)
      (λ t. ap (λ b. b && is_placed_anew c (x.waits t) (gives_priority (setup_of c t).priority t (runner_of m p) e)) (not_accepted y refuses_)))
      (λ a.
      let u : Task = unwrap_or (task_or_caller m p id) (as_task 1) in
      let r : Record = report e (runner_of m p) done in
      let after : TaskRecord = record (task m u) { priority = priority_or (task m u).setup.priority n } in
      let v : State = change_priority numbered m u (priority_or (task m u).setup.priority n) in
      let b : Bool = joins_anew (task m u).wait in
      let h : Anew b u v.order = goes_after (task m u).wait u after in
      let names : (t : Task) → names_task t (runner_of m p) id ≡ (u.number == t.number) = λ t. named_or_caller_is m p t id few (from_task m p false false a.rule) a.known in
      let within : b ≡ true → u.number ≤ length m.order.begun = λ yes_. rw placed_before.count (not_past (λ (z : TaskRecord). is_some z.wait) no_task m.tasks u.number u.least refl (anew_waits (task m u).wait yes_)) in
      let mine : takes_place c x r u ≡ b =
      ap (λ (k : Bool). is_placed_anew c (x.waits u) (if k then Some (given_by (setup_of c u).priority n) else None)) (names u ∙ eq-eqb u.number u.number refl)
      ∙ sym (anew_reported (task m u).wait (x.waits u) (given_by (setup_of c u).priority n) (waits u).0.wait) in
      let others : (t : Task) → (u.number ≡ t.number → ⊥) → takes_place c x r t ≡ false =
      λ t d. ap (λ (k : Bool). is_placed_anew c (x.waits t) (if k then Some (given_by (setup_of c t).priority n) else None)) (names t ∙ ne_eqb u.number t.number d) ∙ not_anew c (x.waits t) in
      let old : Task → ℕ = λ t. item 0 m.order.begun t.number in
      let put : List ℕ = with_item m.order.begun u.number m.order.next in
      record {
        begun = λ t _. ap (λ ns. item 0 ns t.number) h.begun
            ∙ ⊎_elim
            (λ (i : u.number ≡ t.number).
            subst (λ (y : Task). item 0 (if b then put else m.order.begun) y.number ≡ (if takes_place c x r y then m.order.next else old y)) (tasks_same u t i)
            (cond_both b put m.order.begun (λ (ns : List ℕ). item 0 ns u.number ≡ (if b then m.order.next else old u))
            (λ yes_. item_same 0 m.order.begun u.number m.order.next u.least (within yes_) ∙ sym (cond-true b m.order.next (old u) yes_)) (λ no_. sym (cond-false b m.order.next (old u) no_))
            ∙ ap (λ (k : Bool). if k then m.order.next else old u) (sym mine)))
            (λ (d : u.number ≡ t.number → ⊥).
            cond_both b put m.order.begun (λ (ns : List ℕ). item 0 ns t.number ≡ old t) (λ _. item_other 0 m.order.begun u.number m.order.next t.number t.least u.least (λ f. d (sym f))) (λ _. refl)
            ∙ sym (cond-false (takes_place c x r t) m.order.next (old t) (others t d)))
            (cases_eq u.number t.number);
        next = h.next;
        later = λ t _ takes.
            h.later (⊎_elim (λ (i : u.number ≡ t.number). sym mine ∙ subst (λ (y : Task). takes_place c x r y ≡ true) (sym (tasks_same u t i)) takes) (λ (d : u.number ≡ t.number → ⊥). absurd (both_ways _ (others t d) takes)) (cases_eq u.number t.number));
        count = ap length h.begun ∙ cond_both b put m.order.begun (λ (ns : List ℕ). length ns ≡ length m.order.begun) (λ _. length-set m.order.begun (u.number - 1) m.order.next) (λ _. refl);
        orders = λ k o. refl;
      })

  by_kind : (p : Proc) (a : Call) → is_of_priority a ≡ false → TakesIn (called m p (row_of numbered m p a)).0 (report (event.Call p a) (runner_of m p) (called m p (row_of numbered m p a)).1)
  by_kind p a other = ⊎_elim (λ h. stands_takes p a other (called m p (row_of numbered m p a)) h) (λ h. joins_takes p a (called m p (row_of numbered m p a)) h) (call_did m p sound.few_tasks a other)

  call_takes : (p : Proc) (a : Call) → TakesIn (called m p (row_of numbered m p a)).0 (report (event.Call p a) (runner_of m p) (called m p (row_of numbered m p a)).1)
  call_takes p (call.Task (tasks.ChgPri id n)) = priority_takes p id n sound.few_tasks
  call_takes p (call.Task a) = by_kind p (call.Task a) refl
  call_takes p a = by_kind p a refl

  tick_quiet : (p : Proc) → Quiet m (tick numbered m p).0
  unfolding counted_down ticked with_handlers_due
  tick_quiet p =
      let v : State = counted_down m p in
      let ts : List Task = tasks_expired v.waits_left (numbered.timed v.order v.waits_left) in
      let u : State = (released numbered v ts).0 in
      let S : State → Type 0 = Quiet m in
      cyclics_keep p S (λ y o h. record { begun = h.begun; next = h.next; orders = h.orders }) (alarms_due u p (expired u.alarms_left u.alarms)) (expired u.cyclics_left u.cyclics)
      (alarms_keep p S (λ y o h. record { begun = h.begun; next = h.next; orders = h.orders }) u (expired u.alarms_left u.alarms)
      (released_keep p S numbered (λ y t h. quiet_then m y (make_ready numbered y t) h (quiet_ready y t)) v ts (record { begun = refl; next = omega arith; orders = λ k o. refl })))

  tick_takes : (p : Proc) → TakesIn (tick numbered m p).0 (report (event.Tick p) (runner_of m p) (tick numbered m p).1)
  unfolding ticked
  tick_takes p = none_takes (tick numbered m p).0 (report (event.Tick p) (runner_of m p) (tick numbered m p).1) (tick_quiet p) (λ t. refl)

  interrupt_takes : (p : Proc) (a : Answer) → is_accepted a ≡ false → TakesIn m (report (event.Ipi p) (runner_of m p) (plain a))
  interrupt_takes p a none =
      none_takes m (report (event.Ipi p) (runner_of m p) (plain a)) (quiet_all m)
      (λ t.
      cond_both (is_waiting a && false) None None (λ (o : Option OpenWait). (is_some o || (is_accepted a && is_placed_anew c (x.waits t) None)) ≡ false) (λ _. ap (λ b. b && is_placed_anew c (x.waits t) None) none) (λ _. ap (λ b. b && is_placed_anew c (x.waits t) None) none))

  takes_step : (e : Event) → TakesIn (step numbered m e).0 (step numbered m e).1
  takes_step e =
      by_event numbered m TakesIn (λ v cs r y ps h. record { begun = h.begun; next = h.next; later = h.later; count = h.count; orders = h.orders }) call_takes
      (λ p a. none_takes m (report (event.Call p a) (runner_of m p) (plain answer.Idle)) (quiet_all m) (λ t. refl)) tick_takes
      (λ p. none_takes m (report (event.Tick p) (runner_of m p) (plain answer.Held)) (quiet_all m) (λ t. refl)) (λ p. none_takes m (report (event.Tick p) (runner_of m p) (plain answer.Nothing)) (quiet_all m) (λ t. refl))
      interrupt_takes e

  -- So the places stay those that the records say.

  compare : (b d : Bool) (count next st su bt bu : ℕ) → st ≤ count → su ≤ count → (b ≡ false → bt < next) → (d ≡ false → bu < next) → (b ≡ false → d ≡ false → nat_lt st su ≡ nat_lt bt bu) →
      nat_lt (if b then count + 1 else st) (if d then count + 1 else su) ≡ nat_lt (if b then next else bt) (if d then next else bu)
  compare true true count next st su bt bu s1 s2 b1 b2 same = le-ltb (count + 1) (count + 1) (omega arith) ∙ sym (le-ltb next next (omega arith))
  compare true false count next st su bt bu s1 s2 b1 b2 same = let below = b2 refl in le-ltb (count + 1) su (omega (arith, s2)) ∙ sym (le-ltb next bu (omega (arith, below)))
  compare false true count next st su bt bu s1 s2 b1 b2 same = let below = b1 refl in lt-ltb st (count + 1) (omega (arith, s1)) ∙ sym (lt-ltb bt next below)
  compare false false count next st su bt bu s1 s2 b1 b2 same = same refl refl

  pub placed_step : (e : Event) → length (step numbered m e).0.tasks ≡ length m.tasks → ArePlaced c (places_after c (step numbered m e).1 x) (step numbered m e).0
  placed_step e tasks_count =
      let v : State = (step numbered m e).0 in
      let r : Record = (step numbered m e).1 in
      let h : Takes c x m v r = takes_step e in
      let before_ : (t : Task) → is_some (after_record c x.waits r t) ≡ true → takes_place c x r t ≡ false → is_some (x.waits t) ≡ true =
      λ t after takes. (waited c x.waits r t after).1 (or_none (is_some (begins t r)) _ takes) in
      let below : (t : Task) → is_some (after_record c x.waits r t) ≡ true → takes_place c x r t ≡ false → item 0 m.order.begun t.number < m.order.next = λ t after takes. placed_before.begun t (before_ t after takes) in
      record {
        since = λ t. let old = placed_before.since t in
            cond_both (takes_place c x r t) (x.count + 1) (x.since t) (λ (n : ℕ). n ≤ x.count + 1) (λ _. omega arith) (λ _. omega (arith, old));
        begun = λ t after.
            rw (h.begun t after)
            (cond_both (takes_place c x r t) m.order.next (item 0 m.order.begun t.number) (λ (n : ℕ). n < v.order.next) (λ yes_. h.later t after yes_)
            (λ no_. let l = below t after no_ in let n = h.next in omega (arith, l, n)));
        same = λ t u wt wu.
            compare (takes_place c x r t) (takes_place c x r u) x.count m.order.next (x.since t) (x.since u) (item 0 m.order.begun t.number) (item 0 m.order.begun u.number) (placed_before.since t) (placed_before.since u)
            (below t wt) (below u wu) (λ no_t no_u. placed_before.same t u (before_ t wt no_t) (before_ u wu no_u))
            ∙ sym (ap (λ n. nat_lt n (item 0 v.order.begun u.number)) (h.begun t wt) ∙ ap (nat_lt (if takes_place c x r t then m.order.next else item 0 m.order.begun t.number)) (h.begun u wu));
        count = h.count ∙ placed_before.count ∙ sym tasks_count;
        orders = λ k o. h.orders k o ∙ placed_before.orders k o;
      }
    where
      or_none : (a b : Bool) → (a || b) ≡ false → a ≡ false
      or_none false b e = refl
      or_none true b e = e
