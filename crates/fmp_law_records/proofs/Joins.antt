-- What each call does to the numbers by which queues are ordered, and whom it releases: a task that begins to wait comes last, and
-- one that is released comes first in a queue, or stands in none, or waits for bits.
use Rattle.std.proofs.Common.{◌≡◌, ℕ, ◌+◌, ◌≤◌, ◌⊎◌, inl, inr, ◌==◌, ℤ, Bool, true, false, List, [], ◌∷◌, length, arith, refl, sym, ap, ◌∙◌, subst, Option, Some, None}
use Rattle.std.specs.Prelude.{All, if◌then◌else◌, is_some, unwrap_or, nat_lt, slice_index_or}
use Rattle.std.proofs.lemmas.Bool.{cond_both, false≢true, eq-eqb}
use Rattle.std.proofs.lemmas.List.Elements.{All-nil, All-cons, All-head, All-tail}
use Rattle.fmp_codes.specs.Numbers.{as_task, as_object}
use Rattle.fmp_codes.specs.declared.numbers.Proc.{Proc}
use Rattle.fmp_codes.specs.declared.numbers.Task.{Task}
use Rattle.fmp_codes.specs.declared.numbers.Object.{Object}
use Rattle.fmp_codes.specs.declared.calls.Call.{Call}
use Rattle.fmp_codes.specs.declared.calls.Call.TheVariants as call
use Rattle.fmp_codes.specs.declared.calls.TaskCall.{TaskCall}
use Rattle.fmp_codes.specs.declared.calls.TaskCall.TheVariants as tasks
use Rattle.fmp_codes.specs.declared.calls.SyncCall.{SyncCall}
use Rattle.fmp_codes.specs.declared.calls.SyncCall.TheVariants as sync
use Rattle.fmp_codes.specs.declared.calls.BufferCall.{BufferCall}
use Rattle.fmp_codes.specs.declared.calls.BufferCall.TheVariants as buffer
use Rattle.fmp_codes.specs.declared.calls.TimeCall.{TimeCall}
use Rattle.fmp_codes.specs.declared.calls.TimeCall.TheVariants as time
use Rattle.fmp_codes.specs.declared.calls.SystemCall.{SystemCall}
use Rattle.fmp_codes.specs.declared.calls.SystemCall.TheVariants as system
use Rattle.fmp_codes.specs.declared.calls.SpinCall.{SpinCall}
use Rattle.fmp_codes.specs.declared.calls.SpinCall.TheVariants as spin
use Rattle.fmp_codes.specs.declared.codes.Code.{Code}
use Rattle.fmp_codes.specs.declared.codes.Code.TheVariants as code
use Rattle.fmp_codes.specs.declared.records.Answer.TheVariants as answer
use Rattle.fmp_codes.specs.declared.records.Event.{Event}
use Rattle.fmp_codes.specs.declared.records.Event.TheVariants as event
use Rattle.fmp_codes.specs.declared.records.Release.{Release}
use Rattle.fmp_rules.specs.Effects.{Effect}
use Rattle.fmp_rules.specs.declared.machine.Semaphore.{Semaphore}
use Rattle.fmp_rules.specs.declared.machine.Eventflag.{Eventflag}
use Rattle.fmp_rules.specs.declared.machine.Pool.{Pool}
use Rattle.fmp_rules.specs.declared.machine.TaskRecord.{TaskRecord}
use Rattle.fmp_rules.specs.declared.machine.Wait.{Wait}
use Rattle.fmp_rules.specs.declared.machine.Wait.TheVariants as wait
use Rattle.fmp_rules.specs.declared.machine.QueueKind.{QueueKind}
use Rattle.fmp_rules.specs.declared.machine.QueueKind.TheVariants as kind
use Rattle.fmp_rules.specs.World.{item, with_item, task, first}
use Rattle.fmp_rules.specs.Objects.{blank_semaphore, blank_eventflag, blank_pool, semaphore, eventflag, holds, free_block, holder}
use Rattle.fmp_rules.specs.Ordering.{waits_in, order_in, queue, depart, arrive, place, end_wait, begin_wait}
use Rattle.fmp_rules.specs.Arrivals.{Arrivals, State, numbered}
use Rattle.fmp_rules.specs.Arguments.{caller, object_named, forever, is_zero, task_named, ticks_of}
use Rattle.fmp_rules.specs.Processors.{opened}
use Rattle.fmp_rules.specs.Rows.{Row, called, refused, plain, done, done_or_wait, release, in_handler}
use Rattle.fmp_rules.specs.Tasks.{make_ready, activate, started, migrate, finish, ended, rotate}
use Rattle.fmp_rules.specs.TaskCalls.{is_sleep, act, mact, can_act, mig_tsk, ext_tsk, ter_tsk, tslp_tsk, wup, can_wup, rel_wai, sus_tsk, rsm_tsk, dly_tsk, task_row}
use Rattle.fmp_rules.specs.SyncCalls.{with_count, with_pattern, sig_sem, twai_sem, pol_sem, signal, counted, set_flg, clr_flg, twai_flg, pol_flg, is_met, cleared, served, accepted_with, answered, sync_row}
use Rattle.fmp_rules.specs.BufferCalls.{with_handed, tsnd_dtq, psnd_dtq, fsnd_dtq, trcv_dtq, prcv_dtq, tget_mpf, pget_mpf, rel_mpf, sent, can_send, forced, receiver, can_receive, received, sender, given, returned, block_of, buffer_row}
use Rattle.fmp_rules.specs.TimeCalls.{time_row}
use Rattle.fmp_rules.specs.SystemCalls.{system_row}
use Rattle.fmp_rules.specs.SpinCalls.{loc_spn, try_spn, unl_spn, spin_row, ret_hdr}
use Rattle.fmp_rules.specs.Step.{row_of}
use Rattle.fmp_law_safety.proofs.Calls.{FromTask, from_task}
use Rattle.fmp_law_safety.proofs.Items.{item_after}
use Rattle.fmp_law_safety.proofs.Listed.{numbered_lists}
use Rattle.fmp_law_safety.proofs.Queues.{IsAmong}
use Rattle.fmp_law_balance.proofs.Called.{refuses, by_called, either_way}
use Rattle.fmp_law_balance.specs.Waits.Waits.{is_waiting, is_number_of}
use Rattle.fmp_law_balance.specs.Waits.Releases.{breaks_off}
use Rattle.fmp_law_balance.proofs.waits.Named.{task_known}
use Rattle.fmp_law_records.proofs.Rows.{time_rows, system_rows}

-- from m to v no wait begins: the numbers stay, and the next one may be greater. The orders of all queues stay
pub record Quiet (m v : State) : Type 0 where
  pub begun : v.order.begun ≡ m.order.begun
  pub next : m.order.next ≤ v.order.next
  pub orders : (x : QueueKind) (o : Object) → order_in v x o ≡ order_in m x o

pub quiet_all : (m : State) → Quiet m m
quiet_all m = record { begun = refl; next = omega arith; orders = λ x o. refl }

pub quiet_then : (m u v : State) → Quiet m u → Quiet u v → Quiet m v
quiet_then m u v a b = let l = a.next in let n = b.next in record { begun = b.begun ∙ a.begun; next = omega (arith, l, n); orders = λ x o. b.orders x o ∙ a.orders x o }

-- Who leaves its ready queue or goes last in it begins no wait.

pub departs : (q : Arrivals) (r : TaskRecord) (t : Task) → depart numbered q r t ≡ q
unfolding numbered
departs q r t = cond_both _ q q (λ (x : Arrivals). x ≡ q) (λ _. refl) (λ _. refl)

arrives : (q : Arrivals) (r : TaskRecord) (t : Task) → ((arrive numbered q r t).begun ≡ q.begun) × (q.next ≤ (arrive numbered q r t).next)
unfolding numbered
arrives q r t = cond_both _ (numbered.put_last q r t) q (λ (x : Arrivals). (x.begun ≡ q.begun) × (q.next ≤ x.next)) (λ _. (refl, omega arith)) (λ _. (refl, omega arith))

pub placed : (q : Arrivals) (r s : TaskRecord) (t : Task) → ((arrive numbered (depart numbered q r t) s t).begun ≡ q.begun) × (q.next ≤ (arrive numbered (depart numbered q r t) s t).next)
placed q r s t = rw (departs q r t) (arrives q s t)

pub quiet_place : (m : State) (t : Task) (r : TaskRecord) → Quiet m (place numbered m t r)
quiet_place m t r = let h = placed m.order (task m t) r t in record { begun = h.0; next = h.1; orders = λ x o. refl }

quiet_end : (m : State) (t : Task) (r : TaskRecord) → Quiet m (end_wait numbered m t r)
unfolding numbered
quiet_end m t r = let h = placed m.order (task m t) r t in record { begun = h.0; next = h.1; orders = λ x o. refl }

pub quiet_ready : (m : State) (t : Task) → Quiet m (make_ready numbered m t)
quiet_ready m t = quiet_end m t (record (task m t) { wait = None })

-- Objects keep their setups.

kept : {X S : Type 0} (setup : X → S) (blank : X) (xs : List X) (n : ℕ) (y : X) → setup y ≡ setup (item blank xs n) → (i : ℕ) → setup (item blank (with_item xs n y) i) ≡ setup (item blank xs i)
kept setup blank xs n y same i = item_after blank xs n y (λ z. setup z ≡ setup (item blank xs i)) i (λ e. same ∙ ap (λ j. setup (slice_index_or xs j blank)) (sym e)) refl

count_orders : (m : State) (s : Object) (n : ℕ) (x : QueueKind) (o : Object) → order_in (with_count m s n) x o ≡ order_in m x o
count_orders m s n kind.Semaphore o = kept (λ (y : Semaphore). y.setup.order) blank_semaphore m.semaphores s.number (record (semaphore m s) { count = n }) refl o.number
count_orders m s n x o = refl

pattern_orders : (m : State) (f : Object) (n : ℕ) (x : QueueKind) (o : Object) → order_in (with_pattern m f n) x o ≡ order_in m x o
pattern_orders m f n kind.Eventflag o = kept (λ (y : Eventflag). y.setup.order) blank_eventflag m.eventflags f.number (record (eventflag m f) { pattern = n }) refl o.number
pattern_orders m f n x o = refl

handed_orders : (m : State) (a : Object) (b : ℕ) (h : Bool) (x : QueueKind) (o : Object) → order_in (with_handed m a b h) x o ≡ order_in m x o
handed_orders m a b h kind.Pool o = kept (λ (y : Pool). y.setup.order) blank_pool m.pools a.number _ refl o.number
handed_orders m a b h x o = refl

pub quiet_count : (m : State) (s : Object) (n : ℕ) → Quiet m (with_count m s n)
quiet_count m s n = record { begun = refl; next = omega arith; orders = count_orders m s n }

pub quiet_pattern : (m : State) (f : Object) (n : ℕ) → Quiet m (with_pattern m f n)
quiet_pattern m f n = record { begun = refl; next = omega arith; orders = pattern_orders m f n }

quiet_handed : (m : State) (a : Object) (b : ℕ) (h : Bool) → Quiet m (with_handed m a b h)
quiet_handed m a b h = record { begun = refl; next = omega arith; orders = handed_orders m a b h }

-- Whom a call releases.

-- the first of a queue; or one whose wait the event breaks off, who sleeps, or who waits for bits of an eventflag
pub record IsFirstSomewhere (m : State) (t : Task) : Type 0 where
  pub kind : QueueKind
  pub object : Object
  pub is : first (queue numbered m kind object) ≡ Some t

abbrev pub IsApart : State → Event → Task → Type 0
IsApart m e t = (breaks_off t e ≡ true) ⊎ ((is_sleep (task m t).wait ≡ true) ⊎ ((f : Object) × (waits_in kind.Eventflag f (task m t).wait ≡ true)))

abbrev pub MayRelease : State → Event → Release → Type 0
MayRelease m e x = IsFirstSomewhere m x.task ⊎ IsApart m e x.task

-- an event that did this begins no wait
pub record Stands (m : State) (e : Event) (did : State × Effect) : Type 0 where
  pub answer : is_waiting did.1.answer ≡ false
  pub quiet : Quiet m did.0
  pub released : All (MayRelease m e) did.1.releases

-- it makes its caller wait, who comes last
pub record Joins (m : State) (p : Proc) (did : State × Effect) : Type 0 where
  pub from : FromTask m p
  pub answer : did.1.answer ≡ answer.Wait
  pub releases : did.1.releases ≡ []
  pub begun : did.0.order.begun ≡ with_item m.order.begun (caller m p).number m.order.next
  pub next : did.0.order.next ≡ m.order.next + 1
  pub orders : (x : QueueKind) (o : Object) → order_in did.0 x o ≡ order_in m x o

-- the releases of the waiters of an eventflag are of these tasks
pub served_all : (P : Task → Type 0) (v : State) (f : Object) (x : ℕ) (us : List Task) → All P us → All (λ (r : Release). P r.task) (served numbered v f x us).1
served_all P v f x [] all = All-nil (λ (r : Release). P r.task)
served_all P v f x (u ∷ us) all =
    cond_both (is_met x (task v u).wait) _ _ (λ (did : State × List Release). All (λ (r : Release). P r.task) did.1)
    (λ _. All-cons (λ (r : Release). P r.task) _ _ (All-head P u us all) (served_all P (make_ready numbered v u) f (cleared v f x) us (All-tail P u us all)))
    (λ _. served_all P v f x us (All-tail P u us all))

served_quiet : (v : State) (f : Object) (x : ℕ) (us : List Task) → Quiet v (served numbered v f x us).0
served_quiet v f x [] = quiet_pattern v f x
served_quiet v f x (u ∷ us) =
    cond_both (is_met x (task v u).wait) _ _ (λ (did : State × List Release). Quiet v did.0)
    (λ _. quiet_then v (make_ready numbered v u) _ (quiet_ready v u) (served_quiet (make_ready numbered v u) f (cleared v f x) us)) (λ _. served_quiet v f x us)

-- all tasks of a list of which something holds of each one among them
pub all_among : (P : Task → Type 0) (us : List Task) → ((t : Task) → IsAmong t us → P t) → All P us
all_among P [] h = All-nil P
all_among P (u ∷ us) h = All-cons P u us (h u (inl refl)) (all_among P us (λ t i. h t (inr i)))

-- the call changes a priority
abbrev pub is_of_priority : Call → Bool
is_of_priority (call.Task (tasks.ChgPri id n)) = true
is_of_priority other = false

module _ (m : State) (p : Proc) where
  module _ (e : Event) where
    quietly : (v : State) (a : Effect) → is_waiting a.answer ≡ false → a.releases ≡ [] → Quiet m v → Stands m e (v, a)
    quietly v a no_wait none q = record { answer = no_wait; quiet = q; released = subst (All (MayRelease m e)) (sym none) (All-nil (MayRelease m e)) }

    pub refused_stands : (x : Code) → Stands m e (m, refused x)
    refused_stands x = quietly m (refused x) refl refl (quiet_all m)

    stays_same : (v : State) (a : Effect) → is_waiting a.answer ≡ false → a.releases ≡ [] → v.order ≡ m.order → ((x : QueueKind) (o : Object) → order_in v x o ≡ order_in m x o) → Stands m e (v, a)
    stays_same v a no_wait none same orders = quietly v a no_wait none (record { begun = ap (λ (q : Arrivals). q.begun) same; next = rw same (omega arith); orders = orders })

    one_released : (t : Task) (v : State) (a : Effect) (x : Code) (value : Option ℤ) → MayRelease m e (record { task = t; code = x; value = value }) → is_waiting a.answer ≡ false →
        a.releases ≡ record { task = t; code = x; value = value } ∷ [] → Quiet m v → Stands m e (v, a)
    one_released t v a x value may no_wait is q = record { answer = no_wait; quiet = q; released = subst (All (MayRelease m e)) (sym is) (All-cons (MayRelease m e) _ [] may (All-nil (MayRelease m e))) }

    releases : (t : Task) (x : Code) (value : Option ℤ) → MayRelease m e (record { task = t; code = x; value = value }) → Stands m e (release numbered m t x value)
    releases t x value may = one_released t (make_ready numbered m t) _ x value may refl refl (quiet_ready m t)

    in_signal : (s : Object) (u : Option Task) → first (queue numbered m kind.Semaphore s) ≡ u → Stands m e (signal numbered m s u)
    in_signal s None is = quietly _ done refl refl (quiet_count m s _)
    in_signal s (Some u) is = releases u code.Accepted None (inl (record { kind = kind.Semaphore; object = s; is = is }))

    in_served : (f : Object) (x : ℕ) → Stands m e (accepted_with (served numbered m f x (queue numbered m kind.Eventflag f)))
    in_served f x = record {
      answer = refl;
      quiet = served_quiet m f x (queue numbered m kind.Eventflag f);
      released = λ i d h.
          inr (inr (inr (
            f,
            served_all (λ t. waits_in kind.Eventflag f (task m t).wait ≡ true) m f x (queue numbered m kind.Eventflag f)
                (all_among (λ t. waits_in kind.Eventflag f (task m t).wait ≡ true) (queue numbered m kind.Eventflag f) ((numbered_lists m).only_waiting kind.Eventflag f)) i d h,
          )));
    }

    in_sent : (d : Object) (x : ℤ) (u : Option Task) → receiver numbered m d ≡ u → Stands m e (sent numbered m d x u)
    in_sent d x None is = stays_same _ done refl refl refl (λ y o. refl)
    in_sent d x (Some u) is = releases u code.Accepted (Some x) (inl (record { kind = kind.Receive; object = d; is = is }))

    in_forced : (d : Object) (x : ℤ) → Stands m e (if can_send numbered m d then sent numbered m d x (receiver numbered m d) else forced m d x)
    in_forced d x = cond_both (can_send numbered m d) _ _ (Stands m e) (λ _. in_sent d x (receiver numbered m d) refl) (λ _. stays_same _ _ refl refl refl (λ y o. refl))

    in_received : (d : Object) (u : Option Task) → sender numbered m d ≡ u → Stands m e (received numbered m d u)
    in_received d None is = stays_same _ _ refl refl refl (λ y o. refl)
    in_received d (Some u) is =
        let q = quiet_ready m u in
        one_released u _ _ code.Accepted None (inl (record { kind = kind.Send; object = d; is = is })) refl refl (record { begun = q.begun; next = q.next; orders = λ x o. refl })

    in_returned : (a : Object) (b : ℕ) (u : Option Task) → first (queue numbered m kind.Pool a) ≡ u → Stands m e (returned numbered m a b u)
    in_returned a b None is = quietly _ done refl refl (quiet_handed m a b false)
    in_returned a b (Some u) is = releases u code.Accepted _ (inl (record { kind = kind.Pool; object = a; is = is }))

    in_rotate : (u : Option Task) → Stands m e (rotate numbered m u, done)
    in_rotate None = quietly m done refl refl (quiet_all m)
    in_rotate (Some u) = quietly _ done refl refl (quiet_place m u (task m u))

    in_activate : (u : Task) (to : Proc) (k : Option Proc) → Stands m e (activate numbered m u to k, done)
    in_activate u to k =
        cond_both (task m u).active _ _ (λ (v : State). Stands m e (v, done)) (λ _. stays_same _ done refl refl refl (λ x o. refl)) (λ _. quietly _ done refl refl (quiet_place m u (started (task m u) to)))

    in_migrate : (u : Task) (to : Proc) → Stands m e (migrate numbered m u to, done)
    in_migrate u to =
        cond_both ((task m u).assigned.number == to.number) _ _ (λ (v : State). Stands m e (v, done)) (λ _. quietly m done refl refl (quiet_all m))
        (λ _. quietly _ done refl refl (quiet_place m u (record (task m u) { assigned = to })))

    in_wup : (o : Option Task) → Stands m e (wup numbered m o).effect
    unfolding wup
    in_wup o =
        let u : Task = unwrap_or o (as_task 1) in
        cond_both (is_sleep (task m u).wait) _ _ (Stands m e) (λ asleep. releases u code.Accepted None (inr (inr (inl asleep)))) (λ _. stays_same _ done refl refl refl (λ x y. refl))

    -- the caller waits, or else this is done
    abbrev Did : State × Effect → Type 0
    Did did = Stands m e did ⊎ Joins m p did

    joins : FromTask m p → (x : Wait) (left : Option ℕ) → Joins m p (begin_wait numbered m (caller m p) x left, plain answer.Wait)
    unfolding numbered
    joins from x left =
        let q : Arrivals = depart numbered m.order (task m (caller m p)) (caller m p) in
        let same : q ≡ m.order = departs m.order (task m (caller m p)) (caller m p) in
        record {
          from = from;
          answer = refl;
          releases = refl;
          begun = ap (λ (a : Arrivals). with_item a.begun (caller m p).number a.next) same;
          next = ap (λ (a : Arrivals). a.next + 1) same;
          orders = λ y o. refl;
        }

    done_or_joins : FromTask m p → (can : Bool) (effect : State × Effect) (x : Wait) (timeout : ℤ) → Stands m e effect → Did (done_or_wait numbered m p can effect x timeout)
    done_or_joins from can effect x timeout at_once =
        cond_both can _ _ Did (λ _. inl at_once) (λ _. cond_both (is_zero timeout) _ _ Did (λ _. inl (refused_stands code.TimedOut)) (λ _. inr (joins from x (ticks_of timeout))))

    stands : (row : Row Arrivals) → Stands m e row.effect → Did (called m p row)
    stands row accepted = inl (either_way m p (Stands m e) row refused_stands accepted)

    refused_did : (x : Code) → refuses x ≡ true → Did (m, refused x)
    refused_did x r = inl (refused_stands x)

    abbrev semaphore_of : ℤ → Object
    semaphore_of id = unwrap_or (object_named m.semaphores id) (as_object 1)

    abbrev flag_of : ℤ → Object
    flag_of id = unwrap_or (object_named m.eventflags id) (as_object 1)

    abbrev queue_of : ℤ → Object
    queue_of id = unwrap_or (object_named m.data_queues id) (as_object 1)

    abbrev pool_of : ℤ → Object
    pool_of id = unwrap_or (object_named m.pools id) (as_object 1)

    waits_for_unit : (id timeout : ℤ) → Did (called m p (twai_sem numbered m p id timeout))
    unfolding twai_sem
    waits_for_unit id timeout =
        by_called m p Did (twai_sem numbered m p id timeout) tt refused_did
        (λ a. done_or_joins (from_task m p false true a.rule) (nat_lt 0 (semaphore m (semaphore_of id)).count) (counted m (semaphore_of id)) (wait.Semaphore (semaphore_of id)) timeout (quietly _ done refl refl (quiet_count m (semaphore_of id) _)))

    waits_for_bits : (id : ℤ) (x : ℕ) (how : _) (timeout : ℤ) → Did (called m p (twai_flg numbered m p id x how timeout))
    unfolding twai_flg
    waits_for_bits id x how timeout =
        by_called m p Did (twai_flg numbered m p id x how timeout) (refl, tt) refused_did
        (λ a. done_or_joins (from_task m p false true a.rule) (holds (eventflag m (flag_of id)).pattern x how) (answered m (flag_of id)) (wait.Eventflag (flag_of id) x how) timeout (quietly _ _ refl refl (quiet_pattern m (flag_of id) _)))

    sync_did : (c : SyncCall) → Did (called m p (sync_row numbered m p c))
    unfolding sig_sem pol_sem set_flg clr_flg pol_flg
    sync_did (sync.SigSem id) = stands (sig_sem numbered m id) (in_signal (semaphore_of id) _ refl)
    sync_did (sync.IsigSem id) = stands (in_handler (sig_sem numbered m id)) (in_signal (semaphore_of id) _ refl)
    sync_did (sync.WaiSem id) = waits_for_unit id forever
    sync_did (sync.TwaiSem id timeout) = waits_for_unit id timeout
    sync_did (sync.PolSem id) = stands (pol_sem m id) (quietly _ done refl refl (quiet_count m (semaphore_of id) _))
    sync_did (sync.SetFlg id x) = stands (set_flg numbered m id x) (in_served (flag_of id) _)
    sync_did (sync.IsetFlg id x) = stands (in_handler (set_flg numbered m id x)) (in_served (flag_of id) _)
    sync_did (sync.ClrFlg id x) = stands (clr_flg m id x) (quietly _ done refl refl (quiet_pattern m (flag_of id) _))
    sync_did (sync.WaiFlg id x how) = waits_for_bits id x how forever
    sync_did (sync.TwaiFlg id x how timeout) = waits_for_bits id x how timeout
    sync_did (sync.PolFlg id x how) = stands (pol_flg numbered m id x how) (quietly _ _ refl refl (quiet_pattern m (flag_of id) _))

    waits_to_send : (id x timeout : ℤ) → Did (called m p (tsnd_dtq numbered m p id x timeout))
    unfolding tsnd_dtq
    waits_to_send id x timeout =
        by_called m p Did (tsnd_dtq numbered m p id x timeout) tt refused_did
        (λ a. done_or_joins (from_task m p false true a.rule) (can_send numbered m (queue_of id)) (sent numbered m (queue_of id) x (receiver numbered m (queue_of id))) (wait.Send (queue_of id) x) timeout (in_sent (queue_of id) x _ refl))

    waits_to_receive : (id timeout : ℤ) → Did (called m p (trcv_dtq numbered m p id timeout))
    unfolding trcv_dtq
    waits_to_receive id timeout =
        by_called m p Did (trcv_dtq numbered m p id timeout) tt refused_did
        (λ a. done_or_joins (from_task m p false true a.rule) (can_receive numbered m (queue_of id)) (received numbered m (queue_of id) (sender numbered m (queue_of id))) (wait.Receive (queue_of id)) timeout (in_received (queue_of id) _ refl))

    waits_for_block : (id timeout : ℤ) → Did (called m p (tget_mpf numbered m p id timeout))
    unfolding tget_mpf
    waits_for_block id timeout =
        by_called m p Did (tget_mpf numbered m p id timeout) tt refused_did
        (λ a. done_or_joins (from_task m p false true a.rule) (is_some (free_block m (pool_of id))) (given m (pool_of id) (unwrap_or (free_block m (pool_of id)) 0)) (wait.Pool (pool_of id)) timeout (quietly _ _ refl refl (quiet_handed m (pool_of id) _ true)))

    buffer_did : (c : BufferCall) → Did (called m p (buffer_row numbered m p c))
    unfolding psnd_dtq fsnd_dtq prcv_dtq pget_mpf rel_mpf
    buffer_did (buffer.SndDtq id x) = waits_to_send id x forever
    buffer_did (buffer.TsndDtq id x timeout) = waits_to_send id x timeout
    buffer_did (buffer.PsndDtq id x) = stands (psnd_dtq numbered m id x) (in_sent (queue_of id) x _ refl)
    buffer_did (buffer.IpsndDtq id x) = stands (in_handler (psnd_dtq numbered m id x)) (in_sent (queue_of id) x _ refl)
    buffer_did (buffer.FsndDtq id x) = stands (fsnd_dtq numbered m id x) (in_forced (queue_of id) x)
    buffer_did (buffer.IfsndDtq id x) = stands (in_handler (fsnd_dtq numbered m id x)) (in_forced (queue_of id) x)
    buffer_did (buffer.RcvDtq id) = waits_to_receive id forever
    buffer_did (buffer.TrcvDtq id timeout) = waits_to_receive id timeout
    buffer_did (buffer.PrcvDtq id) = stands (prcv_dtq numbered m id) (in_received (queue_of id) _ refl)
    buffer_did (buffer.GetMpf id) = waits_for_block id forever
    buffer_did (buffer.TgetMpf id timeout) = waits_for_block id timeout
    buffer_did (buffer.PgetMpf id) = stands (pget_mpf m id) (quietly _ _ refl refl (quiet_handed m (pool_of id) _ true))
    buffer_did (buffer.RelMpf id b) = stands (rel_mpf numbered m id b) (in_returned (pool_of id) (block_of b) _ refl)

    time_did : (c : TimeCall) → Did (called m p (time_row m c))
    unfolding time_rows
    time_did (time.StaCyc id) = stands (time_row m (time.StaCyc id)) (stays_same _ done refl refl refl (λ x o. refl))
    time_did c = stands (time_row m c) (stays_same _ done refl refl refl (λ x o. refl))

    system_did : (c : SystemCall) → Did (called m p (system_row numbered m p c))
    unfolding system_rows
    system_did (system.RotRdq n) = stands (system_row numbered m p (system.RotRdq n)) (in_rotate _)
    system_did (system.IrotRdq n) = stands (system_row numbered m p (system.IrotRdq n)) (in_rotate _)
    system_did (system.MrotRdq n q) = stands (system_row numbered m p (system.MrotRdq n q)) (in_rotate _)
    system_did (system.ImrotRdq n q) = stands (system_row numbered m p (system.ImrotRdq n q)) (in_rotate _)
    system_did c = stands (system_row numbered m p c) (stays_same _ _ refl refl refl (λ x o. refl))

    in_taken : (id : ℤ) → Stands m e (loc_spn m p id).effect
    unfolding loc_spn
    in_taken id =
        cond_both (is_some (holder m (unwrap_or (object_named m.holders id) (as_object 1)))) _ _ (Stands m e) (λ _. stays_same _ _ refl refl refl (λ x o. refl)) (λ _. stays_same _ _ refl refl refl (λ x o. refl))

    spin_did : (c : SpinCall) → Did (called m p (spin_row m p c))
    unfolding try_spn unl_spn
    spin_did (spin.LocSpn id) = stands (loc_spn m p id) (in_taken id)
    spin_did (spin.IlocSpn id) = stands (in_handler (loc_spn m p id)) (in_taken id)
    spin_did c = stands (spin_row m p c) (stays_same _ _ refl refl refl (λ x o. refl))

    return_did : Did (called m p (ret_hdr m p))
    unfolding ret_hdr
    return_did = stands (ret_hdr m p) (stays_same _ _ refl refl refl (λ x o. refl))

    sleep_did : (timeout : ℤ) → Did (called m p (tslp_tsk numbered m p timeout))
    unfolding tslp_tsk
    sleep_did timeout =
        by_called m p Did (tslp_tsk numbered m p timeout) tt refused_did
        (λ a. done_or_joins (from_task m p false true a.rule) (nat_lt 0 (task m (caller m p)).wakeups) _ wait.Sleep timeout (stays_same _ done refl refl refl (λ x o. refl)))

    delay_did : (after : ℤ) → Did (called m p (dly_tsk numbered m p after))
    unfolding dly_tsk
    delay_did after = by_called m p Did (dly_tsk numbered m p after) tt refused_did (λ a. inr (joins (from_task m p false true a.rule) wait.Delay (ticks_of after)))

    in_finish : (u : Task) → Quiet m (finish numbered m u)
    unfolding finish
    in_finish u = quiet_end m u (ended (task m u))

    in_exit : Stands m e (ext_tsk numbered m p).effect
    unfolding ext_tsk finish opened
    in_exit = let q = quiet_end (opened m p) (caller m p) (ended (task m (caller m p))) in quietly _ (plain answer.Gone) refl refl (record { begun = q.begun; next = q.next; orders = λ x o. refl })

  module _ (few : length m.tasks ≤ 64) where
    abbrev pub DidCall : Call → State × Effect → Type 0
    DidCall c did = Stands m (event.Call p c) did ⊎ Joins m p did

    -- whom an argument names has its wait broken off
    broken_off : (id : ℤ) (c : TaskCall) (row : Row Arrivals) → ((t : Task) → breaks_off t (event.Call p (call.Task c)) ≡ is_number_of t id) → is_some (task_named m id) ≡ true → Stands m (event.Call p (call.Task c)) (release numbered m (unwrap_or (task_named m id) (as_task 1)) code.WaitReleased None)
    broken_off id c row named known =
        let u : Task = unwrap_or (task_named m id) (as_task 1) in
        releases (event.Call p (call.Task c)) u code.WaitReleased None (inr (inl (named u ∙ task_known m id few known u ∙ eq-eqb u.number u.number refl)))

    task_did : (c : TaskCall) → is_of_priority (call.Task c) ≡ false → DidCall (call.Task c) (called m p (task_row numbered m p c))
    unfolding act mact can_act mig_tsk ter_tsk can_wup rel_wai sus_tsk rsm_tsk
    task_did (tasks.ActTsk id) other = stands (event.Call p (call.Task (tasks.ActTsk id))) (task_row numbered m p (tasks.ActTsk id)) (in_activate _ _ _ _)
    task_did (tasks.IactTsk id) other = stands _ (task_row numbered m p (tasks.IactTsk id)) (in_activate _ _ _ _)
    task_did (tasks.MactTsk id to) other = stands _ (task_row numbered m p (tasks.MactTsk id to)) (in_activate _ _ _ _)
    task_did (tasks.ImactTsk id to) other = stands _ (task_row numbered m p (tasks.ImactTsk id to)) (in_activate _ _ _ _)
    task_did (tasks.CanAct id) other = stands _ (task_row numbered m p (tasks.CanAct id)) (stays_same _ _ _ refl refl refl (λ x o. refl))
    task_did (tasks.MigTsk id to) other = stands _ (task_row numbered m p (tasks.MigTsk id to)) (in_migrate _ _ _)
    task_did tasks.ExtTsk other = stands _ (task_row numbered m p tasks.ExtTsk) (in_exit _)
    task_did (tasks.TerTsk id) other = stands _ (task_row numbered m p (tasks.TerTsk id)) (quietly _ _ done refl refl (in_finish (event.Call p (call.Task (tasks.TerTsk id))) _))
    task_did (tasks.ChgPri id n) other = absurd (false≢true (sym other))
    task_did (tasks.GetPri id) other = stands _ (task_row numbered m p (tasks.GetPri id)) (quietly _ m _ refl refl (quiet_all m))
    task_did tasks.SlpTsk other = sleep_did _ forever
    task_did (tasks.TslpTsk timeout) other = sleep_did _ timeout
    task_did (tasks.WupTsk id) other = stands _ (task_row numbered m p (tasks.WupTsk id)) (in_wup _ _)
    task_did (tasks.IwupTsk id) other = stands _ (task_row numbered m p (tasks.IwupTsk id)) (in_wup _ _)
    task_did (tasks.CanWup id) other = stands _ (task_row numbered m p (tasks.CanWup id)) (stays_same _ _ _ refl refl refl (λ x o. refl))
    task_did (tasks.RelWai id) other =
        by_called m p (DidCall (call.Task (tasks.RelWai id))) (rel_wai numbered m (task_named m id)) (refl, tt) (refused_did _) (λ a. inl (broken_off id (tasks.RelWai id) (rel_wai numbered m (task_named m id)) (λ t. refl) a.known))
    task_did (tasks.IrelWai id) other =
        by_called m p (DidCall (call.Task (tasks.IrelWai id))) (in_handler (rel_wai numbered m (task_named m id))) (refl, tt) (refused_did _) (λ a. inl (broken_off id (tasks.IrelWai id) (rel_wai numbered m (task_named m id)) (λ t. refl) a.known))
    task_did (tasks.SusTsk id) other = stands _ (task_row numbered m p (tasks.SusTsk id)) (quietly _ _ done refl refl (quiet_place m _ _))
    task_did (tasks.RsmTsk id) other = stands _ (task_row numbered m p (tasks.RsmTsk id)) (quietly _ _ done refl refl (quiet_place m _ _))
    task_did (tasks.DlyTsk after) other = delay_did _ after

    pub call_did : (c : Call) → is_of_priority c ≡ false → DidCall c (called m p (row_of numbered m p c))
    call_did (call.Task c) other = task_did c other
    call_did (call.Sync c) other = sync_did (event.Call p (call.Sync c)) c
    call_did (call.Buffer c) other = buffer_did (event.Call p (call.Buffer c)) c
    call_did (call.Time c) other = time_did (event.Call p (call.Time c)) c
    call_did (call.System c) other = system_did (event.Call p (call.System c)) c
    call_did (call.Spin c) other = spin_did (event.Call p (call.Spin c)) c
    call_did call.RetHdr other = return_did (event.Call p call.RetHdr)
