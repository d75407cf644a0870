-- Which tasks each call releases is what is told.
use Rattle.std.proofs.Common.{◌≡◌, ℕ, ◌≤◌, ℤ, pos, negsuc, Bool, true, false, List, [], ◌∷◌, length, refl, sym, ap, ◌∙◌, subst, Option, Some, None}
use Rattle.std.specs.Prelude.{◌+◌, slice_index_or, All, if◌then◌else◌, is_some, unwrap_or, option_map, bit_or}
use Rattle.std.proofs.lemmas.Bool.{cond_both, cond-true, cond-false, false≢true, or_parts}
use Rattle.std.proofs.lemmas.List.Elements.{All-head, All-tail}
use Rattle.fmp_codes.specs.Numbers.{as_object, as_task}
use Rattle.fmp_codes.specs.declared.numbers.Proc.{Proc}
use Rattle.fmp_codes.specs.declared.numbers.Task.{Task}
use Rattle.fmp_codes.specs.declared.numbers.Object.{Object}
use Rattle.fmp_codes.specs.declared.calls.Call.{Call}
use Rattle.fmp_codes.specs.declared.calls.Call.TheVariants as call
use Rattle.fmp_codes.specs.declared.calls.TaskCall.{TaskCall}
use Rattle.fmp_codes.specs.declared.calls.TaskCall.TheVariants as tasks
use Rattle.fmp_codes.specs.declared.calls.SyncCall.{SyncCall}
use Rattle.fmp_codes.specs.declared.calls.SyncCall.TheVariants as sync
use Rattle.fmp_codes.specs.declared.calls.BufferCall.{BufferCall}
use Rattle.fmp_codes.specs.declared.calls.BufferCall.TheVariants as buffer
use Rattle.fmp_codes.specs.declared.calls.TimeCall.{TimeCall}
use Rattle.fmp_codes.specs.declared.calls.TimeCall.TheVariants as time
use Rattle.fmp_codes.specs.declared.calls.SystemCall.{SystemCall}
use Rattle.fmp_codes.specs.declared.calls.SystemCall.TheVariants as system
use Rattle.fmp_codes.specs.declared.calls.SpinCall.{SpinCall}
use Rattle.fmp_codes.specs.declared.calls.SpinCall.TheVariants as spin
use Rattle.fmp_codes.specs.declared.codes.Code.{Code}
use Rattle.fmp_codes.specs.declared.codes.Code.TheVariants as code
use Rattle.fmp_codes.specs.declared.records.Release.{Release}
use Rattle.fmp_codes.specs.declared.records.Record.{Record}
use Rattle.fmp_setup.specs.Setup.{Setup}
use Rattle.fmp_setup.specs.declared.setup.EventflagSetup.{EventflagSetup}
use Rattle.fmp_rules.specs.Effects.{Effect}
use Rattle.fmp_rules.specs.declared.machine.TaskRecord.{TaskRecord}
use Rattle.fmp_rules.specs.declared.machine.Wait.{Wait}
use Rattle.fmp_rules.specs.declared.machine.Wait.TheVariants as wait
use Rattle.fmp_rules.specs.declared.machine.QueueKind.TheVariants as kind
use Rattle.fmp_rules.specs.World.{no_task, task, processor, runner_of, first}
use Rattle.fmp_rules.specs.Objects.{eventflag, holder}
use Rattle.fmp_rules.specs.Ordering.{is_in, queue, with_task}
use Rattle.fmp_rules.specs.Tasks.{make_ready}
use Rattle.fmp_rules.specs.Arrivals.{State, numbered}
use Rattle.fmp_rules.specs.Arguments.{forever, is_zero, object_named, task_named, task_or_caller}
use Rattle.fmp_rules.specs.Rows.{Row, called, refused, done, done_or_wait, release}
use Rattle.fmp_rules.specs.TaskCalls.{is_sleep, task_row}
use Rattle.fmp_rules.specs.SyncCalls.{signal, is_met, cleared, served, sync_row}
use Rattle.fmp_rules.specs.BufferCalls.{receiver, sender, can_send, sent, forced, received, returned}
use Rattle.fmp_rules.specs.BufferCalls.{buffer_row}
use Rattle.fmp_rules.specs.TimeCalls.{time_row}
use Rattle.fmp_rules.specs.SystemCalls.{system_row}
use Rattle.fmp_rules.specs.SpinCalls.{spin_row, ret_hdr}
use Rattle.fmp_rules.specs.Step.{row_of}
use Rattle.fmp_law_safety.proofs.Calls.{Accepts, from_task}
use Rattle.fmp_law_safety.proofs.Items.{item_other}
use Rattle.fmp_law_balance.specs.Accepted.{is_accepted}
use Rattle.fmp_law_balance.proofs.Called.{AllRefuse, refuses, not_accepted, by_called, either_way}
use Rattle.fmp_law_balance.specs.Waits.Asked.{OpenWait}
use Rattle.fmp_law_balance.proofs.waits.Several.{Distinct}
use Rattle.fmp_law_balance.proofs.waits.Words.{IsKept}
use Rattle.fmp_law_records.specs.Patterns.{handed_on, clears_of, report_pattern}
use Rattle.fmp_law_balance.proofs.Words.{head_same}
use Rattle.fmp_law_records.specs.Served.{Places, is_priority}
use Rattle.fmp_law_records.proofs.Rows.{task_rows, sync_rows, buffer_rows, time_rows, system_rows, spin_rows}
use Rattle.fmp_law_records.proofs.Places.{ordered_as, ArePlaced}
use Rattle.fmp_law_records.specs.Refusals.Meanings.{task_of, task_meant, object_of}
use Rattle.fmp_law_records.specs.Refusals.Found.{for_wakeup, for_unit, for_bits, to_send, to_receive, waits_so}
use Rattle.fmp_law_records.proofs.refusals.Configured.{Configured, IsTask, object_is, task_is, meant_is, eventflag_setup}
use Rattle.fmp_law_records.proofs.refusals.Found.{holds_same}
use Rattle.fmp_law_records.specs.Effects.Releases.{given_to, for_block, is_set, next_for_unit, next_receiver, next_sender, next_for_block, handed_out, flag_releases}
use Rattle.fmp_law_records.specs.Effects.Releases.{released_with, woken, call_releases, waiting_reported}
use Rattle.fmp_law_records.proofs.effects.Queues.{queue_same, queue_distinct}

-- What the machine and what is told say of a wait.

unit_in : (s : Object) (y : Wait) → is_in kind.Semaphore s y ≡ for_unit s y
unit_in s (wait.Semaphore z) = refl
unit_in s y = refl

bits_in : (f : Object) (y : Wait) → is_in kind.Eventflag f y ≡ for_bits f y
bits_in f (wait.Eventflag g bits m) = refl
bits_in f y = refl

pub send_in : (d : Object) (y : Wait) → is_in kind.Send d y ≡ to_send d y
send_in d (wait.Send e v) = refl
send_in d y = refl

receive_in : (d : Object) (y : Wait) → is_in kind.Receive d y ≡ to_receive d y
receive_in d (wait.Receive e) = refl
receive_in d y = refl

block_in : (m : Object) (y : Wait) → is_in kind.Pool m y ≡ for_block m y
block_in m (wait.Pool n) = refl
block_in m y = refl

abbrev now : Option OpenWait → Option Wait
now o = option_map (λ y. y.wait) o

met_same : (y : ℕ) (o : Option OpenWait) → is_met y (now o) ≡ waits_so (is_set y) o
met_same y None = refl
met_same y (Some o) = go o.wait
  where
    go : (z : Wait) → is_met y (Some z) ≡ is_set y z
    go (wait.Eventflag f bits m) = holds_same y bits m
    go z = refl

asleep : (o : Option OpenWait) → is_sleep (now o) ≡ waits_so for_wakeup o
asleep None = refl
asleep (Some o) = go o.wait
  where
    go : (z : Wait) → is_sleep (Some z) ≡ for_wakeup z
    go wait.Sleep = refl
    go z = refl

-- What a call releases, where it is accepted.

abbrev Tells : List Release → State × Effect → Type 0
Tells rs did = did.1.releases ≡ (if is_accepted did.1.answer then rs else [])

none_either : (b : Bool) → ◌≡◌ {A = List Release} [] (if b then [] else [])
none_either true = refl
none_either false = refl

tells_none : (did : State × Effect) → did.1.releases ≡ [] → Tells [] did
tells_none did none = none ∙ none_either (is_accepted did.1.answer)

tells_refused : (m : State) (rs : List Release) (x : Code) → refuses x ≡ true → Tells rs (m, refused x)
tells_refused m rs x e = sym (cond-false (is_accepted (refused x).answer) rs [] (not_accepted x e))

module _ (m : State) (p : Proc) where
  abbrev by_row : (rs : List Release) (row : Row _) → AllRefuse row.errors → (Accepts m p row → Tells rs row.effect) → Tells rs (called m p row)
  by_row rs row codes accepted = by_called m p (Tells rs) row codes (tells_refused m rs) accepted

  -- Calls that release nobody.

  abbrev Quiet : State × Effect → Type 0
  Quiet did = did.1.releases ≡ []

  quiet_called : (row : Row _) → Quiet row.effect → Tells [] (called m p row)
  quiet_called row quiet = tells_none (called m p row) (either_way m p Quiet row (λ _. refl) quiet)

  quiet_waits : (can : Bool) (did : State × Effect) (z : Wait) (timeout : ℤ) → Quiet did → Quiet (done_or_wait numbered m p can did z timeout)
  quiet_waits can did z timeout quiet = cond_both can did _ Quiet (λ _. quiet) (λ _. cond_both (is_zero timeout) _ _ Quiet (λ _. refl) (λ _. refl))

  tells_waits : (rs : List Release) (can : Bool) (did : State × Effect) (z : Wait) (timeout : ℤ) → Tells rs did → Tells rs (done_or_wait numbered m p can did z timeout)
  tells_waits rs can did z timeout report = cond_both can did _ (Tells rs) (λ _. report) (λ _. cond_both (is_zero timeout) _ _ (Tells rs) (λ _. refl) (λ _. refl))

  abbrev of_list : {X : Type 0} → List X → ℤ → Object
  of_list xs id = unwrap_or (object_named xs id) (as_object 1)

  tells_time : (y : TimeCall) → Tells [] (called m p (time_row m y))
  unfolding time_rows
  tells_time y = quiet_called (time_row m y) (go y)
    where
      go : (y : TimeCall) → Quiet (time_row m y).effect
      go (time.StaCyc id) = refl
      go y = refl

  tells_system : (y : SystemCall) → Tells [] (called m p (system_row numbered m p y))
  unfolding system_rows
  tells_system y = quiet_called (system_row numbered m p y) (go y)
    where
      go : (y : SystemCall) → Quiet (system_row numbered m p y).effect
      go system.GetTid = refl
      go y = refl

  tells_spin : (y : SpinCall) → Tells [] (called m p (spin_row m p y))
  unfolding spin_rows
  tells_spin y = quiet_called (spin_row m p y) (go y)
    where
      go : (y : SpinCall) → Quiet (spin_row m p y).effect
      go (spin.LocSpn id) = cond_both (is_some (holder m (of_list m.holders id))) _ _ Quiet (λ _. refl) (λ _. refl)
      go (spin.IlocSpn id) = cond_both (is_some (holder m (of_list m.holders id))) _ _ Quiet (λ _. refl) (λ _. refl)
      go y = refl

  -- Calls that give something to the first of a queue.

  signal_tells : (s : Object) (o : Option Task) → Tells (given_to o None) (signal numbered m s o)
  signal_tells s None = refl
  signal_tells s (Some t) = refl

  sent_tells : (d : Object) (v : ℤ) (o : Option Task) → Tells (given_to o (Some v)) (sent numbered m d v o)
  sent_tells d v None = refl
  sent_tells d v (Some t) = refl

  received_tells : (d : Object) (o : Option Task) → Tells (given_to o None) (received numbered m d o)
  received_tells d None = refl
  received_tells d (Some t) = refl

  returned_tells : (o : Object) (b : ℕ) (t : Option Task) → Tells (given_to t (Some (pos b))) (returned numbered m o b t)
  returned_tells o b None = refl
  returned_tells o b (Some t) = refl

  forced_tells : (d : Object) (v : ℤ) → Tells (given_to (receiver numbered m d) (Some v))
      (if can_send numbered m d then sent numbered m d v (receiver numbered m d) else forced m d v)
  forced_tells d v =
      cond_both (can_send numbered m d) _ _ (Tells (given_to (receiver numbered m d) (Some v))) (λ _. sent_tells d v (receiver numbered m d))
      (λ no_. nobody (receiver numbered m d) (or_parts (is_some (receiver numbered m d)) _ no_).0)
    where
      nobody : (o : Option Task) → is_some o ≡ false → [] ≡ given_to o (Some v)
      nobody None e = refl
      nobody (Some t) e = absurd (false≢true (sym e))

module _ (c : Setup) (records : List Record) (m : State) (x : Places) (placed : ArePlaced c x m) (waits : (t : Task) → IsKept c m t (x.waits t))
    (priorities : (t : Task) → is_some (x.waits t) ≡ true → (task m t).priority ≡ x.priority t) (count : length m.tasks ≡ length c.tasks) (few : length m.tasks ≤ 64)
    (h : Configured c m) (patterns : (f : Object) → (eventflag m f).pattern ≡ report_pattern c f records) where
  -- The waiters of an eventflag.

  ready_others : (v : State) (t : Task) (us : List Task) → All (λ u. u.number ≡ t.number → ⊥) us → All (λ u. (task v u).wait ≡ now (x.waits u)) us →
      All (λ u. (task (make_ready numbered v t) u).wait ≡ now (x.waits u)) us
  ready_others v t us other all i d below =
      let u : Task = slice_index_or us i d in
      ap (λ (r : TaskRecord). r.wait) (item_other no_task v.tasks t.number (record (task v t) { wait = None }) u.number u.least t.least (other i d below)) ∙ all i d below

  served_same : (f : Object) (v : State) (clears : Bool) → (eventflag v f).setup.clears ≡ clears → (y : ℕ) (ts : List Task) → Distinct ts →
      All (λ t. (task v t).wait ≡ now (x.waits t)) ts → (served numbered v f y ts).1 ≡ handed_out c x clears y ts
  served_same f v clears is y [] distinct all = refl
  served_same f v clears is y (t ∷ ts) distinct all =
      let W : Task → Type 0 = λ u. (task v u).wait ≡ now (x.waits u) in
      let met : is_met y (task v t).wait ≡ waits_so (is_set y) (x.waits t) = ap (is_met y) (All-head W t ts all) ∙ met_same y (x.waits t) in
      let this : Release = released_with t code.Accepted (Some (pos y)) in
      cond_both (is_met y (task v t).wait) _ _ (λ (did : State × List Release). did.1 ≡ handed_out c x clears y (t ∷ ts))
      (λ yes_.
      ap (λ rs. this ∷ rs)
      (served_same f (make_ready numbered v t) clears is (cleared v f y) ts distinct.1 (ready_others v t ts distinct.0 (All-tail W t ts all))
      ∙ ap (λ b. handed_out c x clears (if b then 0 else y) ts) is)
      ∙ sym (cond-true (waits_so (is_set y) (x.waits t)) (this ∷ handed_out c x clears (handed_on clears y) ts) (handed_out c x clears y ts) (sym met ∙ yes_)))
      (λ no_.
      served_same f v clears is y ts distinct.1 (All-tail W t ts all)
      ∙ sym (cond-false (waits_so (is_set y) (x.waits t)) (this ∷ handed_out c x clears (handed_on clears y) ts) (handed_out c x clears y ts) (sym met ∙ no_)))

  flag_same : (f : Object) (bits : ℕ) → (served numbered m f (bit_or (eventflag m f).pattern bits) (queue numbered m kind.Eventflag f)).1
      ≡ flag_releases c x f (bit_or (report_pattern c f records) bits)
  flag_same f bits =
      served_same f m (clears_of c f) (ap (λ (s : EventflagSetup). s.clears) (eventflag_setup c m h f)) (bit_or (eventflag m f).pattern bits)
      (queue numbered m kind.Eventflag f) (queue_distinct c m x placed waits priorities count few kind.Eventflag f)
      (λ i d below. (waits (slice_index_or (queue numbered m kind.Eventflag f) i d)).0.wait)
      ∙ ap (λ y. handed_out c x (clears_of c f) (bit_or y bits) (queue numbered m kind.Eventflag f)) (patterns f)
      ∙ ap (handed_out c x (clears_of c f) (bit_or (report_pattern c f records) bits))
      (queue_same c m x placed waits priorities count few kind.Eventflag f (for_bits f) (bits_in f))

  -- The first of each queue.

  first_for_unit : (s : Object) → first (queue numbered m kind.Semaphore s) ≡ next_for_unit c x s
  first_for_unit s = ap first (queue_same c m x placed waits priorities count few kind.Semaphore s (for_unit s) (unit_in s)) ∙ sym (head_same (waiting_reported c x (is_priority (ordered_as c kind.Semaphore s)) (for_unit s)))

  first_receiver : (d : Object) → receiver numbered m d ≡ next_receiver c x d
  first_receiver d = ap first (queue_same c m x placed waits priorities count few kind.Receive d (to_receive d) (receive_in d)) ∙ sym (head_same (waiting_reported c x (is_priority (ordered_as c kind.Receive d)) (to_receive d)))

  first_sender : (d : Object) → sender numbered m d ≡ next_sender c x d
  first_sender d = ap first (queue_same c m x placed waits priorities count few kind.Send d (to_send d) (send_in d)) ∙ sym (head_same (waiting_reported c x (is_priority (ordered_as c kind.Send d)) (to_send d)))

  first_for_block : (o : Object) → first (queue numbered m kind.Pool o) ≡ next_for_block c x o
  first_for_block o = ap first (queue_same c m x placed waits priorities count few kind.Pool o (for_block o) (block_in o)) ∙ sym (head_same (waiting_reported c x (is_priority (ordered_as c kind.Pool o)) (for_block o)))

  module _ (p : Proc) (within : (t : Task) → (processor m p).running ≡ Some t → t.number ≤ length m.tasks) where
    abbrev IsReported : Call → Type 0
    IsReported y = Tells (call_releases c x records (runner_of m p) y) (called m p (row_of numbered m p y))

    -- Tasks.

    abbrev the : Option Task → Task
    the o = unwrap_or o (as_task 1)

    abbrev wakes : Task → State × Effect
    wakes u = if is_sleep (task m u).wait then release numbered m u code.Accepted None
        else (with_task m u (record (task m u) { wakeups = (task m u).wakeups + 1 }), done)

    wakes_reported : (u : Task) → Tells (woken c x u) (wakes u)
    wakes_reported u =
        let same : is_sleep (task m u).wait ≡ waits_so for_wakeup (x.waits u) = ap is_sleep (waits u).0.wait ∙ asleep (x.waits u) in
        let this : List Release = released_with u code.Accepted None ∷ [] in
        cond_both (is_sleep (task m u).wait) _ _ (Tells (woken c x u)) (λ yes_. sym (cond-true (waits_so for_wakeup (x.waits u)) this [] (sym same ∙ yes_)))
        (λ no_. sym (cond-false (waits_so for_wakeup (x.waits u)) this [] (sym same ∙ no_)))

    tells_task : (y : TaskCall) → IsReported (call.Task y)
    unfolding task_rows
    tells_task (tasks.WupTsk id) =
        by_row m p (woken c x (task_meant (runner_of m p) id)) (task_row numbered m p (tasks.WupTsk id)) (refl, (refl, tt))
        (λ a.
        let is : IsTask c m h (task_meant (runner_of m p) id) (task_or_caller m p id) = meant_is c m h p (from_task m p false false a.rule) within id a.known in
        subst (λ (u : Task). Tells (woken c x u) (wakes (the (task_or_caller m p id)))) is.is (wakes_reported (the (task_or_caller m p id))))
    tells_task (tasks.IwupTsk id) =
        by_row m p (woken c x (task_of id)) (task_row numbered m p (tasks.IwupTsk id)) (refl, (refl, tt))
        (λ a. subst (λ (u : Task). Tells (woken c x u) (wakes (the (task_named m id)))) (task_is c m h id a.known).is (wakes_reported (the (task_named m id))))
    tells_task (tasks.RelWai id) =
        by_row m p (released_with (task_of id) code.WaitReleased None ∷ []) (task_row numbered m p (tasks.RelWai id)) (refl, tt)
        (λ a. ap (λ (u : Task). released_with u code.WaitReleased None ∷ []) (task_is c m h id a.known).is)
    tells_task (tasks.IrelWai id) =
        by_row m p (released_with (task_of id) code.WaitReleased None ∷ []) (task_row numbered m p (tasks.IrelWai id)) (refl, tt)
        (λ a. ap (λ (u : Task). released_with u code.WaitReleased None ∷ []) (task_is c m h id a.known).is)
    tells_task tasks.SlpTsk = quiet_called m p (task_row numbered m p tasks.SlpTsk) (quiet_waits m p _ _ wait.Sleep forever refl)
    tells_task (tasks.TslpTsk timeout) = quiet_called m p (task_row numbered m p (tasks.TslpTsk timeout)) (quiet_waits m p _ _ wait.Sleep timeout refl)
    tells_task y = quiet_called m p (task_row numbered m p y) refl

    -- Semaphores and eventflags.

    signal_reported : (s o : Object) → s ≡ o → Tells (given_to (next_for_unit c x o) None) (signal numbered m s (first (queue numbered m kind.Semaphore s)))
    signal_reported s o is =
        subst (λ (u : Object). Tells (given_to (next_for_unit c x u) None) (signal numbered m s (first (queue numbered m kind.Semaphore s)))) is
        (subst (λ t. Tells (given_to t None) (signal numbered m s (first (queue numbered m kind.Semaphore s)))) (first_for_unit s)
        (signal_tells m p s (first (queue numbered m kind.Semaphore s))))

    set_reported : (f o : Object) (bits : ℕ) → f ≡ o →
        (served numbered m f (bit_or (eventflag m f).pattern bits) (queue numbered m kind.Eventflag f)).1 ≡ flag_releases c x o (bit_or (report_pattern c o records) bits)
    set_reported f o bits is = flag_same f bits ∙ ap (λ (u : Object). flag_releases c x u (bit_or (report_pattern c u records) bits)) is

    tells_sync : (y : SyncCall) → IsReported (call.Sync y)
    unfolding sync_rows
    tells_sync (sync.SigSem id) =
        by_row m p (given_to (next_for_unit c x (object_of id)) None) (sync_row numbered m p (sync.SigSem id)) (refl, tt)
        (λ a. signal_reported (of_list m p m.semaphores id) (object_of id) (object_is m.semaphores id a.known))
    tells_sync (sync.IsigSem id) =
        by_row m p (given_to (next_for_unit c x (object_of id)) None) (sync_row numbered m p (sync.IsigSem id)) (refl, tt)
        (λ a. signal_reported (of_list m p m.semaphores id) (object_of id) (object_is m.semaphores id a.known))
    tells_sync (sync.SetFlg id bits) =
        by_row m p (flag_releases c x (object_of id) (bit_or (report_pattern c (object_of id) records) bits)) (sync_row numbered m p (sync.SetFlg id bits)) tt
        (λ a. set_reported (of_list m p m.eventflags id) (object_of id) bits (object_is m.eventflags id a.known))
    tells_sync (sync.IsetFlg id bits) =
        by_row m p (flag_releases c x (object_of id) (bit_or (report_pattern c (object_of id) records) bits)) (sync_row numbered m p (sync.IsetFlg id bits)) tt
        (λ a. set_reported (of_list m p m.eventflags id) (object_of id) bits (object_is m.eventflags id a.known))
    tells_sync (sync.WaiSem id) = quiet_called m p (sync_row numbered m p (sync.WaiSem id))
        (quiet_waits m p _ _ (wait.Semaphore (of_list m p m.semaphores id)) forever refl)
    tells_sync (sync.TwaiSem id timeout) =
        quiet_called m p (sync_row numbered m p (sync.TwaiSem id timeout)) (quiet_waits m p _ _ (wait.Semaphore (of_list m p m.semaphores id)) timeout refl)
    tells_sync (sync.WaiFlg id bits how) =
        quiet_called m p (sync_row numbered m p (sync.WaiFlg id bits how)) (quiet_waits m p _ _ (wait.Eventflag (of_list m p m.eventflags id) bits how) forever refl)
    tells_sync (sync.TwaiFlg id bits how timeout) =
        quiet_called m p (sync_row numbered m p (sync.TwaiFlg id bits how timeout))
        (quiet_waits m p _ _ (wait.Eventflag (of_list m p m.eventflags id) bits how) timeout refl)
    tells_sync y = quiet_called m p (sync_row numbered m p y) refl

    -- Data queues and pools.

    -- what is told of the queue of a number is told of the one that it names
    abbrev Sends : Object → ℤ → State × Effect → Type 0
    Sends d v did = Tells (given_to (next_receiver c x d) (Some v)) did

    send_reported : (id v : ℤ) (did : State × Effect) → is_some (object_named m.data_queues id) ≡ true →
        Tells (given_to (receiver numbered m (of_list m p m.data_queues id)) (Some v)) did → Sends (object_of id) v did
    send_reported id v did known report =
        subst (λ (u : Object). Sends u v did) (object_is m.data_queues id known)
        (subst (λ t. Tells (given_to t (Some v)) did) (first_receiver (of_list m p m.data_queues id)) report)

    receive_reported : (id : ℤ) (did : State × Effect) → is_some (object_named m.data_queues id) ≡ true →
        Tells (given_to (sender numbered m (of_list m p m.data_queues id)) None) did → Tells (given_to (next_sender c x (object_of id)) None) did
    receive_reported id did known report =
        subst (λ (u : Object). Tells (given_to (next_sender c x u) None) did) (object_is m.data_queues id known)
        (subst (λ t. Tells (given_to t None) did) (first_sender (of_list m p m.data_queues id)) report)

    return_reported : (id : ℤ) (b : ℕ) (did : State × Effect) → is_some (object_named m.pools id) ≡ true →
        Tells (given_to (first (queue numbered m kind.Pool (of_list m p m.pools id))) (Some (pos b))) did → Tells
        (given_to (next_for_block c x (object_of id)) (Some (pos b))) did
    return_reported id b did known report =
        subst (λ (u : Object). Tells (given_to (next_for_block c x u) (Some (pos b))) did) (object_is m.pools id known)
        (subst (λ t. Tells (given_to t (Some (pos b))) did) (first_for_block (of_list m p m.pools id)) report)

    abbrev effect_of : BufferCall → State × Effect
    effect_of y = (buffer_row numbered m p y).effect

    tells_buffer : (y : BufferCall) → IsReported (call.Buffer y)
    unfolding buffer_rows
    tells_buffer (buffer.SndDtq id v) =
        let d : Object = of_list m p m.data_queues id in
        by_row m p (given_to (next_receiver c x (object_of id)) (Some v)) (buffer_row numbered m p (buffer.SndDtq id v)) tt
        (λ a. send_reported id v (effect_of (buffer.SndDtq id v)) a.known
        (tells_waits m p (given_to (receiver numbered m d) (Some v)) _ _ (wait.Send d v) forever (sent_tells m p d v (receiver numbered m d))))
    tells_buffer (buffer.TsndDtq id v timeout) =
        let d : Object = of_list m p m.data_queues id in
        by_row m p (given_to (next_receiver c x (object_of id)) (Some v)) (buffer_row numbered m p (buffer.TsndDtq id v timeout)) tt
        (λ a. send_reported id v (effect_of (buffer.TsndDtq id v timeout)) a.known
        (tells_waits m p (given_to (receiver numbered m d) (Some v)) _ _ (wait.Send d v) timeout (sent_tells m p d v (receiver numbered m d))))
    tells_buffer (buffer.PsndDtq id v) =
        let d : Object = of_list m p m.data_queues id in
        by_row m p (given_to (next_receiver c x (object_of id)) (Some v)) (buffer_row numbered m p (buffer.PsndDtq id v)) (refl, tt)
        (λ a. send_reported id v (effect_of (buffer.PsndDtq id v)) a.known (sent_tells m p d v (receiver numbered m d)))
    tells_buffer (buffer.IpsndDtq id v) =
        let d : Object = of_list m p m.data_queues id in
        by_row m p (given_to (next_receiver c x (object_of id)) (Some v)) (buffer_row numbered m p (buffer.IpsndDtq id v)) (refl, tt)
        (λ a. send_reported id v (effect_of (buffer.IpsndDtq id v)) a.known (sent_tells m p d v (receiver numbered m d)))
    tells_buffer (buffer.FsndDtq id v) =
        by_row m p (given_to (next_receiver c x (object_of id)) (Some v)) (buffer_row numbered m p (buffer.FsndDtq id v)) (refl, tt)
        (λ a. send_reported id v (effect_of (buffer.FsndDtq id v)) a.known (forced_tells m p (of_list m p m.data_queues id) v))
    tells_buffer (buffer.IfsndDtq id v) =
        by_row m p (given_to (next_receiver c x (object_of id)) (Some v)) (buffer_row numbered m p (buffer.IfsndDtq id v)) (refl, tt)
        (λ a. send_reported id v (effect_of (buffer.IfsndDtq id v)) a.known (forced_tells m p (of_list m p m.data_queues id) v))
    tells_buffer (buffer.RcvDtq id) =
        let d : Object = of_list m p m.data_queues id in
        by_row m p (given_to (next_sender c x (object_of id)) None) (buffer_row numbered m p (buffer.RcvDtq id)) tt
        (λ a. receive_reported id (effect_of (buffer.RcvDtq id)) a.known
        (tells_waits m p (given_to (sender numbered m d) None) _ _ (wait.Receive d) forever (received_tells m p d (sender numbered m d))))
    tells_buffer (buffer.TrcvDtq id timeout) =
        let d : Object = of_list m p m.data_queues id in
        by_row m p (given_to (next_sender c x (object_of id)) None) (buffer_row numbered m p (buffer.TrcvDtq id timeout)) tt
        (λ a. receive_reported id (effect_of (buffer.TrcvDtq id timeout)) a.known
        (tells_waits m p (given_to (sender numbered m d) None) _ _ (wait.Receive d) timeout (received_tells m p d (sender numbered m d))))
    tells_buffer (buffer.PrcvDtq id) =
        let d : Object = of_list m p m.data_queues id in
        by_row m p (given_to (next_sender c x (object_of id)) None) (buffer_row numbered m p (buffer.PrcvDtq id)) (refl, tt)
        (λ a. receive_reported id (effect_of (buffer.PrcvDtq id)) a.known (received_tells m p d (sender numbered m d)))
    tells_buffer (buffer.RelMpf id (pos b)) =
        let o : Object = of_list m p m.pools id in
        by_row m p (given_to (next_for_block c x (object_of id)) (Some (pos b))) (buffer_row numbered m p (buffer.RelMpf id (pos b))) tt
        (λ a. return_reported id b (effect_of (buffer.RelMpf id (pos b))) a.known (returned_tells m p o b (first (queue numbered m kind.Pool o))))
    tells_buffer (buffer.RelMpf id (negsuc b)) =
        by_row m p (given_to (next_for_block c x (object_of id)) (Some (negsuc b))) (buffer_row numbered m p (buffer.RelMpf id (negsuc b))) tt
        (λ a. absurd (false≢true a.proper))
    tells_buffer (buffer.GetMpf id) = quiet_called m p (buffer_row numbered m p (buffer.GetMpf id))
        (quiet_waits m p _ _ (wait.Pool (of_list m p m.pools id)) forever refl)
    tells_buffer (buffer.TgetMpf id timeout) =
        quiet_called m p (buffer_row numbered m p (buffer.TgetMpf id timeout)) (quiet_waits m p _ _ (wait.Pool (of_list m p m.pools id)) timeout refl)
    tells_buffer (buffer.PgetMpf id) = quiet_called m p (buffer_row numbered m p (buffer.PgetMpf id)) refl

    pub tells_call : (y : Call) → IsReported y
    unfolding ret_hdr
    tells_call (call.Task y) = tells_task y
    tells_call (call.Sync y) = tells_sync y
    tells_call (call.Buffer y) = tells_buffer y
    tells_call (call.Time y) = tells_time m p y
    tells_call (call.System y) = tells_system m p y
    tells_call (call.Spin y) = tells_spin m p y
    tells_call call.RetHdr = quiet_called m p (ret_hdr m p) refl
