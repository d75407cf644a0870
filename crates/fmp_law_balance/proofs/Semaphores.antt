-- Semaphores: the count and what was granted are what there was and what was brought.
use Rattle.std.proofs.Common.{◌≡◌, ℕ, ◌+◌, ◌-◌, ◌<◌, ◌≤◌, ◌==◌, ℤ, Bool, true, false, List, length, refl, sym, ap, arith, Option, Some, None}
use Rattle.std.specs.Prelude.{if◌then◌else◌, is_some, nat_lt, unwrap_or}
use Rattle.std.proofs.lemmas.Bool.{cond_both, cond-false, ltb-true, lt-ltb, eqb-false}
use Rattle.fmp_codes.specs.Numbers.{as_object}
use Rattle.fmp_codes.specs.declared.numbers.Proc.{Proc}
use Rattle.fmp_codes.specs.declared.numbers.Task.{Task}
use Rattle.fmp_codes.specs.declared.numbers.Object.{Object}
use Rattle.fmp_codes.specs.declared.calls.Call.{Call}
use Rattle.fmp_codes.specs.declared.calls.Call.TheVariants as call
use Rattle.fmp_codes.specs.declared.calls.SyncCall.{SyncCall}
use Rattle.fmp_codes.specs.declared.calls.SyncCall.TheVariants as sync
use Rattle.fmp_codes.specs.declared.calls.BufferCall.TheVariants as buffer
use Rattle.fmp_codes.specs.declared.codes.Code.{Code}
use Rattle.fmp_codes.specs.declared.records.Answer.TheVariants as answer
use Rattle.fmp_codes.specs.declared.records.Event.{Event}
use Rattle.fmp_codes.specs.declared.records.Event.TheVariants as event
use Rattle.fmp_codes.specs.declared.records.Record.{Record}
use Rattle.fmp_rules.specs.Effects.{Effect}
use Rattle.fmp_rules.specs.declared.machine.Semaphore.{Semaphore}
use Rattle.fmp_rules.specs.declared.machine.QueueKind.TheVariants as kind
use Rattle.fmp_rules.specs.declared.machine.Wait.TheVariants as wait
use Rattle.fmp_rules.specs.World.{World, first, runner_of}
use Rattle.fmp_rules.specs.Objects.{semaphore}
use Rattle.fmp_rules.specs.Ordering.{Ordering, queue, begin_wait}
use Rattle.fmp_rules.specs.Rows.{called, refused, plain, done_or_wait, in_handler}
use Rattle.fmp_rules.specs.Arguments.{caller, object_named, is_zero, forever, ticks_of}
use Rattle.fmp_rules.specs.SyncCalls.{with_count, signal, counted, sig_sem, twai_sem, pol_sem, sync_row}
use Rattle.fmp_rules.specs.Tick.{tick}
use Rattle.fmp_rules.specs.Step.{row_of, step}
use Rattle.fmp_law_safety.specs.Safe.{IsNumberOf}
use Rattle.fmp_law_safety.proofs.Items.{item_same, item_other}
use Rattle.fmp_law_balance.specs.Accepted.{is_accepted, one_if, names}
use Rattle.fmp_law_balance.specs.Semaphores.{signals, takes, brought, granted}
use Rattle.fmp_law_balance.proofs.Objects.{object_known, by_object}
use Rattle.fmp_law_balance.proofs.Called.{refuses, by_called, not_accepted}
use Rattle.fmp_law_balance.proofs.LeavesCalls.{leaves_call}
use Rattle.fmp_law_balance.proofs.Ticks.{leaves_tick}
use Rattle.fmp_law_balance.proofs.Steps.{report, by_step}

module _ {Q : Type 0} (w : World Q) (s : Object) where
  -- from w to v, where this is told
  abbrev pub Counts : World Q → Record → Type 0
  Counts v r = (semaphore w s).count + brought s r ≡ (semaphore v s).count + granted s r

  -- what is not accepted brings and grants nothing
  nothing_granted : (r : Record) → is_accepted r.answer ≡ false → Counts w r
  nothing_granted r e =
      let none : brought s r ≡ 0 = cond_both (signals s r.event) _ _ (λ n. n ≡ 0) (λ _. ap one_if e) (λ _. refl) in
      let neither : granted s r ≡ 0 =
      cond_both (takes s r.event) _ _ (λ n. n ≡ 0) (λ _. ap one_if e)
      (λ _. cond_both (signals s r.event) _ _ (λ n. n ≡ 0) (λ _. cond-false (is_accepted r.answer) (length r.releases) 0 e) (λ _. refl)) in
      rw (none, neither) refl

  -- the semaphores stay, and nothing is told of one
  pub untouched : (v : World Q) → v.semaphores ≡ w.semaphores → (semaphore w s).count + 0 ≡ (semaphore v s).count + 0
  untouched v e = ap (λ (xs : List Semaphore). (semaphore (record w { semaphores = xs }) s).count + 0) (sym e)

module _ {Q : Type 0} (k : Ordering Q) (w : World Q) (p : Proc) (o : Object) (within : IsNumberOf w.semaphores o.number) where
  count_here : (n : ℕ) → (semaphore (with_count w o n) o).count ≡ n
  count_here n = ap (λ (x : Semaphore). x.count) (item_same _ w.semaphores o.number _ within.0 within.1)

  count_there : (s : Object) (n : ℕ) → (o.number ≡ s.number → ⊥) → (semaphore (with_count w o n) s).count ≡ (semaphore w s).count
  count_there s n d = ap (λ (x : Semaphore). x.count) (item_other _ w.semaphores o.number _ s.number s.least o.least (λ e. d (sym e)))

  -- what a signal does, where the semaphore is the one that it names or another
  abbrev Signal : World Q × Effect → Object → Bool → Type 0
  Signal did s b =
      (semaphore w s).count + (if b then one_if (is_accepted did.1.answer) else 0)
      ≡ (semaphore did.0 s).count + (if b then (if is_accepted did.1.answer then length did.1.releases else 0) else 0)

  signal_law : (t : Option Task) (s : Object) → Signal (signal k w o t) s (o.number == s.number)
  signal_law (Some t) s = by_object (Signal (signal k w o (Some t))) o s refl (λ d. refl)
  signal_law None s =
      by_object (Signal (signal k w o None)) o s (omega (arith, count_here ((semaphore w o).count + 1)))
      (λ d. ap (λ n. n + 0) (sym (count_there s ((semaphore w o).count + 1) d)))

  -- what a call does that takes a unit
  abbrev Take : World Q × Effect → Object → Bool → Type 0
  Take did s b = (semaphore w s).count + 0 ≡ (semaphore did.0 s).count + (if b then one_if (is_accepted did.1.answer) else 0)

  counted_law : nat_lt 0 (semaphore w o).count ≡ true → (s : Object) → Take (counted w o) s (o.number == s.number)
  counted_law e s =
      by_object (Take (counted w o)) o s (omega (arith, count_here ((semaphore w o).count - 1), ltb-true 0 (semaphore w o).count e))
      (λ d. ap (λ n. n + 0) (sym (count_there s ((semaphore w o).count - 1) d)))

  nothing_taken : (v : World Q) (s : Object) (b : Bool) → v.semaphores ≡ w.semaphores → (semaphore w s).count + 0 ≡ (semaphore v s).count + (if b then 0 else 0)
  nothing_taken v s true e = untouched w s v e
  nothing_taken v s false e = untouched w s v e

  taken_or_waits_law : (s : Object) (timeout : ℤ) → Take (done_or_wait k w p (nat_lt 0 (semaphore w o).count) (counted w o) (wait.Semaphore o) timeout) s (o.number == s.number)
  taken_or_waits_law s timeout =
      cond_both (nat_lt 0 (semaphore w o).count) _ _ (λ did. Take did s (o.number == s.number)) (λ e. counted_law e s)
      (λ _. cond_both (is_zero timeout) _ _ (λ did. Take did s (o.number == s.number)) (λ _. nothing_taken w s (o.number == s.number) refl)
      (λ _. nothing_taken (begin_wait k w (caller w p) (wait.Semaphore o) (ticks_of timeout)) s (o.number == s.number) refl))

module _ {Q : Type 0} (k : Ordering Q) (w : World Q) (p : Proc) (s : Object) (few : length w.semaphores ≤ 32) where
  abbrev named_by : ℤ → Object
  named_by id = unwrap_or (object_named w.semaphores id) (as_object 1)

  abbrev CallCounts : Call → World Q × Effect → Type 0
  CallCounts c did = Counts w s did.0 (report (event.Call p c) (runner_of w p) did.1)

  refused_counts : (c : Call) (x : Code) → refuses x ≡ true → CallCounts c (w, refused x)
  refused_counts c x e = nothing_granted w s (report (event.Call p c) (runner_of w p) (refused x)) (not_accepted x e)

  -- what a call does, by its argument
  abbrev SignalBy : ℤ → World Q × Effect → Type 0
  SignalBy id did =
      (semaphore w s).count + (if names s id then one_if (is_accepted did.1.answer) else 0)
      ≡ (semaphore did.0 s).count + (if names s id then (if is_accepted did.1.answer then length did.1.releases else 0) else 0)

  abbrev TakeBy : ℤ → World Q × Effect → Type 0
  TakeBy id did = (semaphore w s).count + 0 ≡ (semaphore did.0 s).count + (if names s id then one_if (is_accepted did.1.answer) else 0)

  signals_law : (id : ℤ) → is_some (object_named w.semaphores id) ≡ true → SignalBy id (signal k w (named_by id) (first (queue k w kind.Semaphore (named_by id))))
  signals_law id known =
      let o = object_known w.semaphores id few known in
      rw (o.names s) (signal_law k w p (named_by id) o.within (first (queue k w kind.Semaphore (named_by id))) s)

  takes_law : (id timeout : ℤ) → is_some (object_named w.semaphores id) ≡ true →
      TakeBy id (done_or_wait k w p (nat_lt 0 (semaphore w (named_by id)).count) (counted w (named_by id)) (wait.Semaphore (named_by id)) timeout)
  takes_law id timeout known =
      let o = object_known w.semaphores id few known in
      rw (o.names s) (taken_or_waits_law k w p (named_by id) o.within s timeout)

  polls_law : (id : ℤ) → is_some (object_named w.semaphores id) ≡ true → ((semaphore w (named_by id)).count == 0) ≡ false → TakeBy id (counted w (named_by id))
  polls_law id known some =
      let o = object_known w.semaphores id few known in
      let positive : 0 < (semaphore w (named_by id)).count = omega (arith, eqb-false (semaphore w (named_by id)).count 0 some) in
      rw (o.names s) (counted_law k w p (named_by id) o.within (lt-ltb 0 (semaphore w (named_by id)).count positive) s)

  counts_sync : (c : SyncCall) → CallCounts (call.Sync c) (called w p (sync_row k w p c))
  unfolding sig_sem twai_sem pol_sem
  counts_sync (sync.SigSem id) =
      let c = call.Sync (sync.SigSem id) in
      by_called w p (CallCounts c) (sig_sem k w id) (refl, tt) (refused_counts c) (λ a. signals_law id a.known)
  counts_sync (sync.IsigSem id) =
      let c = call.Sync (sync.IsigSem id) in
      by_called w p (CallCounts c) (in_handler (sig_sem k w id)) (refl, tt) (refused_counts c) (λ a. signals_law id a.known)
  counts_sync (sync.WaiSem id) =
      let c = call.Sync (sync.WaiSem id) in
      by_called w p (CallCounts c) (twai_sem k w p id forever) tt (refused_counts c) (λ a. takes_law id forever a.known)
  counts_sync (sync.TwaiSem id timeout) =
      let c = call.Sync (sync.TwaiSem id timeout) in
      by_called w p (CallCounts c) (twai_sem k w p id timeout) tt (refused_counts c) (λ a. takes_law id timeout a.known)
  counts_sync (sync.PolSem id) =
      let c = call.Sync (sync.PolSem id) in
      by_called w p (CallCounts c) (pol_sem w id) (refl, tt) (refused_counts c) (λ a. polls_law id a.known a.errors.0)
  counts_sync c = untouched w s (called w p (sync_row k w p c)).0 (leaves_call k w p (call.Sync c)).semaphores

  abbrev after : Call → World Q
  after c = (called w p (row_of k w p c)).0

  counts_call : (c : Call) → CallCounts c (called w p (row_of k w p c))
  counts_call (call.Sync c) = counts_sync c
  counts_call (call.Buffer (buffer.RcvDtq id)) = untouched w s (after (call.Buffer (buffer.RcvDtq id))) (leaves_call k w p (call.Buffer (buffer.RcvDtq id))).semaphores
  counts_call (call.Buffer c) = untouched w s (after (call.Buffer c)) (leaves_call k w p (call.Buffer c)).semaphores
  counts_call c = untouched w s (after c) (leaves_call k w p c).semaphores

-- each step keeps the count and what was granted beside what was brought
pub counts_step : {Q : Type 0} (k : Ordering Q) (s : Object) (w : World Q) → length w.semaphores ≤ 32 → (e : Event) → Counts w s (step k w e).0 (step k w e).1
counts_step k s w few e =
    by_step k w (Counts w s) (λ v cs r x ps h. h) (λ p c. counts_call k w p s few c) (λ p c none. nothing_granted w s (report (event.Call p c) (runner_of w p) (plain answer.Idle)) refl)
    (λ p. untouched w s (tick k w p).0 (leaves_tick k w p).semaphores) (λ e r a no_call no_e. nothing_granted w s (report e r (plain a)) no_e) e
