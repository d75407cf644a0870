-- What each call leaves of the time of alarms and cyclic handlers.
use Rattle.std.proofs.Common.{◌≡◌, ℕ, ◌≤◌, ℤ, Bool, true, false, ◌&&◌, length, refl, sym, ap, ◌∙◌, subst, Option, None, ◌+◌, Some, List}
use Rattle.std.specs.Prelude.{if◌then◌else◌, is_some, unwrap_or}
use Rattle.std.proofs.lemmas.Bool.{cond-false, and_parts, and_right}
use Rattle.std.proofs.lemmas.List.{length-set}
use Rattle.std.proofs.Math.Bool.{and-true}
use Rattle.fmp_codes.specs.Numbers.{as_object, as_proc}
use Rattle.fmp_codes.specs.declared.numbers.Proc.{Proc}
use Rattle.fmp_codes.specs.declared.numbers.Object.{Object}
use Rattle.fmp_codes.specs.declared.calls.Call.{Call}
use Rattle.fmp_codes.specs.declared.calls.Call.TheVariants as call
use Rattle.fmp_codes.specs.declared.calls.TimeCall.{TimeCall}
use Rattle.fmp_codes.specs.declared.calls.TimeCall.TheVariants as time
use Rattle.fmp_codes.specs.declared.codes.Code.{Code}
use Rattle.fmp_codes.specs.declared.records.Answer.TheVariants as answer
use Rattle.fmp_codes.specs.declared.records.Event.{Event}
use Rattle.fmp_codes.specs.declared.records.Event.TheVariants as event
use Rattle.fmp_codes.specs.declared.records.Runner.{Runner}
use Rattle.fmp_rules.specs.Effects.{Effect}
use Rattle.fmp_rules.specs.World.{World, item, with_item, runner_of}
use Rattle.fmp_rules.specs.Ordering.{Ordering}
use Rattle.fmp_rules.specs.Rows.{called, refused, plain, in_handler}
use Rattle.fmp_rules.specs.Arguments.{object_named, ticks_of, processor_or_initial}
use Rattle.fmp_rules.specs.TimeCalls.{sta_cyc, msta_cyc, stp_cyc, sta_alm, msta_alm, stp_alm, time_row, with_cyclic_at}
use Rattle.fmp_rules.specs.Step.{row_of}
use Rattle.fmp_law_safety.proofs.Items.{item_same, item_other, item_after}
use Rattle.fmp_law_balance.specs.Accepted.{is_accepted, names}
use Rattle.fmp_law_balance.proofs.Called.{refuses, by_called, either_way, not_accepted}
use Rattle.fmp_law_balance.proofs.Objects.{IsNamed, object_known, by_object}
use Rattle.fmp_law_balance.proofs.Steps.{report}
use Rattle.fmp_law_balance.specs.Waits.Waits.{is_tick_for}
use Rattle.fmp_rules.specs.Objects.{alarm, cyclic}
use Rattle.fmp_law_balance.proofs.waits.Named.{ticks_same}
use Rattle.fmp_law_balance.specs.Waits.Meanings.{ticks_in}
use Rattle.fmp_law_records.specs.Counts.Alarms.{starts_alarm, stops_alarm, without_tick, alarm_left_after, alarm_time}
use Rattle.fmp_setup.specs.declared.setup.CyclicSetup.{CyclicSetup}
use Rattle.fmp_rules.specs.declared.machine.Cyclic.{Cyclic}
use Rattle.fmp_law_records.specs.Counts.Cyclics.{starts_cyclic, stops_cyclic, cyclic_left_after}
use Rattle.fmp_setup.specs.declared.setup.Timer.{Timer}
use Rattle.fmp_law_balance.proofs.waits.Events.{untaken}
use Rattle.fmp_law_records.proofs.Rows.{time_rows}
use Rattle.fmp_law_records.proofs.counts.Sparing.{Clock, clock}
use Rattle.fmp_law_records.proofs.counts.SparesCalls.{clock_call}

-- so much is put in the place of an object that an argument names
put_named : {X : Type 0} (xs : List X) (counts : List (Option ℕ)) (a : Object) → length xs ≤ 32 → length counts ≡ length xs → (id : ℤ) (left : Object → Option ℕ) → is_some (object_named xs id) ≡ true →
    item None (with_item counts (unwrap_or (object_named xs id) (as_object 1)).number (left (unwrap_or (object_named xs id) (as_object 1)))) a.number ≡ (if names a id && true then left a else item None counts a.number)
put_named xs counts a few same id left known =
    let o : Object = unwrap_or (object_named xs id) (as_object 1) in
    let named : IsNamed xs id o = object_known xs id few known in
    subst (λ (b : Bool). item None (with_item counts o.number (left o)) a.number ≡ (if b then left a else item None counts a.number)) (sym (and-true (names a id) ∙ named.names a))
    (by_object (λ x b. item None (with_item counts o.number (left o)) x.number ≡ (if b then left x else item None counts x.number)) o a (item_same None counts o.number (left o) o.least (rw same named.within.1))
    (λ d. item_other None counts o.number (left o) a.number a.least o.least (λ e. d (sym e))))

-- a call that is refused leaves the time
refused_time : (b : Bool) (before left : Option ℕ) (c : Code) → refuses c ≡ true → before ≡ (if b && is_accepted (refused c).answer then left else before)
refused_time b before left c e = sym (cond-false (b && is_accepted (refused c).answer) left before (and_right b _ (not_accepted c e)))

-- and so does an event that nobody takes
idle_left : (timer : Timer) (q : Proc) (starts stops : Bool) (begun fewer left : Option ℕ) (e : Event) →
    (if starts && false then begun else if stops && false then None else if is_tick_for timer q answer.Idle e then fewer else left) ≡ left
idle_left timer q starts stops begun fewer left e =
    cond-false (starts && false) _ _ (and_right starts false refl) ∙ cond-false (stops && false) _ _ (and_right stops false refl) ∙ cond-false (is_tick_for timer q answer.Idle e) fewer left (untaken timer q answer.Idle e refl)

pub idle_time : {Q : Type 0} (w : World Q) (a : Object) (r : Option Runner) (e : Event) (left : Option ℕ) → alarm_left_after w a (report e r (plain answer.Idle)) left ≡ left
idle_time w a r e left = idle_left w.timer (alarm w a).assigned (starts_alarm a e) (stops_alarm a e) (ticks_in (alarm_time e)) (without_tick None left) left e

pub idle_cyclic_time : {Q : Type 0} (w : World Q) (c : Object) (r : Option Runner) (e : Event) (left : Option ℕ) → cyclic_left_after w c (report e r (plain answer.Idle)) left ≡ left
idle_cyclic_time w c r e left = idle_left w.timer (cyclic w c).assigned (starts_cyclic c e) (stops_cyclic c e) (Some ((cyclic w c).setup.phase + 1)) (without_tick (Some (cyclic w c).setup.period) left) left e

-- Alarms.

module _ {Q : Type 0} (k : Ordering Q) (w : World Q) (p : Proc) (a : Object) (few : length w.alarms ≤ 32) (same : length w.alarms_left ≡ length w.alarms) where
  abbrev CallTimes : Call → World Q × Effect → Type 0
  CallTimes c did = item None did.0.alarms_left a.number ≡ alarm_left_after w a (report (event.Call p c) (runner_of w p) did.1) (item None w.alarms_left a.number)

  abbrev Put : ℤ → Option ℕ → World Q × Effect → Type 0
  Put id left did = item None did.0.alarms_left a.number ≡ (if names a id && is_accepted did.1.answer then left else item None w.alarms_left a.number)

  not_put : (id : ℤ) (left : Option ℕ) (c : Code) → refuses c ≡ true → Put id left (w, refused c)
  not_put id left = refused_time (names a id) (item None w.alarms_left a.number) left

  as_told : (id time : ℤ) (did : World Q × Effect) → Put id (ticks_of time) did → Put id (ticks_in time) did
  as_told id time did put = put ∙ ap (λ left. if names a id && is_accepted did.1.answer then left else item None w.alarms_left a.number) (sym (ticks_same time))

  times_time : (c : TimeCall) → CallTimes (call.Time c) (called w p (time_row w c))
  unfolding time_rows
  times_time (time.StaAlm id after) =
      as_told id after (called w p (sta_alm w id after))
      (by_called w p (Put id (ticks_of after)) (sta_alm w id after) tt (not_put id (ticks_of after)) (λ x. put_named w.alarms w.alarms_left a few same id (λ o. ticks_of after) x.known))
  times_time (time.IstaAlm id after) =
      as_told id after (called w p (in_handler (sta_alm w id after)))
      (by_called w p (Put id (ticks_of after)) (in_handler (sta_alm w id after)) tt (not_put id (ticks_of after)) (λ x. put_named w.alarms w.alarms_left a few same id (λ o. ticks_of after) x.known))
  times_time (time.MstaAlm id after q) =
      as_told id after (called w p (msta_alm w id after q))
      (by_called w p (Put id (ticks_of after)) (msta_alm w id after q) tt (not_put id (ticks_of after))
      (λ x. put_named w.alarms w.alarms_left a few same id (λ o. ticks_of after) (and_parts (is_some (object_named w.alarms id)) _ x.known).0))
  times_time (time.ImstaAlm id after q) =
      as_told id after (called w p (in_handler (msta_alm w id after q)))
      (by_called w p (Put id (ticks_of after)) (in_handler (msta_alm w id after q)) tt (not_put id (ticks_of after))
      (λ x. put_named w.alarms w.alarms_left a few same id (λ o. ticks_of after) (and_parts (is_some (object_named w.alarms id)) _ x.known).0))
  times_time (time.StpAlm id) = by_called w p (Put id None) (stp_alm w id) tt (not_put id None) (λ x. put_named w.alarms w.alarms_left a few same id (λ o. None) x.known)
  times_time (time.IstpAlm id) = by_called w p (Put id None) (in_handler (stp_alm w id)) tt (not_put id None) (λ x. put_named w.alarms w.alarms_left a few same id (λ o. None) x.known)
  times_time c = either_way w p (λ did. item None did.0.alarms_left a.number ≡ item None w.alarms_left a.number) (time_row w c) (λ x. refl) refl

  pub times_call : (c : Call) → CallTimes c (called w p (row_of k w p c))
  times_call (call.Time c) = times_time c
  times_call c = ap (λ (x : Clock). item None x.alarms_left a.number) (clock_call k w p c refl)

-- Cyclic handlers.

module _ {Q : Type 0} (k : Ordering Q) (w : World Q) (p : Proc) (c : Object) (few : length w.cyclics ≤ 32) (same : length w.cyclics_left ≡ length w.cyclics) where
  abbrev CyclicTimes : Call → World Q × Effect → Type 0
  CyclicTimes x did = item None did.0.cyclics_left c.number ≡ cyclic_left_after w c (report (event.Call p x) (runner_of w p) did.1) (item None w.cyclics_left c.number)

  abbrev phase_and_one : Object → Option ℕ
  phase_and_one o = Some ((cyclic w o).setup.phase + 1)

  -- a cyclic handler that is assigned to another processor has its phase
  phase_kept : (o : Object) (q : Proc) → (cyclic (with_cyclic_at w o q) o).setup ≡ (cyclic w o).setup
  phase_kept o q = item_after _ w.cyclics o.number (record (cyclic w o) { assigned = q }) (λ (x : Cyclic). x.setup ≡ (cyclic w o).setup) o.number (λ i. refl) refl

  abbrev PutCyclic : ℤ → Option ℕ → World Q × Effect → Type 0
  PutCyclic id left did = item None did.0.cyclics_left c.number ≡ (if names c id && is_accepted did.1.answer then left else item None w.cyclics_left c.number)

  cyclic_not_put : (id : ℤ) (left : Option ℕ) (x : Code) → refuses x ≡ true → PutCyclic id left (w, refused x)
  cyclic_not_put id left = refused_time (names c id) (item None w.cyclics_left c.number) left

  cyclic_times_time : (x : TimeCall) → CyclicTimes (call.Time x) (called w p (time_row w x))
  unfolding time_rows
  cyclic_times_time (time.StaCyc id) = by_called w p (PutCyclic id (phase_and_one c)) (sta_cyc w id) tt (cyclic_not_put id (phase_and_one c)) (λ a. put_named w.cyclics w.cyclics_left c few same id phase_and_one a.known)
  cyclic_times_time (time.MstaCyc id q) =
      let o : Object = unwrap_or (object_named w.cyclics id) (as_object 1) in
      let to : Proc = unwrap_or (processor_or_initial w (cyclic w o).setup.class q) (as_proc 1) in
      by_called w p (PutCyclic id (phase_and_one c)) (msta_cyc w id q) tt (cyclic_not_put id (phase_and_one c))
      (λ a.
      ap (λ (s : CyclicSetup). item None (with_item w.cyclics_left o.number (Some (s.phase + 1))) c.number) (phase_kept o to)
      ∙ put_named w.cyclics w.cyclics_left c few same id phase_and_one (and_parts (is_some (object_named w.cyclics id)) _ a.known).0)
  cyclic_times_time (time.StpCyc id) = by_called w p (PutCyclic id None) (stp_cyc w id) tt (cyclic_not_put id None) (λ a. put_named w.cyclics w.cyclics_left c few same id (λ o. None) a.known)
  cyclic_times_time x = either_way w p (λ did. item None did.0.cyclics_left c.number ≡ item None w.cyclics_left c.number) (time_row w x) (λ y. refl) refl

  pub cyclic_times_call : (x : Call) → CyclicTimes x (called w p (row_of k w p x))
  cyclic_times_call (call.Time x) = cyclic_times_time x
  cyclic_times_call x = ap (λ (y : Clock). item None y.cyclics_left c.number) (clock_call k w p x refl)

-- There are as many alarms and cyclic handlers after each call, and as many counts.
module _ {Q : Type 0} (w : World Q) where
  pub record Clocks (v : World Q) : Type 0 where
    pub alarms : length v.alarms ≡ length w.alarms
    pub alarms_left : length v.alarms_left ≡ length w.alarms_left
    pub cyclics : length v.cyclics ≡ length w.cyclics
    pub cyclics_left : length v.cyclics_left ≡ length w.cyclics_left
    pub due : length v.due ≡ length w.due

  pub clocks_all : Clocks w
  clocks_all = record { alarms = refl; alarms_left = refl; cyclics = refl; cyclics_left = refl; due = refl }

  pub clocks_same : (v : World Q) → clock v ≡ clock w → Clocks v
  clocks_same v e = record {
    alarms = ap (λ (c : Clock). length c.alarms) e;
    alarms_left = ap (λ (c : Clock). length c.alarms_left) e;
    cyclics = ap (λ (c : Clock). length c.cyclics) e;
    cyclics_left = ap (λ (c : Clock). length c.cyclics_left) e;
    due = ap (λ (c : Clock). c.due) e;
  }

  module _ (k : Ordering Q) (p : Proc) where
    abbrev ClocksIn : World Q × Effect → Type 0
    ClocksIn did = Clocks did.0

    clocks_time : (c : TimeCall) → ClocksIn (called w p (time_row w c))
    unfolding time_rows
    clocks_time (time.StaCyc id) =
        either_way w p ClocksIn (time_row w (time.StaCyc id)) (λ c. clocks_all) (record { alarms = refl; alarms_left = refl; cyclics = refl; cyclics_left = length-set w.cyclics_left _ _; due = refl })
    clocks_time (time.MstaCyc id q) =
        either_way w p ClocksIn (time_row w (time.MstaCyc id q)) (λ c. clocks_all)
        (record { alarms = refl; alarms_left = refl; cyclics = length-set w.cyclics _ _; cyclics_left = length-set w.cyclics_left _ _; due = refl })
    clocks_time (time.StpCyc id) =
        either_way w p ClocksIn (time_row w (time.StpCyc id)) (λ c. clocks_all) (record { alarms = refl; alarms_left = refl; cyclics = refl; cyclics_left = length-set w.cyclics_left _ _; due = refl })
    clocks_time (time.MstaAlm id after q) =
        either_way w p ClocksIn (time_row w (time.MstaAlm id after q)) (λ c. clocks_all)
        (record { alarms = length-set w.alarms _ _; alarms_left = length-set w.alarms_left _ _; cyclics = refl; cyclics_left = refl; due = refl })
    clocks_time (time.ImstaAlm id after q) =
        either_way w p ClocksIn (time_row w (time.ImstaAlm id after q)) (λ c. clocks_all)
        (record { alarms = length-set w.alarms _ _; alarms_left = length-set w.alarms_left _ _; cyclics = refl; cyclics_left = refl; due = refl })
    clocks_time c =
        either_way w p ClocksIn (time_row w c) (λ x. clocks_all) (record { alarms = refl; alarms_left = length-set w.alarms_left _ _; cyclics = refl; cyclics_left = refl; due = refl })

    pub clocks_call : (c : Call) → ClocksIn (called w p (row_of k w p c))
    clocks_call (call.Time c) = clocks_time c
    clocks_call c = clocks_same _ (clock_call k w p c refl)
