-- Where an alarm is assigned and what is left of its time is what the records alone say.
use Rattle.std.proofs.Common.{◌≡◌, ℕ, ◌≤◌, ◌==◌, ℤ, pos, negsuc, Bool, true, ◌&&◌, List, length, refl, sym, ap, ◌∙◌, subst, Option, Some, None}
use Rattle.std.specs.Prelude.{if◌then◌else◌, is_some, unwrap_or, nat_le, option_map}
use Rattle.std.proofs.lemmas.Bool.{cond_both, cond-true, cond-false, and_parts, false≢true}
use Rattle.fmp_codes.specs.Numbers.{as_proc, as_object}
use Rattle.fmp_codes.specs.declared.numbers.Proc.{Proc}
use Rattle.fmp_codes.specs.declared.numbers.Object.{Object}
use Rattle.fmp_codes.specs.declared.numbers.Task.{Task}
use Rattle.fmp_codes.specs.declared.calls.Call.{Call}
use Rattle.fmp_codes.specs.declared.calls.Call.TheVariants as call
use Rattle.fmp_codes.specs.declared.calls.TimeCall.{TimeCall}
use Rattle.fmp_codes.specs.declared.calls.TimeCall.TheVariants as time
use Rattle.fmp_codes.specs.declared.codes.Code.{Code}
use Rattle.fmp_codes.specs.declared.records.Answer.{Answer}
use Rattle.fmp_codes.specs.declared.records.Event.TheVariants as event
use Rattle.fmp_setup.specs.declared.setup.Class.{Class}
use Rattle.fmp_rules.specs.declared.machine.Alarm.{Alarm}
use Rattle.fmp_rules.specs.Effects.{Effect}
use Rattle.fmp_rules.specs.World.{World, item, with_item}
use Rattle.fmp_rules.specs.Objects.{alarm, no_alarm}
use Rattle.fmp_rules.specs.Ordering.{Ordering}
use Rattle.fmp_rules.specs.Rows.{called, refused, in_handler}
use Rattle.fmp_rules.specs.Arguments.{object_named, processor_named, processor_or_initial, ticks_of}
use Rattle.fmp_rules.specs.Tick.{tick, ticked, counted_down, released, tasks_expired, with_handlers_due, alarms_due, expired}
use Rattle.fmp_rules.specs.TimeCalls.{with_alarm_at, with_alarm_left, msta_alm, time_row}
use Rattle.fmp_rules.specs.Step.{row_of}
use Rattle.fmp_law_safety.proofs.Items.{item_same, item_other}
use Rattle.fmp_law_safety.proofs.KeepsDue.{alarms_keep, cyclics_keep, released_keep}
use Rattle.fmp_law_balance.specs.Accepted.{is_accepted, names}
use Rattle.fmp_law_balance.proofs.Called.{refuses, by_called, either_way, not_accepted}
use Rattle.fmp_law_balance.proofs.Objects.{IsNamed, object_known, by_object}
use Rattle.fmp_law_records.proofs.Rows.{time_rows}
use Rattle.fmp_law_records.proofs.counts.SparesCalls.{clock_call}
use Rattle.fmp_law_records.proofs.counts.Sparing.{Clock}
use Rattle.fmp_law_records.specs.Handlers.{takes_alarm, taken_to}

-- the processor that is named is the one that the machine takes
pub taken_is : {Q : Type 0} (w : World Q) (class : Class) (id : ℤ) (before : Proc) → is_some (processor_or_initial w class id) ≡ true → unwrap_or (processor_or_initial w class id) (as_proc 1) ≡ taken_to class (Some id) before
taken_is w class (negsuc n) before known = absurd (false≢true known)
taken_is w class (pos n) before known =
    cond_both (n == 0) (Some class.initial) (processor_named w (pos n)) (λ (o : Option Proc). is_some o ≡ true → unwrap_or o (as_proc 1) ≡ taken_to class (Some (pos n)) before)
    (λ zero_ _. sym (cond-true (n == 0) class.initial (as_proc n) zero_))
    (λ other h.
    cond_both (nat_le 1 n && nat_le n (length w.processors)) (Some n) None (λ (o : Option ℕ). is_some (option_map as_proc o) ≡ true → unwrap_or (option_map as_proc o) (as_proc 1) ≡ taken_to class (Some (pos n)) before)
    (λ _ _. sym (cond-false (n == 0) class.initial (as_proc n) other)) (λ _ bad. absurd (false≢true bad)) h) known

abbrev pub at_with : Class → Answer → Option ℤ → Proc → Proc
at_with class a to q = if is_accepted a then taken_to class to q else q

pub untaken : (class : Class) (a : Answer) (q : Proc) → at_with class a None q ≡ q
untaken class a q = cond_both (is_accepted a) q q (λ x. x ≡ q) (λ _. refl) (λ _. refl)

pub tick_alarms : {Q : Type 0} (k : Ordering Q) (w : World Q) (p : Proc) → (tick k w p).0.alarms ≡ w.alarms
unfolding counted_down ticked with_handlers_due
tick_alarms k w p =
    let v : World _ = counted_down w p in
    let ts : List Task = tasks_expired v.waits_left (k.timed v.order v.waits_left) in
    let u : World _ = (released k v ts).0 in
    let S : World _ → Type 0 = λ x. x.alarms ≡ w.alarms in
    cyclics_keep p S (λ x c h. h) (alarms_due u p (expired u.alarms_left u.alarms)) (expired u.cyclics_left u.cyclics) (alarms_keep p S (λ x a h. h) u (expired u.alarms_left u.alarms) (released_keep p S k (λ x t h. h) v ts refl))

module _ {Q : Type 0} (k : Ordering Q) (w : World Q) (p : Proc) (a : Object) (few : length w.alarms ≤ 32) where
  abbrev now : Alarm
  now = alarm w a

  pub record AlarmReported (c : Call) (did : World Q × Effect) : Type 0 where
    pub here : alarm did.0 a ≡ record now { assigned = at_with now.setup.class did.1.answer (takes_alarm a (event.Call p c)) now.assigned }

  left_reported : (c : Call) (did : World Q × Effect) → did.0.alarms ≡ w.alarms → at_with now.setup.class did.1.answer (takes_alarm a (event.Call p c)) now.assigned ≡ now.assigned → AlarmReported c did
  left_reported c did e same = record { here = ap (λ xs. item (record { setup = no_alarm; assigned = as_proc 1 }) xs a.number) e ∙ ap (λ q. record now { assigned = q }) (sym same) }

  moved : (c : Call) (id to : ℤ) (left : Option ℕ) → takes_alarm a (event.Call p c) ≡ (if names a id then Some to else None) → is_some (object_named w.alarms id) ≡ true →
      is_some (processor_or_initial w (alarm w (unwrap_or (object_named w.alarms id) (as_object 1))).setup.class to) ≡ true →
      let o = unwrap_or (object_named w.alarms id) (as_object 1) in
      alarm (with_alarm_left (with_alarm_at w o (unwrap_or (processor_or_initial w (alarm w o).setup.class to) (as_proc 1))) o left) a ≡ record now { assigned = taken_to now.setup.class (takes_alarm a (event.Call p c)) now.assigned }
  moved c id to left takes known there =
      let o : Object = unwrap_or (object_named w.alarms id) (as_object 1) in
      let named : IsNamed w.alarms id o = object_known w.alarms id few known in
      let blank : Alarm = record { setup = no_alarm; assigned = as_proc 1 } in
      let q : Proc = unwrap_or (processor_or_initial w (alarm w o).setup.class to) (as_proc 1) in
      let y : Alarm = record (alarm w o) { assigned = q } in
      rw takes
      (subst (λ (b : Bool). item blank (with_item w.alarms o.number y) a.number ≡ record now { assigned = taken_to now.setup.class (if b then Some to else None) now.assigned }) (sym (named.names a))
      (by_object (λ x b. item blank (with_item w.alarms o.number y) x.number ≡ record (alarm w x) { assigned = taken_to (alarm w x).setup.class (if b then Some to else None) (alarm w x).assigned }) o a
      (item_same blank w.alarms o.number y o.least named.within.1 ∙ ap (λ z. record (alarm w o) { assigned = z }) (taken_is w (alarm w o).setup.class to (alarm w o).assigned there))
      (λ d. item_other blank w.alarms o.number y a.number a.least o.least (λ e. d (sym e)))))

  not_moved : (c : Call) (x : Code) → refuses x ≡ true → AlarmReported c (w, refused x)
  not_moved c x e = left_reported c (w, refused x) refl (cond-false (is_accepted (refused x).answer) _ _ (not_accepted x e))

  time_reported : (c : TimeCall) → AlarmReported (call.Time c) (called w p (time_row w c))
  unfolding time_rows
  time_reported (time.MstaAlm id after q) = by_called w p (AlarmReported (call.Time (time.MstaAlm id after q))) (msta_alm w id after q) tt (not_moved (call.Time (time.MstaAlm id after q)))
      (λ x. let known = and_parts (is_some (object_named w.alarms id)) _ x.known in record { here = moved (call.Time (time.MstaAlm id after q)) id q (ticks_of after) refl known.0 known.1 })
  time_reported (time.ImstaAlm id after q) = by_called w p (AlarmReported (call.Time (time.ImstaAlm id after q))) (in_handler (msta_alm w id after q)) tt (not_moved (call.Time (time.ImstaAlm id after q)))
      (λ x. let known = and_parts (is_some (object_named w.alarms id)) _ x.known in record { here = moved (call.Time (time.ImstaAlm id after q)) id q (ticks_of after) refl known.0 known.1 })
  time_reported c = either_way w p (AlarmReported (call.Time c)) (time_row w c) (λ x. left_reported (call.Time c) (w, refused x) refl (untaken now.setup.class (refused x).answer now.assigned)) (left_reported (call.Time c) (time_row w c).effect refl (untaken now.setup.class (time_row w c).effect.1.answer now.assigned))

  pub alarm_call : (c : Call) → AlarmReported c (called w p (row_of k w p c))
  alarm_call (call.Time c) = time_reported c
  alarm_call c = left_reported c (called w p (row_of k w p c)) (ap (λ (x : Clock). x.alarms) (clock_call k w p c refl)) (untaken now.setup.class (called w p (row_of k w p c)).1.answer now.assigned)
