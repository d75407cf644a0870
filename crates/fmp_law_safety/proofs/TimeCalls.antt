-- The calls on cyclic handlers and alarms keep a state safe, and tell only of what there is.
use Rattle.std.proofs.Common.{◌≡◌, ℕ, ℤ, ◌+◌, true, List, length, refl, arith, Option, Some, None}
use Rattle.std.specs.Prelude.{unwrap_or}
use Rattle.std.proofs.lemmas.Bool.{and_parts}
use Rattle.std.proofs.lemmas.List.{length-set}
use Rattle.fmp_codes.specs.Numbers.{as_proc, as_object}
use Rattle.fmp_codes.specs.declared.numbers.Proc.{Proc}
use Rattle.fmp_codes.specs.declared.numbers.Object.{Object}
use Rattle.fmp_codes.specs.declared.calls.TimeCall.{TimeCall}
use Rattle.fmp_codes.specs.declared.calls.TimeCall.TheVariants as call
use Rattle.fmp_codes.specs.declared.codes.Code.TheVariants as code
use Rattle.fmp_codes.specs.declared.records.Answer.TheVariants as answer
use Rattle.fmp_rules.specs.declared.machine.Context.{Context}
use Rattle.fmp_rules.specs.declared.machine.Context.TheVariants as context
use Rattle.fmp_rules.specs.declared.machine.Cyclic.{Cyclic}
use Rattle.fmp_rules.specs.declared.machine.Alarm.{Alarm}
use Rattle.fmp_setup.specs.Setup.{has_member}
use Rattle.fmp_rules.specs.World.{World}
use Rattle.fmp_rules.specs.Objects.{cyclic, alarm}
use Rattle.fmp_rules.specs.Ordering.{Ordering}
use Rattle.fmp_rules.specs.Rows.{done, called}
use Rattle.fmp_rules.specs.Arguments.{object_named, processor_or_initial, ticks_of}
use Rattle.fmp_rules.specs.TimeCalls.{with_cyclic_left, with_alarm_left, with_cyclic_at, with_alarm_at, begun, sta_cyc, msta_cyc, stp_cyc, sta_alm, msta_alm, stp_alm, time_row}
use Rattle.fmp_law_safety.specs.Safe.{IsNumberOf, TicksInRange, CyclicInRange, AlarmInRange, Safe}
use Rattle.fmp_law_safety.specs.Counts.{Counts, HasCounts}
use Rattle.fmp_law_safety.proofs.Items.{item_after, all_after, item_holds}
use Rattle.fmp_law_safety.proofs.Rests.{Rests, rests_beside}
use Rattle.fmp_law_safety.proofs.Keeps.{Occupied, KeepsOthers, keeps_then, keeps_objects}
use Rattle.fmp_law_safety.proofs.Calls.{from, Accepts, keeps_called, occupied_at}
use Rattle.fmp_law_safety.proofs.KeepsWords.{time_in_range}
use Rattle.fmp_law_safety.proofs.Counted.{counts_objects}
use Rattle.fmp_law_safety.proofs.Tells.{Tells, tells_plain}

module _ {Q : Type 0} (w : World Q) where
  -- the phase of every cyclic handler, and its period, are in range
  pub phase_in_range : Rests w → (c : Object) → TicksInRange (Some ((cyclic w c).setup.phase + 1))
  phase_in_range r c =
      item_holds (λ (x : Cyclic). TicksInRange (Some (x.setup.phase + 1))) _ w.cyclics c.number (omega arith, omega arith)
      (λ i d h. let most = (r.in_range.cyclics i d h).phase in (omega arith, omega (arith, most)))

  pub period_in_range : Rests w → (c : Object) → TicksInRange (Some (cyclic w c).setup.period)
  period_in_range r c =
      item_holds (λ (x : Cyclic). TicksInRange (Some x.setup.period)) _ w.cyclics c.number (omega arith, omega arith) (λ i d h. (r.in_range.cyclics i d h).period)

module _ {Q : Type 0} (w : World Q) (p : Proc) (o : Occupied w p) where
  pub keeps_cyclic_left : (c : Object) (left : Option ℕ) → (Rests w → TicksInRange left) → KeepsOthers w (with_cyclic_left w c left) p
  keeps_cyclic_left c left ticks =
      keeps_objects w p w.semaphores w.eventflags w.contents w.pools w.cyclics (with_cyclic_left w c left).cyclics_left w.alarms w.alarms_left o
      (λ r. rests_beside w w.waits_left w.processors w.due w.cyclics (with_cyclic_left w c left).cyclics_left w.alarms w.alarms_left w.holders r.in_range.cyclics r.in_range.alarms r.in_range.locked r.in_range.one_lock r)
      (λ r d h. item_after None w.cyclics_left c.number left TicksInRange d.number (λ _. ticks r) h) (λ a h. h)

  pub keeps_alarm_left : (a : Object) (left : Option ℕ) → TicksInRange left → KeepsOthers w (with_alarm_left w a left) p
  keeps_alarm_left a left ticks =
      keeps_objects w p w.semaphores w.eventflags w.contents w.pools w.cyclics w.cyclics_left w.alarms (with_alarm_left w a left).alarms_left o
      (λ r. rests_beside w w.waits_left w.processors w.due w.cyclics w.cyclics_left w.alarms (with_alarm_left w a left).alarms_left w.holders r.in_range.cyclics r.in_range.alarms r.in_range.locked r.in_range.one_lock r)
      (λ r d h. h) (λ b h. item_after None w.alarms_left a.number left TicksInRange b.number (λ _. ticks) h)

  keeps_cyclic_at : (c : Object) (to : Proc) → has_member (cyclic w c).setup.class to ≡ true → KeepsOthers w (with_cyclic_at w c to) p
  keeps_cyclic_at c to member =
      keeps_objects w p w.semaphores w.eventflags w.contents w.pools (with_cyclic_at w c to).cyclics w.cyclics_left w.alarms w.alarms_left o
      (λ r. rests_beside w w.waits_left w.processors w.due (with_cyclic_at w c to).cyclics w.cyclics_left w.alarms w.alarms_left w.holders
      (all_after _ w.cyclics c.number _ (CyclicInRange w.timer) (λ h. record { assigned = member; served = h.served; period = h.period; phase = h.phase }) r.in_range.cyclics)
      r.in_range.alarms r.in_range.locked r.in_range.one_lock r)
      (λ r d h. h) (λ a h. h)

  keeps_alarm_at : (a : Object) (to : Proc) → has_member (alarm w a).setup.class to ≡ true → KeepsOthers w (with_alarm_at w a to) p
  keeps_alarm_at a to member =
      keeps_objects w p w.semaphores w.eventflags w.contents w.pools w.cyclics w.cyclics_left (with_alarm_at w a to).alarms w.alarms_left o
      (λ r. rests_beside w w.waits_left w.processors w.due w.cyclics w.cyclics_left (with_alarm_at w a to).alarms w.alarms_left w.holders r.in_range.cyclics
      (all_after _ w.alarms a.number _ (AlarmInRange w.timer) (λ h. record { assigned = member; served = h.served }) r.in_range.alarms)
      r.in_range.locked r.in_range.one_lock r)
      (λ r d h. h) (λ b h. h)

module _ {Q : Type 0} (k : Ordering Q) (w : World Q) (p : Proc) (s : Safe k w) (within : IsNumberOf w.processors p.number) where
  occupied : Occupied w p
  occupied = occupied_at w p (s.processors p within)

  keeps_sta_cyc : (id : ℤ) → KeepsOthers w (called w p (sta_cyc w id)).0 p
  unfolding sta_cyc
  keeps_sta_cyc id =
      let c : Object = unwrap_or (object_named w.cyclics id) (as_object 1) in
      keeps_called w p (sta_cyc w id) occupied (λ a. keeps_cyclic_left w p occupied c _ (λ r. phase_in_range w r c))

  keeps_msta_cyc : (id to : ℤ) → KeepsOthers w (called w p (msta_cyc w id to)).0 p
  unfolding msta_cyc
  keeps_msta_cyc id to =
      let c : Object = unwrap_or (object_named w.cyclics id) (as_object 1) in
      let q : Proc = unwrap_or (processor_or_initial w (cyclic w c).setup.class to) (as_proc 1) in
      keeps_called w p (msta_cyc w id to) occupied
      (λ a.
      let moved = keeps_cyclic_at w p occupied c q a.proper in
      keeps_then w p (with_cyclic_at w c q) (begun (with_cyclic_at w c q) c) refl moved
      (keeps_cyclic_left (with_cyclic_at w c q) p moved.occupied c _ (λ r. phase_in_range (with_cyclic_at w c q) r c)))

  keeps_stp_cyc : (id : ℤ) → KeepsOthers w (called w p (stp_cyc w id)).0 p
  unfolding stp_cyc
  keeps_stp_cyc id = keeps_called w p (stp_cyc w id) occupied (λ a. keeps_cyclic_left w p occupied (unwrap_or (object_named w.cyclics id) (as_object 1)) None (λ r. tt))

  keeps_sta_alm : (c : Context) (id time : ℤ) → KeepsOthers w (called w p (from c (sta_alm w id time))).0 p
  unfolding sta_alm
  keeps_sta_alm c id time =
      keeps_called w p (from c (sta_alm w id time)) occupied
      (λ a. keeps_alarm_left w p occupied (unwrap_or (object_named w.alarms id) (as_object 1)) (ticks_of time) (time_in_range time a.proper))

  keeps_msta_alm : (c : Context) (id time to : ℤ) → KeepsOthers w (called w p (from c (msta_alm w id time to))).0 p
  unfolding msta_alm
  keeps_msta_alm c id time to =
      let o : Object = unwrap_or (object_named w.alarms id) (as_object 1) in
      let q : Proc = unwrap_or (processor_or_initial w (alarm w o).setup.class to) (as_proc 1) in
      keeps_called w p (from c (msta_alm w id time to)) occupied
      (λ a.
      let parts = and_parts _ _ a.proper in
      let moved = keeps_alarm_at w p occupied o q parts.1 in
      keeps_then w p (with_alarm_at w o q) (with_alarm_left (with_alarm_at w o q) o (ticks_of time)) refl moved
      (keeps_alarm_left (with_alarm_at w o q) p moved.occupied o (ticks_of time) (time_in_range time parts.0)))

  keeps_stp_alm : (c : Context) (id : ℤ) → KeepsOthers w (called w p (from c (stp_alm w id))).0 p
  unfolding stp_alm
  keeps_stp_alm c id = keeps_called w p (from c (stp_alm w id)) occupied (λ a. keeps_alarm_left w p occupied (unwrap_or (object_named w.alarms id) (as_object 1)) None tt)

  pub keeps_time : (c : TimeCall) → KeepsOthers w (called w p (time_row w c)).0 p
  unfolding sta_alm msta_alm stp_alm
  keeps_time (call.StaCyc id) = keeps_sta_cyc id
  keeps_time (call.MstaCyc id to) = keeps_msta_cyc id to
  keeps_time (call.StpCyc id) = keeps_stp_cyc id
  keeps_time (call.StaAlm id time) = keeps_sta_alm context.Task id time
  keeps_time (call.IstaAlm id time) = keeps_sta_alm context.Handler id time
  keeps_time (call.MstaAlm id time to) = keeps_msta_alm context.Task id time to
  keeps_time (call.ImstaAlm id time to) = keeps_msta_alm context.Handler id time to
  keeps_time (call.StpAlm id) = keeps_stp_alm context.Task id
  keeps_time (call.IstpAlm id) = keeps_stp_alm context.Handler id

-- ---- what they tell

module _ {Q : Type 0} (n : Counts) (w : World Q) (h : HasCounts n w) (p : Proc) where
  tells_handlers : (cyclics : List Cyclic) (cyclics_left : List (Option ℕ)) (alarms : List Alarm) (alarms_left : List (Option ℕ)) → length cyclics ≡ length w.cyclics → length alarms ≡ length w.alarms →
      Tells n (record w { cyclics = cyclics; cyclics_left = cyclics_left; alarms = alarms; alarms_left = alarms_left }, done)
  tells_handlers cyclics cyclics_left alarms alarms_left c a =
      tells_plain n _ (answer.Done code.Accepted None)
      (counts_objects n w h w.waits_left w.semaphores w.eventflags w.contents w.pools cyclics cyclics_left alarms alarms_left w.due refl h.in_bits.patterns h.in_bits.contents h.in_bits.blocks c a h.due) tt

  pub tells_time_call : (c : TimeCall) → Accepts w p (time_row w c) → Tells n (time_row w c).effect
  unfolding sta_cyc msta_cyc stp_cyc sta_alm msta_alm stp_alm
  tells_time_call (call.StaCyc id) a = tells_handlers w.cyclics _ w.alarms w.alarms_left refl refl
  tells_time_call (call.MstaCyc id to) a = tells_handlers _ _ w.alarms w.alarms_left (length-set w.cyclics _ _) refl
  tells_time_call (call.StpCyc id) a = tells_handlers w.cyclics _ w.alarms w.alarms_left refl refl
  tells_time_call (call.StaAlm id t) a = tells_handlers w.cyclics w.cyclics_left w.alarms _ refl refl
  tells_time_call (call.IstaAlm id t) a = tells_handlers w.cyclics w.cyclics_left w.alarms _ refl refl
  tells_time_call (call.MstaAlm id t to) a = tells_handlers w.cyclics w.cyclics_left _ _ refl (length-set w.alarms _ _)
  tells_time_call (call.ImstaAlm id t to) a = tells_handlers w.cyclics w.cyclics_left _ _ refl (length-set w.alarms _ _)
  tells_time_call (call.StpAlm id) a = tells_handlers w.cyclics w.cyclics_left w.alarms _ refl refl
  tells_time_call (call.IstpAlm id) a = tells_handlers w.cyclics w.cyclics_left w.alarms _ refl refl
