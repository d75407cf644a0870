-- Where a cyclic handler is assigned is what the records alone say.
use Rattle.std.proofs.Common.{◌≡◌, ◌≤◌, ℤ, Bool, true, List, length, refl, sym, ap, ◌∙◌, subst, Some, None}
use Rattle.std.specs.Prelude.{if◌then◌else◌, is_some, unwrap_or}
use Rattle.std.proofs.lemmas.Bool.{cond-false, and_parts}
use Rattle.fmp_codes.specs.Numbers.{as_proc, as_object}
use Rattle.fmp_codes.specs.declared.numbers.Proc.{Proc}
use Rattle.fmp_codes.specs.declared.numbers.Object.{Object}
use Rattle.fmp_codes.specs.declared.numbers.Task.{Task}
use Rattle.fmp_codes.specs.declared.calls.Call.{Call}
use Rattle.fmp_codes.specs.declared.calls.Call.TheVariants as call
use Rattle.fmp_codes.specs.declared.calls.TimeCall.{TimeCall}
use Rattle.fmp_codes.specs.declared.calls.TimeCall.TheVariants as time
use Rattle.fmp_codes.specs.declared.codes.Code.{Code}
use Rattle.fmp_codes.specs.declared.records.Event.TheVariants as event
use Rattle.fmp_rules.specs.declared.machine.Cyclic.{Cyclic}
use Rattle.fmp_rules.specs.Effects.{Effect}
use Rattle.fmp_rules.specs.World.{World, item, with_item}
use Rattle.fmp_rules.specs.Objects.{cyclic, no_cyclic}
use Rattle.fmp_rules.specs.Ordering.{Ordering}
use Rattle.fmp_rules.specs.Rows.{called, refused}
use Rattle.fmp_rules.specs.Arguments.{object_named, processor_or_initial}
use Rattle.fmp_rules.specs.Tick.{tick, ticked, counted_down, released, tasks_expired, with_handlers_due, alarms_due, expired}
use Rattle.fmp_rules.specs.TimeCalls.{with_cyclic_at, begun, msta_cyc, time_row}
use Rattle.fmp_rules.specs.Step.{row_of}
use Rattle.fmp_law_safety.proofs.Items.{item_same, item_other}
use Rattle.fmp_law_safety.proofs.KeepsDue.{alarms_keep, cyclics_keep, released_keep}
use Rattle.fmp_law_balance.specs.Accepted.{is_accepted, names}
use Rattle.fmp_law_balance.proofs.Called.{refuses, by_called, either_way, not_accepted}
use Rattle.fmp_law_balance.proofs.Objects.{IsNamed, object_known, by_object}
use Rattle.fmp_law_records.proofs.Rows.{time_rows}
use Rattle.fmp_law_records.proofs.counts.SparesCalls.{clock_call}
use Rattle.fmp_law_records.proofs.counts.Sparing.{Clock}
use Rattle.fmp_law_records.proofs.Alarms.{taken_is, at_with, untaken}
use Rattle.fmp_law_records.specs.Handlers.{takes_cyclic, taken_to}

pub tick_cyclics : {Q : Type 0} (k : Ordering Q) (w : World Q) (p : Proc) → (tick k w p).0.cyclics ≡ w.cyclics
unfolding counted_down ticked with_handlers_due
tick_cyclics k w p =
    let v : World _ = counted_down w p in
    let ts : List Task = tasks_expired v.waits_left (k.timed v.order v.waits_left) in
    let u : World _ = (released k v ts).0 in
    let S : World _ → Type 0 = λ x. x.cyclics ≡ w.cyclics in
    cyclics_keep p S (λ x c h. h) (alarms_due u p (expired u.alarms_left u.alarms)) (expired u.cyclics_left u.cyclics) (alarms_keep p S (λ x a h. h) u (expired u.alarms_left u.alarms) (released_keep p S k (λ x t h. h) v ts refl))

module _ {Q : Type 0} (k : Ordering Q) (w : World Q) (p : Proc) (a : Object) (few : length w.cyclics ≤ 32) where
  abbrev now : Cyclic
  now = cyclic w a

  pub record CyclicReported (c : Call) (did : World Q × Effect) : Type 0 where
    pub here : cyclic did.0 a ≡ record now { assigned = at_with now.setup.class did.1.answer (takes_cyclic a (event.Call p c)) now.assigned }

  left_reported : (c : Call) (did : World Q × Effect) → did.0.cyclics ≡ w.cyclics → at_with now.setup.class did.1.answer (takes_cyclic a (event.Call p c)) now.assigned ≡ now.assigned → CyclicReported c did
  left_reported c did e same = record { here = ap (λ xs. item (record { setup = no_cyclic; assigned = as_proc 1 }) xs a.number) e ∙ ap (λ q. record now { assigned = q }) (sym same) }

  moved : (c : Call) (id to : ℤ) → takes_cyclic a (event.Call p c) ≡ (if names a id then Some to else None) → is_some (object_named w.cyclics id) ≡ true →
      is_some (processor_or_initial w (cyclic w (unwrap_or (object_named w.cyclics id) (as_object 1))).setup.class to) ≡ true →
      let o = unwrap_or (object_named w.cyclics id) (as_object 1) in
      cyclic (begun (with_cyclic_at w o (unwrap_or (processor_or_initial w (cyclic w o).setup.class to) (as_proc 1))) o) a ≡ record now { assigned = taken_to now.setup.class (takes_cyclic a (event.Call p c)) now.assigned }
  moved c id to takes known there =
      let o : Object = unwrap_or (object_named w.cyclics id) (as_object 1) in
      let named : IsNamed w.cyclics id o = object_known w.cyclics id few known in
      let blank : Cyclic = record { setup = no_cyclic; assigned = as_proc 1 } in
      let q : Proc = unwrap_or (processor_or_initial w (cyclic w o).setup.class to) (as_proc 1) in
      let y : Cyclic = record (cyclic w o) { assigned = q } in
      rw takes
      (subst (λ (b : Bool). item blank (with_item w.cyclics o.number y) a.number ≡ record now { assigned = taken_to now.setup.class (if b then Some to else None) now.assigned }) (sym (named.names a))
      (by_object (λ x b. item blank (with_item w.cyclics o.number y) x.number ≡ record (cyclic w x) { assigned = taken_to (cyclic w x).setup.class (if b then Some to else None) (cyclic w x).assigned }) o a
      (item_same blank w.cyclics o.number y o.least named.within.1 ∙ ap (λ z. record (cyclic w o) { assigned = z }) (taken_is w (cyclic w o).setup.class to (cyclic w o).assigned there))
      (λ d. item_other blank w.cyclics o.number y a.number a.least o.least (λ e. d (sym e)))))

  not_moved : (c : Call) (x : Code) → refuses x ≡ true → CyclicReported c (w, refused x)
  not_moved c x e = left_reported c (w, refused x) refl (cond-false (is_accepted (refused x).answer) _ _ (not_accepted x e))

  time_reported : (c : TimeCall) → CyclicReported (call.Time c) (called w p (time_row w c))
  unfolding time_rows
  time_reported (time.MstaCyc id q) =
      by_called w p (CyclicReported (call.Time (time.MstaCyc id q))) (msta_cyc w id q) tt (not_moved (call.Time (time.MstaCyc id q)))
      (λ x. let known = and_parts (is_some (object_named w.cyclics id)) _ x.known in record { here = moved (call.Time (time.MstaCyc id q)) id q refl known.0 known.1 })
  time_reported c = either_way w p (CyclicReported (call.Time c)) (time_row w c) (λ x. left_reported (call.Time c) (w, refused x) refl (untaken now.setup.class (refused x).answer now.assigned)) (left_reported (call.Time c) (time_row w c).effect refl (untaken now.setup.class (time_row w c).effect.1.answer now.assigned))

  pub cyclic_call : (c : Call) → CyclicReported c (called w p (row_of k w p c))
  cyclic_call (call.Time c) = time_reported c
  cyclic_call c = left_reported c (called w p (row_of k w p c)) (ap (λ (x : Clock). x.cyclics) (clock_call k w p c refl)) (untaken now.setup.class (called w p (row_of k w p c)).1.answer now.assigned)
