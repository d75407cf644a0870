-- What each step does to the locked and the disabled state of a processor is what its record says.
use Rattle.std.proofs.Common.{◌≡◌, ◌≤◌, Bool, true, false, ◌&&◌, length, refl, sym, ap, ◌∙◌, Option, Some}
use Rattle.std.specs.Prelude.{is_some, unwrap_or}
use Rattle.std.proofs.lemmas.Bool.{cond_both, cond-false, and_right}
use Rattle.fmp_codes.specs.Numbers.{as_object}
use Rattle.fmp_codes.specs.declared.numbers.Proc.{Proc}
use Rattle.fmp_codes.specs.declared.calls.Call.{Call}
use Rattle.fmp_codes.specs.declared.calls.Call.TheVariants as call
use Rattle.fmp_codes.specs.declared.calls.TaskCall.TheVariants as tasks
use Rattle.fmp_codes.specs.declared.calls.SystemCall.{SystemCall}
use Rattle.fmp_codes.specs.declared.calls.SystemCall.TheVariants as system
use Rattle.fmp_codes.specs.declared.calls.SpinCall.{SpinCall}
use Rattle.fmp_codes.specs.declared.calls.SpinCall.TheVariants as spin
use Rattle.fmp_codes.specs.declared.codes.Code.{Code}
use Rattle.fmp_codes.specs.declared.records.Answer.{Answer}
use Rattle.fmp_rules.specs.Effects.{Effect}
use Rattle.fmp_rules.specs.declared.machine.Processor.{Processor}
use Rattle.fmp_rules.specs.World.{World, no_processor, item, with_item, processor}
use Rattle.fmp_rules.specs.Objects.{holder}
use Rattle.fmp_rules.specs.Ordering.{Ordering}
use Rattle.fmp_rules.specs.Tasks.{finish}
use Rattle.fmp_rules.specs.Rows.{called, refused, in_handler}
use Rattle.fmp_rules.specs.Arguments.{object_named}
use Rattle.fmp_rules.specs.Processors.{with_lock, with_dispatching_disabled, unlocked}
use Rattle.fmp_rules.specs.TaskCalls.{ext_tsk}
use Rattle.fmp_rules.specs.SystemCalls.{loc_cpu, unl_cpu, dis_dsp, ena_dsp, system_row}
use Rattle.fmp_rules.specs.SpinCalls.{taken, loc_spn, try_spn, unl_spn, spin_row, ret_hdr}
use Rattle.fmp_rules.specs.Step.{row_of}
use Rattle.fmp_law_safety.proofs.Items.{item_same}
use Rattle.fmp_law_safety.proofs.KeepsProcessors.{opened_here}
use Rattle.fmp_law_balance.specs.Accepted.{is_accepted}
use Rattle.fmp_law_balance.proofs.Called.{refuses, by_called, not_accepted}
use Rattle.fmp_law_records.specs.Flags.{locks, unlocks, disables, enables, leaves, locked_with, disabled_with}
use Rattle.fmp_law_records.proofs.Rows.{system_rows, spin_rows}
use Rattle.fmp_law_records.proofs.Leaving.{Still, call_still}

pub record Flags : Type 0 where
  pub locked : Bool
  pub disabled : Bool

abbrev pub flags : Processor → Flags
flags c = record { locked = c.locked; disabled = c.disabled }

-- with its latch, which no call changes
pub record Marks : Type 0 where
  pub flags : Flags
  pub latch : Bool

abbrev pub marks : Processor → Marks
marks c = record { flags = flags c; latch = c.latch }

abbrev pub flags_with : Option Call → Answer → Flags → Flags
flags_with c a x = record { locked = locked_with c a x.locked; disabled = disabled_with c a x.disabled }

-- what is not accepted and ends nobody leaves them
pub undone : (c : Option Call) (a : Answer) (x : Flags) → is_accepted a ≡ false → leaves c a ≡ false → flags_with c a x ≡ x
undone c a x refusal stays =
    let locked : locked_with c a x.locked ≡ x.locked =
    cond-false (leaves c a) _ _ stays ∙ cond-false (locks c && is_accepted a) _ _ (and_right (locks c) _ refusal) ∙ cond-false (unlocks c && is_accepted a) _ _ (and_right (unlocks c) _ refusal) in
    let disabled : disabled_with c a x.disabled ≡ x.disabled =
    cond-false (leaves c a) _ _ stays ∙ cond-false (disables c && is_accepted a) _ _ (and_right (disables c) _ refusal) ∙ cond-false (enables c && is_accepted a) _ _ (and_right (enables c) _ refusal) in
    rw (locked, disabled) refl

pub no_leave : (c : Call) (x : Code) → leaves (Some c) (refused x).answer ≡ false
no_leave (call.Task tasks.ExtTsk) x = refl
no_leave (call.Task c) x = refl
no_leave c x = refl

module _ {Q : Type 0} (k : Ordering Q) (w : World Q) (p : Proc) (n : p.number ≤ length w.processors) where
  pub record FlagsReported (c : Call) (did : World Q × Effect) : Type 0 where
    pub here : marks (processor did.0 p) ≡ record { flags = flags_with (Some c) did.1.answer (flags (processor w p)); latch = (processor w p).latch }

  refused_reported : (c : Call) (x : Code) → refuses x ≡ true → FlagsReported c (w, refused x)
  refused_reported c x e = record { here = ap (λ (y : Flags). record { flags = y; latch = (processor w p).latch }) (sym (undone (Some c) (refused x).answer (flags (processor w p)) (not_accepted x e) (no_leave c x))) }

  put_here : (v : World Q) (x : Processor) → v.processors ≡ with_item w.processors p.number x → processor v p ≡ x
  put_here v x e = ap (λ cs. item no_processor cs p.number) e ∙ item_same no_processor w.processors p.number x p.least n

  still_here : (v : World Q) → Still w v → marks (processor v p) ≡ marks (processor w p)
  still_here v h = ap (λ cs. marks (item no_processor cs p.number)) h.processors

  flags_system : (c : SystemCall) → FlagsReported (call.System c) (called w p (system_row k w p c))
  unfolding system_rows
  flags_system (system.RotRdq x) = record { here = still_here _ (call_still k w p (call.System (system.RotRdq x)) refl) }
  flags_system (system.IrotRdq x) = record { here = still_here _ (call_still k w p (call.System (system.IrotRdq x)) refl) }
  flags_system (system.MrotRdq x q) = record { here = still_here _ (call_still k w p (call.System (system.MrotRdq x q)) refl) }
  flags_system (system.ImrotRdq x q) = record { here = still_here _ (call_still k w p (call.System (system.ImrotRdq x q)) refl) }
  flags_system system.LocCpu = by_called w p (FlagsReported (call.System system.LocCpu)) (loc_cpu w p) tt (refused_reported (call.System system.LocCpu)) (λ a. record { here = ap marks (put_here (with_lock w p true) _ refl) })
  flags_system system.IlocCpu = by_called w p (FlagsReported (call.System system.IlocCpu)) (in_handler (loc_cpu w p)) tt (refused_reported (call.System system.IlocCpu)) (λ a. record { here = ap marks (put_here (with_lock w p true) _ refl) })
  flags_system system.UnlCpu = by_called w p (FlagsReported (call.System system.UnlCpu)) (unl_cpu w p) (refl, tt) (refused_reported (call.System system.UnlCpu)) (λ a. record { here = ap marks (put_here (with_lock w p false) _ refl) })
  flags_system system.IunlCpu = by_called w p (FlagsReported (call.System system.IunlCpu)) (in_handler (unl_cpu w p)) (refl, tt) (refused_reported (call.System system.IunlCpu)) (λ a. record { here = ap marks (put_here (with_lock w p false) _ refl) })
  flags_system system.DisDsp = by_called w p (FlagsReported (call.System system.DisDsp)) (dis_dsp w p) tt (refused_reported (call.System system.DisDsp)) (λ a. record { here = ap marks (put_here (with_dispatching_disabled w p true) _ refl) })
  flags_system system.EnaDsp = by_called w p (FlagsReported (call.System system.EnaDsp)) (ena_dsp w p) tt (refused_reported (call.System system.EnaDsp)) (λ a. record { here = ap marks (put_here (with_dispatching_disabled w p false) _ refl) })
  flags_system c = by_called w p (FlagsReported (call.System c)) (system_row k w p c) tt (refused_reported (call.System c)) (λ a. record { here = refl })

  flags_spin : (c : SpinCall) → FlagsReported (call.Spin c) (called w p (spin_row w p c))
  unfolding spin_rows
  flags_spin (spin.LocSpn id) = by_called w p (FlagsReported (call.Spin (spin.LocSpn id))) (loc_spn w p id) tt (refused_reported (call.Spin (spin.LocSpn id))) (λ a. cond_both (is_some (holder w (unwrap_or (object_named w.holders id) (as_object 1)))) _ _ (FlagsReported (call.Spin (spin.LocSpn id))) (λ _. record { here = refl }) (λ _. record { here = ap marks (put_here (taken w p (unwrap_or (object_named w.holders id) (as_object 1))) (record (processor w p) { locked = true }) refl) }))
  flags_spin (spin.IlocSpn id) = by_called w p (FlagsReported (call.Spin (spin.IlocSpn id))) (in_handler (loc_spn w p id)) tt (refused_reported (call.Spin (spin.IlocSpn id))) (λ a. cond_both (is_some (holder w (unwrap_or (object_named w.holders id) (as_object 1)))) _ _ (FlagsReported (call.Spin (spin.IlocSpn id))) (λ _. record { here = refl }) (λ _. record { here = ap marks (put_here (taken w p (unwrap_or (object_named w.holders id) (as_object 1))) (record (processor w p) { locked = true }) refl) }))
  flags_spin (spin.TrySpn id) = by_called w p (FlagsReported (call.Spin (spin.TrySpn id))) (try_spn w p id) (refl, tt) (refused_reported (call.Spin (spin.TrySpn id))) (λ a. record { here = ap marks (put_here (taken w p (unwrap_or (object_named w.holders id) (as_object 1))) (record (processor w p) { locked = true }) refl) })
  flags_spin (spin.ItrySpn id) = by_called w p (FlagsReported (call.Spin (spin.ItrySpn id))) (in_handler (try_spn w p id)) (refl, tt) (refused_reported (call.Spin (spin.ItrySpn id))) (λ a. record { here = ap marks (put_here (taken w p (unwrap_or (object_named w.holders id) (as_object 1))) (record (processor w p) { locked = true }) refl) })
  flags_spin (spin.UnlSpn id) = by_called w p (FlagsReported (call.Spin (spin.UnlSpn id))) (unl_spn w p id) (refl, tt) (refused_reported (call.Spin (spin.UnlSpn id))) (λ a. record { here = ap marks (put_here (unlocked w p) (record (processor w p) { locked = false }) refl) })
  flags_spin (spin.IunlSpn id) = by_called w p (FlagsReported (call.Spin (spin.IunlSpn id))) (in_handler (unl_spn w p id)) (refl, tt) (refused_reported (call.Spin (spin.IunlSpn id))) (λ a. record { here = ap marks (put_here (unlocked w p) (record (processor w p) { locked = false }) refl) })

  -- a call on p
  pub flags_call : (c : Call) → FlagsReported c (called w p (row_of k w p c))
  unfolding ext_tsk ret_hdr finish
  flags_call (call.Task tasks.ExtTsk) = by_called w p (FlagsReported (call.Task tasks.ExtTsk)) (ext_tsk k w p) tt (refused_reported (call.Task tasks.ExtTsk)) (λ a. record { here = ap marks (opened_here w p (p.least, n)) })
  flags_call (call.Task c) = record { here = still_here _ (call_still k w p (call.Task c) refl) }
  flags_call (call.Sync c) = record { here = still_here _ (call_still k w p (call.Sync c) refl) }
  flags_call (call.Buffer c) = record { here = still_here _ (call_still k w p (call.Buffer c) refl) }
  flags_call (call.Time c) = record { here = still_here _ (call_still k w p (call.Time c) refl) }
  flags_call (call.System c) = flags_system c
  flags_call (call.Spin c) = flags_spin c
  flags_call call.RetHdr = by_called w p (FlagsReported call.RetHdr) (ret_hdr w p) tt (refused_reported call.RetHdr) (λ a. record { here = ap marks (put_here (unlocked w p) (record (processor w p) { locked = false }) refl) })
