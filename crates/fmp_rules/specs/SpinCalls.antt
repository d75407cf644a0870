-- believed: see docs/PROOF.md, "What has to be believed"
-- The calls on spin locks, and the return of a handler.
use Rattle.std.specs.Prelude.{ℤ, not, true, Some, [], ◌∷◌, if◌then◌else◌, is_some}
use Rattle.fmp_codes.specs.declared.numbers.Proc.{Proc}
use Rattle.fmp_codes.specs.declared.numbers.Object.{Object}
use Rattle.fmp_codes.specs.declared.calls.SpinCall.{SpinCall}
use Rattle.fmp_codes.specs.declared.calls.SpinCall.TheVariants as call
use Rattle.fmp_codes.specs.declared.codes.Code.TheVariants as code
use Rattle.fmp_codes.specs.declared.records.Answer.TheVariants as answer
use Rattle.fmp_rules.specs.World.{World, item, with_item, rest}
use Rattle.fmp_rules.specs.Objects.{holder}
use Rattle.fmp_rules.specs.Processors.{with_lock, unlocked, is_at}
use Rattle.fmp_rules.specs.Rows.{Row, row, on_object, no_errors, in_handler, when_locked, done, plain}
use Rattle.fmp_rules.specs.Arguments.{object_named}

module _ {Q : Type 0} (w : World Q) (p : Proc) where
  -- the lock is taken by the processor, which is CPU-locked from now on
  abbrev pub taken : Object → World Q
  taken l = record (with_lock w p true) { holders = with_item w.holders l.number (Some p) }

  -- a free lock is taken; else the caller tries again
  unfoldable pub loc_spn : ℤ → Row Q
  loc_spn id = on_object (object_named w.holders id) no_errors (λ l. if is_some (holder w l) then (w, plain answer.Spin) else (taken l, done))

  unfoldable pub try_spn : ℤ → Row Q
  try_spn id = on_object (object_named w.holders id) (λ l. (is_some (holder w l), code.ObjectState) ∷ []) (λ l. (taken l, done))

  -- the lock is freed by the processor that holds it, which leaves the CPU-locked state
  unfoldable pub unl_spn : ℤ → Row Q
  unl_spn id =
      when_locked (
      on_object (object_named w.holders id) (λ l. (not (is_at p (holder w l)), code.IllegalUse) ∷ []) (λ l. (unlocked w p, done)))

  abbrev pub spin_row : SpinCall → Row Q
  spin_row (call.LocSpn id) = loc_spn id
  spin_row (call.IlocSpn id) = in_handler (loc_spn id)
  spin_row (call.TrySpn id) = try_spn id
  spin_row (call.ItrySpn id) = in_handler (try_spn id)
  spin_row (call.UnlSpn id) = unl_spn id
  spin_row (call.IunlSpn id) = in_handler (unl_spn id)

module _ {Q : Type 0} where
  -- the handler that runs on the processor is due no longer
  abbrev pub without_handler : World Q → Proc → World Q
  without_handler w p = record w { due = with_item w.due p.number (rest (item [] w.due p.number)) }

  -- the handler that runs on the processor ends; the processor leaves the CPU-locked state and frees a spin lock that it holds
  unfoldable pub ret_hdr : World Q → Proc → Row Q
  ret_hdr w p = in_handler (when_locked (row (without_handler (unlocked w p) p, done)))
