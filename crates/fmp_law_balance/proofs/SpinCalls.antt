-- The calls on spin locks, and the return of a handler, leave the objects alone.
use Rattle.std.proofs.Common.{List, [], ◌∷◌}
use Rattle.std.specs.Prelude.{All, if◌then◌else◌, unwrap_or, is_some}
use Rattle.std.proofs.lemmas.Bool.{cond_both}
use Rattle.std.proofs.lemmas.List.Elements.{All-tail}
use Rattle.fmp_codes.specs.Numbers.{as_object}
use Rattle.fmp_codes.specs.declared.numbers.Proc.{Proc}
use Rattle.fmp_codes.specs.declared.numbers.Object.{Object}
use Rattle.fmp_codes.specs.declared.calls.SpinCall.{SpinCall}
use Rattle.fmp_codes.specs.declared.calls.SpinCall.TheVariants as call
use Rattle.fmp_codes.specs.declared.records.Answer.TheVariants as answer
use Rattle.fmp_codes.specs.declared.records.Runner.{Runner}
use Rattle.fmp_rules.specs.Effects.{Effect}
use Rattle.fmp_rules.specs.World.{World, item, rest}
use Rattle.fmp_rules.specs.Objects.{holder}
use Rattle.fmp_rules.specs.Rows.{done, plain}
use Rattle.fmp_rules.specs.Arguments.{object_named}
use Rattle.fmp_rules.specs.Processors.{unlocked}
use Rattle.fmp_rules.specs.SpinCalls.{taken, loc_spn, try_spn, unl_spn, spin_row, ret_hdr}
use Rattle.fmp_law_balance.proofs.Leaving.{IsHandler, Leaves, leaves_all, leaves_then, leaves_processors, leaves_due}

module _ {Q : Type 0} (w : World Q) (p : Proc) where
  abbrev Same : World Q × Effect → Type 0
  Same did = Leaves w did.0

  leaves_taken : (l : Object) → Same (if is_some (holder w l) then (w, plain answer.Spin) else (taken w p l, done))
  leaves_taken l = cond_both (is_some (holder w l)) (w, plain answer.Spin) (taken w p l, done) Same (λ _. leaves_all w) (λ _. leaves_processors w _ _)

  pub leaves_spin_call : (c : SpinCall) → Leaves w (spin_row w p c).effect.0
  unfolding loc_spn try_spn unl_spn
  leaves_spin_call (call.LocSpn id) = leaves_taken (unwrap_or (object_named w.holders id) (as_object 1))
  leaves_spin_call (call.IlocSpn id) = leaves_taken (unwrap_or (object_named w.holders id) (as_object 1))
  leaves_spin_call _ = leaves_processors w _ _

  rest_handlers : (rs : List Runner) → All IsHandler rs → All IsHandler (rest rs)
  rest_handlers [] h = h
  rest_handlers (r ∷ rs) h = All-tail IsHandler r rs h

  pub leaves_ret : Leaves w (ret_hdr w p).effect.0
  unfolding ret_hdr
  leaves_ret =
      let v : World Q = unlocked w p in
      leaves_then w v _ (leaves_processors w _ _) (leaves_due v p.number (rest (item [] v.due p.number)) (rest_handlers (item [] v.due p.number)))
