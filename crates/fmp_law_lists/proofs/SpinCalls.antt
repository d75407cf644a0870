-- The calls on spin locks, and the return of a handler, do the same on lists and on numbers.
use Rattle.std.proofs.Common.{ℤ, refl}
use Rattle.std.specs.Prelude.{is_some, unwrap_or}
use Rattle.fmp_codes.specs.Numbers.{as_object}
use Rattle.fmp_codes.specs.declared.numbers.Proc.{Proc}
use Rattle.fmp_codes.specs.declared.numbers.Object.{Object}
use Rattle.fmp_codes.specs.declared.calls.SpinCall.{SpinCall}
use Rattle.fmp_codes.specs.declared.calls.SpinCall.TheVariants as call
use Rattle.fmp_rules.specs.declared.machine.Context.{Context}
use Rattle.fmp_rules.specs.declared.machine.Context.TheVariants as context
use Rattle.fmp_rules.specs.World.{World}
use Rattle.fmp_rules.specs.Arrivals.{State}
use Rattle.fmp_rules.specs.Objects.{holder}
use Rattle.fmp_rules.specs.Processors.{unlocked}
use Rattle.fmp_rules.specs.Arguments.{object_named}
use Rattle.fmp_rules.specs.Rows.{called, done}
use Rattle.fmp_rules.specs.SpinCalls.{taken, loc_spn, try_spn, unl_spn, spin_row, without_handler, ret_hdr}
use Rattle.fmp_law_safety.proofs.Calls.{from}
use Rattle.fmp_kernel_order.specs.Queues.{Queues}
use Rattle.fmp_law_lists.specs.Stands.{with_order, AreListsOf, Matches}
use Rattle.fmp_law_lists.proofs.Words.{by_tests}
use Rattle.fmp_law_lists.proofs.Matching.{matches, called_matches}

module _ (m : State) (q : Queues) (s : AreListsOf q m) (p : Proc) where
  abbrev w : World Queues
  w = with_order m q

  locks : (c : Context) (id : ℤ) → Matches (called w p (from c (loc_spn w p id))) (called m p (from c (loc_spn m p id)))
  unfolding loc_spn
  locks c id =
      let l : Object = unwrap_or (object_named m.holders id) (as_object 1) in
      called_matches m q s p (from c (loc_spn w p id)) (from c (loc_spn m p id)) refl
      (λ _. by_tests Matches (is_some (holder m l)) _ _ _ _ (λ _. matches m q s _) (λ _. matches (taken m p l) q s done))

  tries : (c : Context) (id : ℤ) → Matches (called w p (from c (try_spn w p id))) (called m p (from c (try_spn m p id)))
  unfolding try_spn
  tries c id =
      called_matches m q s p (from c (try_spn w p id)) (from c (try_spn m p id)) refl
      (λ _. matches (taken m p (unwrap_or (object_named m.holders id) (as_object 1))) q s done)

  unlocks : (c : Context) (id : ℤ) → Matches (called w p (from c (unl_spn w p id))) (called m p (from c (unl_spn m p id)))
  unfolding unl_spn
  unlocks c id = called_matches m q s p (from c (unl_spn w p id)) (from c (unl_spn m p id)) refl (λ _. matches (unlocked m p) q s done)

  pub spin_matches : (c : SpinCall) → Matches (called w p (spin_row w p c)) (called m p (spin_row m p c))
  unfolding loc_spn try_spn unl_spn
  spin_matches (call.LocSpn id) = locks context.Task id
  spin_matches (call.IlocSpn id) = locks context.Handler id
  spin_matches (call.TrySpn id) = tries context.Task id
  spin_matches (call.ItrySpn id) = tries context.Handler id
  spin_matches (call.UnlSpn id) = unlocks context.Task id
  spin_matches (call.IunlSpn id) = unlocks context.Handler id

  pub return_matches : Matches (called w p (ret_hdr w p)) (called m p (ret_hdr m p))
  unfolding ret_hdr
  return_matches = called_matches m q s p (ret_hdr w p) (ret_hdr m p) refl (λ _. matches (without_handler (unlocked m p) p) q s done)
