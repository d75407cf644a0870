-- The calls on time event handlers, on the processors and on spin locks leave the waits alone.
use Rattle.std.proofs.Common.{◌≡◌, Bool, true, false, ◌&&◌, refl, ap, ◌∙◌, Option, None, Some}
use Rattle.std.specs.Prelude.{option_map, is_some, unwrap_or, if◌then◌else◌}
use Rattle.std.proofs.lemmas.Bool.{cond_both, cond-false, and_right}
use Rattle.fmp_codes.specs.Numbers.{as_object}
use Rattle.fmp_codes.specs.declared.numbers.Proc.{Proc}
use Rattle.fmp_codes.specs.declared.numbers.Task.{Task}
use Rattle.fmp_codes.specs.declared.numbers.Object.{Object}
use Rattle.fmp_codes.specs.declared.calls.Call.{Call}
use Rattle.fmp_codes.specs.declared.calls.Call.TheVariants as calls
use Rattle.fmp_codes.specs.declared.calls.TimeCall.{TimeCall}
use Rattle.fmp_codes.specs.declared.calls.TimeCall.TheVariants as time
use Rattle.fmp_codes.specs.declared.calls.SystemCall.{SystemCall}
use Rattle.fmp_codes.specs.declared.calls.SystemCall.TheVariants as system
use Rattle.fmp_codes.specs.declared.calls.SpinCall.{SpinCall}
use Rattle.fmp_codes.specs.declared.calls.SpinCall.TheVariants as spin
use Rattle.fmp_codes.specs.declared.codes.Code.{Code}
use Rattle.fmp_codes.specs.declared.records.Answer.TheVariants as answer
use Rattle.fmp_codes.specs.declared.records.Event.TheVariants as event
use Rattle.fmp_rules.specs.Effects.{Effect}
use Rattle.fmp_rules.specs.World.{World, task, runner_of}
use Rattle.fmp_rules.specs.Objects.{holder}
use Rattle.fmp_rules.specs.Ordering.{Ordering}
use Rattle.fmp_rules.specs.Tasks.{rotate}
use Rattle.fmp_rules.specs.Rows.{called, plain, refused, done}
use Rattle.fmp_rules.specs.Arguments.{object_named}
use Rattle.fmp_rules.specs.TimeCalls.{sta_cyc, msta_cyc, stp_cyc, sta_alm, msta_alm, stp_alm, time_row}
use Rattle.fmp_rules.specs.SystemCalls.{rotation, rotation_in_handler, system_row}
use Rattle.fmp_rules.specs.SpinCalls.{taken, loc_spn, try_spn, unl_spn, spin_row, ret_hdr}
use Rattle.fmp_law_balance.specs.Accepted.{is_accepted}
use Rattle.fmp_law_balance.proofs.Called.{either_way}
use Rattle.fmp_law_balance.proofs.Steps.{report as record_of}
use Rattle.fmp_setup.specs.Setup.{Setup}
use Rattle.fmp_codes.specs.declared.records.Record.{Record}
use Rattle.fmp_law_balance.specs.Waits.Waits.{OpenWaits, terminates, migrates, assigned_by, lasts}
use Rattle.fmp_law_balance.proofs.waits.Words.{IsKept}
use Rattle.fmp_law_balance.proofs.waits.Follows.{CallFollows, SparesTasks, lasts_same, stays, done_follows, task_follows}

either_same : {A : Type 0} (b : Bool) (x : A) → (if b then x else x) ≡ x
either_same true x = refl
either_same false x = refl

module _ {Q : Type 0} (config : Setup) (k : Ordering Q) (w : World Q) (pending : OpenWaits) (report : (t : Task) → IsKept config w t (pending t)) (p : Proc) where
  abbrev Ends : Call → World Q × Effect → Type 0
  Ends c did = CallFollows config k w pending report p c did

  abbrev Spares : Call → Type 0
  Spares c = SparesTasks (event.Call p c)

  -- a call that terminates nobody is refused, whatever the code
  refused_ends : (c : Call) → Spares c → (x : Code) → Ends c (w, refused x)
  refused_ends c spares x =
      let r : Record = record_of (event.Call p c) (runner_of w p) (refused x) in
      let moves : (t : Task) (q : Proc) → (if is_accepted r.answer then assigned_by config t (migrates t r.event) q else q) ≡ q =
      λ t q. ap (λ to. if is_accepted r.answer then assigned_by config t to q else q) (spares t).1 ∙ either_same (is_accepted r.answer) q in
      stays config w pending w r refl
      (λ t.
      cond-false (is_accepted r.answer && terminates t r.event) None (option_map (lasts config t r) (pending t)) (and_right (is_accepted r.answer) (terminates t r.event) (spares t).0)
      ∙ lasts_same config t r (λ q. refl) (moves t) (pending t))
      report (refl, refl, refl, refl)

  time_ends : (c : TimeCall) → Ends (calls.Time c) (time_row w c).effect
  unfolding sta_cyc msta_cyc stp_cyc sta_alm msta_alm stp_alm
  time_ends (time.StaCyc id) = done_follows config k w pending report p (calls.Time (time.StaCyc id)) _ None None (λ t. (refl, refl)) report (refl, refl, refl, refl)
  time_ends c = done_follows config k w pending report p (calls.Time c) _ None None (λ t. (refl, refl)) report (refl, refl, refl, refl)

  pub follows_time : (c : TimeCall) → Ends (calls.Time c) (called w p (time_row w c))
  follows_time c = either_way w p (Ends (calls.Time c)) (time_row w c) (refused_ends (calls.Time c) (λ t. (refl, refl))) (time_ends c)

  rotate_ends : (c : SystemCall) (t : Option Task) → Ends (calls.System c) (rotate k w t, done)
  rotate_ends c None = done_follows config k w pending report p (calls.System c) w None None (λ t. (refl, refl)) report (refl, refl, refl, refl)
  rotate_ends c (Some t) = task_follows config k w pending report p (calls.System c) t (task w t) _ None (λ u. (refl, refl)) (report t)

  system_ends : (c : SystemCall) → Ends (calls.System c) (system_row k w p c).effect
  unfolding rotation rotation_in_handler
  system_ends (system.RotRdq n) = rotate_ends (system.RotRdq n) _
  system_ends (system.IrotRdq n) = rotate_ends (system.IrotRdq n) _
  system_ends (system.MrotRdq n q) = rotate_ends (system.MrotRdq n q) _
  system_ends (system.ImrotRdq n q) = rotate_ends (system.ImrotRdq n q) _
  system_ends c = done_follows config k w pending report p (calls.System c) _ _ None (λ t. (refl, refl)) report (refl, refl, refl, refl)

  pub follows_system : (c : SystemCall) → Ends (calls.System c) (called w p (system_row k w p c))
  follows_system c = either_way w p (Ends (calls.System c)) (system_row k w p c) (refused_ends (calls.System c) (λ t. (refl, refl))) (system_ends c)

  -- a free lock is taken, or the caller tries again
  spin_or_take : (c : SpinCall) (l : Object) → Ends (calls.Spin c) (if is_some (holder w l) then (w, plain answer.Spin) else (taken w p l, done))
  spin_or_take c l =
      cond_both (is_some (holder w l)) (w, plain answer.Spin) (taken w p l, done) (Ends (calls.Spin c))
      (λ _. stays config w pending w (record_of (event.Call p (calls.Spin c)) (runner_of w p) (plain answer.Spin)) refl
      (λ t. lasts_same config t (record_of (event.Call p (calls.Spin c)) (runner_of w p) (plain answer.Spin)) (λ q. refl) (λ q. refl) (pending t)) report (refl, refl, refl, refl))
      (λ _. done_follows config k w pending report p (calls.Spin c) (taken w p l) None None (λ t. (refl, refl)) report (refl, refl, refl, refl))

  spin_ends : (c : SpinCall) → Ends (calls.Spin c) (spin_row w p c).effect
  unfolding loc_spn try_spn unl_spn
  spin_ends (spin.LocSpn id) = spin_or_take (spin.LocSpn id) (unwrap_or (object_named w.holders id) (as_object 1))
  spin_ends (spin.IlocSpn id) = spin_or_take (spin.IlocSpn id) (unwrap_or (object_named w.holders id) (as_object 1))
  spin_ends c = done_follows config k w pending report p (calls.Spin c) _ None None (λ t. (refl, refl)) report (refl, refl, refl, refl)

  pub follows_spin : (c : SpinCall) → Ends (calls.Spin c) (called w p (spin_row w p c))
  follows_spin c = either_way w p (Ends (calls.Spin c)) (spin_row w p c) (refused_ends (calls.Spin c) (λ t. (refl, refl))) (spin_ends c)

  ret_ends : Ends calls.RetHdr (ret_hdr w p).effect
  unfolding ret_hdr
  ret_ends = done_follows config k w pending report p calls.RetHdr _ None None (λ t. (refl, refl)) report (refl, refl, refl, refl)

  pub follows_ret : Ends calls.RetHdr (called w p (ret_hdr w p))
  follows_ret = either_way w p (Ends calls.RetHdr) (ret_hdr w p) (refused_ends calls.RetHdr (λ t. (refl, refl))) ret_ends
