-- What each call does to who holds a spin lock is what its record says.
use Rattle.std.proofs.Common.{◌≡◌, ◌-◌, ◌≤◌, ◌==◌, ℤ, Bool, true, false, not, ◌&&◌, length, map, refl, sym, ap, ◌∙◌, subst, Option, Some, None}
use Rattle.std.specs.Prelude.{if◌then◌else◌, is_some, unwrap_or}
use Rattle.std.proofs.lemmas.Bool.{cond_both, cond-true, cond-false, and_parts, and_right, false≢true, both_ways, not-false, eqb-true}
use Rattle.std.proofs.lemmas.List.{length-set, length-map}
use Rattle.std.proofs.Math.ListN.{get_or-map}
use Rattle.fmp_codes.specs.Numbers.{as_object}
use Rattle.fmp_codes.specs.declared.numbers.Proc.{Proc}
use Rattle.fmp_codes.specs.declared.numbers.Object.{Object}
use Rattle.fmp_codes.specs.declared.calls.Call.{Call}
use Rattle.fmp_codes.specs.declared.calls.Call.TheVariants as call
use Rattle.fmp_codes.specs.declared.calls.TaskCall.TheVariants as tasks
use Rattle.fmp_codes.specs.declared.calls.SystemCall.{SystemCall}
use Rattle.fmp_codes.specs.declared.calls.SystemCall.TheVariants as system
use Rattle.fmp_codes.specs.declared.calls.SpinCall.{SpinCall}
use Rattle.fmp_codes.specs.declared.calls.SpinCall.TheVariants as spin
use Rattle.fmp_codes.specs.declared.codes.Code.{Code}
use Rattle.fmp_codes.specs.declared.records.Answer.{Answer}
use Rattle.fmp_codes.specs.declared.records.Answer.TheVariants as answer
use Rattle.fmp_codes.specs.declared.records.Event.TheVariants as event
use Rattle.fmp_codes.specs.declared.records.Record.{Record}
use Rattle.fmp_codes.specs.Records.{processor_of}
use Rattle.fmp_codes.proofs.Same.{objects_same, processors_same}
use Rattle.fmp_rules.specs.Effects.{Effect}
use Rattle.fmp_rules.specs.World.{World, item, runner_of}
use Rattle.fmp_rules.specs.Objects.{holder}
use Rattle.fmp_rules.specs.Ordering.{Ordering}
use Rattle.fmp_rules.specs.Tasks.{finish}
use Rattle.fmp_rules.specs.Rows.{called, refused, plain, done, in_handler}
use Rattle.fmp_rules.specs.Arguments.{object_named}
use Rattle.fmp_rules.specs.Processors.{is_at, opened, unlocked}
use Rattle.fmp_rules.specs.TaskCalls.{ext_tsk}
use Rattle.fmp_rules.specs.SystemCalls.{system_row}
use Rattle.fmp_rules.specs.SpinCalls.{taken, loc_spn, try_spn, unl_spn, spin_row, ret_hdr}
use Rattle.fmp_rules.specs.Step.{row_of}
use Rattle.fmp_law_safety.specs.Safe.{Safe}
use Rattle.fmp_law_safety.proofs.Items.{item_same, item_other}
use Rattle.fmp_law_safety.proofs.KeepsProcessors.{freed}
use Rattle.fmp_law_balance.specs.Accepted.{is_accepted, names}
use Rattle.fmp_law_balance.proofs.Called.{refuses, by_called, either_way, not_accepted}
use Rattle.fmp_law_balance.proofs.Objects.{IsNamed, object_known, by_object}
use Rattle.fmp_law_balance.proofs.Steps.{report}
use Rattle.fmp_law_records.specs.Locks.{asks_for, gives_back, ends_there, is_holder, holder_after, LocksFit}
use Rattle.fmp_law_records.proofs.Rows.{system_rows, spin_rows}
use Rattle.fmp_law_records.proofs.Leaving.{Still, call_still}

-- what is not accepted and ends nobody leaves it
pub unchanged_holder : (l : Object) (r : Record) (h : Option Proc) → is_accepted r.answer ≡ false → ends_there r.event r.answer ≡ false → holder_after l r h ≡ h
unchanged_holder l r h refusal stays =
    cond-false (asks_for l r.event && is_accepted r.answer) _ _ (and_right (asks_for l r.event) _ refusal)
    ∙ cond-false (gives_back l r.event && is_accepted r.answer) _ _ (and_right (gives_back l r.event) _ refusal)
    ∙ cond-false (ends_there r.event r.answer && is_holder (processor_of r.event) h) _ _ (ap (λ (b : Bool). b && is_holder (processor_of r.event) h) stays)

pub no_end : (p : Proc) (c : Call) (x : Code) → refuses x ≡ true → ends_there (event.Call p c) (refused x).answer ≡ false
no_end p call.RetHdr x e = not_accepted x e
no_end p (call.Task tasks.ExtTsk) x e = refl
no_end p (call.Task c) x e = refl
no_end p c x e = refl

same_freed : (p : Proc) (h : Option Proc) → freed p h ≡ (if is_holder p h then None else h)
same_freed p None = refl
same_freed p (Some q) = refl

module _ {Q : Type 0} (k : Ordering Q) (w : World Q) (s : Safe k w) (p : Proc) (l : Object) (few : length w.holders ≤ 32) where
  pub record HolderReported (c : Call) (did : World Q × Effect) : Type 0 where
    pub here : holder did.0 l ≡ holder_after l (report (event.Call p c) (runner_of w p) did.1) (holder w l)
    pub count : length did.0.holders ≡ length w.holders

  refused_reported : (c : Call) (x : Code) → refuses x ≡ true → HolderReported c (w, refused x)
  refused_reported c x e = record { here = sym (unchanged_holder l (report (event.Call p c) (runner_of w p) (refused x)) (holder w l) (not_accepted x e) (no_end p c x e)); count = refl }

  still_reported : (c : Call) (did : World Q × Effect) → Still w did.0 → holder w l ≡ holder_after l (report (event.Call p c) (runner_of w p) did.1) (holder w l) → HolderReported c did
  still_reported c did h same = record { here = ap (λ hs. item None hs l.number) h.holders ∙ same; count = ap length h.holders }

  held_system : (c : SystemCall) → HolderReported (call.System c) (called w p (system_row k w p c))
  unfolding system_rows
  held_system (system.RotRdq x) = still_reported (call.System (system.RotRdq x)) _ (call_still k w p (call.System (system.RotRdq x)) refl) refl
  held_system (system.IrotRdq x) = still_reported (call.System (system.IrotRdq x)) _ (call_still k w p (call.System (system.IrotRdq x)) refl) refl
  held_system (system.MrotRdq x q) = still_reported (call.System (system.MrotRdq x q)) _ (call_still k w p (call.System (system.MrotRdq x q)) refl) refl
  held_system (system.ImrotRdq x q) = still_reported (call.System (system.ImrotRdq x q)) _ (call_still k w p (call.System (system.ImrotRdq x q)) refl) refl
  held_system c = either_way w p (HolderReported (call.System c)) (system_row k w p c) (λ x. record { here = refl; count = refl }) (record { here = refl; count = refl })

  -- a lock is taken
  abbrev the : ℤ → Object
  the id = unwrap_or (object_named w.holders id) (as_object 1)

  taken_holder : (id : ℤ) → is_some (object_named w.holders id) ≡ true → holder (taken w p (the id)) l ≡ (if names l id && true then Some p else holder w l)
  taken_holder id known =
      let o : Object = the id in
      let named : IsNamed w.holders id o = object_known w.holders id few known in
      subst (λ (b : Bool). holder (taken w p o) l ≡ (if b && true then Some p else holder w l)) (sym (named.names l))
      (by_object (λ x b. holder (taken w p o) x ≡ (if b && true then Some p else holder w x)) o l (item_same None w.holders o.number (Some p) o.least named.within.1)
      (λ d. item_other None w.holders o.number (Some p) l.number l.least o.least (λ e. d (sym e))))

  -- what p holds is freed
  freed_there : item None (map (freed p) w.holders) l.number ≡ freed p (holder w l)
  freed_there = get_or-map (freed p) w.holders (l.number - 1) None

  -- the lock that is given back is the one that p holds
  given_back_holder : (id : ℤ) → is_some (object_named w.holders id) ≡ true → is_at p (holder w (the id)) ≡ true → freed p (holder w l) ≡ (if names l id && true then None else holder w l)
  given_back_holder id known at =
      let o : Object = the id in
      let named : IsNamed w.holders id o = object_known w.holders id few known in
      subst (λ (b : Bool). freed p (holder w l) ≡ (if b && true then None else holder w l)) (sym (named.names l))
      (by_object (λ x b. freed p (holder w x) ≡ (if b && true then None else holder w x)) o l (freed_at (holder w o) at) (λ d. kept (holder w l) refl d))
    where
      freed_at : (h : Option Proc) → is_at p h ≡ true → freed p h ≡ None
      freed_at None e = refl
      freed_at (Some q) e = cond-true (p.number == q.number) None (Some q) e

      at_is : (h : Option Proc) → is_at p h ≡ true → h ≡ Some p
      at_is None e = absurd (false≢true e)
      at_is (Some q) e = ap Some (sym (processors_same p q (eqb-true p.number q.number e)))

      kept : (h : Option Proc) → holder w l ≡ h → ((the id).number ≡ l.number → ⊥) → freed p h ≡ h
      kept None e d = refl
      kept (Some q) e d =
          cond_both (p.number == q.number) None (Some q) (λ x. x ≡ Some q)
          (λ same. absurd (d (s.in_range.one_lock (the id) l p (at_is (holder w (the id)) at) (e ∙ ap Some (sym (processors_same p q (eqb-true p.number q.number same)))))))
          (λ _. refl)

  held_spin : (c : SpinCall) → HolderReported (call.Spin c) (called w p (spin_row w p c))
  unfolding spin_rows
  held_spin (spin.LocSpn id) = by_called w p (HolderReported (call.Spin (spin.LocSpn id))) (loc_spn w p id) tt (refused_reported (call.Spin (spin.LocSpn id)))
      (λ a. cond_both (is_some (holder w (the id))) _ _ (HolderReported (call.Spin (spin.LocSpn id))) (λ _. record { here = sym (unchanged_holder l (report (event.Call p (call.Spin (spin.LocSpn id))) (runner_of w p) (plain answer.Spin)) (holder w l) refl refl); count = refl })
      (λ _. record { here = taken_holder id a.known; count = length-set w.holders _ _ }))
  held_spin (spin.IlocSpn id) = by_called w p (HolderReported (call.Spin (spin.IlocSpn id))) (in_handler (loc_spn w p id)) tt (refused_reported (call.Spin (spin.IlocSpn id)))
      (λ a. cond_both (is_some (holder w (the id))) _ _ (HolderReported (call.Spin (spin.IlocSpn id))) (λ _. record { here = sym (unchanged_holder l (report (event.Call p (call.Spin (spin.IlocSpn id))) (runner_of w p) (plain answer.Spin)) (holder w l) refl refl); count = refl })
      (λ _. record { here = taken_holder id a.known; count = length-set w.holders _ _ }))
  held_spin (spin.TrySpn id) = by_called w p (HolderReported (call.Spin (spin.TrySpn id))) (try_spn w p id) (refl, tt) (refused_reported (call.Spin (spin.TrySpn id))) (λ a. record { here = taken_holder id a.known; count = length-set w.holders _ _ })
  held_spin (spin.ItrySpn id) = by_called w p (HolderReported (call.Spin (spin.ItrySpn id))) (in_handler (try_spn w p id)) (refl, tt) (refused_reported (call.Spin (spin.ItrySpn id))) (λ a. record { here = taken_holder id a.known; count = length-set w.holders _ _ })
  held_spin (spin.UnlSpn id) = by_called w p (HolderReported (call.Spin (spin.UnlSpn id))) (unl_spn w p id) (refl, tt) (refused_reported (call.Spin (spin.UnlSpn id))) (λ a. record { here = freed_there ∙ given_back_holder id a.known (not-false _ a.errors.0); count = length-map w.holders (freed p) })
  held_spin (spin.IunlSpn id) = by_called w p (HolderReported (call.Spin (spin.IunlSpn id))) (in_handler (unl_spn w p id)) (refl, tt) (refused_reported (call.Spin (spin.IunlSpn id))) (λ a. record { here = freed_there ∙ given_back_holder id a.known (not-false _ a.errors.0); count = length-map w.holders (freed p) })

  pub held_call : (c : Call) → HolderReported c (called w p (row_of k w p c))
  unfolding ext_tsk ret_hdr finish opened
  held_call (call.Task tasks.ExtTsk) = by_called w p (HolderReported (call.Task tasks.ExtTsk)) (ext_tsk k w p) tt (refused_reported (call.Task tasks.ExtTsk)) (λ a. record { here = freed_there ∙ same_freed p (holder w l); count = length-map w.holders (freed p) })
  held_call (call.Task c) = still_reported (call.Task c) _ (call_still k w p (call.Task c) refl) refl
  held_call (call.Sync c) = still_reported (call.Sync c) _ (call_still k w p (call.Sync c) refl) refl
  held_call (call.Buffer c) = still_reported (call.Buffer c) _ (call_still k w p (call.Buffer c) refl) refl
  held_call (call.Time c) = still_reported (call.Time c) _ (call_still k w p (call.Time c) refl) refl
  held_call (call.System c) = held_system c
  held_call (call.Spin c) = held_spin c
  held_call call.RetHdr = by_called w p (HolderReported call.RetHdr) (ret_hdr w p) tt (refused_reported call.RetHdr) (λ a. record { here = freed_there ∙ same_freed p (holder w l); count = length-map w.holders (freed p) })

-- A lock is taken only where nobody holds it, and given back only where its own processor does.

module _ {Q : Type 0} (w : World Q) (p : Proc) (l : Object) (few : length w.holders ≤ 32) where
  abbrev named_of : ℤ → Object
  named_of id = unwrap_or (object_named w.holders id) (as_object 1)

  -- what is so of the lock that is named
  of_lock : (P : Object → Type 0) (id : ℤ) → is_some (object_named w.holders id) ≡ true → P (named_of id) → names l id ≡ true → P l
  of_lock P id known h e = subst P (objects_same (named_of id) l (eqb-true (named_of id).number l.number (sym ((object_known w.holders id few known).names l) ∙ e))) h

  none_there : (h : Option Proc) → is_some h ≡ false → h ≡ None
  none_there None e = refl
  none_there (Some q) e = absurd (false≢true (sym e))

  there : (h : Option Proc) → is_at p h ≡ true → is_holder p h ≡ true
  there None e = e
  there (Some q) e = e

  abbrev TakesFree : ℤ → World Q × Effect → Type 0
  TakesFree id did = (names l id && is_accepted did.1.answer) ≡ true → holder w l ≡ None

  refused_takes : (id : ℤ) (x : Code) → refuses x ≡ true → TakesFree id (w, refused x)
  refused_takes id x e h = absurd (both_ways _ (not_accepted x e) (and_parts (names l id) _ h).1)

  loc_takes : (id : ℤ) → is_some (object_named w.holders id) ≡ true → TakesFree id (if is_some (holder w (named_of id)) then (w, plain answer.Spin) else (taken w p (named_of id), done))
  loc_takes id known =
      cond_both (is_some (holder w (named_of id))) _ _ (TakesFree id) (λ _ h. absurd (false≢true (and_parts (names l id) false h).1))
      (λ free h. of_lock (λ o. holder w o ≡ None) id known (none_there (holder w (named_of id)) free) (and_parts (names l id) true h).0)

  try_takes : (id : ℤ) → is_some (object_named w.holders id) ≡ true → is_some (holder w (named_of id)) ≡ false → TakesFree id (taken w p (named_of id), done)
  try_takes id known free h = of_lock (λ o. holder w o ≡ None) id known (none_there (holder w (named_of id)) free) (and_parts (names l id) true h).0

  abbrev GivesOwn : ℤ → World Q × Effect → Type 0
  GivesOwn id did = (names l id && is_accepted did.1.answer) ≡ true → is_holder p (holder w l) ≡ true

  refused_gives : (id : ℤ) (x : Code) → refuses x ≡ true → GivesOwn id (w, refused x)
  refused_gives id x e h = absurd (both_ways _ (not_accepted x e) (and_parts (names l id) _ h).1)

  unl_gives : (id : ℤ) → is_some (object_named w.holders id) ≡ true → not (is_at p (holder w (named_of id))) ≡ false → GivesOwn id (unlocked w p, done)
  unl_gives id known at h = of_lock (λ o. is_holder p (holder w o) ≡ true) id known (there (holder w (named_of id)) (not-false _ at)) (and_parts (names l id) true h).0

  abbrev FitsWith : Call → Answer → Type 0
  FitsWith c a = LocksFit l (holder w l) (report (event.Call p c) (runner_of w p) (plain a))

  fits_spin : (c : SpinCall) → FitsWith (call.Spin c) (called w p (spin_row w p c)).1.answer
  unfolding spin_rows
  fits_spin (spin.LocSpn id) = record { taken = by_called w p (TakesFree id) (loc_spn w p id) tt (refused_takes id) (λ a. loc_takes id a.known); given_back = λ h. absurd (false≢true h) }
  fits_spin (spin.IlocSpn id) = record { taken = by_called w p (TakesFree id) (in_handler (loc_spn w p id)) tt (refused_takes id) (λ a. loc_takes id a.known); given_back = λ h. absurd (false≢true h) }
  fits_spin (spin.TrySpn id) = record { taken = by_called w p (TakesFree id) (try_spn w p id) (refl, tt) (refused_takes id) (λ a. try_takes id a.known a.errors.0); given_back = λ h. absurd (false≢true h) }
  fits_spin (spin.ItrySpn id) = record { taken = by_called w p (TakesFree id) (in_handler (try_spn w p id)) (refl, tt) (refused_takes id) (λ a. try_takes id a.known a.errors.0); given_back = λ h. absurd (false≢true h) }
  fits_spin (spin.UnlSpn id) = record { taken = λ h. absurd (false≢true h); given_back = by_called w p (GivesOwn id) (unl_spn w p id) (refl, tt) (refused_gives id) (λ a. unl_gives id a.known a.errors.0) }
  fits_spin (spin.IunlSpn id) = record { taken = λ h. absurd (false≢true h); given_back = by_called w p (GivesOwn id) (in_handler (unl_spn w p id)) (refl, tt) (refused_gives id) (λ a. unl_gives id a.known a.errors.0) }

  pub call_fits : (k : Ordering Q) (c : Call) → FitsWith c (called w p (row_of k w p c)).1.answer
  call_fits k (call.Spin c) = fits_spin c
  call_fits k c = record { taken = λ h. absurd (false≢true h); given_back = λ h. absurd (false≢true h) }
