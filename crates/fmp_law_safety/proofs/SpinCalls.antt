-- The calls on spin locks, and the return of a handler, keep a state safe, and tell only of what there is.
use Rattle.std.proofs.Common.{◌≡◌, ℤ, ◌⊎◌, inl, inr, Bool, true, false, ◌&&◌, ◌||◌, List, [], ◌∷◌, map, refl, sym, ap, ◌∙◌, subst, Option, Some, None, ⊎_elim}
use Rattle.std.specs.Prelude.{All, is_some, unwrap_or, option_map}
use Rattle.std.specs.Option.{option_or}
use Rattle.std.proofs.lemmas.Bool.{both_ways, cond_both, or_parts, false≢true}
use Rattle.std.proofs.lemmas.List.Elements.{All-tail}
use Rattle.std.proofs.lemmas.Option.{same_Some}
use Rattle.fmp_codes.specs.Numbers.{as_object}
use Rattle.fmp_codes.specs.declared.numbers.Proc.{Proc}
use Rattle.fmp_codes.specs.declared.numbers.Object.{Object}
use Rattle.fmp_codes.specs.declared.numbers.Task.{Task}
use Rattle.fmp_codes.specs.declared.calls.SpinCall.{SpinCall}
use Rattle.fmp_codes.specs.declared.calls.SpinCall.TheVariants as call
use Rattle.fmp_codes.specs.declared.codes.Code.TheVariants as code
use Rattle.fmp_codes.specs.declared.records.Runner.{Runner}
use Rattle.fmp_codes.specs.declared.records.Runner.TheVariants as runner
use Rattle.fmp_codes.specs.declared.records.Answer.TheVariants as answer
use Rattle.fmp_rules.specs.Effects.{Effect}
use Rattle.fmp_rules.specs.declared.machine.Context.{Context}
use Rattle.fmp_rules.specs.declared.machine.Context.TheVariants as context
use Rattle.fmp_rules.specs.declared.machine.Processor.{Processor}
use Rattle.fmp_rules.specs.World.{World, no_processor, item, with_item, rest, first, processor, handler, runner_of}
use Rattle.fmp_rules.specs.Objects.{holder}
use Rattle.fmp_rules.specs.Ordering.{Ordering}
use Rattle.fmp_rules.specs.Rows.{is_refused_context, done, called}
use Rattle.fmp_rules.specs.Processors.{unlocked}
use Rattle.fmp_rules.specs.Arguments.{object_named}
use Rattle.fmp_rules.specs.SpinCalls.{taken, loc_spn, try_spn, unl_spn, spin_row, ret_hdr}
use Rattle.fmp_law_safety.specs.Safe.{IsNumberOf, Safe}
use Rattle.fmp_law_safety.specs.Counts.{Counts, IsRunnerOf, HasCounts}
use Rattle.fmp_law_safety.proofs.Items.{object_at, item_after, item_other, all_after}
use Rattle.fmp_law_safety.proofs.Rests.{Rests}
use Rattle.fmp_law_safety.proofs.Keeps.{Occupied, KeepsOthers, keeps_all, keeps_processor, keeps_processor_freeing, processor_here}
use Rattle.fmp_law_safety.proofs.Calls.{from, Accepts, keeps_called, occupied_at}
use Rattle.fmp_law_safety.proofs.KeepsProcessors.{freed, freed_before, occupied_with, keeps_unlocked}
use Rattle.fmp_law_safety.proofs.Counted.{counts_processor}
use Rattle.fmp_law_safety.proofs.Tells.{Tells, tells_plain}

module _ {Q : Type 0} (w : World Q) (p : Proc) (within : IsNumberOf w.processors p.number) (there : is_some (runner_of w p) ≡ true)
    (some : (processor w p).disabled ≡ true → is_some (processor w p).running ≡ true) (free : (processor w p).locked ≡ false) (l : Object) where
  -- who holds a lock after this one was taken
  taken_before : (m : Object) (q : Proc) → holder (taken w p l) m ≡ Some q → ((m.number ≡ l.number) × (q ≡ p)) ⊎ (holder w m ≡ Some q)
  taken_before m q =
      item_after None w.holders l.number (Some p) (λ (h : Option Proc). h ≡ Some q → ((m.number ≡ l.number) × (q ≡ p)) ⊎ (holder w m ≡ Some q)) m.number
      (λ i e. inl (ap (λ (x : Object). x.number) (object_at m l i), sym (same_Some p q e))) (λ e. inr e)

  -- nobody was held by p, since it was not CPU-locked
  not_by_p : Rests w → (m : Object) (q : Proc) → holder w m ≡ Some q → q ≡ p → ⊥
  not_by_p r m q e i = both_ways _ free (subst (λ (x : Proc). (processor w x).locked ≡ true) i (r.in_range.locked m q e))

  keeps_taken : KeepsOthers w (taken w p l) p
  keeps_taken =
      let f : Processor = record (processor w p) { locked = true } in
      let hs : List (Option Proc) = with_item w.holders l.number (Some p) in
      let here : processor (taken w p l) p ≡ f = processor_here w p within f hs w.due in
      keeps_processor w p within f hs w.due refl (occupied_with w p within there f hs refl some) (λ q d none. none)
      (λ r m q e.
      ⊎_elim (λ (new : (m.number ≡ l.number) × (q ≡ p)). subst (λ (x : Proc). (processor (taken w p l) x).locked ≡ true) (sym new.1) (ap (λ (c : Processor). c.locked) here))
      (λ (old : holder w m ≡ Some q). item_after no_processor w.processors p.number f (λ (c : Processor). c.locked ≡ true) q.number (λ _. refl) (r.in_range.locked m q old))
      (taken_before m q e))
      (λ r m n q e g. both r m n q (taken_before m q e) (taken_before n q g))
    where
      both : Rests w → (m n : Object) (q : Proc) → ((m.number ≡ l.number) × (q ≡ p)) ⊎ (holder w m ≡ Some q) → ((n.number ≡ l.number) × (q ≡ p)) ⊎ (holder w n ≡ Some q) → m.number ≡ n.number
      both r m n q (inl a) (inl b) = a.0 ∙ sym b.0
      both r m n q (inl a) (inr b) = absurd (not_by_p r n q b a.1)
      both r m n q (inr a) (inl b) = absurd (not_by_p r m q a b.1)
      both r m n q (inr a) (inr b) = r.in_range.one_lock m n q a b

-- where the processor is not CPU-locked somebody is there, if dispatching is held
somebody : (h : Option Runner) (c : Processor) → c.locked ≡ false → (c.disabled ≡ true → is_some c.running ≡ true) → (is_some h || c.locked || c.disabled) ≡ true →
    is_some (option_or h (option_map runner.Task c.running)) ≡ true
somebody (Some x) c free some held = refl
somebody None c free some held = go c.running (some (rw free at held))
  where
    go : (o : Option Task) → is_some o ≡ true → is_some (option_map runner.Task o) ≡ true
    go None e = e
    go (Some t) e = refl

module _ {Q : Type 0} (k : Ordering Q) (w : World Q) (p : Proc) (s : Safe k w) (within : IsNumberOf w.processors p.number) where
  occupied : Occupied w p
  occupied = occupied_at w p (s.processors p within)

  -- the call may not be made in the CPU-locked state
  not_locked : (c : Context) → is_refused_context w p (record { context = c; when_locked = false; unheld = false }) ≡ false → (processor w p).locked ≡ false
  not_locked c e = unlocked_alone _ (or_parts _ _ (or_parts _ _ e).0).1
    where
      unlocked_alone : (b : Bool) → (b && true) ≡ false → b ≡ false
      unlocked_alone true e = absurd (false≢true (sym e))
      unlocked_alone false e = refl

  module _ (there : is_some (runner_of w p) ≡ true) where
    keeps_loc_spn : (c : Context) (id : ℤ) → KeepsOthers w (called w p (from c (loc_spn w p id))).0 p
    unfolding loc_spn
    keeps_loc_spn c id =
        let l : Object = unwrap_or (object_named w.holders id) (as_object 1) in
        keeps_called w p (from c (loc_spn w p id)) occupied
        (λ a. cond_both (is_some (holder w l)) _ _ (λ (did : World Q × Effect). KeepsOthers w did.0 p) (λ _. keeps_all w p occupied)
        (λ _. keeps_taken w p within there (s.processors p within).disabled (not_locked c a.rule) l))

    keeps_try_spn : (c : Context) (id : ℤ) → KeepsOthers w (called w p (from c (try_spn w p id))).0 p
    unfolding try_spn
    keeps_try_spn c id =
        keeps_called w p (from c (try_spn w p id)) occupied
        (λ a. keeps_taken w p within there (s.processors p within).disabled (not_locked c a.rule) (unwrap_or (object_named w.holders id) (as_object 1)))

    keeps_unl_spn : (c : Context) (id : ℤ) → KeepsOthers w (called w p (from c (unl_spn w p id))).0 p
    unfolding unl_spn
    keeps_unl_spn c id = keeps_called w p (from c (unl_spn w p id)) occupied (λ a. keeps_unlocked w p within there (s.processors p within).disabled)

    pub keeps_spin : (c : SpinCall) → KeepsOthers w (called w p (spin_row w p c)).0 p
    unfolding loc_spn try_spn unl_spn
    keeps_spin (call.LocSpn id) = keeps_loc_spn context.Task id
    keeps_spin (call.IlocSpn id) = keeps_loc_spn context.Handler id
    keeps_spin (call.TrySpn id) = keeps_try_spn context.Task id
    keeps_spin (call.ItrySpn id) = keeps_try_spn context.Handler id
    keeps_spin (call.UnlSpn id) = keeps_unl_spn context.Task id
    keeps_spin (call.IunlSpn id) = keeps_unl_spn context.Handler id

  pub keeps_ret : KeepsOthers w (called w p (ret_hdr w p)).0 p
  unfolding ret_hdr
  keeps_ret =
      let f : Processor = record (processor w p) { locked = false } in
      let hs : List (Option Proc) = map (freed p) w.holders in
      let due : List (List Runner) = with_item w.due p.number (rest (item [] w.due p.number)) in
      let v : World Q = record (unlocked w p) { due = due } in
      let here : processor v p ≡ f = processor_here w p within f hs due in
      keeps_called w p (ret_hdr w p) occupied
      (λ a. keeps_processor_freeing w p within f hs due refl
      (record {
        held = subst (λ (c : Processor). (is_some (handler v p) || c.locked || c.disabled) ≡ true → is_some (option_or (handler v p) (option_map runner.Task c.running)) ≡ true) (sym here)
            (somebody (handler v p) f refl (s.processors p within).disabled);
        disabled = subst (λ (c : Processor). c.disabled ≡ true → is_some c.running ≡ true) (sym here) (s.processors p within).disabled;
      })
      (λ q d none. subst (λ (hs : List Runner). is_some (first hs) ≡ false) (item_other [] w.due p.number (rest (item [] w.due p.number)) q.number q.least p.least d) none)
      (freed_before w p))

-- ---- what they tell

module _ {Q : Type 0} (n : Counts) (w : World Q) (h : HasCounts n w) (p : Proc) where
  tells_locks : (hs : List (Option Proc)) (f : Processor) → Tells n (record w { processors = with_item w.processors p.number f; holders = hs }, done)
  tells_locks hs f = tells_plain n _ (answer.Done code.Accepted None) (counts_processor n w h p.number f hs w.due h.due) tt

  tells_loc_spn : (id : ℤ) → Tells n (loc_spn w p id).effect
  unfolding loc_spn
  tells_loc_spn id =
      cond_both (is_some (holder w (unwrap_or (object_named w.holders id) (as_object 1)))) _ _ (Tells n) (λ _. tells_plain n w answer.Spin h tt) (λ _. tells_locks _ _)

  pub tells_spin_call : (c : SpinCall) → Accepts w p (spin_row w p c) → Tells n (spin_row w p c).effect
  unfolding try_spn unl_spn
  tells_spin_call (call.LocSpn id) a = tells_loc_spn id
  tells_spin_call (call.IlocSpn id) a = tells_loc_spn id
  tells_spin_call (call.TrySpn id) a = tells_locks _ _
  tells_spin_call (call.ItrySpn id) a = tells_locks _ _
  tells_spin_call (call.UnlSpn id) a = tells_locks _ _
  tells_spin_call (call.IunlSpn id) a = tells_locks _ _

  all_rest : (hs : List Runner) → All (IsRunnerOf n) hs → All (IsRunnerOf n) (rest hs)
  all_rest [] all = all
  all_rest (x ∷ hs) all = All-tail (IsRunnerOf n) x hs all

  pub tells_ret : Tells n (ret_hdr w p).effect
  unfolding ret_hdr
  tells_ret =
      tells_plain n _ (answer.Done code.Accepted None)
      (counts_processor n w h p.number _ (unlocked w p).holders _ (all_after [] w.due p.number (rest (item [] w.due p.number)) (All (IsRunnerOf n)) (all_rest (item [] w.due p.number)) h.due)) tt
