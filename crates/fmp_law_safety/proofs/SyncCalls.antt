-- The calls on semaphores and eventflags keep a state safe, and tell only of what there is.
use Rattle.std.proofs.Common.{◌≡◌, ℕ, ℤ, suc, pos, ◌+◌, ◌-◌, ◌<◌, ◌≤◌, ◌^◌, ◌⊎◌, inl, inr, Bool, true, false, not, ◌&&◌, List, [], ◌∷◌, length, refl, sym, ap, ◌∙◌, subst, arith, Option, Some, None, ⊎_elim}
use Rattle.std.specs.Prelude.{All, is_some, is_none, unwrap_or, nat_le, nat_lt, bit_and, bit_or}
use Rattle.std.proofs.lemmas.Bool.{cases_eq, both_ways, cond_both, and_parts, eq-eqb, ltb-false, leb-false}
use Rattle.std.proofs.lemmas.List.Elements.{All-nil, All-cons}
use Rattle.std.proofs.lemmas.Nat.{and_le_l, or_of_32}
use Rattle.std.proofs.lemmas.Option.{none-some}
use Rattle.fmp_codes.specs.Numbers.{as_object}
use Rattle.fmp_codes.specs.declared.numbers.Proc.{Proc}
use Rattle.fmp_codes.specs.declared.numbers.Task.{Task}
use Rattle.fmp_codes.specs.declared.numbers.Object.{Object}
use Rattle.fmp_codes.specs.declared.calls.Call.TheVariants as calls
use Rattle.fmp_codes.specs.declared.calls.Mode.{Mode}
use Rattle.fmp_codes.specs.declared.calls.Mode.TheVariants as mode
use Rattle.fmp_codes.specs.declared.calls.SyncCall.{SyncCall}
use Rattle.fmp_codes.specs.declared.calls.SyncCall.TheVariants as call
use Rattle.fmp_codes.specs.declared.codes.Code.TheVariants as code
use Rattle.fmp_codes.specs.declared.records.Answer.TheVariants as answer
use Rattle.fmp_codes.specs.declared.records.Release.{Release}
use Rattle.fmp_codes.proofs.Same.{tasks_same}
use Rattle.fmp_calls.specs.Arguments.{CallInBits}
use Rattle.fmp_rules.specs.declared.machine.Eventflag.{Eventflag}
use Rattle.fmp_rules.specs.declared.machine.Semaphore.{Semaphore}
use Rattle.fmp_rules.specs.declared.machine.Context.{Context}
use Rattle.fmp_rules.specs.declared.machine.Context.TheVariants as context
use Rattle.fmp_rules.specs.declared.machine.TaskRecord.{TaskRecord}
use Rattle.fmp_rules.specs.declared.machine.Wait.TheVariants as wait
use Rattle.fmp_rules.specs.declared.machine.QueueKind.TheVariants as kind
use Rattle.fmp_rules.specs.World.{World, task, first}
use Rattle.fmp_rules.specs.Objects.{semaphore, eventflag, holds}
use Rattle.fmp_rules.specs.Ordering.{Ordering, waits_in, queue}
use Rattle.fmp_rules.specs.Tasks.{make_ready}
use Rattle.fmp_rules.specs.Rows.{done, called, and_release}
use Rattle.fmp_rules.specs.Arguments.{object_named, forever}
use Rattle.fmp_rules.specs.SyncCalls.{with_count, signal, counted, sig_sem, twai_sem, pol_sem, with_pattern, is_met, cleared, served, set_flg, clr_flg, answered, twai_flg, pol_flg, sync_row}
use Rattle.fmp_rules.proofs.Patterns.{unmet_with_none, unmet_with_fewer}
use Rattle.fmp_law_safety.specs.Safe.{IsNumberOf, Safe}
use Rattle.fmp_law_safety.specs.Counts.{Counts, IsReleaseOf, HasCounts}
use Rattle.fmp_law_safety.proofs.Items.{item_holds, all_after}
use Rattle.fmp_law_safety.proofs.RestsObjects.{in_queue, rests_count, rests_pattern}
use Rattle.fmp_law_safety.proofs.Keeps.{Occupied, KeepsOthers, keeps_objects}
use Rattle.fmp_law_safety.proofs.Queues.{IsAmong, Lists, nobody_waits, none_there}
use Rattle.fmp_law_safety.proofs.Calls.{from, Accepts, keeps_called, occupied_at}
use Rattle.fmp_law_safety.proofs.KeepsWords.{keeps_make_ready, keeps_done_or_wait, keeps_after_release, wait_gone, others_as_before}
use Rattle.fmp_law_safety.proofs.Counted.{counts_objects}
use Rattle.fmp_law_safety.proofs.Tells.{Tells, tells_plain, queued_number, counts_ready, tells_first, tells_done_or_wait}

-- Patterns: what is not met at x is not met with fewer bits, and not with none.

-- Objects.

module _ {Q : Type 0} (w : World Q) (p : Proc) (o : Occupied w p) where
  -- a semaphore has another count, which is 0 if somebody waits
  keeps_count : (s : Object) (n : ℕ) → ((t : Task) → waits_in kind.Semaphore s (task w t).wait ≡ true → (semaphore w s).count ≡ 0 → n ≡ 0) →
      ((semaphore w s).count ≤ (semaphore w s).setup.most → n ≤ (semaphore w s).setup.most) → KeepsOthers w (with_count w s n) p
  keeps_count s n waited range =
      keeps_objects w p (with_count w s n).semaphores w.eventflags w.contents w.pools w.cyclics w.cyclics_left w.alarms w.alarms_left o (rests_count w s n waited range)
      (λ r c h. h) (λ a h. h)

  keeps_counted : (s : Object) → KeepsOthers w (counted w s).0 p
  keeps_counted s = keeps_count s ((semaphore w s).count - 1) (λ t waits none. omega (arith, none)) (λ h. omega (arith, h))

  -- an eventflag has another pattern, at which no wait is over
  keeps_pattern : (f : Object) (n : ℕ) → ((t : Task) (x : ℕ) (m : Mode) → (task w t).wait ≡ Some (wait.Eventflag f x m) → holds (eventflag w f).pattern x m ≡ false → holds n x m ≡ false) →
      KeepsOthers w (with_pattern w f n) p
  keeps_pattern f n waited =
      keeps_objects w p w.semaphores (with_pattern w f n).eventflags w.contents w.pools w.cyclics w.cyclics_left w.alarms w.alarms_left o (rests_pattern w f n waited)
      (λ r c h. h) (λ a h. h)

  -- what is not met before is not met when the pattern may be cleared
  unmet_if_cleared : (f : Object) (y x : ℕ) (m : Mode) → holds (eventflag w f).pattern x m ≡ false → holds y x m ≡ false → holds (cleared w f y) x m ≡ false
  unmet_if_cleared f y x m old new =
      cond_both (eventflag w f).setup.clears 0 y (λ z. holds z x m ≡ false) (λ _. unmet_with_none (eventflag w f).pattern x m old) (λ _. new)

  keeps_answered : (f : Object) → KeepsOthers w (answered w f).0 p
  keeps_answered f = keeps_pattern f _ (λ t x m e h. unmet_if_cleared f (eventflag w f).pattern x m h h)

-- Several releases in one event.

-- each wait on a flag that is met at x is that of one of these tasks
abbrev UnmetBut : {Q : Type 0} → World Q → Object → ℕ → List Task → Type 0
UnmetBut w f x ts = (u : Task) (y : ℕ) (m : Mode) → (task w u).wait ≡ Some (wait.Eventflag f y m) → holds (eventflag w f).pattern y m ≡ false → IsAmong u ts ⊎ (holds x y m ≡ false)

module _ {Q : Type 0} (k : Ordering Q) (p : Proc) (f : Object) where
  unmet_after : (w : World Q) (x : ℕ) (t : Task) (ts : List Task) → Occupied w p → UnmetBut w f x (t ∷ ts) → UnmetBut (make_ready k w t) f (cleared w f x) ts
  unmet_after w x t ts o unmet u y m e h =
      ⊎_elim
      (λ (i : u.number ≡ t.number). absurd (none-some _ (sym (wait_gone k w p o t) ∙ subst (λ (v : Task). (task (make_ready k w t) v).wait ≡ Some (wait.Eventflag f y m)) (tasks_same u t i) e)))
      (λ (d : u.number ≡ t.number → ⊥).
      let before : (task w u).wait ≡ Some (wait.Eventflag f y m) = subst (λ (r : TaskRecord). r.wait ≡ Some (wait.Eventflag f y m)) (others_as_before k w p o t u d) e in
      go (unmet u y m before h) d)
      (cases_eq u.number t.number)
    where
      go : IsAmong u (t ∷ ts) ⊎ (holds x y m ≡ false) → (u.number ≡ t.number → ⊥) → IsAmong u ts ⊎ (holds (cleared w f x) y m ≡ false)
      go (inl (inl i)) d = absurd (d (ap (λ (v : Task). v.number) (sym i)))
      go (inl (inr i)) d = inl i
      go (inr n) d = inr (unmet_if_cleared w p o f x y m h n)

  unmet_passed : (w : World Q) (x : ℕ) (t : Task) (ts : List Task) → is_met x (task w t).wait ≡ false → UnmetBut w f x (t ∷ ts) → UnmetBut w f x ts
  unmet_passed w x t ts passed unmet u y m e h = go (unmet u y m e h)
    where
      go : IsAmong u (t ∷ ts) ⊎ (holds x y m ≡ false) → IsAmong u ts ⊎ (holds x y m ≡ false)
      go (inl (inl i)) = inr (sym (ap (is_met x) (ap (λ (v : Task). (task w v).wait) i ∙ e)) ∙ passed)
      go (inl (inr i)) = inl i
      go (inr n) = inr n

  keeps_served : (w : World Q) (x : ℕ) (ts : List Task) → Occupied w p → UnmetBut w f x ts → KeepsOthers w (served k w f x ts).0 p
  keeps_served w x [] o unmet = keeps_pattern w p o f x (λ t y m e h. go t y m (unmet t y m e h))
    where
      go : (t : Task) (y : ℕ) (m : Mode) → IsAmong t [] ⊎ (holds x y m ≡ false) → holds x y m ≡ false
      go t y m (inl i) = absurd i
      go t y m (inr n) = n
  keeps_served w x (t ∷ ts) o unmet =
      cond_both (is_met x (task w t).wait) _ (served k w f x ts) (λ (did : World Q × List Release). KeepsOthers w did.0 p)
      (λ _. keeps_after_release k w p o t _
      (keeps_served (make_ready k w t) (cleared w f x) ts (keeps_make_ready k w p o t).occupied (unmet_after w x t ts o unmet)))
      (λ passed. keeps_served w x ts o (unmet_passed w x t ts passed unmet))

-- The calls.

module _ {Q : Type 0} (k : Ordering Q) (w : World Q) (l : Lists k w) (p : Proc) (s : Safe k w) (within : IsNumberOf w.processors p.number) where
  occupied : Occupied w p
  occupied = occupied_at w p (s.processors p within)

  keeps_signal : (o : Object) (t : Option Task) → first (queue k w kind.Semaphore o) ≡ t → (is_none t && nat_le (semaphore w o).setup.most (semaphore w o).count) ≡ false →
      KeepsOthers w (signal k w o t).0 p
  keeps_signal o None e room =
      keeps_count w p occupied o ((semaphore w o).count + 1) (λ t waits _. absurd (both_ways _ (nobody_waits k w l kind.Semaphore o (ap is_none e) t) waits))
      (λ _. omega (arith, leb-false _ _ room))
  keeps_signal o (Some t) e room = keeps_make_ready k w p occupied t

  keeps_sig : (c : Context) (id : ℤ) → KeepsOthers w (called w p (from c (sig_sem k w id))).0 p
  unfolding sig_sem
  keeps_sig c id =
      keeps_called w p (from c (sig_sem k w id)) occupied
      (λ a. keeps_signal (unwrap_or (object_named w.semaphores id) (as_object 1)) _ refl a.errors.0)

  keeps_wai_sem : (id timeout : ℤ) → KeepsOthers w (called w p (twai_sem k w p id timeout)).0 p
  unfolding twai_sem
  keeps_wai_sem id timeout =
      let o : Object = unwrap_or (object_named w.semaphores id) (as_object 1) in
      keeps_called w p (twai_sem k w p id timeout) occupied
      (λ a. keeps_done_or_wait k w p s within (nat_lt 0 (semaphore w o).count) (counted w o) (wait.Semaphore o) timeout a.rule a.proper
      (λ _. keeps_counted w p occupied o) (λ e. (omega (arith, ltb-false 0 (semaphore w o).count e), tt)))

  keeps_pol_sem : (id : ℤ) → KeepsOthers w (called w p (pol_sem w id)).0 p
  unfolding pol_sem
  keeps_pol_sem id = keeps_called w p (pol_sem w id) occupied (λ a. keeps_counted w p occupied (unwrap_or (object_named w.semaphores id) (as_object 1)))

  keeps_set : (c : Context) (id : ℤ) (pattern : ℕ) → KeepsOthers w (called w p (from c (set_flg k w id pattern))).0 p
  unfolding set_flg
  keeps_set c id pattern =
      let f : Object = unwrap_or (object_named w.eventflags id) (as_object 1) in
      keeps_called w p (from c (set_flg k w id pattern)) occupied
      (λ a. keeps_served k p f w (bit_or (eventflag w f).pattern pattern) (queue k w kind.Eventflag f) occupied
      (λ u y m e h. inl (l.waiting kind.Eventflag f u (in_queue kind.Eventflag f (wait.Eventflag f y m) _ e (eq-eqb f.number f.number refl)))))

  keeps_clr : (id : ℤ) (pattern : ℕ) → KeepsOthers w (called w p (clr_flg w id pattern)).0 p
  unfolding clr_flg
  keeps_clr id pattern =
      let f : Object = unwrap_or (object_named w.eventflags id) (as_object 1) in
      keeps_called w p (clr_flg w id pattern) occupied
      (λ a. keeps_pattern w p occupied f _ (λ t x m e h. unmet_with_fewer (eventflag w f).pattern pattern x m h))

  -- where nobody else waits, or several may
  alone : (many : Bool) (t : Option Task) → (not many && is_some t) ≡ false → many ≡ false → is_none t ≡ true
  alone many t e one = none_there t (rw one at e)

  keeps_wai_flg : (id : ℤ) (pattern : ℕ) (m : Mode) (timeout : ℤ) → KeepsOthers w (called w p (twai_flg k w p id pattern m timeout)).0 p
  unfolding twai_flg
  keeps_wai_flg id pattern m timeout =
      let f : Object = unwrap_or (object_named w.eventflags id) (as_object 1) in
      keeps_called w p (twai_flg k w p id pattern m timeout) occupied
      (λ a. keeps_done_or_wait k w p s within (holds (eventflag w f).pattern pattern m) (answered w f) (wait.Eventflag f pattern m) timeout a.rule (and_parts (nat_lt 0 pattern) _ a.proper).1
      (λ _. keeps_answered w p occupied f)
      (λ e. (e, λ one. nobody_waits k w l kind.Eventflag f (alone (eventflag w f).setup.many (first (queue k w kind.Eventflag f)) a.errors.0 one))))

  keeps_pol_flg : (id : ℤ) (pattern : ℕ) (m : Mode) → KeepsOthers w (called w p (pol_flg k w id pattern m)).0 p
  unfolding pol_flg
  keeps_pol_flg id pattern m = keeps_called w p (pol_flg k w id pattern m) occupied (λ a. keeps_answered w p occupied (unwrap_or (object_named w.eventflags id) (as_object 1)))

  pub keeps_sync : (c : SyncCall) → KeepsOthers w (called w p (sync_row k w p c)).0 p
  unfolding sig_sem set_flg
  keeps_sync (call.SigSem id) = keeps_sig context.Task id
  keeps_sync (call.IsigSem id) = keeps_sig context.Handler id
  keeps_sync (call.WaiSem id) = keeps_wai_sem id forever
  keeps_sync (call.TwaiSem id timeout) = keeps_wai_sem id timeout
  keeps_sync (call.PolSem id) = keeps_pol_sem id
  keeps_sync (call.SetFlg id pattern) = keeps_set context.Task id pattern
  keeps_sync (call.IsetFlg id pattern) = keeps_set context.Handler id pattern
  keeps_sync (call.ClrFlg id pattern) = keeps_clr id pattern
  keeps_sync (call.WaiFlg id pattern m) = keeps_wai_flg id pattern m forever
  keeps_sync (call.TwaiFlg id pattern m timeout) = keeps_wai_flg id pattern m timeout
  keeps_sync (call.PolFlg id pattern m) = keeps_pol_flg id pattern m

-- ---- what they tell

-- the object that an argument names, where it names one
abbrev the : Option Object → Object
the o = unwrap_or o (as_object 1)

module _ {Q : Type 0} (n : Counts) (w : World Q) (h : HasCounts n w) where
  counts_semaphores : (ss : List Semaphore) → HasCounts n (record w { semaphores = ss })
  counts_semaphores ss =
      counts_objects n w h w.waits_left ss w.eventflags w.contents w.pools w.cyclics w.cyclics_left w.alarms w.alarms_left w.due refl h.in_bits.patterns h.in_bits.contents h.in_bits.blocks refl refl h.due

  counts_pattern : (f : Object) (x : ℕ) → x < 2 ^ 32 → HasCounts n (with_pattern w f x)
  counts_pattern f x e =
      counts_objects n w h w.waits_left w.semaphores (with_pattern w f x).eventflags w.contents w.pools w.cyclics w.cyclics_left w.alarms w.alarms_left w.due refl
      (all_after _ w.eventflags f.number (record (eventflag w f) { pattern = x }) (λ (y : Eventflag). y.pattern < 2 ^ 32) (λ (i : (eventflag w f).pattern < 2 ^ 32). e) h.in_bits.patterns)
      h.in_bits.contents h.in_bits.blocks refl refl h.due

  pattern_fits : (f : Object) → (eventflag w f).pattern < 2 ^ 32
  pattern_fits f = item_holds (λ (y : Eventflag). y.pattern < 2 ^ 32) _ w.eventflags f.number (omega arith) h.in_bits.patterns

cleared_fits : {Q : Type 0} (w : World Q) (f : Object) (x : ℕ) → x < 2 ^ 32 → cleared w f x < 2 ^ 32
cleared_fits w f x e = cond_both (eventflag w f).setup.clears 0 x (λ y. y < 2 ^ 32) (λ _. omega arith) (λ _. e)

-- Several releases in one event.

pub record Serves {Q : Type 0} (n : Counts) (most : ℕ) (did : World Q × List Release) : Type 0 where
  pub counts : HasCounts n did.0
  pub releases : All (IsReleaseOf n) did.1
  pub few : length did.1 ≤ most

-- one more, before the others
pub serves_more : {Q : Type 0} (n : Counts) (most : ℕ) (r : Release) (others : World Q × List Release) → IsReleaseOf n r → Serves n most others → Serves n (suc most) (and_release r others)
serves_more n most r others is s =
    let few = s.few in record { counts = s.counts; releases = All-cons (IsReleaseOf n) r others.1 is s.releases; few = omega (arith, few) }

module _ {Q : Type 0} (k : Ordering Q) (n : Counts) (f : Object) where
  served_tells : (w : World Q) → HasCounts n w → (x : ℕ) → x < 2 ^ 32 → (ts : List Task) → ((t : Task) → IsAmong t ts → t.number ≤ n.tasks) → Serves n (length ts) (served k w f x ts)
  served_tells w h x e [] numbers = record { counts = counts_pattern n w h f x e; releases = All-nil (IsReleaseOf n); few = omega arith }
  served_tells w h x e (t ∷ ts) numbers =
      let later : (u : Task) → IsAmong u ts → u.number ≤ n.tasks = λ u i. numbers u (inr i) in
      cond_both (is_met x (task w t).wait) _ (served k w f x ts) (Serves n (suc (length ts)))
      (λ _. serves_more n (length ts) _ (served k (make_ready k w t) f (cleared w f x) ts) (numbers t (inl refl), omega (arith, e))
      (served_tells (make_ready k w t) (counts_ready n w h k t) (cleared w f x) (cleared_fits w f x e) ts later))
      (λ _. let rest = served_tells w h x e ts later in let few = rest.few in record { counts = rest.counts; releases = rest.releases; few = omega (arith, few) })

module _ {Q : Type 0} (k : Ordering Q) (n : Counts) (w : World Q) (h : HasCounts n w) (l : Lists k w) (p : Proc) where
  tells_did : (v : World Q) → HasCounts n v → Tells n (v, done)
  tells_did v i = tells_plain n v (answer.Done code.Accepted None) i tt

  -- ---- semaphores

  tells_signal : (s : Object) (t : Option Task) → first (queue k w kind.Semaphore s) ≡ t → Tells n (signal k w s t)
  tells_signal s None e = tells_did _ (counts_semaphores n w h _)
  tells_signal s (Some t) e = tells_first n w h k l kind.Semaphore s t code.Accepted None e tt

  tells_twai_sem : (id timeout : ℤ) → Tells n (twai_sem k w p id timeout).effect
  unfolding twai_sem
  tells_twai_sem id timeout =
      let s : Object = the (object_named w.semaphores id) in
      tells_done_or_wait n w h k p (nat_lt 0 (semaphore w s).count) (counted w s) (wait.Semaphore s) timeout (λ _. tells_did _ (counts_semaphores n w h _)) tt

  -- ---- eventflags

  tells_answered : (f : Object) → Tells n (answered w f)
  tells_answered f =
      let e : (eventflag w f).pattern < 2 ^ 32 = pattern_fits n w h f in
      tells_plain n _ (answer.Done code.Accepted (Some (pos (eventflag w f).pattern))) (counts_pattern n w h f (cleared w f (eventflag w f).pattern) (cleared_fits w f (eventflag w f).pattern e)) (omega (arith, e))

  tells_set : (id : ℤ) (pattern : ℕ) → pattern < 2 ^ 32 → Tells n (set_flg k w id pattern).effect
  unfolding set_flg
  tells_set id pattern fits =
      let f : Object = the (object_named w.eventflags id) in
      let x : ℕ = bit_or (eventflag w f).pattern pattern in
      let s = served_tells k n f w h x (or_of_32 (eventflag w f).pattern pattern (pattern_fits n w h f) fits) (queue k w kind.Eventflag f)
      (λ t i. queued_number n w h kind.Eventflag f t (l.only_waiting kind.Eventflag f t i)) in
      let few = s.few in let queued = l.few_waiting kind.Eventflag f in let tasks = h.tasks in let most = h.few_tasks in
      record { counts = s.counts; answer = tt; releases = s.releases; few = omega (arith, few, queued, tasks, most); lost = tt }

  tells_clr : (id : ℤ) (pattern : ℕ) → Tells n (clr_flg w id pattern).effect
  unfolding clr_flg
  tells_clr id pattern =
      let f : Object = the (object_named w.eventflags id) in
      let e : (eventflag w f).pattern < 2 ^ 32 = pattern_fits n w h f in
      tells_did _ (counts_pattern n w h f (bit_and (eventflag w f).pattern pattern) (omega (arith, e, and_le_l (eventflag w f).pattern pattern)))

  tells_twai_flg : (id : ℤ) (pattern : ℕ) (m : Mode) (timeout : ℤ) → Tells n (twai_flg k w p id pattern m timeout).effect
  unfolding twai_flg
  tells_twai_flg id pattern m timeout =
      let f : Object = the (object_named w.eventflags id) in
      tells_done_or_wait n w h k p (holds (eventflag w f).pattern pattern m) (answered w f) (wait.Eventflag f pattern m) timeout (λ _. tells_answered f) tt

  pub tells_sync : (c : SyncCall) → CallInBits (calls.Sync c) → Accepts w p (sync_row k w p c) → Tells n (sync_row k w p c).effect
  unfolding sig_sem pol_sem pol_flg
  tells_sync (call.SigSem id) fits a = tells_signal (the (object_named w.semaphores id)) _ refl
  tells_sync (call.IsigSem id) fits a = tells_signal (the (object_named w.semaphores id)) _ refl
  tells_sync (call.WaiSem id) fits a = tells_twai_sem id forever
  tells_sync (call.TwaiSem id timeout) fits a = tells_twai_sem id timeout
  tells_sync (call.PolSem id) fits a = tells_did _ (counts_semaphores n w h _)
  tells_sync (call.SetFlg id pattern) fits a = tells_set id pattern fits.1.0
  tells_sync (call.IsetFlg id pattern) fits a = tells_set id pattern fits.1.0
  tells_sync (call.ClrFlg id pattern) fits a = tells_clr id pattern
  tells_sync (call.WaiFlg id pattern m) fits a = tells_twai_flg id pattern m forever
  tells_sync (call.TwaiFlg id pattern m timeout) fits a = tells_twai_flg id pattern m timeout
  tells_sync (call.PolFlg id pattern m) fits a = tells_answered (the (object_named w.eventflags id))
