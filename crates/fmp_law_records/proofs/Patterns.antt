-- What each call does to the pattern of an eventflag is what its record says.
use Rattle.std.proofs.Common.{◌≡◌, ℕ, ◌<◌, arith, ◌≤◌, ◌==◌, ℤ, pos, Bool, true, false, not, List, [], ◌∷◌, length, map, refl, sym, ap, ◌∙◌, subst, Option, Some, None, bit_and, bit_or}
use Rattle.std.specs.Prelude.{if◌then◌else◌, is_some, nat_lt, unwrap_or}
use Rattle.std.proofs.lemmas.Bool.{cond_both, cond-false}
use Rattle.std.proofs.lemmas.Bool.{both_ways, eqb-true, not-false, ltb-true, ne_eqb}
use Rattle.std.specs.Prelude.{IfSome}
use Rattle.fmp_codes.proofs.Same.{objects_same}
use Rattle.fmp_codes.specs.declared.calls.Mode.TheVariants as mode
use Rattle.fmp_codes.specs.Numbers.{as_object}
use Rattle.fmp_codes.specs.declared.numbers.Proc.{Proc}
use Rattle.fmp_codes.specs.declared.numbers.Object.{Object}
use Rattle.fmp_codes.specs.declared.numbers.Task.{Task}
use Rattle.fmp_codes.specs.declared.calls.Mode.{Mode}
use Rattle.fmp_codes.specs.declared.calls.Call.{Call}
use Rattle.fmp_codes.specs.declared.calls.Call.TheVariants as call
use Rattle.fmp_codes.specs.declared.calls.SyncCall.{SyncCall}
use Rattle.fmp_codes.specs.declared.calls.SyncCall.TheVariants as sync
use Rattle.fmp_codes.specs.declared.codes.Code.{Code}
use Rattle.fmp_codes.specs.declared.codes.Code.TheVariants as code
use Rattle.fmp_codes.specs.declared.records.Answer.{Answer}
use Rattle.fmp_codes.specs.declared.records.Answer.TheVariants as answer
use Rattle.fmp_codes.specs.declared.records.Event.TheVariants as event
use Rattle.fmp_codes.specs.declared.records.Record.{Record}
use Rattle.fmp_codes.specs.declared.records.Release.{Release}
use Rattle.fmp_rules.specs.Effects.{Effect}
use Rattle.fmp_rules.specs.declared.machine.Eventflag.{Eventflag}
use Rattle.fmp_rules.specs.declared.machine.QueueKind.TheVariants as kind
use Rattle.fmp_rules.specs.declared.machine.Wait.TheVariants as wait
use Rattle.fmp_rules.specs.World.{World, item, with_item, task, runner_of}
use Rattle.fmp_rules.specs.Objects.{eventflag, holds, blank_eventflag}
use Rattle.fmp_rules.specs.Ordering.{Ordering, queue, begin_wait}
use Rattle.fmp_rules.specs.Tasks.{make_ready}
use Rattle.fmp_rules.specs.Rows.{called, refused, plain, done, in_handler, done_or_wait}
use Rattle.fmp_rules.specs.Arguments.{object_named, caller, is_zero, forever, ticks_of}
use Rattle.fmp_rules.specs.SyncCalls.{with_pattern, set_flg, clr_flg, twai_flg, pol_flg, is_met, cleared, served, answered, sync_row}
use Rattle.fmp_rules.specs.Step.{row_of}
use Rattle.fmp_law_safety.proofs.Items.{item_same, item_other}
use Rattle.fmp_law_balance.specs.Accepted.{is_accepted, accepted_value, names}
use Rattle.fmp_law_balance.proofs.Called.{refuses, by_called, not_accepted}
use Rattle.fmp_law_balance.proofs.Objects.{IsNamed, object_known, by_object}
use Rattle.fmp_law_balance.proofs.Steps.{report}
use Rattle.fmp_law_records.specs.Patterns.{Asked, is_there, handed_on, after_releases, set_by, sets_bits, keeps_bits, asks_bits, pattern_after, values_from, PatternFits}
use Rattle.fmp_law_records.proofs.Leaving.{call_calm}
use Rattle.fmp_law_records.proofs.Report.{either}

pub unchanged_pattern : (clears : Bool) (f : Object) (r : Record) (x : ℕ) → is_accepted r.answer ≡ false → pattern_after clears f r x ≡ x
unchanged_pattern clears f r x refusal = go (sets_bits f r.event) (keeps_bits f r.event) (asks_bits f r.event)
  where
    go : (a b : Option ℕ) (d : Option Asked) → set_by clears x r a b d ≡ x
    go (Some bits) b d = cond-false (is_accepted r.answer) _ _ refusal
    go None (Some bits) d = cond-false (is_accepted r.answer) _ _ refusal
    go None None (Some a) = cond-false (is_accepted r.answer) _ _ refusal
    go None None None = refl

twice_handed : (clears : Bool) (x : ℕ) → handed_on clears (handed_on clears x) ≡ handed_on clears x
twice_handed true x = refl
twice_handed false x = refl

-- the pattern that a flag has after it was handed to some
handed_then : (clears : Bool) (x : ℕ) (rs : List Release) → after_releases clears (handed_on clears x) rs ≡ handed_on clears x
handed_then clears x [] = refl
handed_then clears x (r ∷ rs) = twice_handed clears x

-- the queue is gone over
module _ {Q : Type 0} (k : Ordering Q) where
  abbrev pub with_bits : World Q → Object → ℕ → List Eventflag
  with_bits v f y = with_item v.eventflags f.number (record (eventflag v f) { pattern = y })

  pub served_pattern : (v : World Q) (f : Object) (x : ℕ) (ts : List Task) →
      (served k v f x ts).0.eventflags ≡ with_bits v f (after_releases (eventflag v f).setup.clears x (served k v f x ts).1)
  served_pattern v f x [] = refl
  served_pattern v f x (t ∷ ts) =
      cond_both (is_met x (task v t).wait) _ _ (λ (did : World Q × List Release). did.0.eventflags ≡ with_bits v f (after_releases (eventflag v f).setup.clears x did.1))
      (λ _. served_pattern (make_ready k v t) f (cleared v f x) ts ∙ ap (with_bits v f) (handed_then (eventflag v f).setup.clears x (served k (make_ready k v t) f (cleared v f x) ts).1))
      (λ _. served_pattern v f x ts)

  pub served_values : (v : World Q) (f : Object) (x : ℕ) (ts : List Task) → map (λ (y : Release). y.value) (served k v f x ts).1 ≡ values_from (eventflag v f).setup.clears x (served k v f x ts).1
  served_values v f x [] = refl
  served_values v f x (t ∷ ts) =
      cond_both (is_met x (task v t).wait) _ _ (λ (did : World Q × List Release). map (λ (y : Release). y.value) did.1 ≡ values_from (eventflag v f).setup.clears x did.1)
      (λ _. ap (λ vs. Some (pos x) ∷ vs) (served_values (make_ready k v t) f (cleared v f x) ts))
      (λ _. served_values v f x ts)

module _ {Q : Type 0} (k : Ordering Q) (w : World Q) (p : Proc) (f : Object) (few : length w.eventflags ≤ 32) where
  abbrev now : Eventflag
  now = eventflag w f

  pub record FlagReported (c : Call) (did : World Q × Effect) : Type 0 where
    pub here : eventflag did.0 f ≡ record now { pattern = pattern_after now.setup.clears f (report (event.Call p c) (runner_of w p) did.1) now.pattern }

  abbrev the : ℤ → Object
  the id = unwrap_or (object_named w.eventflags id) (as_object 1)

  left_reported : (c : Call) (v : World Q) (a : Answer) → v.eventflags ≡ w.eventflags → is_accepted a ≡ false → FlagReported c (v, plain a)
  left_reported c v a e refusal = record { here = ap (λ xs. item blank_eventflag xs f.number) e ∙ ap (λ y. record now { pattern = y }) (sym (unchanged_pattern now.setup.clears f (report (event.Call p c) (runner_of w p) (plain a)) now.pattern refusal)) }

  refused_reported : (c : Call) (x : Code) → refuses x ≡ true → FlagReported c (w, refused x)
  refused_reported c x e = left_reported c w (refused x).answer refl (not_accepted x e)

  -- the flag that is named gets another pattern
  put : (id : ℤ) (new : Eventflag → ℕ) (v : World Q) → is_some (object_named w.eventflags id) ≡ true → v.eventflags ≡ with_bits k w (the id) (new (eventflag w (the id))) →
      eventflag v f ≡ (if names f id then record now { pattern = new now } else now)
  put id new v known e =
      let o : Object = the id in
      let named : IsNamed w.eventflags id o = object_known w.eventflags id few known in
      let y : Eventflag = record (eventflag w o) { pattern = new (eventflag w o) } in
      ap (λ xs. item blank_eventflag xs f.number) e
      ∙ subst (λ (b : Bool). item blank_eventflag (with_item w.eventflags o.number y) f.number ≡ (if b then record now { pattern = new now } else now)) (sym (named.names f))
      (by_object (λ x b. item blank_eventflag (with_item w.eventflags o.number y) x.number ≡ (if b then record (eventflag w x) { pattern = new (eventflag w x) } else eventflag w x)) o f
      (item_same blank_eventflag w.eventflags o.number y o.least named.within.1) (λ d. item_other blank_eventflag w.eventflags o.number y f.number f.least o.least (λ q. d (sym q))))

  set_reported : (c : Call) (id : ℤ) (bits : ℕ) → is_some (object_named w.eventflags id) ≡ true → sets_bits f (event.Call p c) ≡ (if names f id then Some bits else None) → keeps_bits f (event.Call p c) ≡ None → asks_bits f (event.Call p c) ≡ None →
      let did = served k w (the id) (bit_or (eventflag w (the id)).pattern bits) (queue k w kind.Eventflag (the id)) in FlagReported c (did.0, record done { releases = did.1 })
  set_reported c id bits known a b d =
      let did : World Q × List Release = served k w (the id) (bit_or (eventflag w (the id)).pattern bits) (queue k w kind.Eventflag (the id)) in
      let r : Record = report (event.Call p c) (runner_of w p) (record done { releases = did.1 }) in
      record {
        here =
            put id (λ y. after_releases y.setup.clears (bit_or y.pattern bits) did.1) did.0 known (served_pattern k w (the id) (bit_or (eventflag w (the id)).pattern bits) (queue k w kind.Eventflag (the id)))
            ∙ rw (a, b, d) (either (names f id)
            (λ q. (if q then record now { pattern = after_releases now.setup.clears (bit_or now.pattern bits) did.1 } else now) ≡ record now { pattern = set_by now.setup.clears now.pattern r (if q then Some bits else None) None None }) refl refl);
      }

  -- who asks gets the pattern
  got_reported : (c : Call) (id : ℤ) (x : Asked) → is_some (object_named w.eventflags id) ≡ true → sets_bits f (event.Call p c) ≡ None → keeps_bits f (event.Call p c) ≡ None → asks_bits f (event.Call p c) ≡ (if names f id then Some x else None) →
      FlagReported c (answered w (the id))
  got_reported c id x known a b d =
      let r : Record = report (event.Call p c) (runner_of w p) (answered w (the id)).1 in
      record {
        here =
            put id (λ y. handed_on y.setup.clears y.pattern) (answered w (the id)).0 known refl
            ∙ rw (a, b, d) (either (names f id)
            (λ q. (if q then record now { pattern = handed_on now.setup.clears now.pattern } else now) ≡ record now { pattern = set_by now.setup.clears now.pattern r None None (if q then Some x else None) }) refl refl);
      }

  wait_reported : (c : Call) (id timeout : ℤ) (bits : ℕ) (m : Mode) → is_some (object_named w.eventflags id) ≡ true → sets_bits f (event.Call p c) ≡ None → keeps_bits f (event.Call p c) ≡ None →
      asks_bits f (event.Call p c) ≡ (if names f id then Some (record { bits = bits; mode = m }) else None) →
      FlagReported c (done_or_wait k w p (holds (eventflag w (the id)).pattern bits m) (answered w (the id)) (wait.Eventflag (the id) bits m) timeout)
  wait_reported c id timeout bits m known a b d =
      cond_both (holds (eventflag w (the id)).pattern bits m) _ _ (FlagReported c) (λ _. got_reported c id (record { bits = bits; mode = m }) known a b d)
      (λ _. cond_both (is_zero timeout) _ _ (FlagReported c) (λ _. refused_reported c code.TimedOut refl) (λ _. left_reported c (begin_wait k w (caller w p) (wait.Eventflag (the id) bits m) (ticks_of timeout)) answer.Wait refl refl))

  flags_sync : (c : SyncCall) → FlagReported (call.Sync c) (called w p (sync_row k w p c))
  unfolding set_flg clr_flg twai_flg pol_flg
  flags_sync (sync.SetFlg id bits) = by_called w p (FlagReported (call.Sync (sync.SetFlg id bits))) (set_flg k w id bits) tt (refused_reported (call.Sync (sync.SetFlg id bits))) (λ a. set_reported (call.Sync (sync.SetFlg id bits)) id bits a.known refl refl refl)
  flags_sync (sync.IsetFlg id bits) = by_called w p (FlagReported (call.Sync (sync.IsetFlg id bits))) (in_handler (set_flg k w id bits)) tt (refused_reported (call.Sync (sync.IsetFlg id bits))) (λ a. set_reported (call.Sync (sync.IsetFlg id bits)) id bits a.known refl refl refl)
  flags_sync (sync.ClrFlg id bits) = by_called w p (FlagReported (call.Sync (sync.ClrFlg id bits))) (clr_flg w id bits) tt (refused_reported (call.Sync (sync.ClrFlg id bits)))
      (λ a. record { here = put id (λ y. bit_and y.pattern bits) (with_pattern w (the id) (bit_and (eventflag w (the id)).pattern bits)) a.known refl ∙ either (names f id) (λ q. (if q then record now { pattern = bit_and now.pattern bits } else now) ≡ record now { pattern = set_by now.setup.clears now.pattern (report (event.Call p (call.Sync (sync.ClrFlg id bits))) (runner_of w p) done) None (if q then Some bits else None) None }) refl refl })
  flags_sync (sync.WaiFlg id bits m) = by_called w p (FlagReported (call.Sync (sync.WaiFlg id bits m))) (twai_flg k w p id bits m forever) (refl, tt) (refused_reported (call.Sync (sync.WaiFlg id bits m))) (λ a. wait_reported (call.Sync (sync.WaiFlg id bits m)) id forever bits m a.known refl refl refl)
  flags_sync (sync.TwaiFlg id bits m timeout) = by_called w p (FlagReported (call.Sync (sync.TwaiFlg id bits m timeout))) (twai_flg k w p id bits m timeout) (refl, tt) (refused_reported (call.Sync (sync.TwaiFlg id bits m timeout))) (λ a. wait_reported (call.Sync (sync.TwaiFlg id bits m timeout)) id timeout bits m a.known refl refl refl)
  flags_sync (sync.PolFlg id bits m) = by_called w p (FlagReported (call.Sync (sync.PolFlg id bits m))) (pol_flg k w id bits m) (refl, (refl, tt)) (refused_reported (call.Sync (sync.PolFlg id bits m))) (λ a. got_reported (call.Sync (sync.PolFlg id bits m)) id (record { bits = bits; mode = m }) a.known refl refl refl)
  flags_sync c = record { here = ap (λ xs. item blank_eventflag xs f.number) (call_calm k w p (call.Sync c) refl) }

  pub pattern_call : (c : Call) → FlagReported c (called w p (row_of k w p c))
  pattern_call (call.Sync c) = flags_sync c
  pattern_call c = record { here = ap (λ xs. item blank_eventflag xs f.number) (call_calm k w p c refl) }

-- What each call tells of the pattern.

some_bits : (n : ℕ) → nat_lt 0 n ≡ true → not (n == 0) ≡ true
some_bits n e = let some : 0 < n = ltb-true 0 n e in rw (ne_eqb n 0 (λ zero_. omega (arith, some, zero_))) refl

held_there : (x bits : ℕ) (m : Mode) → holds x bits m ≡ true → is_there x (record { bits = bits; mode = m }) ≡ true
held_there x bits mode.Andw e = e
held_there x bits mode.Orw e = some_bits (bit_and x bits) e

module _ {Q : Type 0} (k : Ordering Q) (w : World Q) (p : Proc) (f : Object) (few : length w.eventflags ≤ 32) where
  abbrev flag : Eventflag
  flag = eventflag w f

  abbrev pub Fits : Call → World Q × Effect → Type 0
  Fits c did = PatternFits flag.setup.clears f flag.pattern (report (event.Call p c) (runner_of w p) did.1)

  abbrev this : ℤ → Object
  this id = unwrap_or (object_named w.eventflags id) (as_object 1)

  same_flag : (id : ℤ) → is_some (object_named w.eventflags id) ≡ true → names f id ≡ true → this id ≡ f
  same_flag id known e = objects_same (this id) f (eqb-true (this id).number f.number (sym ((object_known w.eventflags id few known).names f) ∙ e))

  abbrev Gets : ℤ → Asked → World Q × Effect → Type 0
  Gets id a did = IfSome (if names f id then Some a else None) (λ b. is_accepted did.1.answer ≡ true → (accepted_value did.1.answer ≡ Some (pos flag.pattern)) × (is_there flag.pattern b ≡ true))

  not_got : (id : ℤ) (a : Asked) (did : World Q × Effect) → is_accepted did.1.answer ≡ false → Gets id a did
  not_got id a did refusal =
      cond_both (names f id) (Some a) None (λ o. IfSome o (λ b. is_accepted did.1.answer ≡ true → (accepted_value did.1.answer ≡ Some (pos flag.pattern)) × (is_there flag.pattern b ≡ true)))
      (λ _ e. absurd (both_ways _ refusal e)) (λ _. tt)

  got : (id : ℤ) (bits : ℕ) (m : Mode) → is_some (object_named w.eventflags id) ≡ true → holds (eventflag w (this id)).pattern bits m ≡ true → Gets id (record { bits = bits; mode = m }) (answered w (this id))
  got id bits m known there =
      let a : Asked = record { bits = bits; mode = m } in
      cond_both (names f id) (Some a) None (λ o. IfSome o (λ b. true ≡ true → (Some (pos (eventflag w (this id)).pattern) ≡ Some (pos flag.pattern)) × (is_there flag.pattern b ≡ true)))
      (λ named _.
      let here : this id ≡ f = same_flag id known named in (
        ap (λ (o : Object). Some (pos (eventflag w o).pattern)) here,
        held_there flag.pattern bits m (subst (λ (o : Object). holds (eventflag w o).pattern bits m ≡ true) here there),
      ))
      (λ _. tt)

  wait_gets : (id timeout : ℤ) (bits : ℕ) (m : Mode) → Gets id (record { bits = bits; mode = m }) (called w p (twai_flg k w p id bits m timeout))
  unfolding twai_flg
  wait_gets id timeout bits m =
      by_called w p (Gets id (record { bits = bits; mode = m })) (twai_flg k w p id bits m timeout) (refl, tt) (λ x e. not_got id _ (w, refused x) (not_accepted x e))
      (λ a. cond_both (holds (eventflag w (this id)).pattern bits m) _ _ (Gets id (record { bits = bits; mode = m })) (λ there. got id bits m a.known there)
      (λ _. cond_both (is_zero timeout) _ _ (Gets id (record { bits = bits; mode = m })) (λ _. not_got id _ (w, refused code.TimedOut) refl)
      (λ _. not_got id _ (begin_wait k w (caller w p) (wait.Eventflag (this id) bits m) (ticks_of timeout), plain answer.Wait) refl)))

  abbrev Hands : ℤ → ℕ → World Q × Effect → Type 0
  Hands id bits did = IfSome (if names f id then Some bits else None) (λ b. is_accepted did.1.answer ≡ true → map (λ (y : Release). y.value) did.1.releases ≡ values_from flag.setup.clears (bit_or flag.pattern b) did.1.releases)

  hands_set : (id : ℤ) (bits : ℕ) → is_some (object_named w.eventflags id) ≡ true → Hands id bits (set_flg k w id bits).effect
  unfolding set_flg
  hands_set id bits known =
      let did : World Q × List Release = served k w (this id) (bit_or (eventflag w (this id)).pattern bits) (queue k w kind.Eventflag (this id)) in
      cond_both (names f id) (Some bits) None (λ o. IfSome o (λ b. true ≡ true → map (λ (y : Release). y.value) did.1 ≡ values_from flag.setup.clears (bit_or flag.pattern b) did.1))
      (λ named _. subst (λ (o : Object). map (λ (y : Release). y.value) did.1 ≡ values_from (eventflag w o).setup.clears (bit_or (eventflag w o).pattern bits) did.1) (same_flag id known named)
      (served_values k w (this id) (bit_or (eventflag w (this id)).pattern bits) (queue k w kind.Eventflag (this id))))
      (λ _. tt)

  not_handed : (id : ℤ) (bits : ℕ) (x : Code) → refuses x ≡ true → Hands id bits (w, refused x)
  not_handed id bits x e = cond_both (names f id) (Some bits) None (λ o. IfSome o (λ b. is_accepted (refused x).answer ≡ true → map (λ (y : Release). y.value) [] ≡ values_from flag.setup.clears (bit_or flag.pattern b) [])) (λ _ h. refl) (λ _. tt)

  fits_sync : (c : SyncCall) → Fits (call.Sync c) (called w p (sync_row k w p c))
  unfolding pol_flg set_flg
  fits_sync (sync.SetFlg id bits) = record { got = tt; handed = by_called w p (Hands id bits) (set_flg k w id bits) tt (not_handed id bits) (λ a. hands_set id bits a.known) }
  fits_sync (sync.IsetFlg id bits) = record { got = tt; handed = by_called w p (Hands id bits) (in_handler (set_flg k w id bits)) tt (not_handed id bits) (λ a. hands_set id bits a.known) }
  fits_sync (sync.WaiFlg id bits m) = record { got = wait_gets id forever bits m; handed = tt }
  fits_sync (sync.TwaiFlg id bits m timeout) = record { got = wait_gets id timeout bits m; handed = tt }
  fits_sync (sync.PolFlg id bits m) = record {
    got = by_called w p (Gets id (record { bits = bits; mode = m })) (pol_flg k w id bits m) (refl, (refl, tt)) (λ x e. not_got id _ (w, refused x) (not_accepted x e)) (λ a. got id bits m a.known (not-false _ a.errors.1.0));
    handed = tt;
  }
  fits_sync c = record { got = tt; handed = tt }

  pub pattern_fits : (c : Call) → Fits c (called w p (row_of k w p c))
  pattern_fits (call.Sync c) = fits_sync c
  pattern_fits c = record { got = tt; handed = tt }
