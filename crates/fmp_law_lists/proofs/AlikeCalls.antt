-- Calls on semaphores and eventflags that are made in states which agree: the same is told, and the states agree after them.
use Rattle.std.proofs.Common.{◌≡◌, ℕ, pos, ℤ, ◌-◌, ◌+◌, ◌==◌, Bool, true, not, ◌&&◌, ◌||◌, List, [], ◌∷◌, refl, sym, ap, ◌∙◌, subst, Option, None, Some}
use Rattle.std.specs.Prelude.{is_some, is_none, nat_lt, nat_le, unwrap_or, option_map, if◌then◌else◌, IfSome, bit_or, bit_and}
use Rattle.fmp_codes.specs.Numbers.{as_object, as_task}
use Rattle.fmp_codes.specs.declared.numbers.Object.{Object}
use Rattle.fmp_codes.specs.declared.numbers.Proc.{Proc}
use Rattle.fmp_codes.specs.declared.numbers.Task.{Task}
use Rattle.fmp_codes.specs.declared.calls.Mode.{Mode}
use Rattle.fmp_codes.specs.declared.calls.SyncCall.{SyncCall}
use Rattle.fmp_codes.specs.declared.calls.SyncCall.TheVariants as sync
use Rattle.fmp_codes.specs.declared.codes.Code.{Code}
use Rattle.fmp_codes.specs.declared.codes.Code.TheVariants as code
use Rattle.fmp_codes.specs.declared.records.Release.{Release}
use Rattle.fmp_rules.specs.Effects.{Effect}
use Rattle.fmp_rules.specs.declared.machine.Context.TheVariants as context
use Rattle.fmp_rules.specs.declared.machine.Eventflag.{Eventflag}
use Rattle.fmp_rules.specs.declared.machine.Processor.{Processor}
use Rattle.fmp_rules.specs.declared.machine.QueueKind.TheVariants as kind
use Rattle.fmp_rules.specs.declared.machine.Rule.{Rule}
use Rattle.fmp_rules.specs.declared.machine.Semaphore.{Semaphore}
use Rattle.fmp_rules.specs.declared.machine.Wait.{Wait}
use Rattle.fmp_rules.specs.declared.machine.Wait.TheVariants as wait
use Rattle.fmp_rules.specs.World.{World, first, processor, task}
use Rattle.fmp_rules.specs.Objects.{semaphore, eventflag, holds}
use Rattle.fmp_rules.specs.Ordering.{Ordering, queue, order_of, begin_wait}
use Rattle.fmp_rules.specs.Tasks.{make_ready}
use Rattle.fmp_rules.specs.Arguments.{caller, forever, is_zero, is_timeout, number_within, object_named, ticks_of}
use Rattle.fmp_rules.specs.Rows.{Row, called, called_by, check, done, done_or_wait, first_error, in_handler, is_wrong_context, on_object, waiting, with_value}
use Rattle.fmp_rules.specs.SyncCalls.{accepted_with, answered, cleared, clr_flg, counted, is_met, is_taken, pol_flg, pol_sem, served, set_flg, sig_sem, signal, sync_row, twai_flg, twai_sem, with_count, with_pattern}
use Rattle.fmp_law_footprint.specs.Cells.{Cell, WaitOf, OfProcessor, DueOn, OfSemaphore, OfEventflag, at, there, on, unlatched}
use Rattle.fmp_law_footprint.specs.Shapes.{Frame}
use Rattle.fmp_law_footprint.specs.Words.{Each}
use Rattle.fmp_law_footprint.specs.Named.{semaphore_named, eventflag_named}
use Rattle.fmp_law_lists.specs.Reads.{Agree, DoAlike, ReadsCells, Own}
use Rattle.fmp_law_lists.specs.ReadsObjects.{Knows, KnowsSemaphore, KnowsFlag, ReadsSync}
use Rattle.fmp_law_lists.proofs.Agreeing.{if_alike, agree_semaphore, agree_eventflag, ready_alike, begin_alike}

module _ {Q : Type 0} (Part : Cell → Type 0) (part : Q → (c : Cell) → Part c) (S : Cell → Type 0) where
  abbrev Agrees : World Q → World Q → Type 0
  Agrees = Agree Part part S

  -- what a call did in both states
  abbrev Does : World Q × Effect → World Q × Effect → Type 0
  Does = DoAlike Part part S

  pub record RowsAlike (a b : Row Q) : Type 0 where
    pub rule : a.rule ≡ b.rule
    pub known : a.known ≡ b.known
    pub proper : a.proper ≡ b.proper
    pub errors : a.errors ≡ b.errors
    pub effect : Does a.effect b.effect

  pub rows_in_handler : (a b : Row Q) → RowsAlike a b → RowsAlike (in_handler a) (in_handler b)
  rows_in_handler a b h =
      record { rule = ap (λ (r : Rule). record r { context = context.Handler }) h.rule; known = h.known; proper = h.proper; errors = h.errors; effect = h.effect }

  pub rows_waiting : (timeout : ℤ) (a b : Row Q) → RowsAlike a b → RowsAlike (waiting timeout a) (waiting timeout b)
  rows_waiting timeout a b h = record {
    rule = ap (λ (r : Rule). record r { unheld = true }) h.rule;
    known = h.known;
    proper = ap (λ (x : Bool). x && is_timeout timeout) h.proper;
    errors = h.errors;
    effect = h.effect;
  }

  rows_proper : (x : Bool) (a b : Row Q) → RowsAlike a b → RowsAlike (record a { proper = x }) (record b { proper = x })
  rows_proper x a b h = record { rule = h.rule; known = h.known; proper = refl; errors = h.errors; effect = h.effect }

  -- the row of a call on an object, with these errors E and this effect F
  pub rows_on_object : (v w : World Q) (o u : Option Object) (E : World Q → Object → List (Bool × Code)) (F : World Q → Object → World Q × Effect) → o ≡ u
      → E v (unwrap_or u (as_object 1)) ≡ E w (unwrap_or u (as_object 1)) → Does (F v (unwrap_or u (as_object 1))) (F w (unwrap_or u (as_object 1)))
      → RowsAlike (on_object o (E v) (F v)) (on_object u (E w) (F w))
  rows_on_object v w o u E F e errors effect =
      subst (λ x. RowsAlike (on_object x (E v) (F v)) (on_object u (E w) (F w))) (sym e)
      (record { rule = refl; known = refl; proper = refl; errors = errors; effect = effect })

  module _ (v w : World Q) (p : Proc) (own : Own S p) (g : Agrees v w) where
    pub processor_same : unlatched (processor v p) ≡ unlatched (processor w p)
    processor_same = g.values (OfProcessor (on p)) own.processor

    pub caller_same : caller v p ≡ caller w p
    caller_same = ap (λ (c : Processor). unwrap_or c.running (as_task 1)) processor_same

    checks : (a b : Row Q) → RowsAlike a b → check v p a ≡ check w p b
    checks a b h =
        let due = g.values (DueOn (on p)) own.due in
        let c = processor_same in
        λ i. first_error ((
          is_wrong_context (h.rule i).context (is_some (first (due i))) (is_some (c i).running)
              || ((c i).locked && not (h.rule i).when_locked)
              || ((h.rule i).unheld && (is_some (first (due i)) || (c i).locked || (c i).disabled)),
          code.Context,
        )
        ∷ (not (h.known i), code.Identifier)
        ∷ (not (h.proper i), code.Parameter)
        ∷ h.errors i)

    -- a call, be it refused or not
    pub call_alike : (a b : Row Q) → RowsAlike a b → Does (called v p a) (called w p b)
    call_alike a b h = subst (λ o. Does (called_by v a.effect o) (called_by w b.effect (check w p b))) (sym (checks a b h)) (by (check w p b))
      where
        by : (o : Option Code) → Does (called_by v a.effect o) (called_by w b.effect o)
        by None = h.effect
        by (Some c) = (g, refl)

    module _ (k : Ordering Q) (reads : ReadsCells Part part S k) where
      pub waits_alike : (can could : Bool) (d e : World Q × Effect) (x : Wait) (timeout : ℤ) → can ≡ could → Does d e → Knows S (caller w p) → order_of v x ≡ order_of w x
          → Does (done_or_wait k v p can d x timeout) (done_or_wait k w p could e x timeout)
      waits_alike can could d e x timeout same at_once h orders =
          if_alike Does can could same at_once (if_alike Does (is_zero timeout) (is_zero timeout) refl (g, refl) (begins, refl))
        where
          begins : Agrees (begin_wait k v (caller v p) x (ticks_of timeout)) (begin_wait k w (caller w p) x (ticks_of timeout))
          begins = subst (λ t. Agrees (begin_wait k v t x (ticks_of timeout)) (begin_wait k w (caller w p) x (ticks_of timeout))) (sym caller_same)
              (begin_alike Part part S k reads v w (caller w p) x (ticks_of timeout) h orders g)

      -- Semaphores.

      semaphores_named : (id : ℤ) → object_named v.semaphores id ≡ object_named w.semaphores id
      semaphores_named id = ap (λ (f : Frame). option_map as_object (number_within f.semaphores id)) g.shape

      semaphore_same : (s : Object) → KnowsSemaphore S s → semaphore v s ≡ semaphore w s
      semaphore_same s h = g.values (OfSemaphore (there s)) h.0

      first_same : (s : Object) → KnowsSemaphore S s → first (queue k v kind.Semaphore s) ≡ first (queue k w kind.Semaphore s)
      first_same s h =
          ap first (reads.waiters v.order w.order v.tasks w.tasks (semaphore v s).setup.order kind.Semaphore s h.1 g.parts
          ∙ ap (λ (x : Semaphore). k.waiters w.order w.tasks x.setup.order kind.Semaphore s) (semaphore_same s h))

      count_alike : (s : Object) (f : ℕ → ℕ) → KnowsSemaphore S s → Agrees (with_count v s (f (semaphore v s).count)) (with_count w s (f (semaphore w s).count))
      count_alike s f h = agree_semaphore Part part S v w s _ _ (ap (λ (x : Semaphore). record x { count = f x.count }) (semaphore_same s h)) g

      signal_alike : (s : Object) (t : Option Task) → KnowsSemaphore S s → IfSome t (Knows S) → Does (signal k v s t) (signal k w s t)
      signal_alike s None h n = (count_alike s (λ n. n + 1) h, refl)
      signal_alike s (Some t) h n = (ready_alike Part part S k reads v w t n g, refl)

      signals : (id : ℤ) → KnowsSemaphore S (semaphore_named w id) → IfSome (first (queue k w kind.Semaphore (semaphore_named w id))) (Knows S)
          → RowsAlike (sig_sem k v id) (sig_sem k w id)
      unfolding sig_sem
      signals id h n =
          rows_on_object v w _ _
          (λ x s. (is_none (first (queue k x kind.Semaphore s)) && nat_le (semaphore x s).setup.most (semaphore x s).count, code.QueueOverflow) ∷ [])
          (λ x s. signal k x s (first (queue k x kind.Semaphore s))) (semaphores_named id)
          (λ i. (
            is_none (first_same (semaphore_named w id) h i) && nat_le (semaphore_same (semaphore_named w id) h i).setup.most
                (semaphore_same (semaphore_named w id) h i).count,
            code.QueueOverflow,
          ) ∷ [])
          (subst (λ t. Does (signal k v (semaphore_named w id) t) (signal k w (semaphore_named w id) (first (queue k w kind.Semaphore (semaphore_named w id)))))
          (sym (first_same (semaphore_named w id) h))
          (signal_alike (semaphore_named w id) (first (queue k w kind.Semaphore (semaphore_named w id))) h n))

      waits_for : (id timeout : ℤ) → KnowsSemaphore S (semaphore_named w id) → Knows S (caller w p) → RowsAlike (twai_sem k v p id timeout) (twai_sem k w p id timeout)
      unfolding twai_sem
      waits_for id timeout h n =
          rows_waiting timeout _ _
          (rows_on_object v w _ _ (λ x s. []) (λ x s. done_or_wait k x p (nat_lt 0 (semaphore x s).count) (counted x s) (wait.Semaphore s) timeout)
          (semaphores_named id) refl
          (waits_alike _ _ (counted v (semaphore_named w id)) (counted w (semaphore_named w id)) (wait.Semaphore (semaphore_named w id)) timeout
          (ap (λ (x : Semaphore). nat_lt 0 x.count) (semaphore_same (semaphore_named w id) h))
          (count_alike (semaphore_named w id) (λ n. n - 1) h, refl) n (ap (λ (x : Semaphore). x.setup.order) (semaphore_same (semaphore_named w id) h))))

      polls : (id : ℤ) → KnowsSemaphore S (semaphore_named w id) → RowsAlike (pol_sem v id) (pol_sem w id)
      unfolding pol_sem
      polls id h =
          rows_on_object v w _ _ (λ x s. ((semaphore x s).count == 0, code.TimedOut) ∷ []) (λ x s. counted x s) (semaphores_named id)
          (ap (λ (x : Semaphore). (x.count == 0, code.TimedOut) ∷ []) (semaphore_same (semaphore_named w id) h))
          (count_alike (semaphore_named w id) (λ n. n - 1) h, refl)

      -- Eventflags.

      flags_named : (id : ℤ) → object_named v.eventflags id ≡ object_named w.eventflags id
      flags_named id = ap (λ (f : Frame). option_map as_object (number_within f.eventflags id)) g.shape

      flag_same : (f : Object) → KnowsFlag S f → eventflag v f ≡ eventflag w f
      flag_same f h = g.values (OfEventflag (there f)) h.0

      waiting_same : (f : Object) → KnowsFlag S f → queue k v kind.Eventflag f ≡ queue k w kind.Eventflag f
      waiting_same f h =
          reads.waiters v.order w.order v.tasks w.tasks (eventflag v f).setup.order kind.Eventflag f h.1 g.parts
          ∙ ap (λ (x : Eventflag). k.waiters w.order w.tasks x.setup.order kind.Eventflag f) (flag_same f h)

      pattern_alike : (f : Object) (of_flag : Eventflag → ℕ) → KnowsFlag S f
          → Agrees (with_pattern v f (of_flag (eventflag v f))) (with_pattern w f (of_flag (eventflag w f)))
      pattern_alike f of_flag h = agree_eventflag Part part S v w f _ _ (ap (λ (x : Eventflag). record x { pattern = of_flag x }) (flag_same f h)) g

      clears : (id : ℤ) (pattern : ℕ) → KnowsFlag S (eventflag_named w id) → RowsAlike (clr_flg v id pattern) (clr_flg w id pattern)
      unfolding clr_flg
      clears id pattern h =
          rows_on_object v w _ _ (λ x s. []) (λ x f. (with_pattern x f (bit_and (eventflag x f).pattern pattern), done)) (flags_named id) refl
          (pattern_alike (eventflag_named w id) (λ x. bit_and x.pattern pattern) h, refl)

      answers_alike : (f : Object) → KnowsFlag S f → Does (answered v f) (answered w f)
      answers_alike f h = (pattern_alike f (λ x. if x.setup.clears then 0 else x.pattern) h, ap (λ (x : Eventflag). with_value (pos x.pattern)) (flag_same f h))

      taken_same : (f : Object) → KnowsFlag S f → is_taken k v f ≡ is_taken k w f
      taken_same f h = λ i. not (flag_same f h i).setup.many && is_some (first (waiting_same f h i))

      waits_on : (id : ℤ) (pattern : ℕ) (m : Mode) (timeout : ℤ) → KnowsFlag S (eventflag_named w id) → Knows S (caller w p)
          → RowsAlike (twai_flg k v p id pattern m timeout) (twai_flg k w p id pattern m timeout)
      unfolding twai_flg
      waits_on id pattern m timeout h n =
          rows_waiting timeout _ _
          (rows_proper _ _ _
          (rows_on_object v w _ _ (λ x f. (is_taken k x f, code.IllegalUse) ∷ [])
          (λ x f. done_or_wait k x p (holds (eventflag x f).pattern pattern m) (answered x f) (wait.Eventflag f pattern m) timeout) (flags_named id)
          (ap (λ (x : Bool). (x, code.IllegalUse) ∷ []) (taken_same (eventflag_named w id) h))
          (waits_alike _ _ (answered v (eventflag_named w id)) (answered w (eventflag_named w id)) (wait.Eventflag (eventflag_named w id) pattern m) timeout
          (ap (λ (x : Eventflag). holds x.pattern pattern m) (flag_same (eventflag_named w id) h))
          (answers_alike (eventflag_named w id) h) n (ap (λ (x : Eventflag). x.setup.order) (flag_same (eventflag_named w id) h)))))

      polls_flag : (id : ℤ) (pattern : ℕ) (m : Mode) → KnowsFlag S (eventflag_named w id) → RowsAlike (pol_flg k v id pattern m) (pol_flg k w id pattern m)
      unfolding pol_flg
      polls_flag id pattern m h =
          rows_proper _ _ _
          (rows_on_object v w _ _ (λ x f. (is_taken k x f, code.IllegalUse) ∷ (not (holds (eventflag x f).pattern pattern m), code.TimedOut) ∷ []) (λ x f. answered x f)
          (flags_named id)
          (λ i. (taken_same (eventflag_named w id) h i, code.IllegalUse) ∷ (not (holds (flag_same (eventflag_named w id) h i).pattern pattern m), code.TimedOut) ∷ [])
          (answers_alike (eventflag_named w id) h))

  -- The waiters of a flag.

  abbrev Serves : World Q × List Release → World Q × List Release → Type 0
  Serves d e = Agrees d.0 e.0 × (d.1 ≡ e.1)

  module _ (k : Ordering Q) (reads : ReadsCells Part part S k) (f : Object) (h : S (OfEventflag (there f))) where
    serves_alike : (x y : ℕ) (ts : List Task) → x ≡ y → (v w : World Q) → Each (Knows S) ts → Agrees v w → Serves (served k v f x ts) (served k w f y ts)
    serves_alike x y [] e v w n g =
        (agree_eventflag Part part S v w f _ _ (λ i. record (g.values (OfEventflag (there f)) h i) { pattern = e i }) g, refl)
    serves_alike x y (t ∷ ts) e v w n g =
        if_alike Serves (is_met x (task v t).wait) (is_met y (task w t).wait) (λ i. is_met (e i) (g.values (WaitOf (at t)) n.0.1 i))
        (let others = serves_alike (cleared v f x) (cleared w f y) ts (λ i. if (g.values (OfEventflag (there f)) h i).setup.clears then 0 else e i) (make_ready k v t)
        (make_ready k w t) n.1
        (ready_alike Part part S k reads v w t n.0 g) in
        (others.0, λ i. record { task = t; code = code.Accepted; value = Some (pos (e i)) } ∷ others.1 i))
        (serves_alike x y ts e v w n.1 g)

  module _ (k : Ordering Q) (reads : ReadsCells Part part S k) (v w : World Q) (p : Proc) (own : Own S p) (g : Agrees v w) where
    sets_alike : (id : ℤ) (pattern : ℕ) → KnowsFlag S (eventflag_named w id) → Each (Knows S) (queue k w kind.Eventflag (eventflag_named w id))
        → RowsAlike (set_flg k v id pattern) (set_flg k w id pattern)
    unfolding set_flg
    sets_alike id pattern h n =
        let f = eventflag_named w id in
        let same : eventflag v f ≡ eventflag w f = flag_same v w p own g k reads f h in
        let queues : queue k v kind.Eventflag f ≡ queue k w kind.Eventflag f = waiting_same v w p own g k reads f h in
        let did = serves_alike k reads f h.0 (bit_or (eventflag v f).pattern pattern) (bit_or (eventflag w f).pattern pattern) (queue k w kind.Eventflag f)
        (ap (λ (x : Eventflag). bit_or x.pattern pattern) same) v w n g in
        rows_on_object v w _ _ (λ x s. []) (λ x f. accepted_with (served k x f (bit_or (eventflag x f).pattern pattern) (queue k x kind.Eventflag f)))
        (flags_named v w p own g k reads id) refl
        (subst (λ ts. Does (accepted_with (served k v f (bit_or (eventflag v f).pattern pattern) ts))
        (accepted_with (served k w f (bit_or (eventflag w f).pattern pattern) (queue k w kind.Eventflag f))))
        (sym queues) (did.0, ap (λ rs. record done { releases = rs }) did.1))

    pub sync_alike : (c : SyncCall) → ReadsSync k S w p c → RowsAlike (sync_row k v p c) (sync_row k w p c)
    sync_alike (sync.SigSem id) h = signals v w p own g k reads id h.0 h.1
    sync_alike (sync.IsigSem id) h = rows_in_handler _ _ (signals v w p own g k reads id h.0 h.1)
    sync_alike (sync.WaiSem id) h = waits_for v w p own g k reads id forever h.0 h.1
    sync_alike (sync.TwaiSem id timeout) h = waits_for v w p own g k reads id timeout h.0 h.1
    sync_alike (sync.PolSem id) h = polls v w p own g k reads id h
    sync_alike (sync.SetFlg id x) h = sets_alike id x h.0 h.1
    sync_alike (sync.IsetFlg id x) h = rows_in_handler _ _ (sets_alike id x h.0 h.1)
    sync_alike (sync.ClrFlg id x) h = clears v w p own g k reads id x h
    sync_alike (sync.WaiFlg id x m) h = waits_on v w p own g k reads id x m forever h.0 h.1
    sync_alike (sync.TwaiFlg id x m timeout) h = waits_on v w p own g k reads id x m timeout h.0 h.1
    sync_alike (sync.PolFlg id x m) h = polls_flag v w p own g k reads id x m h
