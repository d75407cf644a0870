-- The locked and the disabled state of the processors along a run.
use Rattle.std.proofs.Common.{◌≡◌, ℕ, ◌≤◌, ◌==◌, Bool, true, false, ◌||◌, List, [], ◌∷◌, length, arith, refl, sym, ap, ◌∙◌, subst, Option, Some, None, ⊎_elim}
use Rattle.std.specs.Prelude.{is_some, take, slice_index_or}
use Rattle.std.proofs.lemmas.Bool.{cond_both, cond-true, cond-false, false≢true, eq-eqb, ne_eqb, cases_eq}
use Rattle.std.proofs.lemmas.List.Elements.{All-replicate}
use Rattle.fmp_codes.specs.declared.numbers.Proc.{Proc}
use Rattle.fmp_codes.specs.declared.numbers.Task.{Task}
use Rattle.fmp_codes.specs.declared.calls.Call.{Call}
use Rattle.fmp_codes.specs.declared.calls.Call.TheVariants as call
use Rattle.fmp_codes.specs.declared.calls.TaskCall.TheVariants as tasks
use Rattle.fmp_codes.specs.declared.records.Answer.{Answer}
use Rattle.fmp_codes.specs.declared.records.Answer.TheVariants as answer
use Rattle.fmp_codes.specs.declared.records.Event.{Event}
use Rattle.fmp_codes.specs.declared.records.Event.TheVariants as event
use Rattle.fmp_codes.specs.declared.records.Record.{Record}
use Rattle.fmp_codes.proofs.Same.{processors_same}
use Rattle.fmp_setup.specs.Setup.{Setup, has_time}
use Rattle.fmp_setup.specs.Valid.{IsValid}
use Rattle.fmp_rules.specs.Effects.{Effect}
use Rattle.fmp_rules.specs.declared.machine.Processor.{Processor}
use Rattle.fmp_rules.specs.World.{World, no_processor, processors_to, item, with_item, processor, handler, runner_of, is_held}
use Rattle.fmp_rules.specs.Ordering.{Ordering, top}
use Rattle.fmp_rules.specs.Arrivals.{State, numbered}
use Rattle.fmp_rules.specs.Rows.{called, plain}
use Rattle.fmp_rules.specs.Tick.{tick}
use Rattle.fmp_rules.specs.Step.{requests, tops, settle, row_of, settled, before_event, unchanged, step, replay, answers}
use Rattle.fmp_rules.specs.Boot.{blank, all_started, with_top_running, with_tops_running, booted, unnumbered}
use Rattle.fmp_rules.proofs.Replays.{answers_take}
use Rattle.fmp_law_safety.specs.Runs.{processor_of, AreOn}
use Rattle.fmp_law_safety.specs.Safe.{Safe}
use Rattle.fmp_law_safety.proofs.Items.{item_holds, item_after}
use Rattle.fmp_law_safety.proofs.Booting.{started_processors}
use Rattle.fmp_law_safety.proofs.Keeps.{KeepsOthers}
use Rattle.fmp_law_safety.proofs.Listed.{numbered_lists}
use Rattle.fmp_law_safety.proofs.Settling.{with_latches, settle_is}
use Rattle.fmp_law_safety.proofs.Stepping.{keeps_call}
use Rattle.fmp_law_balance.specs.Waits.Waits.{OpenWaits, nobody_waits, after_record}
use Rattle.fmp_law_records.proofs.counts.Ready.{Ready, ready_next, ready_at_boot, prefix_on}
use Rattle.fmp_law_records.specs.Flags.{call_on, leaves, locked_after, disabled_after, locked_by, disabled_by, asked_of, number_if, AreFlagsReported, TellsFlags}
use Rattle.fmp_codes.specs.declared.calls.SystemCall.{SystemCall}
use Rattle.fmp_codes.specs.declared.calls.SystemCall.TheVariants as system
use Rattle.fmp_rules.specs.SystemCalls.{truth, sense}
use Rattle.fmp_law_balance.specs.Accepted.{is_accepted, accepted_value}
use Rattle.fmp_law_balance.proofs.Called.{by_called, not_accepted}
use Rattle.fmp_law_balance.proofs.waits.Events.{by_event}
use Rattle.std.proofs.lemmas.Option.{none-some, same_Some}
use Rattle.std.proofs.lemmas.Bool.{both_ways, eqb-true}
use Rattle.fmp_law_records.proofs.Leaving.{tick_still}
use Rattle.fmp_law_records.proofs.Flags.{Flags, flags, Marks, marks, flags_with, undone, flags_call}

-- The end of an event leaves them.

pub latched_flags : (cs : List Processor) (ps : List Proc) (q : ℕ) → flags (item no_processor (with_latches cs ps) q) ≡ flags (item no_processor cs q)
latched_flags cs [] q = refl
latched_flags cs (p ∷ ps) q =
    let x : Processor = record (item no_processor cs p.number) { latch = true } in
    latched_flags (with_item cs p.number x) ps q
    ∙ item_after no_processor cs p.number x (λ (c : Processor). flags c ≡ flags (item no_processor cs q)) q (λ i. ap (λ j. flags (slice_index_or cs j no_processor)) (sym i)) refl

pub settled_flags : {Q : Type 0} (k : Ordering Q) (before : List (Option Task)) (v : World Q) (p q : Proc) → flags (processor (settle k before v p) q) ≡ flags (processor v q)
settled_flags k before v p q =
    let cs : List Processor = with_latches v.processors (requests k before v p) in
    let x : Processor = record (item no_processor cs p.number) { running = top k v p; latch = false } in
    let L : List Processor → Type 0 = λ ds. flags (item no_processor ds q.number) ≡ flags (item no_processor cs q.number) in
    ap (λ (u : World _). flags (processor u q)) (settle_is k before v p)
    ∙ cond_both (is_held (record v { processors = cs }) p) cs (with_item cs p.number x) L (λ _. refl)
    (λ _. item_after no_processor cs p.number x (λ (c : Processor). flags c ≡ flags (item no_processor cs q.number)) q.number (λ i. ap (λ j. flags (slice_index_or cs j no_processor)) (sym i)) refl)
    ∙ latched_flags v.processors (requests k before v p) q.number

abbrev pub flags_after : Proc → Record → Flags → Flags
flags_after q r x = record { locked = locked_after q r x.locked; disabled = disabled_after q r x.disabled }

module _ (m : State) (s : Safe numbered m) (q : Proc) where
  abbrev Report : (State × Record) → Type 0
  Report x = flags (processor x.0 q) ≡ flags_after q x.1 (flags (processor m q))

  -- of an event on another processor nothing is told of q, and it leaves q
  there_reported : (p : Proc) (c : Call) (did : State × Effect) → (p.number ≡ q.number → ⊥) → KeepsOthers m did.0 p → Report (settled numbered (before_event numbered m (event.Call p c) p) did)
  unfolding settled before_event
  there_reported p c did d keeps =
      let none : call_on q (event.Call p c) ≡ None = cond-false (p.number == q.number) (Some c) None (ne_eqb p.number q.number d) in
      settled_flags numbered (tops numbered m) did.0 p q ∙ ap flags (keeps.processors q (λ e. d (sym e))) ∙ sym (ap (λ o. flags_with o did.1.answer (flags (processor m q))) none)

  here_reported : (c : Call) (did : State × Effect) → flags (processor did.0 q) ≡ flags_with (Some c) did.1.answer (flags (processor m q)) → Report (settled numbered (before_event numbered m (event.Call q c) q) did)
  unfolding settled before_event
  here_reported c did h =
      let some : call_on q (event.Call q c) ≡ Some c = cond-true (q.number == q.number) (Some c) None (eq-eqb q.number q.number refl) in
      settled_flags numbered (tops numbered m) did.0 q q ∙ h ∙ sym (ap (λ o. flags_with o did.1.answer (flags (processor m q))) some)

  tick_reported : (p : Proc) → Report (settled numbered (before_event numbered m (event.Tick p) p) (tick numbered m p))
  unfolding settled before_event
  tick_reported p = settled_flags numbered (tops numbered m) (tick numbered m p).0 p q ∙ ap (λ cs. flags (item no_processor cs q.number)) (tick_still numbered m p).0

  ipi_reported : (p : Proc) (a : Answer) → Report (settled numbered (before_event numbered m (event.Ipi p) p) (m, plain a))
  unfolding settled before_event
  ipi_reported p a = settled_flags numbered (tops numbered m) m p q

  idle_leaves : (p : Proc) (c : Call) → leaves (call_on q (event.Call p c)) answer.Idle ≡ false
  idle_leaves p c = cond_both (p.number == q.number) (Some c) None (λ o. leaves o answer.Idle ≡ false) (λ _. of_call c) (λ _. refl)
    where
      of_call : (c : Call) → leaves (Some c) answer.Idle ≡ false
      of_call (call.Task tasks.ExtTsk) = refl
      of_call (call.Task c) = refl
      of_call c = refl

  pub flags_step : (e : Event) → (processor_of e).number ≤ length m.processors → Report (step numbered m e)
  unfolding unchanged
  flags_step (event.Call p c) n =
      cond_both (is_some (runner_of m p)) _ _ Report
      (λ there.
      ⊎_elim
      (λ (e : p.number ≡ q.number). subst (λ (x : Proc). x.number ≤ length m.processors → Report (settled numbered (before_event numbered m (event.Call x c) x) (called m x (row_of numbered m x c)))) (sym (processors_same p q e)) (λ here. here_reported c (called m q (row_of numbered m q c)) (ap (λ (x : Marks). x.flags) (flags_call numbered m q here c).here)) n)
      (λ (d : p.number ≡ q.number → ⊥). there_reported p c (called m p (row_of numbered m p c)) d (keeps_call numbered m numbered_lists s p (p.least, n) there c)) (cases_eq p.number q.number))
      (λ _. sym (undone (call_on q (event.Call p c)) answer.Idle (flags (processor m q)) refl (idle_leaves p c)))
  flags_step (event.Tick p) n =
      cond_both (has_time m.timer p) _ _ Report (λ _. cond_both ((processor m p).locked || is_some (handler m p)) _ _ Report (λ _. refl) (λ _. tick_reported p)) (λ _. refl)
  flags_step (event.Ipi p) n = cond_both (is_held m p) _ _ Report (λ _. refl) (λ _. ipi_reported p _)

-- At boot no processor is locked, dispatching is disabled on none, and no request is pending.

abbrev none_set : Flags
none_set = record { locked = false; disabled = false }

running_marks : (w : State) (ps : List Proc) (n : ℕ) → marks (item no_processor (with_tops_running numbered w ps).processors n) ≡ marks (item no_processor w.processors n)
running_marks w [] n = refl
running_marks w (p ∷ ps) n =
    let x : Processor = record (processor w p) { running = top numbered w p } in
    running_marks (with_top_running numbered w p) ps n
    ∙ item_after no_processor w.processors p.number x (λ (c : Processor). marks c ≡ marks (item no_processor w.processors n)) n (λ i. ap (λ j. marks (slice_index_or w.processors j no_processor)) (sym i)) refl

pub booted_marks : (c : Setup) (q : Proc) → marks (processor (booted c) q) ≡ marks no_processor
booted_marks c q =
    let first : State = blank (unnumbered c) c in
    running_marks (all_started numbered first 1 c.tasks) (processors_to c.processors) q.number
    ∙ ap (λ cs. marks (item no_processor cs q.number)) (started_processors numbered first 1 c.tasks)
    ∙ item_holds (λ (x : Processor). marks x ≡ marks no_processor) no_processor first.processors q.number refl (All-replicate (λ (x : Processor). marks x ≡ marks no_processor) c.processors no_processor refl)

booted_flags : (c : Setup) (q : Proc) → flags (processor (booted c) q) ≡ none_set
booted_flags c q = ap (λ (x : Marks). x.flags) (booted_marks c q)

module _ (c : Setup) (q : Proc) where
  flags_run : (pending : OpenWaits) (m : State) (es : List Event) (x : Flags) → Ready c pending m es → flags (processor m q) ≡ x →
      flags (processor (replay numbered m es) q) ≡ record { locked = locked_by q (answers numbered m es) x.locked; disabled = disabled_by q (answers numbered m es) x.disabled }
  flags_run pending m [] x h old = old
  flags_run pending m (e ∷ es) x h old =
      flags_run (after_record c pending (step numbered m e).1) (step numbered m e).0 es (flags_after q (step numbered m e).1 x) (ready_next c pending m e es h)
      (flags_step m h.safe q e (h.on 0 e (omega arith)) ∙ ap (flags_after q (step numbered m e).1) old)

  -- after all of these events
  pub flags_after_all : (es : List Event) → IsValid c → AreOn c.processors es → AreFlagsReported (answers numbered (booted c) es) (replay numbered (booted c) es) q
  flags_after_all es valid on =
      let all = flags_run nobody_waits (booted c) es none_set (ready_at_boot c valid es on) (booted_flags c q) in
      record { locked = ap (λ (x : Flags). x.locked) all; disabled = ap (λ (x : Flags). x.disabled) all }

  pub flags_reported : (events : List Event) → IsValid c → AreOn c.processors events → (n : ℕ) → AreFlagsReported (take n (answers numbered (booted c) events)) (replay numbered (booted c) (take n events)) q
  flags_reported events valid on n =
      subst (λ rs. AreFlagsReported rs (replay numbered (booted c) (take n events)) q) (answers_take n (booted c) events) (flags_after_all (take n events) valid (prefix_on n c.processors events on))

-- Who asks is told.

same_number : (b : Bool) → truth b ≡ number_if b
same_number true = refl
same_number false = refl

module _ {Q : Type 0} (k : Ordering Q) (w : World Q) (q : Proc) where
  abbrev TellsWith : Option Call → Answer → Type 0
  TellsWith o a = (b : Bool) → is_accepted a ≡ true → asked_of o (processor w q).locked (processor w q).disabled ≡ Some b → accepted_value a ≡ Some (number_if b)

  sensed_tells : (c : SystemCall) (now : Bool) → asked_of (Some (call.System c)) (processor w q).locked (processor w q).disabled ≡ Some now → TellsWith (Some (call.System c)) (called w q (sense w now)).1.answer
  sensed_tells c now is =
      by_called w q (λ did. TellsWith (Some (call.System c)) did.1.answer) (sense w now) tt (λ x e b yes_ asks. absurd (both_ways _ (not_accepted x e) yes_))
      (λ a b yes_ asks. ap Some (same_number now ∙ ap number_if (same_Some now b (sym is ∙ asks))))

  tells_here : (c : Call) → TellsWith (Some c) (called w q (row_of k w q c)).1.answer
  tells_here (call.System system.SnsLoc) = sensed_tells system.SnsLoc (processor w q).locked refl
  tells_here (call.System system.SnsDsp) = sensed_tells system.SnsDsp (processor w q).disabled refl
  tells_here (call.System c) = λ b yes_ asks. absurd (none-some b asks)
  tells_here c = λ b yes_ asks. absurd (none-some b asks)

  tells_call : (p : Proc) (c : Call) → TellsWith (call_on q (event.Call p c)) (called w p (row_of k w p c)).1.answer
  tells_call p c =
      cond_both (p.number == q.number) (Some c) None (λ o. TellsWith o (called w p (row_of k w p c)).1.answer)
      (λ same. subst (λ (x : Proc). TellsWith (Some c) (called w x (row_of k w x c)).1.answer) (sym (processors_same p q (eqb-true p.number q.number same))) (tells_here c))
      (λ _ b yes_ asks. absurd (none-some b asks))

  pub tells_step : (e : Event) → TellsFlags q (processor w q).locked (processor w q).disabled (step k w e).1
  tells_step e =
      by_event k w (λ v r. TellsFlags q (processor w q).locked (processor w q).disabled r) (λ v cs r y ps h. h) (λ p c. tells_call p c) (λ p c b no_answer asks. absurd (false≢true no_answer))
      (λ p b no_answer asks. absurd (none-some b asks)) (λ p b no_answer asks. absurd (none-some b asks)) (λ p b no_answer asks. absurd (none-some b asks)) (λ p a none b no_answer asks. absurd (none-some b asks)) e

pub flags_answered : (c : Setup) (events : List Event) → IsValid c → AreOn c.processors events → (e : Event) (p : Proc) →
    TellsFlags p (locked_by p (answers numbered (booted c) events) false) (disabled_by p (answers numbered (booted c) events) false) (step numbered (replay numbered (booted c) events) e).1
flags_answered c events valid on e p =
    let m : State = replay numbered (booted c) events in
    let all = flags_run c p nobody_waits (booted c) events none_set (ready_at_boot c valid events on) (booted_flags c p) in
    subst (λ (x : Flags). TellsFlags p x.locked x.disabled (step numbered m e).1) all (tells_step numbered m p e)
