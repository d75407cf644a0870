-- Whether a request is pending on a processor after each step is what its record says, and so is what an interrupt and a tick answer.
use Rattle.std.proofs.Common.{◌≡◌, ◌≤◌, ◌==◌, Bool, true, false, not, ◌&&◌, ◌||◌, List, length, refl, sym, ap, ◌∙◌, subst, Option, None, ⊎_elim}
use Rattle.std.specs.Prelude.{is_some, if◌then◌else◌}
use Rattle.std.specs.List.{list_any}
use Rattle.std.proofs.lemmas.Bool.{cond_both, cond-true, cond-false, eq-eqb, ne_eqb, cases_eq}
use Rattle.std.proofs.Math.Bool.{or-false}
use Rattle.fmp_codes.specs.declared.numbers.Proc.{Proc}
use Rattle.fmp_codes.specs.declared.numbers.Task.{Task}
use Rattle.fmp_codes.specs.declared.calls.Call.{Call}
use Rattle.fmp_codes.specs.declared.records.Answer.{Answer}
use Rattle.fmp_codes.specs.declared.records.Answer.TheVariants as answer
use Rattle.fmp_codes.specs.declared.records.Event.{Event}
use Rattle.fmp_codes.specs.declared.records.Event.TheVariants as event
use Rattle.fmp_codes.specs.declared.records.Record.{Record}
use Rattle.fmp_codes.specs.Records.{is_taken}
use Rattle.fmp_codes.proofs.Same.{processors_same}
use Rattle.fmp_setup.specs.Setup.{has_time}
use Rattle.fmp_rules.specs.Effects.{Effect}
use Rattle.fmp_rules.specs.declared.machine.Processor.{Processor}
use Rattle.fmp_rules.specs.World.{no_processor, item, with_item, processor, handler, runner_of, is_held}
use Rattle.fmp_rules.specs.Ordering.{top}
use Rattle.fmp_rules.specs.Arrivals.{State, numbered}
use Rattle.fmp_rules.specs.Rows.{called, plain}
use Rattle.fmp_rules.specs.Tick.{tick, ticked}
use Rattle.fmp_rules.specs.Step.{is_same, requests, tops, settle, row_of, settled, before_event, unchanged, step}
use Rattle.fmp_law_safety.specs.Runs.{processor_of}
use Rattle.fmp_law_safety.specs.Safe.{Safe}
use Rattle.fmp_law_safety.proofs.Items.{item_same, item_other}
use Rattle.fmp_law_safety.proofs.Listed.{numbered_lists}
use Rattle.fmp_law_safety.proofs.Settling.{is_number, requested, with_latches, length_each, latches_at, settle_is}
use Rattle.fmp_law_safety.proofs.Stepping.{keeps_call}
use Rattle.fmp_law_records.specs.Requests.{is_held_back, came_to_end, pending_after}
use Rattle.fmp_law_records.proofs.Leaving.{tick_still}
use Rattle.fmp_law_records.proofs.Flags.{Flags, flags, Marks, flags_call}
use Rattle.fmp_law_records.proofs.FlagsRuns.{latched_flags, settled_flags}

-- a processor is held by what is due there and by its flags
abbrev held_with : Bool → Flags → Bool
held_with due x = due || x.locked || x.disabled

or_is : (b l : Bool) → (l || b) ≡ (if b then true else l)
or_is true true = refl
or_is true false = refl
or_is false true = refl
or_is false false = refl

-- the end of an event on the processor, and on another one
pending_here : (among ends held l : Bool) → among ≡ false → ends ≡ true → (if not held then false else l) ≡ (if among then true else if ends && not held then false else l)
pending_here among ends held l a e = rw (a, e) refl

pending_there : (among ends held l : Bool) → ends ≡ false → (if among then true else l) ≡ (if among then true else if ends && not held then false else l)
pending_there among ends held l e = rw e refl

module _ (m : State) (p : Proc) (n : p.number ≤ length m.processors) where
  abbrev pub PendingReported : (State × Record) → Type 0
  PendingReported x = (processor x.0 p).latch ≡ pending_after p x.1 (is_held x.0 p) (processor m p).latch

  module _ (before : List (Option Task)) (v : State) (count : length v.processors ≡ length m.processors) where
    -- nothing of it is held otherwise at the end of the event
    held_settled : (q : Proc) → is_held (settle numbered before v q) p ≡ is_held v p
    held_settled q =
        ap (λ (b : Bool). held_with b (flags (processor (settle numbered before v q) p))) (ap (λ (u : State). is_some (handler u p)) (settle_is numbered before v q))
        ∙ ap (held_with (is_some (handler v p))) (settled_flags numbered before v q p)

    not_sent : list_any (is_number p) (requests numbered before v p) ≡ false
    not_sent =
        requested numbered v before p p (p.least, rw count n) ∙ ap (λ (b : Bool). not b && not (is_same (item None before p.number) (top numbered v p))) (eq-eqb p.number p.number refl)

    here_latch : (processor (settle numbered before v p) p).latch ≡ (if not (is_held v p) then false else (processor v p).latch)
    here_latch =
        let rs : List Proc = requests numbered before v p in
        let cs : List Processor = with_latches v.processors rs in
        let x : Processor = record (item no_processor cs p.number) { running = top numbered v p; latch = false } in
        let held : Bool = is_held (record v { processors = cs }) p in
        let same : held ≡ is_held v p = ap (held_with (is_some (handler v p))) (latched_flags v.processors rs p.number) in
        let latch : (item no_processor cs p.number).latch ≡ (processor v p).latch =
        ap (λ (c : Processor). c.latch) (latches_at v.processors rs p (rw count n)) ∙ ap (λ b. (processor v p).latch || b) not_sent ∙ or-false (processor v p).latch in
        let many : p.number ≤ length cs = rw (length_each (λ p c. record c { latch = true }) v.processors rs, count) n in
        ap (λ (u : State). (processor u p).latch) (settle_is numbered before v p)
        ∙ cond_both held cs (with_item cs p.number x) (λ (ds : List Processor). (item no_processor ds p.number).latch ≡ (if not (is_held v p) then false else (processor v p).latch))
        (λ yes_. latch ∙ sym (cond-false (not (is_held v p)) false (processor v p).latch (ap not (sym same ∙ yes_))))
        (λ no_. ap (λ (c : Processor). c.latch) (item_same no_processor cs p.number x p.least many) ∙ sym (cond-true (not (is_held v p)) false (processor v p).latch (ap not (sym same ∙ no_))))

    there_latch : (q : Proc) → (p.number ≡ q.number → ⊥) → (processor (settle numbered before v q) p).latch ≡ (if list_any (is_number p) (requests numbered before v q) then true else (processor v p).latch)
    there_latch q d =
        let rs : List Proc = requests numbered before v q in
        let cs : List Processor = with_latches v.processors rs in
        let x : Processor = record (item no_processor cs q.number) { running = top numbered v q; latch = false } in
        ap (λ (u : State). (processor u p).latch) (settle_is numbered before v q)
        ∙ cond_both (is_held (record v { processors = cs }) q) cs (with_item cs q.number x) (λ (ds : List Processor). (item no_processor ds p.number).latch ≡ (item no_processor cs p.number).latch) (λ _. refl)
        (λ _. ap (λ (c : Processor). c.latch) (item_other no_processor cs q.number x p.number p.least q.least d))
        ∙ ap (λ (c : Processor). c.latch) (latches_at v.processors rs p (rw count n)) ∙ or_is (list_any (is_number p) rs) (processor v p).latch

  -- an event on q that did this comes to its end
  module _ (e : Event) (did : State × Effect) (count : length did.0.processors ≡ length m.processors) (same : (processor did.0 p).latch ≡ (processor m p).latch) where
    abbrev EndReported : Proc → Type 0
    EndReported q = (processor_of e).number ≡ q.number → came_to_end (runner_of m q) did.1.answer e ≡ true → PendingReported (settled numbered (before_event numbered m e q) did)

    end_here : EndReported p
    unfolding settled before_event
    end_here is came =
        let before : List (Option Task) = tops numbered m in
        let among : Bool = list_any (is_number p) (requests numbered before did.0 p) in
        let ends : Bool = (processor_of e).number == p.number && came_to_end (runner_of m p) did.1.answer e in
        let ended : ends ≡ true = rw (eq-eqb (processor_of e).number p.number is, came) refl in
        here_latch before did.0 count
        ∙ ap (λ (l : Bool). if not (is_held did.0 p) then false else l) same
        ∙ pending_here among ends (is_held did.0 p) (processor m p).latch (not_sent before did.0 count) ended
        ∙ ap (λ (h : Bool). if among then true else if ends && not h then false else (processor m p).latch) (sym (held_settled before did.0 count p))

    end_there : (q : Proc) → (p.number ≡ q.number → ⊥) → EndReported q
    unfolding settled before_event
    end_there q d is came =
        let before : List (Option Task) = tops numbered m in
        let among : Bool = list_any (is_number p) (requests numbered before did.0 q) in
        let other : (processor_of e).number == p.number ≡ false = ne_eqb (processor_of e).number p.number (λ here. d (sym here ∙ is)) in
        there_latch before did.0 count q d
        ∙ ap (λ (l : Bool). if among then true else l) same
        ∙ pending_there among ((processor_of e).number == p.number && came_to_end (runner_of m q) did.1.answer e) (is_held (settle numbered before did.0 q) p) (processor m p).latch (ap (λ b. b && came_to_end (runner_of m q) did.1.answer e) other)

    end_reported : (q : Proc) → EndReported q
    end_reported q = ⊎_elim (λ (i : p.number ≡ q.number). subst EndReported (processors_same p q i) end_here) (λ (d : p.number ≡ q.number → ⊥). end_there q d) (cases_eq p.number q.number)

  -- an event that changes nothing
  stays_reported : (e : Event) (q : Proc) (a : Answer) → came_to_end (runner_of m q) a e ≡ false → PendingReported (unchanged m e q a)
  unfolding unchanged
  stays_reported e q a not_ =
      let b : Bool = (processor_of e).number == p.number in
      let none : (b && came_to_end (runner_of m q) a e) ≡ false = rw not_ (and_false b) in
      sym (cond-false (b && came_to_end (runner_of m q) a e && not (is_held m p)) false (processor m p).latch (ap (λ x. x && not (is_held m p)) none))
    where
      and_false : (b : Bool) → (b && false) ≡ false
      and_false true = refl
      and_false false = refl

  module _ (s : Safe numbered m) where
    call_latch : (q : Proc) (c : Call) → is_some (runner_of m q) ≡ true → q.number ≤ length m.processors → (processor (called m q (row_of numbered m q c)).0 p).latch ≡ (processor m p).latch
    call_latch q c there within =
        ⊎_elim
        (λ (i : p.number ≡ q.number). subst (λ (x : Proc). (processor (called m x (row_of numbered m x c)).0 p).latch ≡ (processor m p).latch) (processors_same p q i) (ap (λ (x : Marks). x.latch) (flags_call numbered m p n c).here))
        (λ (d : p.number ≡ q.number → ⊥). ap (λ (x : Processor). x.latch) ((keeps_call numbered m numbered_lists s q (q.least, within) there c).processors p d)) (cases_eq p.number q.number)

    pub pending_step : (e : Event) → (processor_of e).number ≤ length m.processors → PendingReported (step numbered m e)
    unfolding ticked
    pending_step (event.Call q c) within =
        cond_both (is_some (runner_of m q)) _ _ PendingReported
        (λ there. end_reported (event.Call q c) (called m q (row_of numbered m q c)) (keeps_call numbered m numbered_lists s q (q.least, within) there c).count (call_latch q c there within) q refl there)
        (λ none. stays_reported (event.Call q c) q answer.Idle none)
    pending_step (event.Tick q) within =
        cond_both (has_time m.timer q) _ _ PendingReported
        (λ _.
        cond_both ((processor m q).locked || is_some (handler m q)) _ _ PendingReported (λ _. stays_reported (event.Tick q) q answer.Held refl)
        (λ _.
        end_reported (event.Tick q) (tick numbered m q) (ap length (tick_still numbered m q).0) (ap (λ cs. (item no_processor cs p.number).latch) (tick_still numbered m q).0) q refl refl))
        (λ _. stays_reported (event.Tick q) q answer.Nothing refl)
    pending_step (event.Ipi q) within =
        cond_both (is_held m q) _ _ PendingReported (λ _. stays_reported (event.Ipi q) q answer.Held refl)
        (λ _.
        end_reported (event.Ipi q) (m, plain (if (processor m q).latch then answer.Taken else answer.Nothing)) refl refl q refl
        (cond_both (processor m q).latch answer.Taken answer.Nothing (λ a. not (is_held_back a) ≡ true) (λ _. refl) (λ _. refl)))

-- What an interrupt and a tick answer.

module _ (m : State) (p : Proc) where
  abbrev Answers : (Answer → Bool) → Bool → (State × Record) → Type 0
  Answers test b x = test x.1.answer ≡ b

  pub interrupt_held : Answers is_held_back (is_held m p) (step numbered m (event.Ipi p))
  unfolding settled before_event unchanged
  interrupt_held =
      cond_both (is_held m p) _ _ (Answers is_held_back (is_held m p)) (λ yes_. sym yes_)
      (λ no_. cond_both (processor m p).latch answer.Taken answer.Nothing (λ a. is_held_back a ≡ false) (λ _. refl) (λ _. refl) ∙ sym no_)

  pub interrupt_taken : Answers is_taken ((processor m p).latch && not (is_held m p)) (step numbered m (event.Ipi p))
  unfolding settled before_event unchanged
  interrupt_taken =
      cond_both (is_held m p) _ _ (Answers is_taken ((processor m p).latch && not (is_held m p))) (λ yes_. rw yes_ (sym (and_not (processor m p).latch)))
      (λ no_. rw no_ (taken_if (processor m p).latch))
    where
      and_not : (b : Bool) → (b && false) ≡ false
      and_not true = refl
      and_not false = refl

      taken_if : (b : Bool) → is_taken (if b then answer.Taken else answer.Nothing) ≡ (b && true)
      taken_if true = refl
      taken_if false = refl

  abbrev busy : Bool
  busy = (processor m p).locked || is_some (handler m p)

  pub tick_held : Answers is_held_back (has_time m.timer p && busy) (step numbered m (event.Tick p))
  unfolding settled before_event unchanged ticked
  tick_held =
      cond_both (has_time m.timer p) _ _ (Answers is_held_back (has_time m.timer p && busy))
      (λ time. cond_both busy _ _ (Answers is_held_back (has_time m.timer p && busy)) (λ yes_. rw (time, yes_) refl) (λ no_. rw (time, no_) refl)) (λ none. rw none refl)

  pub tick_taken : Answers is_taken (has_time m.timer p && not busy) (step numbered m (event.Tick p))
  unfolding settled before_event unchanged ticked
  tick_taken =
      cond_both (has_time m.timer p) _ _ (Answers is_taken (has_time m.timer p && not busy))
      (λ time. cond_both busy _ _ (Answers is_taken (has_time m.timer p && not busy)) (λ yes_. rw (time, yes_) refl) (λ no_. rw (time, no_) refl)) (λ none. rw none refl)
