-- Which change of the running task and which requests a step tells.
use Rattle.std.proofs.Common.{◌≡◌, ℕ, zero, suc, ◌+◌, ◌≤◌, Bool, true, false, not, ◌||◌, List, [], ◌∷◌, length, map, refl, sym, ap, ◌∙◌, arith, Option, Some, None}
use Rattle.std.specs.Prelude.{is_some, if◌then◌else◌, filter}
use Rattle.std.specs.List.{range_with_len}
use Rattle.std.proofs.lemmas.Bool.{cond_both, cond-true, cond-false, eq-eqb}
use Rattle.fmp_codes.specs.Numbers.{as_proc}
use Rattle.fmp_codes.specs.Records.{processor_of}
use Rattle.fmp_codes.specs.declared.numbers.Proc.{Proc}
use Rattle.fmp_codes.specs.declared.numbers.Task.{Task}
use Rattle.fmp_codes.specs.declared.records.Answer.{Answer}
use Rattle.fmp_codes.specs.declared.records.Answer.TheVariants as answer
use Rattle.fmp_codes.specs.declared.records.Event.{Event}
use Rattle.fmp_codes.specs.declared.records.Event.TheVariants as event
use Rattle.fmp_codes.specs.declared.records.Record.{Record}
use Rattle.fmp_setup.specs.Setup.{has_time}
use Rattle.fmp_rules.specs.Effects.{Effect}
use Rattle.fmp_rules.specs.declared.machine.Processor.{Processor}
use Rattle.fmp_rules.specs.World.{no_processor, item, with_item, processor, handler, runner_of, is_held, processors_to}
use Rattle.fmp_rules.specs.Ordering.{top}
use Rattle.fmp_rules.specs.Arrivals.{State, numbered}
use Rattle.fmp_rules.specs.Rows.{called, plain}
use Rattle.fmp_rules.specs.Tick.{tick, ticked}
use Rattle.fmp_rules.specs.Step.{is_same, changed_run, is_requested, requests, tops, settle, row_of, settled, before_event, unchanged, step}
use Rattle.fmp_law_safety.specs.Safe.{Safe}
use Rattle.fmp_law_safety.proofs.Items.{item_same}
use Rattle.fmp_law_safety.proofs.Calls.{occupied_at}
use Rattle.fmp_law_safety.proofs.Keeps.{KeepsOthers, keeps_all}
use Rattle.fmp_law_safety.proofs.KeepsTick.{keeps_tick}
use Rattle.fmp_law_safety.proofs.Listed.{numbered_lists}
use Rattle.fmp_law_safety.proofs.Settling.{requested, with_latches, length_each, latches_at, settle_is}
use Rattle.fmp_law_safety.proofs.Stepping.{keeps_call}
use Rattle.fmp_law_records.specs.Requests.{is_held_back, came_to_end, is_among}
use Rattle.fmp_law_records.specs.Tops.{is_one_task}
use Rattle.fmp_law_records.proofs.Flags.{Flags, flags}
use Rattle.fmp_law_records.proofs.FlagsRuns.{latched_flags, settled_flags}
use Rattle.fmp_law_records.specs.Effects.RunChanges.{change_to}

-- The words of a change.

one_task : (a b : Option Task) → is_same a b ≡ is_one_task a b
one_task None None = refl
one_task (Some t) (Some u) = refl
one_task None (Some u) = refl
one_task (Some t) None = refl

same_itself : (o : Option Task) → is_same o o ≡ true
same_itself None = refl
same_itself (Some t) = eq-eqb t.number t.number refl

unless : {X : Type 0} (b : Bool) (x : X) → (if b then None else Some x) ≡ (if not b then Some x else None)
unless true x = refl
unless false x = refl

change_is : (a first : Option Task) (held : Bool) → changed_run a (if held then a else first) ≡ change_to true held a first
change_is a first true = cond-true (is_same a a) None (Some a) (same_itself a)
change_is a first false = unless (is_same a first) first ∙ ap (λ b. if not b then Some first else None) (one_task a first)

-- Two tests that agree on all processors keep the same ones.

pub filter_within : (f g : Proc → Bool) (most : ℕ) → most ≤ 8 → ((p : Proc) → p.number ≤ most → f p ≡ g p) → (a n : ℕ) → 1 ≤ a → a + n ≤ most + 1 →
    filter f (map as_proc (range_with_len a n)) ≡ filter g (map as_proc (range_with_len a n))
filter_within f g most few same a zero l h = refl
filter_within f g most few same a (suc n) l h =
    let here : (as_proc a).number ≤ most = omega (arith, l, h, few) in
    rw (same (as_proc a) here, filter_within f g most few same (a + 1) n (omega arith) (omega (arith, h))) refl

filter_none : (ps : List Proc) → filter (λ p. false) ps ≡ []
filter_none [] = refl
filter_none (p ∷ ps) = filter_none ps

-- a processor is held by what is due there and by its flags
abbrev held_with : Bool → Flags → Bool
held_with due x = due || x.locked || x.disabled

module _ (m : State) (few : length m.processors ≤ 8) (s : Safe numbered m) where
  -- the change of the running task is told, and so are the requests, in their order
  pub record Changes (x : State × Record) : Type 0 where
    pub change : x.1.run_change ≡ change_to (came_to_end x.1.runner x.1.answer x.1.event) (is_held x.0 (processor_of x.1.event))
        (processor m (processor_of x.1.event)).running (top numbered x.0 (processor_of x.1.event))
    pub listed : x.1.requests ≡ filter (λ p. is_among p x.1.requests) (processors_to (length m.processors))

  module _ (before : List (Option Task)) (v : State) (q : Proc) (within : q.number ≤ length v.processors) where
    held_settled : is_held (settle numbered before v q) q ≡ is_held v q
    held_settled =
        ap (λ (b : Bool). held_with b (flags (processor (settle numbered before v q) q))) (ap (λ (u : State). is_some (handler u q)) (settle_is numbered before v q))
        ∙ ap (held_with (is_some (handler v q))) (settled_flags numbered before v q q)

    running_settled : (processor (settle numbered before v q) q).running ≡ (if is_held v q then (processor v q).running else top numbered v q)
    running_settled =
        let rs : List Proc = requests numbered before v q in
        let cs : List Processor = with_latches v.processors rs in
        let x : Processor = record (item no_processor cs q.number) { running = top numbered v q; latch = false } in
        let held : Bool = is_held (record v { processors = cs }) q in
        let same : held ≡ is_held v q = ap (held_with (is_some (handler v q))) (latched_flags v.processors rs q.number) in
        let many : q.number ≤ length cs = rw (length_each (λ p c. record c { latch = true }) v.processors rs) within in
        ap (λ (u : State). (processor u q).running) (settle_is numbered before v q)
        ∙ cond_both held cs (with_item cs q.number x)
        (λ (ds : List Processor). (item no_processor ds q.number).running ≡ (if is_held v q then (processor v q).running else top numbered v q))
        (λ yes_. ap (λ (c : Processor). c.running) (latches_at v.processors rs q within)
        ∙ sym (cond-true (is_held v q) (processor v q).running (top numbered v q) (sym same ∙ yes_)))
        (λ no_. ap (λ (c : Processor). c.running) (item_same no_processor cs q.number x q.least many)
        ∙ sym (cond-false (is_held v q) (processor v q).running (top numbered v q) (sym same ∙ no_)))

    listed_settled : length v.processors ≡ length m.processors →
        requests numbered before v q ≡ filter (λ p. is_among p (requests numbered before v q)) (processors_to (length m.processors))
    listed_settled count =
        ap (λ n. filter (is_requested numbered before v q) (processors_to n)) count
        ∙ filter_within (is_requested numbered before v q) (λ p. is_among p (requests numbered before v q)) (length m.processors) few
        (λ p here. sym (requested numbered v before q p (p.least, rw count here))) 1 (length m.processors) (omega arith) (omega arith)

  changes_settled : (e : Event) (did : State × Effect) → (processor_of e).number ≤ length m.processors → KeepsOthers m did.0 (processor_of e) →
      came_to_end (runner_of m (processor_of e)) did.1.answer e ≡ true → Changes (settled numbered (before_event numbered m e (processor_of e)) did)
  unfolding settled before_event
  changes_settled e did n keeps came =
      let q : Proc = processor_of e in
      let before : List (Option Task) = tops numbered m in
      let after : State = settle numbered before did.0 q in
      let a : Option Task = (processor m q).running in
      let within : q.number ≤ length did.0.processors = rw keeps.count n in
      record {
        change =
            ap (changed_run a) (running_settled before did.0 q within)
            ∙ ap (λ o. changed_run a (if is_held did.0 q then o else top numbered did.0 q)) keeps.running
            ∙ change_is a (top numbered did.0 q) (is_held did.0 q)
            ∙ ap (λ b. change_to true b a (top numbered did.0 q)) (sym (held_settled before did.0 q within))
            ∙ ap (λ (u : State). change_to true (is_held after q) a (top numbered u q)) (sym (settle_is numbered before did.0 q))
            ∙ ap (λ b. change_to b (is_held after q) a (top numbered after q)) (sym came);
        listed = listed_settled before did.0 q within keeps.count;
      }

  -- an event that changes nothing
  changes_none : (e : Event) (a : Answer) → came_to_end (runner_of m (processor_of e)) a e ≡ false → Changes (unchanged m e (processor_of e) a)
  unfolding unchanged
  changes_none e a none = record {
    change = ap (λ b. change_to b (is_held m (processor_of e)) (processor m (processor_of e)).running (top numbered m (processor_of e))) (sym none);
    listed = sym (filter_none (processors_to (length m.processors)));
  }

  pub changes_step : (e : Event) → (processor_of e).number ≤ length m.processors → Changes (step numbered m e)
  unfolding ticked
  changes_step (event.Call q c) n =
      cond_both (is_some (runner_of m q)) _ _ Changes
      (λ there. changes_settled (event.Call q c) (called m q (row_of numbered m q c)) n (keeps_call numbered m numbered_lists s q (q.least, n) there c) there)
      (λ none. changes_none (event.Call q c) answer.Idle none)
  changes_step (event.Tick q) n =
      cond_both (has_time m.timer q) _ _ Changes
      (λ _.
      cond_both ((processor m q).locked || is_some (handler m q)) _ _ Changes (λ _. changes_none (event.Tick q) answer.Held refl)
      (λ _. changes_settled (event.Tick q) (tick numbered m q) n (keeps_tick numbered numbered_lists m s q (q.least, n)) refl))
      (λ _. changes_none (event.Tick q) answer.Nothing refl)
  changes_step (event.Ipi q) n =
      cond_both (is_held m q) _ _ Changes (λ _. changes_none (event.Ipi q) answer.Held refl)
      (λ _.
      changes_settled (event.Ipi q) (m, plain (if (processor m q).latch then answer.Taken else answer.Nothing)) n
      (keeps_all m q (occupied_at m q (s.processors q (q.least, n))))
      (cond_both (processor m q).latch answer.Taken answer.Nothing (λ a. not (is_held_back a) ≡ true) (λ _. refl) (λ _. refl)))
