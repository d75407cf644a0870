-- The end of an event makes a state safe again.
use Rattle.std.proofs.Common.{◌≡◌, ℕ, ◌==◌, true, false, not, ◌||◌, ◌&&◌, List, length, refl, sym, ap, ◌∙◌, subst, Option, Some, None, ⊎_elim}
use Rattle.std.specs.Prelude.{is_some, is_none, option_map, slice_index_or}
use Rattle.std.specs.Option.{option_or}
use Rattle.std.proofs.lemmas.Bool.{cases_eq, eqb-true, ne_eqb, and_parts, or_parts, both_ways, cond_both, false≢true, true≢false, not-false}
use Rattle.std.proofs.lemmas.List.{length-set}
use Rattle.fmp_codes.specs.declared.numbers.Proc.{Proc}
use Rattle.fmp_codes.specs.declared.numbers.Task.{Task}
use Rattle.fmp_codes.specs.declared.records.Runner.{Runner}
use Rattle.fmp_codes.specs.declared.records.Runner.TheVariants as runner
use Rattle.fmp_codes.proofs.Same.{tasks_same, processors_same}
use Rattle.fmp_rules.specs.declared.machine.Processor.{Processor}
use Rattle.fmp_rules.specs.declared.machine.TaskRecord.{TaskRecord}
use Rattle.fmp_rules.specs.World.{World, no_processor, item, with_item, task, processor, handler, is_held}
use Rattle.fmp_rules.specs.Ordering.{Ordering, top}
use Rattle.fmp_rules.specs.Step.{is_same, tops, is_requested, requests, settle}
use Rattle.fmp_law_safety.specs.Safe.{IsNumberOf, may_run_on, SafeAt, RunsOnce, Safe}
use Rattle.fmp_law_safety.proofs.Items.{item_after, item_same, item_other}
use Rattle.fmp_law_safety.proofs.Rests.{Rests, rests_processors}
use Rattle.fmp_law_safety.proofs.Keeps.{KeepsOthers}
use Rattle.fmp_law_safety.proofs.Settling.{TopsMayRun, requested, top_before, with_latches, length_each, locked_each, or_latched, latches_at, at_end, settle_is}

pub same_true : (a b : Option Task) → is_same a b ≡ true → a ≡ b
same_true None None e = refl
same_true None (Some u) e = absurd (false≢true e)
same_true (Some t) None e = absurd (false≢true e)
same_true (Some t) (Some u) e = ap Some (tasks_same t u (eqb-true t.number u.number e))

assigned_there : (p : Proc) (r : TaskRecord) → may_run_on p r ≡ true → r.assigned.number ≡ p.number
assigned_there p r e =
    eqb-true r.assigned.number p.number (and_parts (r.assigned.number == p.number) (is_none r.wait) (and_parts r.active ((r.assigned.number == p.number) && is_none r.wait) e).1).0

-- what runs on two processors is assigned to both
pub runs_once : {Q : Type 0} (k : Ordering Q) (w : World Q) → ((p : Proc) → IsNumberOf w.processors p.number → SafeAt k w p) → RunsOnce w
runs_once k w s p q t m n a b = sym (assigned_there p (task w t) ((s p m).runs t a)) ∙ assigned_there q (task w t) ((s q n).runs t b)

pub record IsFree {Q : Type 0} (w : World Q) (p : Proc) : Type 0 where
  pub handler : is_some (handler w p) ≡ false
  pub locked : (processor w p).locked ≡ false
  pub disabled : (processor w p).disabled ≡ false

pub free_parts : {Q : Type 0} (w : World Q) (p : Proc) → is_held w p ≡ false → IsFree w p
free_parts w p e =
    let c = processor w p in
    let parts = or_parts (is_some (handler w p) || c.locked) c.disabled e in
    let others = or_parts (is_some (handler w p)) c.locked parts.0 in
    record { handler = others.0; locked = others.1; disabled = parts.1 }

-- A processor where handlers may become due: `now` is the due one, and `before` was.

free_before : (now before : Option Runner) (c : Processor) → (is_some now ≡ false → is_some before ≡ false) →
    (is_some now || c.locked || c.disabled) ≡ false → (is_some before || c.locked || c.disabled) ≡ false
free_before (Some x) before c none free = absurd (true≢false free)
free_before None before c none free = rw (none refl) free

still_occupied : (now before : Option Runner) (c : Processor) → (is_some now ≡ false → is_some before ≡ false) →
    ((is_some before || c.locked || c.disabled) ≡ true → is_some (option_or before (option_map runner.Task c.running)) ≡ true) →
    (is_some now || c.locked || c.disabled) ≡ true → is_some (option_or now (option_map runner.Task c.running)) ≡ true
still_occupied (Some x) before c none old held = refl
still_occupied None None c none old held = old held
still_occupied None (Some x) c none old held = absurd (true≢false (none refl))

module _ {Q : Type 0} (k : Ordering Q) (w v : World Q) (p : Proc) (s : Safe k w) (h : KeepsOthers w v p) (first : TopsMayRun k v) (within : IsNumberOf w.processors p.number) where
  abbrev rs : List Proc
  rs = requests k (tops k w) v p

  abbrev cs : List Processor
  cs = with_latches v.processors rs

  length_cs : length cs ≡ length w.processors
  length_cs = length_each (λ p c. record c { latch = true }) v.processors rs ∙ h.count

  at_latches : (i : Proc) → IsNumberOf w.processors i.number → item no_processor cs i.number ≡ or_latched (is_requested k (tops k w) v p i) (processor v i)
  at_latches i n =
      let m : IsNumberOf v.processors i.number = (n.0, rw h.count n.1) in
      latches_at v.processors rs i m.1 ∙ ap (λ b. or_latched b (processor v i)) (requested k v (tops k w) p i m)

  -- the processor of the event, where it is held
  safe_held : is_held (record v { processors = cs }) p ≡ true → SafeAt k (record v { processors = cs }) p
  safe_held held =
      let here = at_latches p within in
      let was_held : is_held v p ≡ true = sym (ap (λ (c : Processor). is_some (handler v p) || c.locked || c.disabled) here) ∙ held in
      let same : (item no_processor cs p.number).running ≡ (processor v p).running = ap (λ (c : Processor). c.running) here in
      record {
        runs = λ t e. let ran : (processor w p).running ≡ Some t = sym h.running ∙ sym same ∙ e in h.own t was_held ran ((s.processors p within).runs t ran);
        dispatched = λ l free. absurd (both_ways _ free held);
        occupied = λ e. subst (λ o. is_some (option_or (handler v p) (option_map runner.Task o)) ≡ true) (sym same) (h.occupied.held was_held);
        disabled = λ e. subst (λ o. is_some o ≡ true) (sym same) (h.occupied.disabled (sym (ap (λ (c : Processor). c.disabled) here) ∙ e));
      }

  -- the processor of the event, where it dispatches
  safe_free : is_held (record v { processors = cs }) p ≡ false →
      SafeAt k (record v { processors = with_item cs p.number (record (item no_processor cs p.number) { running = top k v p; latch = false }) }) p
  safe_free free =
      let here = item_same no_processor cs p.number (record (item no_processor cs p.number) { running = top k v p; latch = false }) p.least (rw length_cs within.1) in
      record {
        runs = λ t e. first p t (sym (ap (λ (c : Processor). c.running) here) ∙ e);
        dispatched = λ l e. ap (λ (c : Processor). c.running) here;
        occupied = λ e. absurd (both_ways _ free (sym (ap (λ (c : Processor). is_some (handler v p) || c.locked || c.disabled) here) ∙ e));
        disabled = λ e. absurd (both_ways (item no_processor cs p.number).disabled (free_parts (record v { processors = cs }) p free).disabled (sym (ap (λ (c : Processor). c.disabled) here) ∙ e));
      }

  safe_own : SafeAt k (record v { processors = at_end k v cs p }) p
  safe_own = cond_both (is_held (record v { processors = cs }) p) cs _ (λ (ds : List Processor). SafeAt k (record v { processors = ds }) p) safe_held safe_free

  unchanged_there : (i : Proc) → (i.number ≡ p.number → ⊥) → item no_processor (at_end k v cs p) i.number ≡ item no_processor cs i.number
  unchanged_there i d =
      cond_both (is_held (record v { processors = cs }) p) cs _ (λ (ds : List Processor). item no_processor ds i.number ≡ item no_processor cs i.number)
      (λ _. refl) (λ _. item_other no_processor cs p.number _ i.number i.least p.least d)

  -- another processor runs what it ran: its top, or else a request is pending now
  safe_other : (i : Proc) → IsNumberOf w.processors i.number → (i.number ≡ p.number → ⊥) → SafeAt k (record v { processors = at_end k v cs p }) i
  safe_other i n d =
      let old = s.processors i n in
      let same : item no_processor (at_end k v cs p) i.number ≡ or_latched (is_requested k (tops k w) v p i) (processor w i) =
      unchanged_there i d ∙ at_latches i n ∙ ap (or_latched (is_requested k (tops k w) v p i)) (h.processors i d) in
      let runs_same : (item no_processor (at_end k v cs p) i.number).running ≡ (processor w i).running = ap (λ (c : Processor). c.running) same in
      let flags_same : (handlers : Option Runner) → (is_some handlers || (item no_processor (at_end k v cs p) i.number).locked || (item no_processor (at_end k v cs p) i.number).disabled)
      ≡ (is_some handlers || (processor w i).locked || (processor w i).disabled) =
      λ o. ap (λ (c : Processor). is_some o || c.locked || c.disabled) same in
      record {
        runs = λ t e. h.others t i d (old.runs t (sym runs_same ∙ e));
        dispatched = λ l free.
            let parts = or_parts (processor w i).latch (is_requested k (tops k w) v p i) (sym (ap (λ (c : Processor). c.latch) same) ∙ l) in
            let kept : not (is_same (top k w i) (top k v i)) ≡ false = rw (ne_eqb i.number p.number d, top_before k w i n) at parts.1 in
            let was_free : is_held w i ≡ false = free_before (handler v i) (handler w i) (processor w i) (h.handlers i d) (sym (flags_same (handler v i)) ∙ free) in
            runs_same ∙ old.dispatched parts.0 was_free ∙ same_true (top k w i) (top k v i) (not-false _ kept);
        occupied = λ e.
            subst (λ o. is_some (option_or (handler v i) (option_map runner.Task o)) ≡ true) (sym runs_same)
            (still_occupied (handler v i) (handler w i) (processor w i) (h.handlers i d) old.occupied (sym (flags_same (handler v i)) ∙ e));
        disabled = λ e. subst (λ o. is_some o ≡ true) (sym runs_same) (old.disabled (sym (ap (λ (c : Processor). c.disabled) same) ∙ e));
      }

  length_end : length (at_end k v cs p) ≡ length w.processors
  length_end =
      cond_both (is_held (record v { processors = cs }) p) cs _ (λ (ds : List Processor). length ds ≡ length w.processors) (λ _. length_cs) (λ _. length-set cs _ _ ∙ length_cs)

  safe_each : (i : Proc) → IsNumberOf (at_end k v cs p) i.number → SafeAt k (record v { processors = at_end k v cs p }) i
  safe_each i n =
      ⊎_elim (λ (e : i.number ≡ p.number). subst (SafeAt k (record v { processors = at_end k v cs p })) (sym (processors_same i p e)) safe_own)
      (λ (d : i.number ≡ p.number → ⊥). safe_other i (n.0, rw (sym length_end) n.1) d) (cases_eq i.number p.number)

  locked_end : (n : ℕ) → (item no_processor v.processors n).locked ≡ true → (item no_processor (at_end k v cs p) n).locked ≡ true
  locked_end n e =
      let latched : (item no_processor cs n).locked ≡ true = locked_each (λ p c. record c { latch = true }) (λ p c h. h) v.processors rs n e in
      cond_both (is_held (record v { processors = cs }) p) cs _ (λ (ds : List Processor). (item no_processor ds n).locked ≡ true) (λ _. latched)
      (λ _. item_after no_processor cs p.number _ (λ (c : Processor). c.locked ≡ true) n (λ i. subst (λ j. (slice_index_or cs j no_processor).locked ≡ true) i latched) latched)

  rests_end : Rests v → Rests (record v { processors = at_end k v cs p })
  rests_end r = rests_processors v (at_end k v cs p) v.holders (λ l q e. (e, locked_end q.number (r.in_range.locked l q e))) r

  -- what an event keeps is safe at its end
  pub safe_settle : Safe k (settle k (tops k w) v p)
  safe_settle =
      let before : Rests w = record { waits = s.waits; in_range = s.in_range } in
      let rests = rests_end (h.rests before) in
      let counts = h.counts before s.counts in
      subst (Safe k) (sym (settle_is k (tops k w) v p))
      (record {
        processors = safe_each;
        runs_once = runs_once k (record v { processors = at_end k v cs p }) safe_each;
        waits = rests.waits;
        in_range = rests.in_range;
        counts = record { waits = counts.waits; cyclics = counts.cyclics; alarms = counts.alarms };
      })

  pub length_settle : length (settle k (tops k w) v p).processors ≡ length w.processors
  length_settle = ap (λ (x : World Q). length x.processors) (settle_is k (tops k w) v p) ∙ length_end
