-- A state keeps its counts.
use Rattle.std.proofs.Common.{◌≡◌, ℕ, ℤ, ◌+◌, ◌-◌, ◌<◌, ◌≤◌, ◌^◌, true, false, List, [], ◌∷◌, length, refl, sym, ◌∙◌, arith, Option, Some}
use Rattle.std.specs.Prelude.{All, if◌then◌else◌}
use Rattle.std.proofs.lemmas.Bool.{cond_both}
use Rattle.std.proofs.lemmas.List.{length-map, length-replicate, length-set}
use Rattle.std.proofs.lemmas.List.Elements.{All-nil, All-map, All-replicate}
use Rattle.std.proofs.lemmas.Option.{none-some}
use Rattle.fmp_codes.specs.Numbers.{as_task}
use Rattle.fmp_codes.specs.Records.{IsWithin}
use Rattle.fmp_codes.specs.declared.numbers.Proc.{Proc}
use Rattle.fmp_codes.specs.declared.numbers.Task.{Task}
use Rattle.fmp_codes.specs.declared.numbers.Object.{Object}
use Rattle.fmp_codes.specs.declared.records.Runner.{Runner}
use Rattle.fmp_rules.specs.declared.machine.Processor.{Processor}
use Rattle.fmp_rules.specs.declared.machine.TaskRecord.{TaskRecord}
use Rattle.fmp_rules.specs.declared.machine.Wait.TheVariants as wait
use Rattle.fmp_rules.specs.declared.machine.Semaphore.{Semaphore}
use Rattle.fmp_rules.specs.declared.machine.Eventflag.{Eventflag}
use Rattle.fmp_rules.specs.declared.machine.Pool.{Pool}
use Rattle.fmp_rules.specs.declared.machine.Cyclic.{Cyclic}
use Rattle.fmp_rules.specs.declared.machine.Alarm.{Alarm}
use Rattle.fmp_setup.specs.declared.setup.TaskSetup.{TaskSetup}
use Rattle.fmp_setup.specs.Setup.{Setup}
use Rattle.fmp_setup.specs.Valid.{IsValid}
use Rattle.fmp_rules.specs.World.{World, with_item, no_task, is_held, no_processor, processor, with_processor, processors_to, resting}
use Rattle.fmp_rules.specs.Ordering.{Ordering, top}
use Rattle.fmp_rules.specs.Arrivals.{numbered}
use Rattle.fmp_rules.specs.Tasks.{start}
use Rattle.fmp_rules.specs.Step.{latched, requests, settle}
use Rattle.fmp_rules.specs.Boot.{blank, all_started, with_top_running, with_tops_running, booted, unnumbered}
use Rattle.fmp_law_safety.specs.Counts.{Counts, counts_of, IsRunnerOf, HasCounts}
use Rattle.fmp_law_safety.proofs.Items.{item_after}
use Rattle.fmp_law_safety.proofs.Booting.{no_wait}

-- a task that waits to send offers a value of 64 bits
abbrev pub OffersFit : TaskRecord → Type 0
OffersFit r = (d : Object) (value : ℤ) → r.wait ≡ Some (wait.Send d value) → IsWithin (2 ^ 63) value

module _ {Q : Type 0} (n : Counts) (w : World Q) (h : HasCounts n w) where
  -- one task changes, and the way in which order is kept
  pub counts_task : (t : Task) (r : TaskRecord) (left : List (Option ℕ)) (x : Q) → length left ≡ length w.waits_left → OffersFit r →
      HasCounts n (record w { tasks = with_item w.tasks t.number r; waits_left = left; order = x })
  counts_task t r left x same offers = record {
    few = h.few;
    few_tasks = h.few_tasks;
    processors = h.processors;
    tasks = length-set w.tasks (t.number - 1) r ∙ h.tasks;
    waits_left = same ∙ h.waits_left;
    cyclics = h.cyclics;
    alarms = h.alarms;
    due = h.due;
    in_bits = record {
      patterns = h.in_bits.patterns;
      contents = h.in_bits.contents;
      offers = λ u d v. item_after no_task w.tasks t.number r (λ (o : TaskRecord). o.wait ≡ Some (wait.Send d v) → IsWithin (2 ^ 63) v) u.number (λ i. offers d v) (h.in_bits.offers u d v);
      blocks = h.in_bits.blocks;
      wakeups = h.in_bits.wakeups;
    };
  }

  -- one processor changes, spin locks and due handlers
  pub counts_processor : (i : ℕ) (f : Processor) (hs : List (Option Proc)) (due : List (List Runner)) → All (All (IsRunnerOf n)) due →
      HasCounts n (record w { processors = with_item w.processors i f; holders = hs; due = due })
  counts_processor i f hs due runners = record {
    few = h.few;
    few_tasks = h.few_tasks;
    processors = length-set w.processors (i - 1) f ∙ h.processors;
    tasks = h.tasks;
    waits_left = h.waits_left;
    cyclics = h.cyclics;
    alarms = h.alarms;
    due = runners;
    in_bits = record { patterns = h.in_bits.patterns; contents = h.in_bits.contents; offers = h.in_bits.offers; blocks = h.in_bits.blocks; wakeups = h.in_bits.wakeups };
  }

  -- the objects change, the ticks that are left, and the due handlers
  pub counts_objects : (left : List (Option ℕ)) (ss : List Semaphore) (fs : List Eventflag) (vs : List (List ℤ)) (ms : List Pool) (cyclics : List Cyclic) (cyclics_left : List (Option ℕ))
      (alarms : List Alarm) (alarms_left : List (Option ℕ)) (due : List (List Runner)) → length left ≡ length w.waits_left → All (λ f. f.pattern < 2 ^ 32) fs →
      All (All (IsWithin (2 ^ 63))) vs → All (λ m. m.setup.blocks ≤ 64) ms → length cyclics ≡ length w.cyclics → length alarms ≡ length w.alarms → All (All (IsRunnerOf n)) due →
      HasCounts n (record w { waits_left = left; semaphores = ss; eventflags = fs; contents = vs; pools = ms; cyclics = cyclics; cyclics_left = cyclics_left; alarms = alarms; alarms_left = alarms_left; due = due })
  counts_objects left ss fs vs ms cyclics cyclics_left alarms alarms_left due same patterns contents blocks c a runners = record {
    few = h.few;
    few_tasks = h.few_tasks;
    processors = h.processors;
    tasks = h.tasks;
    waits_left = same ∙ h.waits_left;
    cyclics = c ∙ h.cyclics;
    alarms = a ∙ h.alarms;
    due = runners;
    in_bits = record { patterns = patterns; contents = contents; offers = h.in_bits.offers; blocks = blocks; wakeups = h.in_bits.wakeups };
  }

-- ---- the end of an event

module _ {Q : Type 0} (k : Ordering Q) (n : Counts) where
  counts_latched : (w : World Q) (ps : List Proc) → HasCounts n w → HasCounts n (latched w ps)
  counts_latched w [] h = h
  counts_latched w (p ∷ ps) h =
      counts_latched (with_processor w p (record (processor w p) { latch = true })) ps (counts_processor n w h p.number (record (processor w p) { latch = true }) w.holders w.due h.due)

  pub counts_settle : (before : List (Option Task)) (w : World Q) (q : Proc) → HasCounts n w → HasCounts n (settle k before w q)
  counts_settle before w q h =
      let v : World Q = latched w (requests k before w q) in
      let kept : HasCounts n v = counts_latched w (requests k before w q) h in
      cond_both (is_held v q) v (with_processor v q (record (processor v q) { running = top k v q; latch = false })) (HasCounts n)
      (λ _. kept) (λ _. counts_processor n v kept q.number (record (processor v q) { running = top k v q; latch = false }) v.holders v.due kept.due)

-- ---- the state at boot

module _ {Q : Type 0} (k : Ordering Q) (n : Counts) where
  counts_started : (w : World Q) (t : ℕ) (ss : List TaskSetup) → HasCounts n w → HasCounts n (all_started k w t ss)
  counts_started w t [] h = h
  counts_started w t (s ∷ ss) h =
      counts_started (if s.starts then start k w (as_task t) s.class.initial else w) (t + 1) ss
      (cond_both s.starts (start k w (as_task t) s.class.initial) w (HasCounts n) (λ _. counts_task n w h (as_task t) _ w.waits_left _ refl (λ d v e. absurd (none-some _ e))) (λ _. h))

  counts_running : (w : World Q) (ps : List Proc) → HasCounts n w → HasCounts n (with_tops_running k w ps)
  counts_running w [] h = h
  counts_running w (p ∷ ps) h =
      counts_running (with_top_running k w p) ps (counts_processor n w h p.number (record (processor w p) { running = top k w p }) w.holders w.due h.due)

  pub counts_boot : (order : Q) (c : Setup) → HasCounts n (blank order c) → HasCounts n (with_tops_running k (all_started k (blank order c) 1 c.tasks) (processors_to c.processors))
  counts_boot order c h =
      counts_running (all_started k (blank order c) 1 c.tasks) (processors_to c.processors) (counts_started (blank order c) 1 c.tasks h)

counts_blank : {Q : Type 0} (order : Q) (c : Setup) → IsValid c → HasCounts (counts_of c) (blank order c)
counts_blank order c valid = record {
  few = valid.few_processors;
  few_tasks = valid.few_tasks;
  processors = length-replicate c.processors no_processor;
  tasks = length-map c.tasks resting;
  waits_left = length-map c.tasks _;
  cyclics = length-map c.cyclics _;
  alarms = length-map c.alarms _;
  due = All-replicate (All (IsRunnerOf (counts_of c))) c.processors [] (All-nil (IsRunnerOf (counts_of c)));
  in_bits = record {
    patterns = All-map (λ (f : Eventflag). f.pattern < 2 ^ 32) _ c.eventflags valid.in_range.eventflags;
    contents = All-map (All (IsWithin (2 ^ 63))) (λ s. []) c.data_queues (λ i d h. All-nil (IsWithin (2 ^ 63)));
    offers = λ t d v e. absurd (none-some _ (sym (no_wait order c valid t) ∙ e));
    blocks = All-map (λ (m : Pool). m.setup.blocks ≤ 64) _ c.pools (λ i d h. (valid.in_range.pools i d h).most);
    wakeups = let most = valid.limits.most_wakeups in omega (arith, most);
  };
}

pub counts_booted : (c : Setup) → IsValid c → HasCounts (counts_of c) (booted c)
counts_booted c valid = counts_boot numbered (counts_of c) (unnumbered c) c (counts_blank (unnumbered c) c valid)
