-- The states of a run in which a law of one step can be taken.
use Rattle.std.proofs.Common.{◌≡◌, ℕ, ◌≤◌, List, [], ◌∷◌, ◌++◌, length, sym, ◌∙◌, subst, arith}
use Rattle.std.specs.Prelude.{take}
use Rattle.std.proofs.lemmas.List.{append-nil}
use Rattle.std.proofs.lemmas.List.Elements.{All-tail, All-take}
use Rattle.fmp_codes.specs.declared.numbers.Task.{Task}
use Rattle.fmp_codes.specs.declared.records.Event.{Event}
use Rattle.fmp_setup.specs.Setup.{Setup}
use Rattle.fmp_setup.specs.Valid.{IsValid}
use Rattle.fmp_rules.specs.Arrivals.{State, numbered}
use Rattle.fmp_rules.specs.Step.{step, replay, answers}
use Rattle.fmp_rules.specs.Boot.{booted}
use Rattle.fmp_law_safety.specs.Runs.{processor_of, AreOn}
use Rattle.fmp_law_safety.specs.Safe.{Safe}
use Rattle.fmp_law_safety.proofs.Stepping.{numbered_tops, safe_step}
use Rattle.fmp_law_safety.proofs.Listed.{numbered_lists}
use Rattle.fmp_law_safety.proofs.Booted.{booted_safe, count_booted}
use Rattle.fmp_law_balance.specs.Waits.Waits.{OpenWaits, nobody_waits, after_record, after_records}
use Rattle.fmp_law_balance.proofs.waits.Words.{IsKept}
use Rattle.fmp_law_balance.proofs.waits.Follows.{Sound, Follows}
use Rattle.fmp_law_balance.proofs.waits.Ticks.{numbered_once}
use Rattle.fmp_law_balance.proofs.waits.Steps.{follows_step, sound_step}
use Rattle.fmp_law_balance.proofs.waits.Booted.{quiet_booted}
use Rattle.fmp_law_records.proofs.counts.Booted.{count_booted_tasks}

module _ (c : Setup) where
  -- a safe state with its tasks and these open waits, and events on its processors
  pub record Ready (pending : OpenWaits) (m : State) (es : List Event) : Type 0 where
    pub safe : Safe numbered m
    pub sound : Sound c m
    pub report : (u : Task) → IsKept c m u (pending u)
    pub tasks : length m.tasks ≡ length c.tasks
    pub on : AreOn (length m.processors) es

  -- what any event does to the waits is told
  pub followed : (pending : OpenWaits) (m : State) (es : List Event) → Ready pending m es → (e : Event) → Follows c m pending (step numbered m e).0 (step numbered m e).1
  followed pending m es h e = follows_step c numbered numbered_once numbered_lists m h.safe h.sound pending h.report e

  -- so it is after the first event
  pub ready_next : (pending : OpenWaits) (m : State) (e : Event) (es : List Event) → Ready pending m (e ∷ es) → Ready (after_record c pending (step numbered m e).1) (step numbered m e).0 es
  ready_next pending m e es h =
      let one = safe_step numbered numbered_tops numbered_lists m e h.safe ((processor_of e).least, h.on 0 e (omega arith)) in
      let f = followed pending m (e ∷ es) h e in
      let P : Event → Type 0 = λ x. (processor_of x).number ≤ length m.processors in
      record {
        safe = one.safe;
        sound = sound_step c numbered numbered_once numbered_lists m h.safe h.sound pending h.report e;
        report = f.report;
        tasks = f.counts.0 ∙ h.tasks;
        on = rw one.count (All-tail P e es h.on);
      }

  -- and after some events, with those that follow
  pub ready_later : (pending : OpenWaits) (m : State) (es fs : List Event) → Ready pending m (es ++ fs) → Ready (after_records c pending (answers numbered m es)) (replay numbered m es) fs
  ready_later pending m [] fs h = h
  ready_later pending m (e ∷ es) fs h = ready_later (after_record c pending (step numbered m e).1) (step numbered m e).0 es fs (ready_next pending m e (es ++ fs) h)

  pub ready_end : (pending : OpenWaits) (m : State) (es : List Event) → Ready pending m es → Ready (after_records c pending (answers numbered m es)) (replay numbered m es) []
  ready_end pending m es h = ready_later pending m es [] (subst (Ready pending m) (sym (append-nil es)) h)

  module _ (valid : IsValid c) where
    pub ready_at_boot : (es : List Event) → AreOn c.processors es → Ready nobody_waits (booted c) es
    ready_at_boot es on = record {
      safe = booted_safe c valid;
      sound = (quiet_booted c valid).sound;
      report = (quiet_booted c valid).report;
      tasks = count_booted_tasks c valid.few_tasks;
      on = rw (count_booted c) on;
    }

    -- after these events
    pub ready_after : (es : List Event) → AreOn c.processors es → Ready (after_records c nobody_waits (answers numbered (booted c) es)) (replay numbered (booted c) es) []
    ready_after es on = ready_end nobody_waits (booted c) es (ready_at_boot es on)

pub prefix_on : (n : ℕ) (count : ℕ) (es : List Event) → AreOn count es → AreOn count (take n es)
prefix_on n count es on = All-take (λ (x : Event). (processor_of x).number ≤ count) n es on
