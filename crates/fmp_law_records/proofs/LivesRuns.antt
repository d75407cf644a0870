-- The life of a task along a run.
use Rattle.std.proofs.Common.{ℕ, ◌≤◌, List, [], ◌∷◌, length, refl, subst, sym}
use Rattle.std.specs.Prelude.{take}
use Rattle.std.proofs.lemmas.Bool.{cond_both}
use Rattle.fmp_codes.specs.declared.numbers.Task.{Task}
use Rattle.fmp_codes.specs.declared.records.Event.{Event}
use Rattle.fmp_setup.specs.declared.setup.Class.{Class}
use Rattle.fmp_setup.specs.Setup.{Setup}
use Rattle.fmp_setup.specs.Valid.{IsValid}
use Rattle.fmp_rules.specs.World.{task, resting}
use Rattle.fmp_rules.specs.Tasks.{started}
use Rattle.fmp_rules.specs.Arrivals.{State, numbered}
use Rattle.fmp_rules.specs.Step.{step, replay, answers}
use Rattle.fmp_rules.specs.Boot.{booted}
use Rattle.fmp_rules.proofs.Replays.{answers_take}
use Rattle.fmp_law_safety.specs.Runs.{AreOn}
use Rattle.fmp_law_balance.specs.Waits.Waits.{OpenWaits, nobody_waits, after_record, setup_of}
use Rattle.fmp_law_records.proofs.counts.Ready.{Ready, ready_next, ready_at_boot, prefix_on}
use Rattle.fmp_law_records.specs.Lives.{LifeReported, life_after, life_by, life_at_boot, report_life, IsLifeReported}
use Rattle.fmp_law_records.proofs.Lives.{HasLife, life_step}
use Rattle.fmp_law_records.proofs.Started.{booted_task}

module _ (c : Setup) (t : Task) (here : t.number ≤ length c.tasks) where
  abbrev class : Class
  class = (setup_of c t).class

  life_run : (pending : OpenWaits) (m : State) (es : List Event) (x : LifeReported) → Ready c pending m es → HasLife class x (task m t) →
      HasLife class (life_by class t (answers numbered m es) x) (task (replay numbered m es) t)
  life_run pending m [] x h old = old
  life_run pending m (e ∷ es) x h old =
      life_run (after_record c pending (step numbered m e).1) (step numbered m e).0 es (life_after class t (step numbered m e).1 x) (ready_next c pending m e es h)
      (life_step numbered m t class x old h.sound.few_tasks (rw h.tasks here) e)

  pub booted_life : IsValid c → HasLife class (life_at_boot c t) (task (booted c) t)
  booted_life valid =
      let s = setup_of c t in
      subst (HasLife class (life_at_boot c t)) (sym (booted_task c valid.few_tasks t here))
      (cond_both s.starts (started (resting s) s.class.initial) (resting s) (HasLife class (life_at_boot c t))
      (λ yes_. record { active = sym yes_; at = refl; activations = refl; kept = refl; setup = refl })
      (λ no_. record { active = sym no_; at = refl; activations = refl; kept = refl; setup = refl }))

  pub life_from_boot : (es : List Event) → IsValid c → AreOn c.processors es → HasLife class (report_life c t (answers numbered (booted c) es)) (task (replay numbered (booted c) es) t)
  life_from_boot es valid on = life_run nobody_waits (booted c) es (life_at_boot c t) (ready_at_boot c valid es on) (booted_life valid)

pub lives_reported : (c : Setup) (events : List Event) → IsValid c → AreOn c.processors events → (n : ℕ) (t : Task) → t.number ≤ length c.tasks →
    IsLifeReported c (take n (answers numbered (booted c) events)) (replay numbered (booted c) (take n events)) t
lives_reported c events valid on n t here =
    let es : List Event = take n events in
    let h = life_from_boot c t here es valid (prefix_on n c.processors events on) in
    subst (λ rs. IsLifeReported c rs (replay numbered (booted c) es) t) (answers_take n (booted c) events) (record { active = h.active; at = h.at; activations = h.activations; kept = h.kept })
