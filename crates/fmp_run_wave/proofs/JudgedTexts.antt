-- What was drawn of a trace that was read and judged is what a run draws of its two texts.
use Rattle.std.proofs.Common.{◌≡◌, ℕ, false, List, ◌++◌, refl, inl}
use Rattle.std.proofs.lemmas.Bool.{true≢false}
use Rattle.fmp_setup.specs.Setup.{Setup}
use Rattle.fmp_trace_check.specs.declared.checking.Verdict.{Verdict}
use Rattle.fmp_trace_check.specs.declared.checking.Verdict.TheVariants.{Yes, No}
use Rattle.fmp_run_texts.specs.declared.fault.RunFault.{RunFault}
use Rattle.fmp_run_texts.specs.declared.fault.RunFault.TheVariants as run
use Rattle.fmp_run_texts.specs.Faults.{is_write}
use Rattle.fmp_run_texts.specs.Texts.{SaysConfig}
use Rattle.fmp_run_wave.specs.Runs.{Drawn, Draws, IsDrawnBy, JudgesAndDraws, LeavesDrawn}

module _ (config_text trace_text old new : List ℕ) (c : Setup) (says : SaysConfig config_text c) where
  is_drawn_by : (verdict : Verdict) (wave : List ℕ) → (verdict ≡ Yes → Draws c trace_text wave) → (verdict ≡ Yes → new ≡ old ++ wave) → ((n : ℕ) → verdict ≡ No n → new ≡ old) → IsDrawnBy c trace_text old new verdict
  is_drawn_by Yes wave draws whole none = (wave, draws refl, whole refl)
  is_drawn_by (No n) wave draws whole none = none n refl

  pub drawn_of_texts : (verdict : Verdict) (wave : List ℕ) → JudgesAndDraws c trace_text verdict wave → (verdict ≡ Yes → new ≡ old ++ wave) → ((n : ℕ) → verdict ≡ No n → new ≡ old)
      → Drawn config_text trace_text old new verdict
  drawn_of_texts verdict wave did whole none = record { config = c; says = says; judges = did.judges; drawn = is_drawn_by verdict wave did.draws whole none }

-- nothing was written before any other fault
pub nothing_left : (config_text trace_text old new : List ℕ) (fault : RunFault) → is_write fault ≡ false → new ≡ old → LeavesDrawn config_text trace_text old new fault
nothing_left config_text trace_text old new run.Write other none = absurd (true≢false other)
nothing_left config_text trace_text old new run.Memory other none = inl none
nothing_left config_text trace_text old new (run.Config fault) other none = none
nothing_left config_text trace_text old new (run.Text fault) other none = none
nothing_left config_text trace_text old new run.Read other none = none
nothing_left config_text trace_text old new run.Start other none = none
nothing_left config_text trace_text old new run.Disagree other none = none
