-- What was shown of a trace that was read and judged is what a run shows of its two texts.
use Rattle.std.proofs.Common.{◌≡◌, ℕ, List, Option, Err, refl, subst, inl, inr}
use Rattle.fmp_setup.specs.Setup.{Setup}
use Rattle.fmp_trace_check.specs.declared.checking.Verdict.{Verdict}
use Rattle.fmp_trace_check.specs.Checking.{Judges}
use Rattle.fmp_run_texts.specs.declared.fault.RunFault.{RunFault}
use Rattle.fmp_run_texts.specs.declared.fault.RunFault.TheVariants as run
use Rattle.fmp_run_texts.specs.Texts.{SaysConfig}
use Rattle.fmp_run_texts.specs.Traces.{FirstTraceFault, JudgesTexts}
use Rattle.fmp_run_texts.proofs.Owed.{failed_late}
use Rattle.fmp_run_view.specs.declared.run.PageKind.{PageKind}
use Rattle.fmp_run_view.specs.Runs.{IsLate, IsPageOf, IsShownBy, Leaves, LeavesShown, Shown, Shows}

-- what is left of pages of one kind is so of those of a wider one
wider : (P Q : List ℕ → Type 0) → ((page : List ℕ) → P page → Q page) → (old new : List ℕ) (fault : RunFault) → Leaves P old new fault → Leaves Q old new fault
wider P Q goes old new run.Write begun = (begun.0, goes begun.0 begun.1, begun.2)
wider P Q goes old new run.Memory (inl nothing) = inl nothing
wider P Q goes old new run.Memory (inr begun) = inr (begun.0, goes begun.0 begun.1, begun.2)
wider P Q goes old new _ nothing = nothing

module _ (config_text trace_text old new text : List ℕ) (c : Setup) (says : SaysConfig config_text c) (same : text ≡ trace_text) where
  pub shown_of_texts : (kind : PageKind) (verdict : Verdict) → Judges c text verdict → IsShownBy kind c text old new verdict → Shown kind config_text trace_text old new verdict
  shown_of_texts kind verdict judges shown = record {
    config = c;
    says = says;
    judges = subst (λ (t : List ℕ). Judges c t verdict) same judges;
    shown = subst (λ (t : List ℕ). IsShownBy kind c t old new verdict) same shown;
  }

  pub leaves_of_texts : (kind : PageKind) (fault : RunFault) → Leaves (Shows kind c text) old new fault → LeavesShown kind config_text trace_text old new fault
  leaves_of_texts kind =
      wider (Shows kind c text) (IsPageOf kind config_text trace_text) (λ page shows. (c, says, subst (λ (t : List ℕ). Shows kind c t page) same shows)) old new

-- both texts were judged before memory ran out, or a write failed
pub late_owes : (config_old config_new trace_old trace_new : Option (List ℕ)) (fault : RunFault) → IsLate fault → JudgesTexts FirstTraceFault config_old config_new trace_old trace_new (Err fault)
late_owes config_old config_new trace_old trace_new fault (inl memory) = rw memory (failed_late FirstTraceFault config_old config_new trace_old trace_new run.Memory refl refl refl tt)
late_owes config_old config_new trace_old trace_new fault (inr write) = rw write (failed_late FirstTraceFault config_old config_new trace_old trace_new run.Write refl refl refl tt)
