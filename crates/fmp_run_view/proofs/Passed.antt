-- How a run ends whose sink passed on what it held back.
use Rattle.std.proofs.Common.{◌≡◌, ◌⊎◌, ◌++◌, List, ℕ, Result, Ok, Err, IfErr, OnOk, OnErr, inl, inr}
use Rattle.fmp_run_devices.specs.Devices.{BeginsWith}
use Rattle.fmp_run_texts.specs.declared.fault.RunFault.{RunFault}
use Rattle.fmp_run_texts.specs.declared.fault.RunFault.TheVariants as run
use Rattle.fmp_run_view.specs.Runs.{IsLate, Leaves}
use Rattle.fmp_run_view.proofs.SoFar.{all_begun}

abbrev Ended : Type 0
Ended = Result (Unit {0}) RunFault

module _ (IsPage : List ℕ → Type 0) (page old new : List ℕ) (is_page : IsPage page) where
  late_leaves : (fault : RunFault) → IsLate fault → BeginsWith old page new → Leaves IsPage old new fault
  late_leaves fault (inl memory) begun = rw memory (inr (page, is_page, begun))
  late_leaves fault (inr write) begun = rw write (page, is_page, begun)

  whole_begun : (ended : Ended) → OnOk ended (new ≡ old ++ page) → OnErr ended (BeginsWith old page new) → BeginsWith old page new
  whole_begun (Ok done) all begun = all_begun old page new all
  whole_begun (Err fault) all begun = begun

  -- the run ended as the showing did, or the flush failed
  pub leaves_passed : (ended result : Ended) → (result ≡ ended) ⊎ (result ≡ Err run.Write) → OnOk ended (new ≡ old ++ page) → OnErr ended (BeginsWith old page new) → IfErr ended IsLate
      → IfErr result (Leaves IsPage old new)
  leaves_passed (Ok done) result (inl is) all begun late = rw is tt
  leaves_passed (Err fault) result (inl is) all begun late = rw is (late_leaves fault late begun)
  leaves_passed ended result (inr is) all begun late = rw is (page, is_page, whole_begun ended all begun)
