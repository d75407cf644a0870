-- A text that says a configuration has no fault.
use Rattle.std.proofs.Common.{◌≡◌, ◌≢◌, ℕ, false, List, Err, ap}
use Rattle.std.proofs.lemmas.Bool.{true≢false}
use Rattle.fmp_setup.specs.Setup.{Setup}
use Rattle.fmp_run_texts.specs.declared.fault.RunFault.{RunFault}
use Rattle.fmp_run_texts.specs.declared.fault.RunFault.TheVariants as run
use Rattle.fmp_run_texts.specs.declared.status.Status.TheVariants.{Faulty}
use Rattle.fmp_run_texts.specs.Faults.{is_text}
use Rattle.fmp_run_texts.specs.Statuses.{status_of, status_of_config}
use Rattle.fmp_run_texts.specs.Texts.{FirstConfigFault, SaysConfig}
use Rattle.fmp_run_texts.specs.Traces.{IsYes}
use Rattle.fmp_run_texts.proofs.Grammars.{only_memory}

-- what does not speak against a yes does not speak of the configuration
is_not_faulty : (fault : RunFault) → is_text fault ≡ false → IsYes (Err fault) → status_of fault ≢ Faulty
is_not_faulty (run.Config fault) other is = λ same. let memory = ap status_of_config is in cc
is_not_faulty (run.Text fault) other is = absurd (true≢false other)
is_not_faulty run.Read other is = λ same. cc
is_not_faulty run.Write other is = λ same. cc
is_not_faulty run.Memory other is = λ same. cc
is_not_faulty run.Start other is = λ same. cc
is_not_faulty run.Disagree other is = λ same. cc

pub no_fault : (text : List ℕ) (c : Setup) (fault : RunFault) → SaysConfig text c → FirstConfigFault text fault → is_text fault ≡ false → status_of fault ≢ Faulty
no_fault text c fault says first other = is_not_faulty fault other (only_memory text c fault says first other)
