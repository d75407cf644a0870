-- What a run owes to both texts, by how far it came.
use Rattle.std.proofs.Common.{◌≡◌, ℕ, false, List, [], Option, Result, Ok, Err, OnOk, IfErr}
use Rattle.std.proofs.lemmas.Bool.{true≢false}
use Rattle.std.proofs.lemmas.Result.{IfErr-weaker}
use Rattle.fmp_codes.specs.declared.records.Event.{Event}
use Rattle.fmp_names.specs.Names.{AreValid}
use Rattle.fmp_setup.specs.Setup.{Setup}
use Rattle.fmp_text.specs.declared.fault.TextFault.{TextFault}
use Rattle.fmp_setup.specs.Valid.{IsValid}
use Rattle.fmp_trace_check.specs.declared.checking.Verdict.{Verdict}
use Rattle.fmp_trace_check.specs.Checking.{PrintsAnswers}
use Rattle.fmp_run_devices.specs.Devices.{IsKnown, bytes_of}
use Rattle.fmp_run_texts.specs.declared.fault.RunFault.{RunFault}
use Rattle.fmp_run_texts.specs.declared.fault.RunFault.TheVariants as run
use Rattle.fmp_run_texts.specs.Faults.{OnText, is_config, is_text, is_thread_fault, is_write}
use Rattle.fmp_run_texts.specs.Texts.{FaultOver, FirstConfigFault, SaysConfig}
use Rattle.fmp_run_texts.specs.Traces.{IsYes, JudgesTexts, verdict_by}
use Rattle.fmp_run_texts.proofs.Grammars.{only_memory}
use Rattle.fmp_run_texts.proofs.Yes.{answered_prints, own_prints}

-- a fault that is none of the configuration is no fault of it that is not the first one
pub no_config_fault : (text : List ℕ) (fault : RunFault) → is_config fault ≡ false → FirstConfigFault text fault
no_config_fault text (run.Config fault) other = absurd (true≢false other)
no_config_fault text _ other = tt

-- a fault that is none of the text is no fault of it that is not as it has to be
pub no_text_fault : (IsFault : Setup → List ℕ → TextFault → Type 0) (config_text text : List ℕ) (fault : RunFault) → is_text fault ≡ false → FaultOver IsFault config_text text fault
no_text_fault IsFault config_text text (run.Text fault) other = absurd (true≢false other)
no_text_fault IsFault config_text text _ other = tt

-- a fault of a text over a configuration that was read
pub fault_over : (IsFault : Setup → List ℕ → TextFault → Type 0) (config_text text : List ℕ) (c : Setup) → SaysConfig config_text c → (fault : RunFault) → OnText (IsFault c text) fault
    → FaultOver IsFault config_text text fault
fault_over IsFault config_text text c says (run.Text fault) is = (c, says, is)
fault_over IsFault config_text text c says _ is = tt

-- a fault of neither text is no answer but yes
of_neither : (fault : RunFault) → is_config fault ≡ false → is_text fault ≡ false → IsYes (Err fault)
of_neither (run.Config fault) no_config no_text = absurd (true≢false no_config)
of_neither (run.Text fault) no_config no_text = absurd (true≢false no_text)
of_neither _ no_config no_text = tt

on_any : {P : Type 0} (result : Result Verdict RunFault) → P → OnOk result P
on_any (Ok verdict) holds = holds
on_any (Err fault) holds = tt

module _ (IsFirst : List ℕ → List ℕ → RunFault → Type 0) (config_old config_new trace_old trace_new : Option (List ℕ)) where
  -- the configuration was refused, or not read to its end
  pub config_refused : (fault : RunFault) → (IsKnown config_old → FirstConfigFault (bytes_of config_old) fault) → is_text fault ≡ false → is_thread_fault fault ≡ false
      → IsFirst (bytes_of config_old) (bytes_of trace_old) fault → JudgesTexts IsFirst config_old config_new trace_old trace_new (Err fault)
  config_refused fault first other threads none = record {
    config_read = λ known. tt;
    trace_read = λ known. tt;
    answers = λ known known_too event_text answered. only_memory _ answered.config fault answered.says (first known) other;
    own = λ known known_too own. only_memory _ own.config fault own.says (first known) other;
    config_fault = first;
    text_fault = λ known known_too. none;
    no_thread_fault = threads;
  }

  -- the trace was judged over a configuration that was read
  pub trace_judged : (c : Setup) (result : Result Verdict RunFault) → (IsKnown config_old → SaysConfig (bytes_of config_old) c) → (IsKnown config_old → bytes_of config_new ≡ []) → IsValid c → AreValid c.names
      → (IsKnown trace_old → (events : List Event) → PrintsAnswers c (bytes_of trace_old) events → IsYes result) → (IsKnown trace_old → OnOk result (bytes_of trace_new ≡ []))
      → (IsKnown config_old → IsKnown trace_old → IfErr result (IsFirst (bytes_of config_old) (bytes_of trace_old)))
      → IfErr result (λ fault. (is_config fault ≡ false) × (is_write fault ≡ false)) → IfErr result (λ fault. is_thread_fault fault ≡ false)
      → JudgesTexts IsFirst config_old config_new trace_old trace_new result
  trace_judged c result says read valid names_valid is_yes read_too first kinds threads = record {
    config_read = λ known. on_any result (read known);
    trace_read = read_too;
    answers = λ known known_too event_text answered. is_yes known_too answered.events (answered_prints _ event_text _ c (says known) valid names_valid answered);
    own = λ known known_too own. is_yes known_too own.events (own_prints _ _ c (says known) own);
    config_fault = λ known. IfErr-weaker result _ _ (λ fault kind. no_config_fault (bytes_of config_old) fault kind.0) kinds;
    text_fault = first;
    no_thread_fault = threads;
  }

  -- after the verdict, a fault that neither text has
  pub failed_late : (fault : RunFault) → is_config fault ≡ false → is_text fault ≡ false → is_thread_fault fault ≡ false → IsFirst (bytes_of config_old) (bytes_of trace_old) fault
      → JudgesTexts IsFirst config_old config_new trace_old trace_new (Err fault)
  failed_late fault no_config no_text threads none = record {
    config_read = λ known. tt;
    trace_read = λ known. tt;
    answers = λ known known_too event_text answered. of_neither fault no_config no_text;
    own = λ known known_too own. of_neither fault no_config no_text;
    config_fault = λ known. no_config_fault (bytes_of config_old) fault no_config;
    text_fault = λ known known_too. none;
    no_thread_fault = threads;
  }
