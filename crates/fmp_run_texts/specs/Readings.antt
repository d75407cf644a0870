-- What a run is given that reads a text to its end, and one that reads a configuration and a text over it.
use Rattle.std.specs.Prelude.{◌≡◌, ℕ, ◌+◌, Bool, false, List, [], Result, OnOk, IfOk, IfErr, if◌then◌else◌}
use Rattle.fmp_setup.specs.Setup.{Setup}
use Rattle.fmp_text.specs.declared.fault.TextFault.{TextFault}
use Rattle.fmp_trace_check.specs.declared.checking.Verdict.{Verdict}
use Rattle.fmp_run_devices.specs.Devices.{IsKnown, bytes_of}
use Rattle.fmp_run_devices.specs.Ends.{Ends, SourceEnd}
use Rattle.fmp_run_texts.specs.declared.fault.RunFault.{RunFault}
use Rattle.fmp_run_texts.specs.Faults.{failed_read, failed_write, is_thread_fault, is_write}
use Rattle.fmp_run_texts.specs.Texts.{CountsReads, FaultOver, FirstConfigFault, SaysConfig}
use Rattle.fmp_run_texts.specs.Traces.{IsYes, JudgesTexts, verdict_by}

-- A text that is read to its end. `Says` says of its bytes and of what was made of them that this is right, `IsFirst` that a fault is their first
-- one, and `is_other` of which faults it has none.
pub record ReadsText {T : Type 0} (Says : List ℕ → T → Type 0) (IsFirst : List ℕ → RunFault → Type 0) (is_other : RunFault → Bool) (text : Ends SourceEnd)
    (result : Result T RunFault) : Type 0 where
  pub ok : IsKnown text.old.left → IfOk result (Says (bytes_of text.old.left))
  -- where something was made of it, it was read to its end
  pub read : IsKnown text.old.left → OnOk result (bytes_of text.new.left ≡ [])
  pub fault : IsKnown text.old.left → IfErr result (IsFirst (bytes_of text.old.left))
  pub kinds : IfErr result (λ fault. (is_other fault ≡ false) × (is_write fault ≡ false))
  pub no_thread_fault : IfErr result (λ fault. is_thread_fault fault ≡ false)
  -- one read failed where it ended so, and else none
  pub count : text.new.failures ≡ text.old.failures + (if failed_read result then 1 else 0)

-- A configuration and a text over it, both of which are read to their ends. `Says` says of the text's bytes and of what was made of them that
-- this is right, `Keeps` what holds of it whatever they are, and `IsFault` which fault they have.
pub record ReadsTexts {T : Type 0} (Says : Setup → List ℕ → T → Type 0) (Keeps : Setup → T → Type 0) (IsFault : Setup → List ℕ → TextFault → Type 0)
    (config text : Ends SourceEnd) (result : Result (Setup × T) RunFault) : Type 0 where
  pub says : IsKnown config.old.left → IfOk result (λ read. SaysConfig (bytes_of config.old.left) read.0)
  pub made : IsKnown text.old.left → IfOk result (λ read. Says read.0 (bytes_of text.old.left) read.1)
  pub keeps : IfOk result (λ read. Keeps read.0 read.1)
  pub config_read : IsKnown config.old.left → OnOk result (bytes_of config.new.left ≡ [])
  pub text_read : IsKnown text.old.left → OnOk result (bytes_of text.new.left ≡ [])
  pub config_fault : IsKnown config.old.left → IfErr result (FirstConfigFault (bytes_of config.old.left))
  pub text_fault : IsKnown config.old.left → IsKnown text.old.left → IfErr result (FaultOver IsFault (bytes_of config.old.left) (bytes_of text.old.left))
  pub reads : CountsReads result config.old.failures config.new.failures text.old.failures text.new.failures
  pub no_write : failed_write result ≡ false
  pub no_thread_fault : IfErr result (λ fault. is_thread_fault fault ≡ false)

-- A configuration and a trace, both of which are read to their ends, and the verdict on the trace. `Accepts` says of which traces it has to be yes.
pub record ReadsTrace {T : Type 0} (Says : Setup → List ℕ → T → Type 0) (Keeps : Setup → T → Type 0) (IsFault : Setup → List ℕ → TextFault → Type 0)
    (Accepts : Setup → List ℕ → Type 0) (verdict : T → Verdict) (config trace : Ends SourceEnd) (result : Result (Setup × T) RunFault) : Type 0 where
  pub says : IsKnown config.old.left → IfOk result (λ read. SaysConfig (bytes_of config.old.left) read.0)
  pub made : IsKnown trace.old.left → IfOk result (λ read. Says read.0 (bytes_of trace.old.left) read.1)
  pub keeps : IfOk result (λ read. Keeps read.0 read.1)
  pub accepted : IsKnown config.old.left → IsKnown trace.old.left → (c : Setup) → SaysConfig (bytes_of config.old.left) c → Accepts c (bytes_of trace.old.left)
      → IsYes (verdict_by (λ read. verdict read.1) result)
  -- what every run over a trace owes to both texts
  pub texts : JudgesTexts (FaultOver IsFault) config.old.left config.new.left trace.old.left trace.new.left (verdict_by (λ read. verdict read.1) result)
  pub reads : CountsReads result config.old.failures config.new.failures trace.old.failures trace.new.failures
  pub no_write : failed_write result ≡ false
