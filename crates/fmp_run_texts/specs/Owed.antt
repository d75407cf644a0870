-- What a run owes to its texts and to its devices, whatever it writes. Of each device it speaks by what is seen of it before and after.
use Rattle.std.specs.Prelude.{◌≡◌, ◌≢◌, ℕ, ◌+◌, false, List, [], Result, Err, OnOk, IfOk, IfErr, if◌then◌else◌}
use Rattle.fmp_setup.specs.Setup.{Setup}
use Rattle.fmp_trace_check.specs.declared.checking.Verdict.{Verdict}
use Rattle.fmp_run_devices.specs.Devices.{IsKnown, bytes_of}
use Rattle.fmp_run_devices.specs.Ends.{Ends, SinkEnd, SourceEnd}
use Rattle.fmp_run_texts.specs.declared.fault.RunFault.{RunFault}
use Rattle.fmp_run_texts.specs.declared.fault.RunFault.TheVariants.{Write}
use Rattle.fmp_run_texts.specs.declared.status.Status.TheVariants.{Faulty}
use Rattle.fmp_run_texts.specs.Faults.{failed_read, failed_write, is_text, is_thread_fault}
use Rattle.fmp_run_texts.specs.Statuses.{status_of}
use Rattle.fmp_run_texts.specs.Texts.{CountsReads, FirstConfigFault, SaysConfig}
use Rattle.fmp_run_texts.specs.Traces.{JudgesTexts}

-- Every run, to its sink.
pub record OwesSink {T : Type 0} (output : Ends SinkEnd) (result : Result T RunFault) : Type 0 where
  -- where it was known what had been written, it still is
  pub known : IsKnown output.old.written → IsKnown output.new.written
  -- however the run ends, nothing is held back, unless a write failed
  pub none_held : output.old.buffered ≡ [] → result ≢ Err Write → output.new.buffered ≡ []
  -- one call failed where the run ended with a failed write or flush, and else none
  pub count : output.new.failures ≡ output.old.failures + (if failed_write result then 1 else 0)

-- A run over a configuration alone.
pub record OwesConfig {T : Type 0} (config : Ends SourceEnd) (output : Ends SinkEnd) (result : Result T RunFault) : Type 0 where
  -- where the run goes to its end, the text was read to its end
  pub config_read : IsKnown config.old.left → OnOk result (bytes_of config.new.left ≡ [])
  -- a text that says a configuration is refused for want of memory or for a device that fails, and for nothing else
  pub right : IsKnown config.old.left → (c : Setup) → SaysConfig (bytes_of config.old.left) c → IfErr result (λ fault. status_of fault ≢ Faulty)
  -- a fault of the text is its first one
  pub config_fault : IsKnown config.old.left → IfErr result (FirstConfigFault (bytes_of config.old.left))
  -- there is no other text that could have one
  pub no_text_fault : IfErr result (λ fault. is_text fault ≡ false)
  -- no thread was started, so that none could fail
  pub no_thread_fault : IfErr result (λ fault. is_thread_fault fault ≡ false)
  -- one read failed where the run ended so, and else none
  pub reads : config.new.failures ≡ config.old.failures + (if failed_read result then 1 else 0)
  -- what it owes to its sink
  pub sink : OwesSink output result

-- A run over a configuration and a trace.
pub record OwesTrace (IsFirst : List ℕ → List ℕ → RunFault → Type 0) (config trace : Ends SourceEnd) (output : Ends SinkEnd)
    (result : Result Verdict RunFault) : Type 0 where
  -- what it owes to both texts
  pub texts : JudgesTexts IsFirst config.old.left config.new.left trace.old.left trace.new.left result
  -- one read failed where the run ended so, and else none
  pub reads : CountsReads result config.old.failures config.new.failures trace.old.failures trace.new.failures
  -- what it owes to its sink
  pub sink : OwesSink output result

-- A run over a configuration and another text. It may also end for something else that it was asked: `ended` is how it ended but for that.
pub record OwesTexts {T F U : Type 0} (IsConfigFault : List ℕ → F → Type 0) (IsTextFault : List ℕ → List ℕ → F → Type 0) (config text : Ends SourceEnd)
    (output : Ends SinkEnd) (ended : Result U RunFault) (result : Result T F) : Type 0 where
  -- where the run goes to its end, both texts were read to their ends
  pub config_read : IsKnown config.old.left → OnOk result (bytes_of config.new.left ≡ [])
  pub text_read : IsKnown text.old.left → OnOk result (bytes_of text.new.left ≡ [])
  -- a fault of the configuration is its first one
  pub config_fault : IsKnown config.old.left → IfErr result (IsConfigFault (bytes_of config.old.left))
  -- and one of the other text is its first one, over a configuration that has none
  pub text_fault : IsKnown config.old.left → IsKnown text.old.left → IfErr result (IsTextFault (bytes_of config.old.left) (bytes_of text.old.left))
  -- one read failed where the run ended so, and else none
  pub reads : CountsReads ended config.old.failures config.new.failures text.old.failures text.new.failures
  -- what it owes to its sink
  pub sink : OwesSink output ended

-- What a run over two texts writes that reads both before it writes. `IsOut` says of the texts, of what had been written and of what now is, that all of
-- it was written, `IsBegun` that a beginning of it was, and `write` is the fault of a failed write or flush.
pub record WritesOut {T F : Type 0} (IsOut : List ℕ → List ℕ → List ℕ → List ℕ → T → Type 0) (IsBegun : List ℕ → List ℕ → List ℕ → List ℕ → Type 0) (write : F)
    (config text : Ends SourceEnd) (output : Ends SinkEnd) (result : Result T F) : Type 0 where
  -- where the run goes to its end, all of it is out
  pub whole : IsKnown config.old.left → IsKnown text.old.left → IsKnown output.old.written
      → IfOk result (IsOut (bytes_of config.old.left) (bytes_of text.old.left) (bytes_of output.old.written) (bytes_of output.new.written))
  -- and nothing of it is held back
  pub passed : OnOk result (output.new.buffered ≡ [])
  -- after a failed write or flush a beginning of it is out
  pub begun : IsKnown config.old.left → IsKnown text.old.left → IsKnown output.old.written → result ≡ Err write
      → IsBegun (bytes_of config.old.left) (bytes_of text.old.left) (bytes_of output.old.written) (bytes_of output.new.written)
  -- and after any other fault nothing is
  pub unwritten : IsKnown output.old.written → IfErr result (λ fault. fault ≢ write → bytes_of output.new.written ≡ bytes_of output.old.written)
