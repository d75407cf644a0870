-- What a run over a configuration and events owes to its texts and devices, and what it writes.
use Rattle.std.specs.Prelude.{◌≡◌, ◌≢◌, true, false, List, [], Result, Err, OnOk, IfErr}
use Rattle.fmp_codes.specs.declared.records.Event.{Event}
use Rattle.fmp_setup.specs.Setup.{Setup}
use Rattle.fmp_text.specs.TextGrammar.{SpellsText}
use Rattle.fmp_run_devices.specs.Devices.{IsKnown, bytes_of}
use Rattle.fmp_run_devices.specs.Ends.{Ends, SinkEnd, SourceEnd}
use Rattle.fmp_run_texts.specs.declared.fault.RunFault.{RunFault}
use Rattle.fmp_run_texts.specs.declared.fault.RunFault.TheVariants.{Write}
use Rattle.fmp_run_texts.specs.Faults.{is_config, is_thread_fault}
use Rattle.fmp_run_texts.specs.Owed.{OwesSink}
use Rattle.fmp_run_texts.specs.Texts.{CountsReads, FirstConfigFault, FlushFails, SaysConfig}
use Rattle.fmp_run_stream.specs.Runs.{FirstTextFault, HasShortLines, IsNoFaultOfText, IsPrefix, IsOutOfMemory, IsWritten, LeavesWritten, Writing}

-- What it owes, whatever it writes. Of each device it speaks by what is seen of it before and after.
pub record OwesEvents {T : Type 0} (config events : Ends SourceEnd) (trace : Ends SinkEnd) (result : Result T RunFault) : Type 0 where
  -- where the run goes to its end, both texts were read to their ends
  pub config_read : IsKnown config.old.left → OnOk result (bytes_of config.new.left ≡ [])
  pub events_read : IsKnown events.old.left → OnOk result (bytes_of events.new.left ≡ [])
  -- texts that are right in all are answered, but for want of memory or a device that fails
  pub right : IsKnown config.old.left → IsKnown events.old.left → (c : Setup) (es : List Event) → SaysConfig (bytes_of config.old.left) c
      → SpellsText c.names (bytes_of events.old.left) es → IfErr result IsNoFaultOfText
  -- a fault of the configuration is its first one
  pub config_fault : IsKnown config.old.left → IfErr result (FirstConfigFault (bytes_of config.old.left))
  -- and one of the events is their first one, over a configuration that has none
  pub text_fault : IsKnown config.old.left → IsKnown events.old.left → IfErr result (FirstTextFault (bytes_of config.old.left) (bytes_of events.old.left))
  -- no thread was started, so that none could fail
  pub no_thread_fault : IfErr result (λ fault. is_thread_fault fault ≡ false)
  -- one read failed where the run ended so, and else none. Where a write or a flush failed `flush` below says it
  pub reads : result ≢ Err Write → CountsReads result config.old.failures config.new.failures events.old.failures events.new.failures
  -- what it owes to its sink
  pub sink : OwesSink trace result

-- What it writes in this way. `Lines` says that it writes the line of each event and nothing else.
pub record WritesEvents {T : Type 0} (Lines : Type 0) (writing : Writing) (config events : Ends SourceEnd) (trace : Ends SinkEnd)
    (result : Result T RunFault) : Type 0 where
  -- where the run goes to its end, what is told of the one text's machine over the other's events, all of it
  pub answered : IsKnown config.old.left → IsKnown events.old.left → IsKnown trace.old.written
      → OnOk result (IsWritten writing (bytes_of config.old.left) (bytes_of events.old.left) (bytes_of trace.old.written) (bytes_of trace.new.written))
  -- nothing of it is held back
  pub passed : OnOk result (trace.new.buffered ≡ [])
  -- after a fault of the configuration nothing is written
  pub unwritten : IsKnown trace.old.written → IfErr result (λ fault. is_config fault ≡ true → bytes_of trace.new.written ≡ bytes_of trace.old.written)
  -- After one of the events what is told of those before it is out, after a failed read or want of memory what is told of some prefix of them, and
  -- after a failed write or flush a beginning of all.
  pub leaves : IsKnown config.old.left → IsKnown events.old.left → IsKnown trace.old.written
      → IfErr result (LeavesWritten writing (bytes_of config.old.left) (bytes_of events.old.left) (bytes_of trace.old.written) (bytes_of trace.new.written))
  -- of lines alone memory is wanting before the first is written, or not at all, where none of the events has more than 32 KiB
  pub early : Lines → IsKnown events.old.left → IsKnown trace.old.written → HasShortLines (bytes_of events.old.left)
      → IfErr result (λ fault. IsOutOfMemory fault → bytes_of trace.new.written ≡ bytes_of trace.old.written)
  -- Where a write or a flush failed, no read did; or one of the events did, and after it the flush alone: then what is written of some prefix of
  -- the events is out, each line whole.
  pub flush : result ≡ Err Write → (config.new.failures ≡ config.old.failures) × FlushFails events.old.failures events.new.failures
      (IsKnown config.old.left → IsKnown events.old.left → IsKnown trace.old.written
      → IsPrefix writing (bytes_of config.old.left) (bytes_of events.old.left) (bytes_of trace.old.written) (bytes_of trace.new.written))
