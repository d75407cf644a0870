-- What a run over a configuration and events owes that is asked for some things by their names, and what it writes.
use Rattle.std.specs.Prelude.{◌≡◌, ◌≢◌, ℕ, true, false, List, [], Result, Ok, Err, OnOk, IfErr}
use Rattle.fmp_codes.specs.declared.records.Event.{Event}
use Rattle.fmp_setup.specs.Setup.{Setup}
use Rattle.fmp_text.specs.TextGrammar.{SpellsText}
use Rattle.fmp_show_changes.specs.Life.Things.{chosen_in}
use Rattle.fmp_show_changes.specs.declared.life.things.Thing.{Thing}
use Rattle.fmp_run_devices.specs.Devices.{IsKnown, bytes_of}
use Rattle.fmp_run_devices.specs.Ends.{Ends, SinkEnd, SourceEnd}
use Rattle.fmp_run_texts.specs.declared.fault.RunFault.TheVariants.{Write}
use Rattle.fmp_run_texts.specs.Faults.{is_thread_fault}
use Rattle.fmp_run_texts.specs.Owed.{OwesSink}
use Rattle.fmp_run_texts.specs.Texts.{CountsReads, FirstConfigFault, FlushFails, SaysConfig}
use Rattle.fmp_run_stream.specs.Lives.{IsLifeReported, named_life}
use Rattle.fmp_run_stream.specs.Runs.{FirstTextFault, IsPrefix, LeavesWritten}
use Rattle.fmp_run_events.specs.declared.lives.LifeFault.{LifeFault}
use Rattle.fmp_run_events.specs.declared.lives.LifeFault.TheVariants.{Run}
use Rattle.fmp_run_events.specs.NameFaults.{IsNameFault, IsNoFault, as_run, is_early}

-- What it owes, whatever it writes. Of each device it speaks by what is seen of it before and after.
pub record OwesLife {T : Type 0} (names : List ℕ) (config events : Ends SourceEnd) (trace : Ends SinkEnd) (result : Result T LifeFault) : Type 0 where
  -- where the run goes to its end, both texts were read to their ends
  pub config_read : IsKnown config.old.left → OnOk result (bytes_of config.new.left ≡ [])
  pub events_read : IsKnown events.old.left → OnOk result (bytes_of events.new.left ≡ [])
  -- texts and names that are right in all are answered, but for want of memory or a device that fails
  pub right : IsKnown config.old.left → IsKnown events.old.left → (c : Setup) (es : List Event) (xs : List Thing) → SaysConfig (bytes_of config.old.left) c
      → SpellsText c.names (bytes_of events.old.left) es → chosen_in c.names names ≡ Ok xs → IfErr result IsNoFault
  -- a fault of the configuration is its first one
  pub config_fault : IsKnown config.old.left → IfErr (as_run result) (FirstConfigFault (bytes_of config.old.left))
  -- one of the events is their first one, over a configuration that has none
  pub text_fault : IsKnown config.old.left → IsKnown events.old.left
      → IfErr (as_run result) (FirstTextFault (bytes_of config.old.left) (bytes_of events.old.left))
  -- and one of the names is their first one, over such a configuration
  pub name_fault : IsKnown config.old.left → IfErr result (IsNameFault (bytes_of config.old.left) names)
  -- no thread was started, so that none could fail
  pub no_thread_fault : IfErr (as_run result) (λ fault. is_thread_fault fault ≡ false)
  -- one read failed where the run ended so, and else none. Where a write or a flush failed `flush` below says it
  pub reads : result ≢ Err (Run Write) → CountsReads (as_run result) config.old.failures config.new.failures events.old.failures events.new.failures
  -- what it owes to its sink
  pub sink : OwesSink trace (as_run result)

-- What it writes: what is told of the things at boot, and each event that changes it.
pub record WritesLife {T : Type 0} (names : List ℕ) (config events : Ends SourceEnd) (trace : Ends SinkEnd) (result : Result T LifeFault) : Type 0 where
  -- where the run goes to its end, all of it
  pub answered : IsKnown config.old.left → IsKnown events.old.left → IsKnown trace.old.written
      → OnOk result (IsLifeReported names (bytes_of config.old.left) (bytes_of events.old.left) (bytes_of trace.old.written) (bytes_of trace.new.written))
  -- nothing of it is held back
  pub passed : OnOk result (trace.new.buffered ≡ [])
  -- after a fault of the configuration or of the names nothing is written
  pub unwritten : IsKnown trace.old.written → IfErr result (λ fault. is_early fault ≡ true → bytes_of trace.new.written ≡ bytes_of trace.old.written)
  -- After one of the events what is told of those before it is out, after a failed read or want of memory what is told of some prefix of them, and
  -- after a failed write or flush a beginning of all.
  pub leaves : IsKnown config.old.left → IsKnown events.old.left → IsKnown trace.old.written
      → IfErr (as_run result) (LeavesWritten (named_life names) (bytes_of config.old.left) (bytes_of events.old.left) (bytes_of trace.old.written)
      (bytes_of trace.new.written))
  -- Where a write or a flush failed, no read did; or one of the events did, and after it the flush alone: then what is written of some prefix of
  -- the events is out, each line whole.
  pub flush : result ≡ Err (Run Write) → (config.new.failures ≡ config.old.failures) × FlushFails events.old.failures events.new.failures
      (IsKnown config.old.left → IsKnown events.old.left → IsKnown trace.old.written
      → IsPrefix (named_life names) (bytes_of config.old.left) (bytes_of events.old.left) (bytes_of trace.old.written) (bytes_of trace.new.written))
