-- What a run that draws a trace does.
use Rattle.std.specs.Prelude.{◌≡◌, ◌⊎◌, ℕ, List, [], ◌++◌, map, Result, IfOk, IfErr}
use Rattle.fmp_codes.specs.declared.records.Record.{Record}
use Rattle.fmp_setup.specs.Setup.{Setup}
use Rattle.fmp_trace_check.specs.declared.checking.Verdict.{Verdict}
use Rattle.fmp_trace_check.specs.declared.checking.Verdict.TheVariants.{Yes, No}
use Rattle.fmp_trace_check.specs.Checking.{Judges, own_text}
use Rattle.fmp_trace.specs.Prints.{PrintsWithin}
use Rattle.fmp_run_texts.specs.declared.fault.RunFault.{RunFault}
use Rattle.fmp_run_texts.specs.declared.fault.RunFault.TheVariants as run
use Rattle.fmp_run_devices.specs.Devices.{BeginsWith, IsKnown, bytes_of}
use Rattle.fmp_run_devices.specs.Ends.{Ends, SinkEnd, SourceEnd}
use Rattle.fmp_run_texts.specs.Texts.{SaysConfig}
use Rattle.fmp_run_wave.specs.Waves.{wave_of}

-- the text is what the machine answers to its own events, and this is their waveform
pub record Draws (c : Setup) (text wave : List ℕ) : Type 0 where
  pub records : List Record
  pub prints : PrintsWithin c.names text records
  pub own : text ≡ own_text c records
  pub drawn : wave ≡ wave_of c (map (λ r. r.event) records)

-- a trace was judged and drawn: the verdict is right, and this is the waveform where it is yes
pub record JudgesAndDraws (c : Setup) (text : List ℕ) (verdict : Verdict) (wave : List ℕ) : Type 0 where
  pub judges : Judges c text verdict
  pub draws : verdict ≡ Yes → Draws c text wave

-- the waveform was written after old, all of it; of a text that is not the machine's own nothing was
abbrev pub IsDrawnBy : Setup → List ℕ → List ℕ → List ℕ → Verdict → Type 0
IsDrawnBy c text old new Yes = (wave : List ℕ) × Draws c text wave × (new ≡ old ++ wave)
IsDrawnBy c text old new (No n) = new ≡ old

-- a beginning of the waveform was written after old
abbrev pub IsBegunBy : Setup → List ℕ → List ℕ → List ℕ → Type 0
IsBegunBy c text old new = (wave : List ℕ) × Draws c text wave × BeginsWith old wave new

-- the verdict on a trace, by the machine that a text says, and what was written after old with it
pub record Drawn (config_text trace_text old new : List ℕ) (verdict : Verdict) : Type 0 where
  pub config : Setup
  pub says : SaysConfig config_text config
  pub judges : Judges config trace_text verdict
  pub drawn : IsDrawnBy config trace_text old new verdict

-- the same of a beginning
abbrev pub IsBegun : List ℕ → List ℕ → List ℕ → List ℕ → Type 0
IsBegun config_text trace_text old new = (config : Setup) × SaysConfig config_text config × IsBegunBy config trace_text old new

-- what was written after old, where a run ends with this fault
abbrev pub LeavesDrawn : List ℕ → List ℕ → List ℕ → List ℕ → RunFault → Type 0
LeavesDrawn config_text trace_text old new run.Write = IsBegun config_text trace_text old new
LeavesDrawn config_text trace_text old new run.Memory = (new ≡ old) ⊎ IsBegun config_text trace_text old new
LeavesDrawn config_text trace_text old new other = new ≡ old

-- what a run that draws a trace gives and writes
pub record WritesWave (config trace : Ends SourceEnd) (wave : Ends SinkEnd) (result : Result Verdict RunFault) : Type 0 where
  -- the verdict is right, and the waveform was written, all of it, if it is yes
  pub drawn : IsKnown config.old.left → IsKnown trace.old.left → IsKnown wave.old.written
      → IfOk result (Drawn (bytes_of config.old.left) (bytes_of trace.old.left) (bytes_of wave.old.written) (bytes_of wave.new.written))
  -- of which nothing is held back
  pub passed : IfOk result (λ verdict. verdict ≡ Yes → wave.new.buffered ≡ [])
  -- after a failed write or flush a beginning of the waveform is out, after want of memory such a beginning or nothing, and after any other fault
  -- nothing
  pub leaves : IsKnown config.old.left → IsKnown trace.old.left → IsKnown wave.old.written
      → IfErr result (LeavesDrawn (bytes_of config.old.left) (bytes_of trace.old.left) (bytes_of wave.old.written) (bytes_of wave.new.written))
