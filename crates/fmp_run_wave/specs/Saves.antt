-- GTKWave's save file for a configuration: how its window begins, and all signals of the configuration's waveforms.
use Rattle.std.specs.Prelude.{◌≡◌, ℕ, List, [], ◌++◌, Result, OnOk, IfErr, codes}
use Rattle.fmp_setup.specs.Setup.{Setup}
use Rattle.fmp_run_devices.specs.Devices.{BeginsWith, IsKnown, bytes_of}
use Rattle.fmp_run_devices.specs.Ends.{Ends, SinkEnd, SourceEnd}
use Rattle.fmp_run_texts.specs.declared.fault.RunFault.{RunFault}
use Rattle.fmp_run_texts.specs.declared.fault.RunFault.TheVariants as run
use Rattle.fmp_run_texts.specs.Texts.{SaysConfig}
use Rattle.fmp_run_wave.specs.declared.listing.Form.TheVariants.{Traces}
use Rattle.fmp_run_wave.specs.Listing.{listing}

-- the size of the window, an event as wide as a call, room for the names, and the tree of scopes closed
unfoldable pub window_text : List ℕ
window_text = codes "[timestart] 0\n[size] 1500 900\n[pos] -1 -1\n*-1.000000 0\n[signals_width] 200\n[sst_expanded] 0\n"

unfoldable pub save_of : Setup → List ℕ
save_of c = window_text ++ listing Traces c

-- the save file of the configuration that a text says was written after old, all of it
abbrev pub IsSaved : List ℕ → List ℕ → List ℕ → Type 0
IsSaved config_text old new = (config : Setup) × SaysConfig config_text config × (new ≡ old ++ save_of config)

-- a beginning of it was
abbrev pub IsSaveBegun : List ℕ → List ℕ → List ℕ → Type 0
IsSaveBegun config_text old new = (config : Setup) × SaysConfig config_text config × BeginsWith old (save_of config) new

-- what was written after old, where a run ends with this fault
abbrev pub LeavesSave : List ℕ → List ℕ → List ℕ → RunFault → Type 0
LeavesSave config_text old new run.Write = IsSaveBegun config_text old new
LeavesSave config_text old new other = new ≡ old

-- what a run that makes a save file writes
pub record WritesSave {T : Type 0} (config : Ends SourceEnd) (save : Ends SinkEnd) (result : Result T RunFault) : Type 0 where
  -- where it goes to its end, the save file, all of it
  pub saved : IsKnown config.old.left → IsKnown save.old.written
      → OnOk result (IsSaved (bytes_of config.old.left) (bytes_of save.old.written) (bytes_of save.new.written))
  -- of which nothing is held back
  pub passed : OnOk result (save.new.buffered ≡ [])
  -- after a failed write or flush a beginning of the save file, and after any other fault nothing
  pub leaves : IsKnown config.old.left → IsKnown save.old.written
      → IfErr result (LeavesSave (bytes_of config.old.left) (bytes_of save.old.written) (bytes_of save.new.written))
