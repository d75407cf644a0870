-- What a run that lists a configuration does.
use Rattle.std.specs.Prelude.{◌≡◌, ℕ, List, [], ◌++◌, Result, OnOk, IfErr}
use Rattle.fmp_setup.specs.Setup.{Setup}
use Rattle.fmp_run_devices.specs.Devices.{BeginsWith, IsKnown, bytes_of}
use Rattle.fmp_run_devices.specs.Ends.{Ends, SinkEnd, SourceEnd}
use Rattle.fmp_run_texts.specs.declared.fault.RunFault.{RunFault}
use Rattle.fmp_run_texts.specs.declared.fault.RunFault.TheVariants as run
use Rattle.fmp_run_texts.specs.Texts.{SaysConfig}
use Rattle.fmp_run_list.specs.Fields.{lines_in}
use Rattle.fmp_run_list.specs.Listing.Listing.{listing_of}

-- the listing of a configuration that a text says, followed by the fields without effect as they stand in it
abbrev pub listing_in : Setup → List ℕ → List ℕ
listing_in config text = listing_of config ++ lines_in text

-- the listing of the configuration that a text says was written after old, all of it
abbrev pub IsListed : List ℕ → List ℕ → List ℕ → Type 0
IsListed text old new = (config : Setup) × SaysConfig text config × (new ≡ old ++ listing_in config text)

-- a beginning of it was
abbrev pub IsBegun : List ℕ → List ℕ → List ℕ → Type 0
IsBegun text old new = (config : Setup) × SaysConfig text config × BeginsWith old (listing_in config text) new

-- what was written after old, where a run ends with this fault
abbrev pub LeavesListed : List ℕ → List ℕ → List ℕ → RunFault → Type 0
LeavesListed text old new run.Write = IsBegun text old new
LeavesListed text old new other = new ≡ old

-- what a run that lists a configuration writes
pub record WritesListing {T : Type 0} (config : Ends SourceEnd) (listing : Ends SinkEnd) (result : Result T RunFault) : Type 0 where
  -- where it goes to its end, the listing, all of it
  pub listed : IsKnown config.old.left → IsKnown listing.old.written
      → OnOk result (IsListed (bytes_of config.old.left) (bytes_of listing.old.written) (bytes_of listing.new.written))
  -- of which nothing is held back
  pub passed : OnOk result (listing.new.buffered ≡ [])
  -- after a failed write or flush a beginning of the listing, and after any other fault nothing
  pub leaves : IsKnown config.old.left → IsKnown listing.old.written
      → IfErr result (LeavesListed (bytes_of config.old.left) (bytes_of listing.old.written) (bytes_of listing.new.written))
