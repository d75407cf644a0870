-- What stands before the values: the unit of time and the declarations of the signals.
use Rattle.std.specs.Prelude.{ℕ, List, ◌++◌, codes}
use Rattle.fmp_setup.specs.Setup.{Setup}
use Rattle.fmp_run_wave.specs.declared.listing.Form.TheVariants.{Declarations}
use Rattle.fmp_run_wave.specs.Listing.{listing}

-- the unit of time, which stands for one event
unfoldable pub unit_text : List ℕ
unit_text = codes "$timescale 1 us $end\n"

unfoldable pub header_end : List ℕ
header_end = codes "$enddefinitions $end\n"

unfoldable pub header_text : Setup → List ℕ
header_text c = unit_text ++ listing Declarations c ++ header_end
