-- Which options of `smp` go together.
use Rattle.std.specs.Prelude.{◌||◌, ◌&&◌, Bool, false, not, is_none, is_some}
use Rattle.fmp_cli.specs.declared.seeds.Seeds.{Seeds}
use Rattle.fmp_cli.specs.declared.seeds.Seeds.TheVariants as seeds
use Rattle.fmp_cli.specs.declared.smp.SmpRequest.{SmpRequest}

-- one that is for the runs of seeds
abbrev pub has_seed_option : SmpRequest → Bool
has_seed_option r = r.late || (r.stalls || is_some r.seconds)

-- seeds go with no seed, and a question and options for the runs of seeds with seeds
abbrev pub fits_with : Seeds → SmpRequest → Bool
fits_with (seeds.Range first last) r = is_none r.seed
fits_with seeds.Unasked r = not (is_some r.find) && not (has_seed_option r)
fits_with seeds.Other r = false

abbrev pub fits : SmpRequest → Bool
fits r = fits_with r.seeds r
