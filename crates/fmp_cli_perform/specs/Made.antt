-- What a run of processors gives over texts that were read: that of one run, or of the first of many that is looked for.
use Rattle.std.specs.Prelude.{◌≡◌, ℕ, Bool, List, is_some, Result}
use Rattle.fmp_cli.specs.declared.seeds.Seeds.{Seeds}
use Rattle.fmp_cli.specs.declared.seeds.Seeds.TheVariants as seeds
use Rattle.fmp_cli.specs.declared.smp.SmpRequest.{SmpRequest}
use Rattle.fmp_cli_desk.specs.declared.ending.Ending.{Ending}
use Rattle.fmp_cli_desk.specs.Endings.{of_run, of_search}
use Rattle.fmp_cli_desk.specs.Runs.{HasRun}
use Rattle.fmp_cli_perform.specs.Ended.{by_done}
use Rattle.fmp_cli_perform.specs.declared.scripts.Outcome.{Outcome}
use Rattle.fmp_cli_runs.specs.declared.scripts.Played.{Played}
use Rattle.fmp_cli_runs.specs.Scripts.{Plays, Seeks}
use Rattle.fmp_cli_runs.specs.Texts.{OverBytes, TextEnd, source_of}
use Rattle.fmp_run_devices.specs.Ends.{Ends}
use Rattle.fmp_run_seeds.specs.declared.seeking.SeedSearch.{SeedSearch}
use Rattle.fmp_run_seeds.specs.Found.{status_of}

abbrev pub IsMadeOnce : SmpRequest → List ℕ → Ends TextEnd → Result Outcome Ending → Type 0
IsMadeOnce r config text result = (run : Result Played Ending)
    × HasRun (λ output ended. OverBytes config (λ configs. Plays r configs (source_of text) output ended)) of_run run
    × (by_done (λ outcome. outcome.status) result ≡ by_done (λ played. played.status) run)

abbrev pub IsSought : SmpRequest → ℕ → ℕ → List ℕ → Ends TextEnd → Result Outcome Ending → Type 0
IsSought r first last config text result = (over : Bool) × (run : Result SeedSearch Ending)
    × HasRun (λ output ended. OverBytes config (λ configs. Seeks r first last over configs (source_of text) output ended)) of_search run
    × (by_done (λ outcome. outcome.status) result ≡ by_done (status_of (is_some r.find)) run)

abbrev pub IsMade : SmpRequest → Seeds → List ℕ → Ends TextEnd → Result Outcome Ending → Type 0
IsMade r (seeds.Range first last) config text result = IsSought r first last config text result
IsMade r seeds.Unasked config text result = IsMadeOnce r config text result
IsMade r seeds.Other config text result = IsMadeOnce r config text result
