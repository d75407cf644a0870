-- What is done of a command line, and how that ends the program. What a desk has at each path is known, or is not.
use Rattle.std.specs.Prelude.{◌≡◌, ◌⊎◌, ℕ, ◌||◌, Bool, true, false, not, filter, List, [], Option, None, Some, option_map, slice_get, drop, map, Result, Ok, Err, String, if◌then◌else◌, is_some, unwrap_or}
use Rattle.std.specs.Borrow.{Bor}
use Rattle.std.specs.Global.{Global}
use Rattle.fmp_cli.specs.Cli.{AsksFor}
use Rattle.fmp_cli.specs.declared.Request.{Request}
use Rattle.fmp_cli.specs.declared.Request.TheVariants as request
use Rattle.fmp_cli.specs.declared.colours.Colour.{Colour}
use Rattle.fmp_cli.specs.declared.colours.Colour.TheVariants as colour
use Rattle.fmp_cli_diagnostics.specs.declared.option.LineForm.{LineForm}
use Rattle.fmp_cli_diagnostics.specs.declared.option.LineForm.TheVariants as form
use Rattle.fmp_cli_diagnostics.specs.Options.{is_option}
use Rattle.fmp_cli_desk.specs.declared.ending.Ending.{Ending}
use Rattle.fmp_cli_desk.specs.declared.ending.Ending.TheVariants as ending
use Rattle.fmp_cli_desk.specs.Endings.{status_after}
use Rattle.fmp_cli_help.specs.Listing as help
use Rattle.fmp_cli_faults.specs.Context.{others}
use Rattle.fmp_cli_faults.specs.Misfits.{fits}
use Rattle.fmp_cli_perform.specs.Ended as ended
use Rattle.fmp_cli_perform.specs.Searched.{EndsExploring}
use Rattle.fmp_cli_runs.specs.declared.configs.Describing.TheVariants as describing
use Rattle.fmp_run_texts.specs.declared.fault.RunFault.TheVariants as fault
use Rattle.fmp_run_texts.specs.declared.status.Status.{Status}
use Rattle.fmp_run_texts.specs.declared.status.Status.TheVariants as status
use Rattle.fmp_search_question.specs.Lasting.{is_lasting}

-- a word after `--color` that is none of those for it is refused
abbrev pub refuses_colour : Colour → Bool
refuses_colour colour.Auto = false
refuses_colour colour.Always = false
refuses_colour colour.Never = false
refuses_colour colour.Other = true

-- what stays for ever is asked of all orders alone
abbrev pub asks_for_ever : Option (Bor (List ℕ)) → Bool
asks_for_ever question = is_lasting (unwrap_or (option_map (λ text. text.now) question) [])

-- a request that asks for nothing that can be done
abbrev pub is_refused : Request → Bool
is_refused (request.Calls paths report colour) = refuses_colour colour
is_refused (request.Life paths names colour) = refuses_colour colour
is_refused (request.Trace paths asked) = false
is_refused (request.Partial paths asked) = false
is_refused (request.Save paths) = false
is_refused (request.Smp r) = refuses_colour r.colour || (not (fits r) || asks_for_ever r.find)
is_refused (request.Explore r) = false
is_refused (request.Shrink r) = is_lasting r.question.now
is_refused (request.List name) = false
is_refused (request.Describe r) = false

-- what `list` gives of what may be written, of all or of one name: it is written, or nothing is called so, unless memory is wanting or the write fails
abbrev pub is_listed : Option (Bor (List ℕ)) → Bool
is_listed None = true
is_listed (Some word) = is_some (help.subject_of word.now)

abbrev pub IsUnlisted : Ending → Type 0
IsUnlisted end = (end ≡ ending.Fault fault.Memory) ⊎ (end ≡ ending.Unread) ⊎ (end ≡ ending.Fault fault.Write)

abbrev pub EndsListing : Option (Bor (List ℕ)) → Result Status Ending → Type 0
EndsListing name (Ok s) = s ≡ (if is_listed name then status.Done else status.Usage)
EndsListing name (Err end) = IsUnlisted end

-- what the run of any other gives
abbrev pub Gives : (List ℕ → Option (List ℕ)) → Request → Result Status Ending → Type 0
Gives at (request.Calls paths report colour) = ended.EndsAnswering at paths report
Gives at (request.Life paths names colour) = ended.EndsFollowing at paths names.now
Gives at (request.Trace paths asked) = ended.EndsJudging at paths asked
Gives at (request.Partial paths asked) = ended.EndsJudgingPartly at paths asked
Gives at (request.Save paths) = ended.EndsDescribing at paths.config.now describing.Save
Gives at (request.Smp r) = ended.EndsPlaying (at r.config.now) (at r.scripts.now) r r.seeds
Gives at (request.Explore r) = EndsExploring at r
Gives at (request.Shrink r) = ended.EndsShrinking at r
Gives at (request.List name) = EndsListing name
Gives at (request.Describe r) = ended.EndsDescribing at r.config.now describing.Listing

-- how a request that is refused, or is not, ends the program
abbrev pub EndsProgram : Bool → (Result Status Ending → Type 0) → Status → Type 0
EndsProgram true Run s = s ≡ status.Usage
EndsProgram false Run s = (run : Result Status Ending) × Run run × (s ≡ status_after run)

abbrev pub IsDone : (List ℕ → Option (List ℕ)) → Request → Status → Type 0
IsDone at r s = EndsProgram (is_refused r) (Gives at r) s

-- settled words ask for a request, and it is done
pub record DoesWords (at : List ℕ → Option (List ℕ)) (words : List (String Global)) (s : Status) : Type 0 where
  pub asked : Request
  pub asks : AsksFor (option_map (λ w. w.bytes.items) (slice_get words 1)) (map (λ w. w.bytes.items) (drop 1 words)) asked
  pub done : IsDone at asked s

-- They are settled: those that say which form fault lines have are left out, and those that say whether what stands beside a fault is shown may change.
pub record DoesSettled (at : List ℕ → Option (List ℕ)) (words : List (String Global)) (s : Status) : Type 0 where
  pub settled : List (String Global)
  pub same : others settled ≡ others (filter (λ w. not (is_option w.bytes.items)) words)
  pub does : DoesWords at settled s

-- or they are refused, or ask for help, or memory is wanting for them
abbrev pub IsRefusal : Status → Type 0
IsRefusal s = (s ≡ status.Usage) ⊎ (s ≡ status.Done) ⊎ (s ≡ status.Memory) ⊎ (s ≡ status.Device)

abbrev pub IsBegun : (List ℕ → Option (List ℕ)) → List (String Global) → LineForm → Status → Type 0
IsBegun at words form.Other s = s ≡ status.Usage
IsBegun at words form.Plain s = IsRefusal s ⊎ DoesSettled at words s
IsBegun at words form.Gcc s = IsRefusal s ⊎ DoesSettled at words s
