-- What the words and the flags of a command line ask for.
use Rattle.std.specs.Prelude.{ℕ, ◌==◌, ◌||◌, Bool, true, false, if◌then◌else◌, List, Option, None, Some, codes}
use Rattle.std.specs.List.{list_any}
use Rattle.std.specs.Str.{bytes_eq}
use Rattle.fmp_bytes.specs.Bytes.{slash}
use Rattle.fmp_trace_check.specs.declared.comparing.Shown.TheVariants.{First, Each}
use Rattle.clap.specs.Words.{Text}
use Rattle.fmp_cli.specs.declared.Asked.{Asked}
use Rattle.fmp_cli.specs.declared.Asked.TheVariants.{Verdict, Differences, Page, DifferencesPage}
use Rattle.fmp_cli.specs.declared.Partly.{Partly}
use Rattle.fmp_cli.specs.declared.Partly.TheVariants as partly
use Rattle.fmp_cli.specs.declared.Subcommand.{Subcommand}
use Rattle.fmp_cli.specs.declared.Subcommand.TheVariants as subcommand
use Rattle.fmp_cli.specs.declared.Report.{Report}
use Rattle.fmp_cli.specs.declared.Report.TheVariants as report

abbrev pub full_stop : ℕ
full_stop = 46

-- what is told of each event, by the flags for the state and for what of it changed
abbrev pub report_by : Bool → Bool → Report
report_by true changes = report.State
report_by false true = report.Changes
report_by false false = report.Line

-- what is asked of a trace, by the flags: the first line that differs, or else all of them, or else the verdict alone
abbrev pub asked_by : Bool → Bool → Asked
asked_by true all = Differences First
asked_by false true = Differences Each
asked_by false false = Verdict

-- what is written of a partial trace, by the flags: the machine's own lines, or else the first that differs, or else the verdict alone
abbrev pub partly_by : Bool → Bool → Bool → Partly
partly_by show all true = partly.Order
partly_by true all false = partly.First
partly_by false true false = partly.Each
partly_by false false false = partly.Verdict

-- which page is asked for, by the flag
abbrev pub page_by : Bool → Asked
page_by differences = if differences then DifferencesPage else Page

-- which page of a partial trace
abbrev pub partly_page_by : Bool → Partly
partly_page_by differences = if differences then partly.DifferencesPage else partly.Page

-- a word after `list` is the path of a configuration: a `.` or a `/` is in it
abbrev pub is_path : List ℕ → Bool
is_path word = list_any (λ b. (b == full_stop) || (b == slash)) word

-- the subcommand that a word names, if it names one
abbrev pub subcommand_by : Option Text → Option Subcommand
subcommand_by None = None
subcommand_by (Some word) =
    if bytes_eq word (codes "calls") then Some subcommand.Calls
    else if bytes_eq word (codes "check") then Some subcommand.Check
    else if bytes_eq word (codes "wave") then Some subcommand.Wave
    else if bytes_eq word (codes "view") then Some subcommand.View
    else if bytes_eq word (codes "smp") then Some subcommand.Smp
    else if bytes_eq word (codes "explore") then Some subcommand.Explore
    else if bytes_eq word (codes "shrink") then Some subcommand.Shrink
    else if bytes_eq word (codes "list") then Some subcommand.List
    else None
