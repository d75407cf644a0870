-- The verdict on a partial trace: what it says, how it is written, and how the program ends after it.
use Rattle.std.specs.Prelude.{ℕ, List, ◌++◌, Option, None, Some, codes, decimal}
use Rattle.fmp_run_texts.specs.declared.status.Status.{Status}
use Rattle.fmp_run_texts.specs.declared.status.Status.TheVariants.{Different, Done, Limit}
use Rattle.fmp_trace_check.specs.declared.checking.Verdict.{Verdict}
use Rattle.fmp_trace_check.specs.declared.checking.Verdict.TheVariants.{Yes, No}
use Rattle.fmp_run_partial.specs.declared.verdict.Found.{Found}
use Rattle.fmp_run_partial.specs.declared.verdict.Found.TheVariants as found
use Rattle.fmp_run_partial.specs.declared.verdict.PartialVerdict.{PartialVerdict}
use Rattle.fmp_run_partial.specs.declared.verdict.PartialVerdict.TheVariants as partial

-- the verdict on lines that end before their log, or with it
abbrev pub verdict_to : Found → Option ℕ → PartialVerdict
verdict_to found.Yes None = partial.Yes
verdict_to found.Yes (Some line) = partial.YesTo line
verdict_to (found.No k) ends = partial.No k
verdict_to found.NotKnown ends = partial.NotKnown

-- the verdict as it is written
abbrev pub partial_text : PartialVerdict → List ℕ
partial_text partial.Yes = codes "yes\n"
partial_text (partial.YesTo line) = codes "yes to " ++ decimal line ++ codes "\n"
partial_text (partial.No k) = codes "no " ++ decimal k ++ codes "\n"
partial_text partial.NotKnown = codes "not known\n"

-- what it says of a text that does not end before its log: only `yes` is yes
abbrev pub plain_verdict : PartialVerdict → Verdict
plain_verdict partial.Yes = Yes
plain_verdict (partial.YesTo line) = No line
plain_verdict (partial.No k) = No k
plain_verdict partial.NotKnown = No 0

-- how the program ends after it
abbrev pub status_of_partial : PartialVerdict → Status
status_of_partial partial.Yes = Done
status_of_partial (partial.YesTo line) = Limit
status_of_partial (partial.No k) = Different
status_of_partial partial.NotKnown = Limit
