-- The page of what a machine does at events: the configuration, the trace, what was given in its place and the changes of the values, between
-- head and tail.
use Rattle.std.specs.Prelude.{ℕ, List, ◌++◌, codes}
use Rattle.fmp_codes.specs.declared.records.Event.{Event}
use Rattle.fmp_run_page.specs.Escapes.{escaped}
use Rattle.fmp_run_page.specs.Parts.{head, part, tail, text_begin, text_end}
use Rattle.fmp_setup.specs.Setup.{Setup}
use Rattle.fmp_run_view.specs.Changes.{changes_of, values_text}
use Rattle.fmp_run_view.specs.Moments.{at_boot}
use Rattle.fmp_run_view.specs.Setups.{setup_text}

abbrev pub setup_name : List ℕ
setup_name = codes "setup"

abbrev pub trace_name : List ℕ
trace_name = codes "trace"

abbrev pub given_name : List ℕ
given_name = codes "given"

abbrev pub changes_name : List ℕ
changes_name = codes "changes"

-- the page of a trace that tells these events, and of the lines that were given where it has others
unfoldable pub page_of : Setup → List ℕ → List ℕ → List Event → List ℕ
page_of c trace given events =
    head ++ part setup_name (setup_text c) ++ part trace_name trace ++ part given_name given ++ part changes_name (changes_of c events) ++ tail

-- what stands before the first event, by the configuration's text, the trace, the lines that were given and the values at boot
unfoldable pub start_text : List ℕ → List ℕ → List ℕ → List ℕ → List ℕ
start_text setup trace given values =
    head ++ part setup_name setup ++ part trace_name trace ++ part given_name given ++ text_begin changes_name ++ escaped values

abbrev pub start_of : Setup → List ℕ → List ℕ → List ℕ
start_of c trace given = start_text (setup_text c) trace given (values_text c (at_boot c))

-- what stands after the last event
unfoldable pub end_text : List ℕ
end_text = text_end ++ tail
