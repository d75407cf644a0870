-- With which code a call is refused: that of the first error of its row that the records before it tell.
use Rattle.std.specs.Prelude.{◌≡◌, not, Option, None, Some, List, ◌∷◌, if◌then◌else◌, is_some, option_map, find}
use Rattle.fmp_codes.specs.declared.numbers.Proc.{Proc}
use Rattle.fmp_codes.specs.declared.calls.Call.{Call}
use Rattle.fmp_codes.specs.declared.codes.Code.{Code}
use Rattle.fmp_codes.specs.declared.codes.Code.TheVariants as code
use Rattle.fmp_codes.specs.declared.records.Answer.{Answer}
use Rattle.fmp_codes.specs.declared.records.Answer.TheVariants as answer
use Rattle.fmp_codes.specs.declared.records.Event.{Event}
use Rattle.fmp_codes.specs.declared.records.Event.TheVariants as event
use Rattle.fmp_codes.specs.declared.records.Record.{Record}
use Rattle.fmp_codes.specs.declared.records.Runner.{Runner}
use Rattle.fmp_setup.specs.Setup.{Setup}
use Rattle.fmp_law_records.specs.Requests.{report_processor}
use Rattle.fmp_law_records.specs.Refusals.Misplaced.{is_misplaced}
use Rattle.fmp_law_records.specs.Refusals.Known.{are_known}
use Rattle.fmp_law_records.specs.Refusals.Arguments.{are_proper}
use Rattle.fmp_law_records.specs.Refusals.Found.{found_reported}
use Rattle.fmp_law_records.specs.Refusals.Errors.{Errors, state_errors}

-- the code that an answer refuses a call with, if it does
abbrev pub refused_with : Answer → Option Code
refused_with (answer.Done code.Accepted value) = None
refused_with (answer.Done x value) = Some x
refused_with other = None

-- the first of these errors that applies
abbrev pub first_of : Errors → Option Code
first_of es = option_map (λ e. e.1) (find (λ e. e.0) es)

-- the row of a call that is made on p: its errors in their order
abbrev pub row_reported : Setup → List Record → Proc → Option Runner → Call → Errors
row_reported c records p r y =
    (is_misplaced (report_processor c p records) r y, code.Context)
    ∷ (not (are_known c y), code.Identifier)
    ∷ (not (are_proper c records r y), code.Parameter)
    ∷ state_errors c (found_reported c records) p r y

-- where these are the records before an event, a call that somebody makes is refused with the code of the first error of its row, and
-- nothing else is refused
abbrev pub refusal_reported : Setup → List Record → Option Runner → Event → Option Code
refusal_reported c records r (event.Call p y) = if is_some r then first_of (row_reported c records p r y) else None
refusal_reported c records r other = None

abbrev pub IsRefusalReported : Setup → List Record → Record → Type 0
IsRefusalReported c records r = refused_with r.answer ≡ refusal_reported c records r.runner r.event
