-- How a question is read: word by word. Words stand between single blanks, and mean themselves but for these: `&` between the items of a part,
-- `or` between the parts of a moment, `not` before an item that must not be there, `refused` in the place of a pattern, `without` before what
-- must not come, `then` before the next step, `times` after a number at the front of a step.
use Rattle.std.specs.Prelude.{ℕ, Bool, true, false, ◌-◌, ◌==◌, not, ◌&&◌, ◌||◌, nat_le, is_none, is_some, List, [], ◌∷◌, ◌++◌, length, take, drop, Option, None, Some}
use Rattle.std.specs.Prelude.{option_map, unwrap_or, replicate, Result, Ok, Err, if◌then◌else◌, codes}
use Rattle.std.specs.List.{list_all}
use Rattle.std.specs.Option.{option_and_then}
use Rattle.std.specs.Str.{bytes_eq}
use Rattle.fmp_bytes.specs.Bytes.{space, pieces_of}
use Rattle.fmp_bytes.specs.Numerals.{are_digits, magnitude_of}
use Rattle.fmp_names.specs.Names.{NameLists}
use Rattle.fmp_search_pattern.specs.declared.items.Wanted.{Wanted}
use Rattle.fmp_search_pattern.specs.declared.items.Wanted.TheVariants as wanted
use Rattle.fmp_search_pattern.specs.declared.question.Step.{Step}
use Rattle.fmp_search_question.specs.declared.fault.QuestionFault.{QuestionFault}
use Rattle.fmp_search_question.specs.declared.fault.QuestionFault.TheVariants.{BadWord, BadForm, UnknownName, TooLong, NoLine}
use Rattle.fmp_search_question.specs.declared.fault.ReadFault.{ReadFault}
use Rattle.fmp_search_question.specs.declared.fault.ReadFault.TheVariants.{Memory, Text}
use Rattle.fmp_search_pattern.specs.declared.spot.Spot.{Spot}
use Rattle.fmp_search_pattern.specs.declared.spot.Spot.TheVariants.{Front, Whole}
use Rattle.fmp_search_pattern.specs.Items.{Item}
use Rattle.fmp_search_pattern.specs.Spots.{may_end}
use Rattle.fmp_search_pattern.specs.Words.{is_printed, is_fine, runs_of, star}
use Rattle.fmp_search_question.specs.Places.{longer, next_spot}
use Rattle.fmp_search_question.specs.Resolved.{resolved}
use Rattle.fmp_search_question.specs.WordByWord.{after_words, at_place, result_then}

-- the greatest number of steps, and of bytes of a pattern with the blanks around it
abbrev pub most_steps : ℕ
most_steps = 255

abbrev pub most_pattern : ℕ
most_pattern = 1024

-- what was read so far
pub record Draft : Type 0 where
  pub steps : List Step  -- those that are complete
  pub times : Option ℕ  -- how often the step stands that is being read, where that is said
  pub moment : Option (List (List Item))  -- its moment, where `without` was read
  pub parts : List (List Item)  -- the complete parts of the moment that is being read
  pub items : List Item  -- the complete items of its last part
  pub negated : Bool  -- `not` begins the item that is being read
  pub pattern : List ℕ  -- the pattern that is being read: its words, each with a blank after it, and one before the first
  pub spot : Spot  -- where in a line those words end

abbrev pub nothing_read : Draft
nothing_read = record { steps = []; times = None; moment = None; parts = []; items = []; negated = false; pattern = []; spot = Front }

-- what the words of a pattern ask for
abbrev pub wanted_by : List ℕ → Wanted
wanted_by words = if bytes_eq words (codes " refused ") then wanted.Refused else wanted.Line (pieces_of star words)

-- a pattern is complete. A number alone is none, nor is what does not end with a word of a record or of a state
unfoldable pub with_pattern : Draft → Option Draft
with_pattern d =
    if length d.pattern == 0 || not (may_end d.spot) then None
    else Some (record d { items = d.items ++ record { negated = d.negated; wanted = wanted_by d.pattern } ∷ []; negated = false; pattern = []; spot = Front })

-- a part is complete
abbrev pub part_ended : Draft → Draft
part_ended d = record d { parts = d.parts ++ d.items ∷ []; items = [] }

unfoldable pub with_part : Draft → Option Draft
with_part d = option_map part_ended (with_pattern d)

-- a moment is complete, and what must not come before it follows
abbrev pub before_without : Draft → Option Draft
before_without d = if is_none d.moment then Some (record d { moment = Some d.parts; parts = [] }) else None

unfoldable pub with_moment : Draft → Option Draft
with_moment d = option_and_then before_without (with_part d)

abbrev pub step_of : Option (List (List Item)) → List (List Item) → Step
step_of None parts = record { moment = parts; without = None }
step_of (Some moment) parts = record { moment = moment; without = Some parts }

-- the step that was read stands as often as was said
abbrev pub with_read : Draft → Draft
with_read d = record d { steps = d.steps ++ replicate (unwrap_or d.times 1) (step_of d.moment d.parts); times = None; moment = None; parts = [] }

-- a step is complete
unfoldable pub with_step : Draft → Option Draft
with_step d = option_map with_read (with_part d)

-- the number that is the only word of a pattern
abbrev pub number_in : List ℕ → Option ℕ
number_in pattern =
    let digits = take (length pattern - 2) (drop 1 pattern) in
    if are_digits 10 digits then magnitude_of 10 digits else None

abbrev pub times_within : ℕ → Option ℕ
times_within n = if nat_le 1 n && nat_le n most_steps then Some n else None

-- more of a step was read than the pattern that is being read
abbrev pub has_begun : Draft → Bool
has_begun d = is_some d.times || is_some d.moment || not (length d.parts == 0) || not (length d.items == 0) || d.negated

-- the step that begins stands so many times
unfoldable pub with_times : Draft → Option Draft
with_times d =
    if has_begun d then None
    else option_map (λ n. record d { times = Some n; pattern = []; spot = Front }) (option_and_then times_within (number_in d.pattern))

-- an item begins that must not be there
abbrev pub with_not : Draft → Option Draft
with_not d = if length d.pattern == 0 && not d.negated then Some (record d { negated = true }) else None

-- `refused` is a pattern by itself
abbrev pub with_refused : Draft → Option Draft
with_refused d = if length d.pattern == 0 then Some (record d { pattern = codes " refused "; spot = Whole }) else None

-- what has to stand there, in its place
abbrev pub or_form : Option Draft → Result Draft QuestionFault
or_form None = Err BadForm
or_form (Some d) = Ok d

-- not too many steps
abbrev pub limited : Result Draft QuestionFault → Result Draft QuestionFault
limited (Err fault) = Err fault
limited (Ok d) = if nat_le (length d.steps) most_steps then Ok d else Err TooLong

-- a word that may stand after those before it
abbrev pub at_spot : Draft → List ℕ → Option Spot → Result Draft QuestionFault
at_spot d word None = Err NoLine
at_spot d word (Some spot) = Ok (record d { pattern = longer d.pattern word; spot = spot })

-- a word of a pattern
unfoldable pub with_word : NameLists → Draft → List ℕ → Result Draft QuestionFault
with_word names d word =
    if list_all (is_fine names) (runs_of word) then
    (if nat_le (length (longer d.pattern word)) most_pattern then at_spot d word (next_spot names d.pattern d.spot word) else Err TooLong)
    else Err UnknownName

-- one word more
unfoldable pub after_word : NameLists → Draft → List ℕ → Result Draft QuestionFault
after_word names d word =
    if not (is_printed word) then Err BadWord
    else if bytes_eq word (codes "&") then or_form (with_pattern d)
    else if bytes_eq word (codes "or") then or_form (with_part d)
    else if bytes_eq word (codes "not") then or_form (with_not d)
    else if bytes_eq word (codes "refused") then or_form (with_refused d)
    else if bytes_eq word (codes "without") then or_form (with_moment d)
    else if bytes_eq word (codes "then") then limited (or_form (with_step d))
    else if bytes_eq word (codes "times") then or_form (with_times d)
    else with_word names d word

-- what a fault of reading tells, where it is one of the text
abbrev pub report : ReadFault → QuestionFault × ℕ
report Memory = (BadWord, 0)
report (Text fault place) = (fault, place)

-- after the last word a step is complete
abbrev pub ended : ℕ → Draft → Result (List Step) (QuestionFault × ℕ)
ended bytes d = result_then (λ e. Ok e.steps) (at_place bytes (limited (or_form (with_step d))))

-- the steps of a question as it is written, each pattern as one of a record, or its first fault
unfoldable pub written_in : NameLists → List ℕ → Result (List Step) (QuestionFault × ℕ)
written_in names text = result_then (ended (length text)) (after_words (after_word names) (length text) nothing_read (pieces_of space text))

-- the steps of a question, or its first fault
unfoldable pub question_in : NameLists → List ℕ → Result (List Step) (QuestionFault × ℕ)
question_in names text = result_then (λ steps. Ok (resolved names steps)) (written_in names text)
