-- What is shown of a partial trace beside its verdict.
use Rattle.std.specs.Prelude.{◌≡◌, ℕ, ◌+◌, ◌-◌, ◌==◌, List, [], ◌++◌, Option, None, Some, length, map, slice_get, codes}
use Rattle.fmp_bytes.specs.Bytes.{line_feed, pieces_of}
use Rattle.fmp_codes.specs.declared.records.Event.{Event}
use Rattle.fmp_rules.specs.Arrivals.{State, numbered}
use Rattle.fmp_rules.specs.Boot.{booted}
use Rattle.fmp_rules.specs.Step.{answers, replay, step}
use Rattle.fmp_names.specs.Names.{NameLists}
use Rattle.fmp_setup.specs.Setup.{Setup}
use Rattle.fmp_show_state.specs.States.{state_text}
use Rattle.fmp_trace.specs.Lines.{line_text, lines_from}
use Rattle.fmp_trace_partial.specs.declared.telling.Said.{Said}
use Rattle.fmp_run_partial.specs.Differing.{diff_head, differences_from, hunk_of}
use Rattle.fmp_run_partial.specs.Filling.{filled_line}
use Rattle.fmp_run_partial.specs.Playing.{played, state_before}
use Rattle.fmp_run_partial.specs.Written.{partial_text}
use Rattle.fmp_run_partial.specs.declared.verdict.Found.{Found}
use Rattle.fmp_run_partial.specs.declared.verdict.Found.TheVariants as found
use Rattle.fmp_run_partial.specs.declared.verdict.PartialVerdict.{PartialVerdict}
use Rattle.fmp_run_partial.specs.declared.showing.PartialShown.{PartialShown}
use Rattle.fmp_run_partial.specs.declared.showing.PartialShown.TheVariants as asked
use Rattle.fmp_run_partial.specs.declared.showing.Shown.{Shown}

-- a line as it stands, and what is printed of the machine's answer to its event, as line k
abbrev pub pair_of : NameLists → ℕ → State → Option (List ℕ) → Option Event → List ℕ
pair_of names k w None e = []
pair_of names k w (Some line) None = []
pair_of names k w (Some line) (Some e) = codes "- " ++ line ++ codes "\n+ " ++ line_text names k (step numbered w e).1

abbrev pub pair_text : Setup → List (List ℕ) → List Event → Option (List ℕ) → ℕ → List ℕ
pair_text c lines events order k = pair_of c.names k (state_before c events order k) (slice_get lines (k - 1)) (slice_get events (k - 1))

-- the line that is not the machine's, and the machine's own
abbrev pub pair_shown : Setup → List (List ℕ) → List Event → Option (List ℕ) → Found → List ℕ
pair_shown c lines events order (found.No k) = pair_text c lines events order k
pair_shown c lines events order found.Yes = []
pair_shown c lines events order found.NotKnown = []

-- what stands above that: the verdict, unless the machine's own lines are asked for
abbrev pub head_text : PartialShown → PartialVerdict → List ℕ
head_text asked.Verdict verdict = partial_text verdict
head_text asked.First verdict = partial_text verdict
head_text asked.Order verdict = []
head_text asked.Each verdict = []
head_text asked.Filled verdict = []

-- what the machine answers to the events before line k, and that line with what it leaves out put in, whatever number it has then
abbrev pub up_to_line : Setup → ℕ → List Event → Option (List ℕ) → List ℕ
up_to_line c k before line =
    lines_from c.names 1 (answers numbered (booted c) before) ++ filled_line c.names k (length before + 1) (replay numbered (booted c) before) line

abbrev pub up_to_text : Setup → List (List ℕ) → List Event → Option (List ℕ) → ℕ → List ℕ
up_to_text c lines events order k = up_to_line c k (played events (k - 1) order) (slice_get lines (k - 1))

-- each line of a text that differs, as they stand; where they come in an order, the line with which there is none
abbrev pub diff_lines : Setup → List ℕ → Option (List ℕ) → ℕ → State → Option (List ℕ) → Option Event → List ℕ
diff_lines c body None k w line e = differences_from c.names 1 (booted c) (pieces_of line_feed body)
diff_lines c body (Some order) k w line e = hunk_of c.names k w line e

abbrev pub diff_text : Setup → List ℕ → List (List ℕ) → List Event → Option (List ℕ) → ℕ → List ℕ
diff_text c body lines events order k =
    diff_head ++ diff_lines c body order k (state_before c events order k) (slice_get lines (k - 1)) (slice_get events (k - 1))

-- what is written of a `no`: the machine before the line, and both lines; or one of these texts
abbrev pub below_no : PartialShown → List ℕ → List ℕ → List ℕ → List ℕ → List ℕ
below_no asked.Verdict state pair diff up_to = []
below_no asked.First state pair diff up_to = state ++ pair
below_no asked.Order state pair diff up_to = []
below_no asked.Each state pair diff up_to = diff
below_no asked.Filled state pair diff up_to = up_to

-- and in place of `yes` where they are asked for, the machine's own lines
abbrev pub own_for_yes : PartialShown → List ℕ → List ℕ
own_for_yes asked.Verdict own = []
own_for_yes asked.First own = []
own_for_yes asked.Order own = own
own_for_yes asked.Each own = []
own_for_yes asked.Filled own = own

-- what is written after that
abbrev pub rest_text : PartialShown → Setup → List ℕ → List (List ℕ) → List Event → Option (List ℕ) → Found → List ℕ
rest_text shown c body lines events order found.Yes =
    own_for_yes shown (lines_from c.names 1 (answers numbered (booted c) (played events (length events) order)))
rest_text shown c body lines events order (found.No k) =
    below_no shown (state_text c.names (state_before c events order k)) (pair_text c lines events order k) (diff_text c body lines events order k)
    (up_to_text c lines events order k)
rest_text shown c body lines events order found.NotKnown = []

-- nothing but what stands above is written, and no line is told
pub record IsBare (asked : PartialShown) (body : List ℕ) (verdict : PartialVerdict) (shown : Shown) : Type 0 where
  pub verdict_is : shown.verdict ≡ verdict
  pub is_empty : shown.is_empty ≡ (length body == 0)
  pub text : shown.text.items ≡ head_text asked verdict
  pub pair : shown.pair.items ≡ []

-- the events that lines say
abbrev pub events_of : List Said → List Event
events_of said = map (λ s. s.entry.event) said

-- the lines of a text, which say this, are shown so
pub record IsShown (asked : PartialShown) (c : Setup) (body : List ℕ) (lines : List (List ℕ)) (events : List Event) (order : Option (List ℕ)) (f : Found)
    (verdict : PartialVerdict) (shown : Shown) : Type 0 where
  pub verdict_is : shown.verdict ≡ verdict
  pub is_empty : shown.is_empty ≡ (length body == 0)
  pub text : shown.text.items ≡ head_text asked verdict ++ rest_text asked c body lines events order f
  pub pair : shown.pair.items ≡ pair_shown c lines events order f
