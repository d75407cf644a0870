-- Whether a text goes on by one more line.
use Rattle.std.proofs.Common.{◌≡◌, ◌∙◌, ℕ, ◌<◌, ◌^◌, true, false, List, ◌∷◌, ◌++◌, Option, None, Some, ap, sym}
use Rattle.std.specs.Str.{bytes_eq}
use Rattle.std.proofs.lemmas.Bool.{false≢true}
use Rattle.std.proofs.lemmas.Slice.Eq.{bytes_eq-Decides}
use Rattle.fmp_bytes.specs.Bytes.{cut_at}
use Rattle.fmp_bytes.proofs.Cutting.{cut_at-parts}
use Rattle.fmp_codes.specs.declared.records.Event.{Event}
use Rattle.fmp_codes.specs.declared.records.Record.{Record}
use Rattle.fmp_names.specs.Names.{NameLists, AreValid}
use Rattle.fmp_rules.specs.Step.{step}
use Rattle.fmp_kernel_order.specs.Queues.{listed}
use Rattle.fmp_trace.specs.Heads.{event_of as event_reported}
use Rattle.fmp_trace.specs.Lines.{core_text, line_text}
use Rattle.fmp_trace.proofs.ReadTexts.{lines-cons}
use Rattle.fmp_search.specs.declared.guided.Choice.{Choice}
use Rattle.fmp_search_orders.specs.Places.{Place, event_of}
use Rattle.fmp_search_orders.specs.Begun.{choice_of}
use Rattle.fmp_search_kernel.specs.Walked.{Walked}
use Rattle.fmp_run_explore_from.specs.Lines.{HasHappened, GoesOnBy, GoesNoFurther}
use Rattle.fmp_run_explore_from.proofs.Printed.{line_cut, line_event}

-- an event is told by a line, and it may happen here: then it is this one, or there is none
abbrev pub IsReportedOf : NameLists → Place → List ℕ → Option Event → Type 0
IsReportedOf names w line found = (event : Event) → event_reported names line ≡ Some event → event_of w (choice_of event).step ≡ Some event → found ≡ Some event

module _ (names : NameLists) (valid : AreValid names) (n : ℕ) (small : n < 2 ^ 64) (w : Place) (text : List ℕ) where
  -- a text without a line feed
  pub no_line : (cut_at 10 text).1 ≡ None → GoesNoFurther names n w text
  no_line none event rest here fits own is =
      let cut = line_cut names n (step listed w.machine event).1 text rest valid is in
      let some : (cut_at 10 text).1 ≡ Some rest = ap (λ (p : List ℕ × Option (List ℕ)). p.1) cut in
      absurd (cc)

  module _ (line after : List ℕ) (line_is : (cut_at 10 text).0 ≡ line) (after_is : (cut_at 10 text).1 ≡ Some after) where
    first_line : (r : Record) (rest : List ℕ) → text ≡ line_text names n r ++ rest → line ≡ core_text names n r
    first_line r rest is = sym line_is ∙ ap (λ (p : List ℕ × Option (List ℕ)). p.0) (line_cut names n r text rest valid is)

    -- its first line tells no event that may happen
    pub no_event : IsReportedOf names w line None → GoesNoFurther names n w text
    no_event report event rest here fits own is =
        let r = (step listed w.machine event).1 in
        let tells : event_reported names line ≡ Some event =
        ap (event_reported names) (first_line r rest is) ∙ line_event names n r valid small fits ∙ ap (λ (e : Event). Some e) own in
        let wrong : ◌≡◌ {A = Option Event} None (Some event) = report event tells here in
        absurd (cc)

    module _ (now : Walked) (e : Event) (happened : HasHappened w now e) where
      -- it tells one, and another answer
      pub no_answer : IsReportedOf names w line (Some e) → bytes_eq (core_text names n now.made) line ≡ false → GoesNoFurther names n w text
      no_answer report other event rest here fits own is =
          let r = (step listed w.machine event).1 in
          let first = first_line r rest is in
          let tells : event_reported names line ≡ Some event = ap (event_reported names) first ∙ line_event names n r valid small fits ∙ ap (λ (x : Event). Some x) own in
          let both : ◌≡◌ {A = Option Event} (Some e) (Some event) = report event tells here in
          let same : e ≡ event = cc in
          let made : now.made ≡ r = happened.report ∙ ap (λ (x : Event). (step listed w.machine x).1) same in
          let as_reported : core_text names n now.made ≡ line = ap (core_text names n) made ∙ sym first in
          absurd (false≢true (sym other ∙ (bytes_eq-Decides (core_text names n now.made) line).1 as_reported))

      -- it tells one, and what the machine answers
      pub one_line : (choice : Choice) → choice ≡ choice_of e → bytes_eq (core_text names n now.made) line ≡ true → GoesOnBy names n w now.place text after choice
      one_line choice chosen same =
          let r = (step listed w.machine e).1 in
          let core : core_text names n r ≡ line = ap (core_text names n) (sym happened.report) ∙ (bytes_eq-Decides (core_text names n now.made) line).0 same in
          record {
            event = e;
            step = happened.step;
            here = happened.here;
            place = happened.place;
            line = cut_at-parts 10 text after after_is ∙ ap (λ (x : List ℕ). x ++ 10 ∷ after) (line_is ∙ sym core) ∙ sym (lines-cons names n r after);
            chosen = chosen;
          }
