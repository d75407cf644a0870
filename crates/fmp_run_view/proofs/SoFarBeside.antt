-- A contrast while it is made, line by line.
use Rattle.std.proofs.Common.{◌≡◌, ℕ, ◌+◌, ◌≤◌, inl, inr, List, [], ◌∷◌, ◌++◌, length, Some, None, refl, sym, ap, ◌∙◌, subst, arith, append_assoc}
use Rattle.std.specs.Str.{bytes_eq}
use Rattle.std.proofs.lemmas.Bool.{cases_Bool}
use Rattle.std.proofs.lemmas.List.{append-nil}
use Rattle.fmp_bytes.specs.Bytes.{cut_at}
use Rattle.fmp_codes.specs.declared.records.Event.{Event}
use Rattle.fmp_codes.specs.declared.records.Record.{Record}
use Rattle.fmp_trace_check.proofs.CheckedTexts.{report}
use Rattle.fmp_trace_check.proofs.Compared.{differing}
use Rattle.fmp_rules.specs.Arrivals.{State, numbered}
use Rattle.fmp_rules.specs.Step.{step}
use Rattle.fmp_names.specs.Names.{AreValid, NameLists}
use Rattle.fmp_text.specs.Limits.{most_events}
use Rattle.fmp_trace.specs.Fits.{AllFit}
use Rattle.fmp_trace.specs.Heads.{event_of}
use Rattle.fmp_trace.specs.Lines.{core_text, line_text, lines_from}
use Rattle.fmp_run_view.specs.Given.{given_beside, given_text}
use Rattle.fmp_run_view.proofs.Lines.{after_is, core_is, event_is, is_reported, none_left, not_over}

-- one record more
given-cons : (names : NameLists) (w : State) (n : ℕ) (r : Record) (rs : List Record)
    → given_text (differing names w n (r ∷ rs)) ≡ given_beside names n (step numbered w r.event).1 (core_text names n r) ++ given_text (differing names (step numbered w r.event).0 (n + 1) rs)
given-cons names w n r rs =
    elim (cases_Bool (bytes_eq (core_text names n (step numbered w r.event).1) (core_text names n r))) [
      | inl t ↦ rw t refl
      | inr f ↦ rw f refl
    ]

-- Records from n on are left, which the rest of the text prints. These are the machine's own lines to the events of the others, and those
-- that were given where they differ.
pub record SoFarBeside (names : NameLists) (n : ℕ) (w : State) (rest own given own_whole given_whole : List ℕ) : Type 0 where
  pub left : List Record
  pub text : rest ≡ lines_from names n left
  pub fit : AllFit names left
  pub few : n + length left ≤ most_events + 1
  pub owns : own ++ lines_from names n (report w left) ≡ own_whole
  pub gives : given ++ given_text (differing names w n left) ≡ given_whole

module _ (names : NameLists) (valid : AreValid names) (n : ℕ) (w : State) (rest own given own_whole given_whole : List ℕ) (s : SoFarBeside names n w rest own given own_whole given_whole) where
  module _ (line after : List ℕ) (is_line : (cut_at 10 rest).0 ≡ line) (cut : (cut_at 10 rest).1 ≡ Some after) where
    -- a line that was printed tells an event
    pub is_reported_beside : event_of names line ≡ None → ⊥
    is_reported_beside none = is_reported names valid n rest line after is_line cut s.left s.text s.fit s.few none

    next_beside : (left : List Record) (e : Event) → rest ≡ lines_from names n left → AllFit names left → n + length left ≤ most_events + 1
        → own ++ lines_from names n (report w left) ≡ own_whole → given ++ given_text (differing names w n left) ≡ given_whole → event_of names line ≡ Some e
        → SoFarBeside names (n + 1) (step numbered w e).0 after (own ++ line_text names n (step numbered w e).1) (given ++ given_beside names n (step numbered w e).1 line) own_whole given_whole
    next_beside [] e text fit few owns gives is_event = absurd (not_over names valid n rest line after is_line cut text)
    next_beside (first ∷ others) e text fit few owns gives is_event =
        let one : Some first.event ≡ Some e = sym (event_is names valid n rest line after is_line cut first others text fit few) ∙ is_event in
        let same : first.event ≡ e = cc in
        let line_is = core_is names valid n rest line after is_line cut first others text in
        let state = (step numbered w first.event).0 in
        let answer : Record = (step numbered w first.event).1 in
        let beside = given_beside names n answer (core_text names n first) in
        let next : SoFarBeside names (n + 1) state after (own ++ line_text names n answer) (given ++ beside) own_whole given_whole = record {
          left = others;
          text = after_is names valid n rest line after is_line cut first others text;
          fit = fit.1;
          few = omega (arith, few);
          owns = append_assoc own (line_text names n answer) (lines_from names (n + 1) (report state others)) ∙ owns;
          gives = append_assoc given beside (given_text (differing names state (n + 1) others))
              ∙ ap (λ (xs : List ℕ). given ++ xs) (sym (given-cons names w n first others)) ∙ gives;
        } in
        rw line_is
        (subst (λ (x : Event). SoFarBeside names (n + 1) (step numbered w x).0 after (own ++ line_text names n (step numbered w x).1) (given ++ given_beside names n (step numbered w x).1 (core_text names n first)) own_whole given_whole) same next)

    pub goes_on_beside : (e : Event) (next : State) (answer : Record) (new_own new_given : List ℕ) → event_of names line ≡ Some e → (next, answer) ≡ step numbered w e
        → new_own ≡ own ++ line_text names n answer → new_given ≡ given ++ given_beside names n answer line → SoFarBeside names (n + 1) next after new_own new_given own_whole given_whole
    goes_on_beside e next answer new_own new_given is_event did own_is given_is =
        let state_is : next ≡ (step numbered w e).0 = ap (λ (p : State × Record). p.0) did in
        let answer_is : answer ≡ (step numbered w e).1 = ap (λ (p : State × Record). p.1) did in
        rw (own_is, given_is, state_is, answer_is) (next_beside s.left e s.text s.fit s.few s.owns s.gives is_event)

  module _ (none : (cut_at 10 rest).1 ≡ None) where
    over : (left : List Record) → left ≡ [] → own ++ lines_from names n (report w left) ≡ own_whole → given ++ given_text (differing names w n left) ≡ given_whole → (own ≡ own_whole) × (given ≡ given_whole)
    over [] is owns gives = (sym (append-nil own) ∙ owns, sym (append-nil given) ∙ gives)
    over (r ∷ rs) is owns gives = absurd cc

    -- all lines were taken
    pub whole_beside : (own ≡ own_whole) × (given ≡ given_whole)
    whole_beside = over s.left (none_left names valid n rest s.left s.text none) s.owns s.gives
