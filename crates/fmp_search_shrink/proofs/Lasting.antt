-- What was shown once stays shown: each record after that may stand unmarked.
use Rattle.std.proofs.Common.{ℕ, ◌≤◌, false, List, [], ◌∷◌, ◌++◌, length, take, drop, Option, Some, None, refl, sym, subst, ◌∙◌, arith, append_assoc, append-nil}
use Rattle.std.specs.Prelude.{◌↔◌, IsTrue, is_some}
use Rattle.std.proofs.lemmas.List.{take-append-drop, take_all}
use Rattle.fmp_codes.specs.declared.records.Event.{Event}
use Rattle.fmp_codes.specs.declared.records.Record.{Record}
use Rattle.fmp_setup.specs.Setup.{Setup}
use Rattle.fmp_rules.specs.Arrivals.{numbered}
use Rattle.fmp_rules.specs.Boot.{booted}
use Rattle.fmp_rules.specs.Step.{step, answers, replay}
use Rattle.fmp_rules.proofs.Replays.{answers_more}
use Rattle.fmp_search_pattern.specs.declared.question.Step.{Step}
use Rattle.fmp_search_pattern.specs.Questions.{seen}
use Rattle.fmp_search_orders.specs.declared.rules.Rules.{Rules}
use Rattle.fmp_search_orders.specs.Shown.{Shows, last_sight}
use Rattle.fmp_search_orders.proofs.Longer.{marked_more, seen_more}
use Rattle.fmp_search_shrink.specs.Seen.{IsShownAt, ShowsAfter}
use Rattle.fmp_search_shrink.proofs.Seeing.{allowed_at_end}

module _ (c : Setup) (rules : Rules) (question : List Step) where
  -- what is told of a list of events
  abbrev report : List Event → List Record
  report es = answers numbered (booted c) es

  -- one record more
  shows_more : (h : List Record) (r : Record) → Shows c rules question h → Shows c rules question (h ++ r ∷ [])
  shows_more h r shown =
      let all = shown.2 in
      let past : length question ≤ seen shown.0 = omega (arith, all) in
      let allowed = allowed_at_end question (last_sight c rules (h ++ r ∷ []) r) (seen shown.0) past in
      (shown.0 ++ false ∷ [], marked_more c rules question h r shown.0 false shown.1 allowed, seen_more shown.0 false ∙ all)

  -- and more events
  shows_longer : (given rest : List Event) → Shows c rules question (report given) → Shows c rules question (report (given ++ rest))
  shows_longer given [] shown = subst (λ (es : List Event). Shows c rules question (report es)) (sym (append-nil given)) shown
  shows_longer given (e ∷ rest) shown =
      let more = shows_more (report given) (step numbered (replay numbered (booted c) given) e).1 shown in
      let there = subst (λ (h : List Record). Shows c rules question h) (sym (answers_more (booted c) given e)) more in
      subst (λ (es : List Event). Shows c rules question (report es)) (append_assoc given (e ∷ []) rest) (shows_longer (given ++ e ∷ []) rest there)

  module _ (es : List Event) where
    -- what the first events show all of them show
    shown_by_all : (n : ℕ) → ShowsAfter c rules question es n → Shows c rules question (report es)
    shown_by_all n shown = subst (λ (xs : List Event). Shows c rules question (report xs)) (take-append-drop n es) (shows_longer (take n es) (drop n es) shown)

    after_all : Shows c rules question (report es) → ShowsAfter c rules question es (length es)
    after_all shown = subst (λ (xs : List Event). Shows c rules question (report xs)) (sym (take_all (length es) es (omega arith))) shown

    -- it is shown at some event where all of them show it
    pub shown_at_some : (at : Option ℕ) → IsShownAt c rules question es at → IsTrue (is_some at) ↔ Shows c rules question (report es)
    shown_at_some None never = (λ is. cc, λ shown. absurd (never (length es) (omega arith) (after_all shown)))
    shown_at_some (Some n) here = (λ is. shown_by_all n here.1, λ shown. refl)
