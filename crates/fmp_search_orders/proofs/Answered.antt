-- What an answer over places says of all orders.
use Rattle.std.proofs.Common.{◌≡◌, ℕ, ◌∙◌, Bool, true, List, length, ap, sym, arith}
use Rattle.std.proofs.lemmas.Bool.{eq-eqb, eqb-true, false≢true}
use Rattle.fmp_codes.specs.declared.records.Record.{Record}
use Rattle.fmp_text_scripts.specs.Scripts.{Steps}
use Rattle.fmp_setup.specs.Setup.{Setup}
use Rattle.fmp_setup.specs.Valid.{IsValid}
use Rattle.fmp_search.specs.Answers.{NoneWithin, NoneEver, IsShortest}
use Rattle.fmp_search_pattern.specs.declared.question.Step.{Step}
use Rattle.fmp_search_pattern.specs.Questions.{seen}
use Rattle.fmp_search_orders.specs.declared.rules.Rules.{Rules}
use Rattle.fmp_search_orders.specs.Shown.{NoneShows, NoneShowsWithin, IsShortestShow}
use Rattle.fmp_search_orders.specs.Places.{Place, origin, after, records}
use Rattle.fmp_search_orders.specs.Laws.{LeadsTo, is_seen, PlacesAnswer}
use Rattle.fmp_search_orders.proofs.Runs.{runs_orders}

module _ (c : Setup) (scripts : List Steps) (rs : Rules) (question : List Step) (valid : IsValid c) where
  -- the place to which a history leads that shows the question
  pub seen_there : (w : Place) (h : List Record) (marks : List Bool) → LeadsTo c scripts rs question w h marks → seen marks ≡ length question → is_seen w ≡ true
  seen_there w h marks leads all = eq-eqb w.seen (length w.question) (leads.seen_is ∙ all ∙ sym (ap length leads.question_is))

  pub all_seen : (w : Place) (h : List Record) (marks : List Bool) → LeadsTo c scripts rs question w h marks → is_seen w ≡ true → seen marks ≡ length question
  all_seen w h marks leads there = sym leads.seen_is ∙ eqb-true w.seen (length w.question) there ∙ ap length leads.question_is

  none_within : (n : ℕ) → NoneWithin after is_seen (origin c scripts rs question) n → NoneShowsWithin c scripts rs question n
  none_within n none h order few shows =
      let got = (runs_orders c scripts rs question valid).steps h shows.0 order shows.1 in
      let long = got.2 in
      false≢true (sym (none got.0 got.1 (omega (arith, long, few)) got.3) ∙ seen_there got.1 h shows.0 got.4 shows.2)

  none_ever : NoneEver after is_seen (origin c scripts rs question) → NoneShows c scripts rs question
  none_ever none h order shows = none_within (length h) (λ steps w few leads. none steps w leads) h order (omega arith) shows

  found_order : (steps : List ℕ) → IsShortest after is_seen (origin c scripts rs question) steps →
      (h : List Record) × (length h ≡ length steps) × (h ≡ records (origin c scripts rs question) steps) × IsShortestShow c scripts rs question h
  found_order steps found =
      let got = (runs_orders c scripts rs question valid).order steps found.place found.leads in
      let long = got.2 in (
        got.0,
        got.2,
        got.3,
        record {
          order = got.4.order;
          shows = (got.1, got.4.marked, all_seen found.place got.0 got.1 got.4 found.is_wanted);
          shortest = λ g order shows.
              let other = (runs_orders c scripts rs question valid).steps g shows.0 order shows.1 in
              let less = found.shortest other.0 other.1 other.3 (seen_there other.1 g shows.0 other.4 shows.2) in
              let as_long = other.2 in
              omega (arith, long, less, as_long);
        },
      )

  pub places_answer : PlacesAnswer c scripts rs question
  places_answer = record { never = none_ever; within = none_within; found = found_order }
