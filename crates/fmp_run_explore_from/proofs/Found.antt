-- What is found of all orders that go on from one, and told.
use Rattle.std.proofs.Common.{◌≡◌, ◌∙◌, ℕ, ◌≤◌, List, length, Ok, ap, sym, arith}
use Rattle.std.proofs.lemmas.List.{length-map}
use Rattle.fmp_codes.specs.declared.records.Record.{Record}
use Rattle.fmp_names.specs.Names.{AreValid}
use Rattle.fmp_text_scripts.specs.ScriptGrammar.{SpellsScripts}
use Rattle.fmp_text_scripts.specs.Scripts.{Steps, AreInBits}
use Rattle.fmp_setup.specs.Setup.{Setup}
use Rattle.fmp_setup.specs.Valid.{IsValid}
use Rattle.fmp_trace.specs.Lines.{lines_from}
use Rattle.fmp_smp_histories.specs.Histories.{events_of}
use Rattle.fmp_search.specs.Guides.{IsShortestAlong}
use Rattle.fmp_search_pattern.specs.declared.question.Step.{Step}
use Rattle.fmp_search_question.specs.Reading.{question_in}
use Rattle.fmp_search_orders.specs.declared.rules.Rules.{Rules}
use Rattle.fmp_search_orders.specs.Begun.{BegunAnswer, choices_of}
use Rattle.fmp_search_orders.specs.Laws.{is_seen}
use Rattle.fmp_search_orders.specs.Places.{after, origin, records}
use Rattle.fmp_search_orders.proofs.Bits.{order_fits}
use Rattle.fmp_run_texts.specs.Texts.{SaysConfig}
use Rattle.fmp_run_texts.proofs.Yes.{own_trace}
use Rattle.fmp_run_explore.specs.declared.finding.Finding.{Finding}
use Rattle.fmp_run_explore_from.specs.Explored.{IsShownFrom, IsFoundFrom, ExploredFrom}

module _ (c : Setup) (scripts : List Steps) (rules : Rules) (question : List Step) (begun : List Record) (steps : List ℕ)
    (found : IsShortestAlong after is_seen (origin c scripts rules question) (choices_of begun) steps) where
  -- what is told along them is the trace of a shortest order that goes on from this one and shows the question
  pub shown_from : (turns : ℕ) (text : List ℕ) → IsValid c → AreValid c.names → AreInBits scripts → turns ≤ 1000000 → BegunAnswer c scripts rules question begun
      → length steps ≤ turns → text ≡ lines_from c.names 1 (records (origin c scripts rules question) steps) → IsShownFrom c scripts rules question begun turns text
  shown_from turns text valid names_valid all few law within is =
      let got = law.found steps found in
      let h = got.0 in
      let long = got.1 in
      let prints : text ≡ lines_from c.names 1 h = is ∙ ap (lines_from c.names 1) (sym got.2) in
      let many : length (events_of h) ≤ 1000000 = omega (arith, length-map h (λ (r : Record). r.event), long, within, few) in
      record {
        records = h;
        shortest = got.3;
        within = omega (arith, long, within);
        prints = prints;
        answers =
            own_trace c text (events_of h) valid names_valid got.3.order.run.on (order_fits c scripts rules all h got.3.order.in_order) many
            (prints ∙ ap (lines_from c.names 1) got.3.order.run.answers);
      }

-- what was read, and what is written of it
pub explored_from : (c : Setup) (scripts : List Steps) (config_text script_text begun_text question_text : List ℕ) (question : List Step) (rules : Rules) (turns room : ℕ)
    (output : List ℕ) (finding : Finding) → SaysConfig config_text c → SpellsScripts c.names script_text scripts → question_in c.names question_text ≡ Ok question →
    IsFoundFrom c scripts rules begun_text question turns room output finding → ExploredFrom config_text script_text begun_text question_text rules turns room output finding
explored_from c scripts config_text script_text begun_text question_text question rules turns room output finding says spells asks found = record {
  config = c;
  scripts = scripts;
  question = question;
  says = says;
  spells = spells;
  asks = asks;
  begun = found.begun;
  order = found.order;
  trace = found.trace;
  finds = found.finds;
}
