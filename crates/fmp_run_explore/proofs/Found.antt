-- What is found of all orders, and told.
use Rattle.std.proofs.Common.{◌≡◌, ◌∙◌, ℕ, ◌≤◌, List, length, ap, sym, arith}
use Rattle.std.proofs.lemmas.List.{length-map}
use Rattle.fmp_codes.specs.declared.records.Record.{Record}
use Rattle.fmp_names.specs.Names.{AreValid}
use Rattle.fmp_text_scripts.specs.Scripts.{Steps, AreInBits}
use Rattle.fmp_setup.specs.Setup.{Setup}
use Rattle.fmp_setup.specs.Valid.{IsValid}
use Rattle.fmp_trace.specs.Lines.{lines_from}
use Rattle.fmp_smp_histories.specs.Histories.{events_of}
use Rattle.fmp_search.specs.Answers.{IsShortest}
use Rattle.fmp_search_pattern.specs.declared.question.Step.{Step}
use Rattle.fmp_search_orders.specs.declared.rules.Rules.{Rules}
use Rattle.fmp_search_orders.specs.Laws.{PlacesAnswer, is_seen}
use Rattle.fmp_search_orders.specs.Places.{after, origin, records}
use Rattle.fmp_search_orders.proofs.Bits.{order_fits}
use Rattle.fmp_run_texts.proofs.Yes.{own_trace}
use Rattle.fmp_run_explore.specs.Explored.{IsShown}

module _ (c : Setup) (scripts : List Steps) (rules : Rules) (question : List Step) (steps : List ℕ) (found : IsShortest after is_seen (origin c scripts rules question) steps) where
  -- what is told along them is the trace of a shortest order that shows the question
  pub shown : (turns : ℕ) (text : List ℕ) → IsValid c → AreValid c.names → AreInBits scripts → turns ≤ 1000000 → PlacesAnswer c scripts rules question
      → length steps ≤ turns → text ≡ lines_from c.names 1 (records (origin c scripts rules question) steps) → IsShown c scripts rules question turns text
  shown turns text valid names_valid all few law within is =
      let got = law.found steps found in
      let h = got.0 in
      let long = got.1 in
      let prints : text ≡ lines_from c.names 1 h = is ∙ ap (lines_from c.names 1) (sym got.2) in
      let many : length (events_of h) ≤ 1000000 = omega (arith, length-map h (λ (r : Record). r.event), long, within, few) in
      record {
        records = h;
        shortest = got.3;
        within = omega (arith, long, within);
        prints = prints;
        answers =
            own_trace c text (events_of h) valid names_valid got.3.order.run.on (order_fits c scripts rules all h got.3.order.in_order) many
            (prints ∙ ap (lines_from c.names 1) got.3.order.run.answers);
      }
