-- How far a text was followed.
use Rattle.std.proofs.Common.{◌≡◌, ◌∙◌, ℕ, ◌+◌, ◌<◌, ◌^◌, Bool, List, [], ◌∷◌, ◌++◌, length, length-append, append_assoc, map, refl, ap, sym, subst, arith}
use Rattle.std.proofs.lemmas.List.{append-nil, append_cancel_left, map-append}
use Rattle.fmp_codes.specs.declared.records.Record.{Record}
use Rattle.fmp_names.specs.Names.{AreValid}
use Rattle.fmp_text_scripts.specs.Scripts.{Steps, AreInBits}
use Rattle.fmp_setup.specs.Setup.{Setup}
use Rattle.fmp_setup.specs.Valid.{IsValid}
use Rattle.fmp_rules.specs.Step.{step}
use Rattle.fmp_kernel_order.specs.Queues.{listed}
use Rattle.fmp_trace.specs.Lines.{line_text, lines_from}
use Rattle.fmp_smp_histories.specs.Histories.{events_of}
use Rattle.fmp_smp_histories.proofs.Histories.{events_more}
use Rattle.fmp_search.specs.declared.guided.Choice.{Choice}
use Rattle.fmp_search_orders.specs.declared.rules.Rules.{Rules}
use Rattle.fmp_search_orders.specs.Places.{Place, origin}
use Rattle.fmp_search_orders.specs.Laws.{LeadsTo}
use Rattle.fmp_search_orders.specs.Begun.{choice_of, choices_of}
use Rattle.fmp_search_orders.proofs.Begun.{on_start, on_event, on_more}
use Rattle.fmp_run_explore_from.specs.Lines.{GoesOnBy, GoesNoFurther}
use Rattle.fmp_run_explore_from.specs.Strays.{FirstStray, IsBegunBy}
use Rattle.fmp_run_explore_from.proofs.Printed.{lines-append}
use Rattle.fmp_run_explore_from.proofs.Furthest.{furthest}

-- a text begins with the trace of an order, whose events have these choices and led to the place, and line n is next
pub record IsSoFar (c : Setup) (scripts : List Steps) (rules : Rules) (text : List ℕ) (w : Place) (n : ℕ) (choices : List Choice) (rest : List ℕ) : Type 0 where
  pub records : List Record
  pub marks : List Bool
  pub leads : LeadsTo c scripts rules [] w records marks
  pub count : n ≡ length records + 1
  pub parts : text ≡ lines_from c.names 1 records ++ rest
  pub chosen : choices ≡ choices_of records

module _ (c : Setup) (scripts : List Steps) (rules : Rules) (valid : IsValid c) (text : List ℕ) where
  pub so_begun : (w : Place) → w ≡ origin c scripts rules [] → IsSoFar c scripts rules text w 1 [] text
  so_begun w is =
      let start = on_start c scripts rules valid in
      subst (λ (x : Place). IsSoFar c scripts rules text x 1 [] text) (sym is)
      (record { records = []; marks = start.0; leads = start.1; count = refl; parts = refl; chosen = refl })

  module _ (w : Place) (n : ℕ) (choices : List Choice) (rest : List ℕ) (far : IsSoFar c scripts rules text w n choices rest) where
    -- one line more
    module _ (next : Place) (after : List ℕ) (choice : Choice) (on : GoesOnBy c.names n w next rest after choice) where
      abbrev report : Record
      report = (step listed w.machine on.event).1

      lines_more : lines_from c.names 1 (far.records ++ report ∷ []) ++ after ≡ lines_from c.names 1 far.records ++ (line_text c.names n report ++ after)
      lines_more =
          let before = lines_from c.names 1 far.records in
          let at : 1 + length far.records ≡ n = let count = far.count in omega (arith, count) in
          ap (λ (x : List ℕ). x ++ after) (lines-append c.names 1 far.records (report ∷ []) ∙ ap (λ (k : ℕ). before ++ lines_from c.names k (report ∷ [])) at)
          ∙ append_assoc before (line_text c.names n report ++ []) after
          ∙ ap (λ (x : List ℕ). before ++ x) (append_assoc (line_text c.names n report) [] after)

      pub so_more : IsSoFar c scripts rules text next (n + 1) (choices ++ choice ∷ []) after
      so_more =
          let there : (marks : List Bool) × LeadsTo c scripts rules [] w far.records marks = (far.marks, far.leads) in
          let more = on_more c scripts rules valid w far.records there on.step on.event on.here in
          let event : report.event ≡ on.event = on_event c scripts rules valid w far.records there on.step on.event on.here in
          let count = far.count in
          record {
            records = far.records ++ report ∷ [];
            marks = more.0;
            leads = subst (λ (x : Place). LeadsTo c scripts rules [] x (far.records ++ report ∷ []) more.0) (sym on.place) more.1;
            count = omega (arith, count, length-append far.records (report ∷ []));
            parts = far.parts ∙ ap (λ (x : List ℕ). lines_from c.names 1 far.records ++ x) on.line ∙ sym lines_more;
            chosen =
                ap (λ (cs : List Choice). cs ++ choice ∷ []) far.chosen ∙ ap (λ (x : Choice). choices_of far.records ++ x ∷ []) (on.chosen ∙ ap choice_of (sym event))
                ∙ sym (ap (map choice_of) (events_more far.records report) ∙ map-append choice_of (events_of far.records) (report.event ∷ []));
          }

    -- nothing is left of the text
    pub so_whole : rest ≡ [] → IsBegunBy c scripts rules text choices
    so_whole empty = record {
      records = far.records;
      order = far.leads.order;
      trace = far.parts ∙ ap (λ (x : List ℕ). lines_from c.names 1 far.records ++ x) empty ∙ append-nil (lines_from c.names 1 far.records);
      chosen = far.chosen;
    }

    -- and what is left goes no further
    pub so_stray : AreValid c.names → AreInBits scripts → n < 2 ^ 64 → 0 < length rest → GoesNoFurther c.names n w rest → FirstStray c scripts rules text n
    so_stray names_valid all small some none = record {
      records = far.records;
      order = far.leads.order;
      line = sym far.count;
      begins = (rest, far.parts);
      longest = furthest c scripts rules valid names_valid all w far.records far.marks far.leads n far.count small text rest far.parts none;
      goes_on = λ e.
          let own = lines_from c.names 1 far.records in
          let empty : rest ≡ [] = append_cancel_left own rest [] (sym far.parts ∙ e ∙ sym (append-nil own)) in
          let long = ap length empty in
          omega (arith, some, long);
    }
