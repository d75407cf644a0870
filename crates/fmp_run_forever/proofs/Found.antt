-- What is found of what stays, and told.
use Rattle.std.proofs.Common.{◌≡◌, ◌∙◌, ℕ, ◌≤◌, ◌<◌, Bool, true, false, cond, [], List, length, refl, ap, sym, subst, arith}
use Rattle.std.proofs.lemmas.List.{length-map}
use Rattle.fmp_codes.specs.declared.records.Record.{Record}
use Rattle.fmp_names.specs.Names.{AreValid}
use Rattle.fmp_text_scripts.specs.Scripts.{Steps, AreInBits}
use Rattle.fmp_setup.specs.Setup.{Setup}
use Rattle.fmp_setup.specs.Valid.{IsValid}
use Rattle.fmp_trace.specs.Lines.{lines_from}
use Rattle.fmp_smp_histories.specs.Histories.{events_of}
use Rattle.fmp_search_pattern.specs.Lasting.{Lasting}
use Rattle.fmp_search_orders.specs.declared.rules.Rules.{Rules}
use Rattle.fmp_search_orders.specs.Places.{origin, records}
use Rattle.fmp_search_orders.specs.Watched.{WatchedAnswer, WatchedEnds}
use Rattle.fmp_search_orders.proofs.Bits.{order_fits}
use Rattle.fmp_run_texts.proofs.Yes.{own_trace}
use Rattle.fmp_run_forever.specs.declared.staying.Staying.{Staying}
use Rattle.fmp_run_forever.specs.declared.staying.Staying.TheVariants.{Shortest, Found}
use Rattle.fmp_run_forever.specs.Stayed.{IsStaying, IsLeast, Finds}

module _ (c : Setup) (scripts : List Steps) (rules : Rules) (lasting : List Lasting) (number : ℕ) (steps : List ℕ) (is_one : number < length lasting)
    (ends : WatchedEnds c scripts rules lasting number steps) where
  -- what is told along them is the trace of an order that ends so
  pub staying : (turns : ℕ) (text : List ℕ) → IsValid c → AreValid c.names → AreInBits scripts → WatchedAnswer c scripts rules lasting → length steps ≤ turns → turns ≤ 1000000
      → text ≡ lines_from c.names 1 (records (origin c scripts rules []) steps) → IsStaying c scripts rules lasting turns number (length steps) text
  staying turns text valid names_valid all law short few is =
      let got = law.found number steps is_one ends in
      let h = records (origin c scripts rules []) steps in
      let long = got.1 in
      let many : length (events_of h) ≤ 1000000 = omega (arith, length-map h (λ (r : Record). r.event), long, short, few) in
      record {
        is_one = is_one;
        records = h;
        ends = got.0;
        long = long;
        within = short;
        prints = is;
        answers =
            own_trace c text (events_of h) valid names_valid got.0.order.run.on (order_fits c scripts rules all h got.0.order.in_order) many
            (is ∙ ap (lines_from c.names 1) got.0.order.run.answers);
      }

  -- and as the shortest where no other is shorter
  pub report : (turns room : ℕ) (text : List ℕ) (shortest : Bool) (s : Staying) → IsStaying c scripts rules lasting turns number (length steps) text
      → (shortest ≡ true → IsLeast c scripts rules lasting (length steps)) → s ≡ cond shortest (Shortest number (length steps)) (Found number (length steps))
      → Finds c scripts rules lasting turns room text s
  report turns room text true s so least is = subst (λ (x : Staying). Finds c scripts rules lasting turns room text x) (sym is) (so, least refl)
  report turns room text false s so least is = subst (λ (x : Staying). Finds c scripts rules lasting turns room text x) (sym is) so

-- where no run over places is shorter, no order is
pub least_of : (c : Setup) (scripts : List Steps) (rules : Rules) (lasting : List Lasting) (n : ℕ) → WatchedAnswer c scripts rules lasting
    → ((k : ℕ) (others : List ℕ) → k < length lasting → WatchedEnds c scripts rules lasting k others → n ≤ length others) → IsLeast c scripts rules lasting n
least_of c scripts rules lasting n law least k h less so = law.shortest n least k h less so
