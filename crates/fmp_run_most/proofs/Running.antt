-- Runs over places with figures and their bounds.
use Rattle.std.proofs.Common.{◌≡◌, ◌⊎◌, inl, inr, ◌∙◌, ℕ, suc, ◌+◌, ◌≤◌, List, [], ◌∷◌, ◌++◌, length, Option, Some, None, refl, ap, sym, subst, arith}
use Rattle.std.specs.Prelude.{option_map}
use Rattle.std.specs.Option.{option_and_then}
use Rattle.std.proofs.lemmas.Grind.{common_steps}
use Rattle.fmp_search.specs.Meeting.{IsReported, IsReportedWithin, IsReportedAt}
use Rattle.fmp_search.specs.Runs.{run}
use Rattle.fmp_search_orders.specs.Places.{Place, after}
use Rattle.fmp_run_most.specs.declared.figure.Figure.{Figure}
use Rattle.fmp_search_walks.specs.Metered.{Metered, metered_after, metered_number, passed}
use Rattle.fmp_run_most.specs.Gauged.{beyond, first_beyond, gauged}

-- a run that has a last step
pub record Last (q r : Place) (steps : List ℕ) : Type 0 where
  pub before : List ℕ
  pub step : ℕ
  pub place : Place
  pub leads : run after q before ≡ Some place
  pub goes : after place step ≡ Some r
  pub long : length steps ≡ length before + 1

-- a run has none, and stays where it begins, or has a last one
pub last_of : (steps : List ℕ) (q r : Place) → run after q steps ≡ Some r → ((steps ≡ []) × (q ≡ r)) ⊎ Last q r steps
last_of [] q r is = let same : q ≡ r = cc in inl (refl, same)
last_of (s ∷ steps) q r is = go (after q s) (λ x leads. last_of steps x r leads) refl is
  where
    more : (x : Place) → after q s ≡ Some x → ((steps ≡ []) × (x ≡ r)) ⊎ Last x r steps → Last q r (s ∷ steps)
    more x here (inl end) =
        let none : length steps ≡ 0 = ap (λ (xs : List ℕ). length xs) end.0 in
        record { before = []; step = s; place = q; leads = refl; goes = here ∙ ap (λ (p : Place). Some p) end.1; long = ap suc none }
    more x here (inr rest) =
        let long = rest.long in
        record {
          before = s ∷ rest.before;
          step = rest.step;
          place = rest.place;
          leads = ap (λ o. option_and_then (λ p. run after p rest.before) o) here ∙ rest.leads;
          goes = rest.goes;
          long = grind (arith, common_steps, long);
        }

    go : (o : Option Place) → ((x : Place) → run after x steps ≡ Some r → ((steps ≡ []) × (x ≡ r)) ⊎ Last x r steps) → after q s ≡ o
        → option_and_then (λ p. run after p steps) o ≡ Some r → ((s ∷ steps ≡ []) × (q ≡ r)) ⊎ Last q r (s ∷ steps)
    go None rest here leads = cc
    go (Some x) rest here leads = inr (more x here (rest x leads))

-- a run with one step more
pub run_more : (steps : List ℕ) (q p r : Place) (s : ℕ) → run after q steps ≡ Some p → after p s ≡ Some r → run after q (steps ++ s ∷ []) ≡ Some r
run_more [] q p r s is goes =
    let same : q ≡ p = cc in
    ap (λ o. option_and_then (λ x. run after x []) o) (subst (λ (x : Place). after x s ≡ Some r) (sym same) goes)
run_more (t ∷ steps) q p r s is goes = go (after q t) (λ x leads. run_more steps x p r s leads goes) refl is
  where
    go : (o : Option Place) → ((x : Place) → run after x steps ≡ Some p → run after x (steps ++ s ∷ []) ≡ Some r) → after q t ≡ o
        → option_and_then (λ x. run after x steps) o ≡ Some p → option_and_then (λ x. run after x (steps ++ s ∷ [])) (after q t) ≡ Some r
    go None rest here leads = cc
    go (Some x) rest here leads = ap (λ o. option_and_then (λ y. run after y (steps ++ s ∷ [])) o) here ∙ rest x leads

module _ (fs : List Figure) (bs : List ℕ) where
  abbrev G : Place → Metered
  G w = gauged fs bs w

  run_gauged : (steps : List ℕ) (q : Place) → run metered_after (G q) steps ≡ option_map G (run after q steps)
  run_gauged [] q = refl
  run_gauged (s ∷ steps) q = go (λ p. run_gauged steps p) (after q s)
    where
      go : ((p : Place) → run metered_after (G p) steps ≡ option_map G (run after p steps)) → (o : Option Place) →
          option_and_then (λ r. run metered_after r steps) (option_map G o) ≡ option_map G (option_and_then (λ r. run after r steps) o)
      go rest None = refl
      go rest (Some p) = rest p

  same_gauged : (a b : Metered) → Some a ≡ Some b → a ≡ b
  same_gauged a b is = cc

  ungauged : (o : Option Place) (w : Metered) → option_map G o ≡ Some w → (p : Place) × (o ≡ Some p) × (G p ≡ w)
  ungauged None w is = cc
  ungauged (Some p) w is = (p, refl, same_gauged (G p) w is)

  -- what is told of a step is told of the place to which it leads
  told_there : (p r : Place) (s : ℕ) → after p s ≡ Some r → metered_number (G p) s ≡ first_beyond r.machine fs bs 0
  told_there p r s goes = ap (λ o. passed (beyond fs bs) o) goes

  -- a number that is told of a step of a run is that of a place to which a run leads that is not longer
  pub record Met (q : Place) (turns n : ℕ) : Type 0 where
    pub steps : List ℕ
    pub place : Place
    pub short : length steps ≤ turns
    pub leads : run after q steps ≡ Some place
    pub told : first_beyond place.machine fs bs 0 ≡ n

  pub met_of : (q : Place) (turns n : ℕ) → IsReportedWithin metered_after metered_number (G q) turns n → Met q turns n
  met_of q turns n report =
      let at = ungauged (run after q report.steps) report.place (sym (run_gauged report.steps q) ∙ report.leads) in
      let goes : metered_after (G at.0) report.last.step ≡ Some report.last.next = subst (λ w. metered_after w report.last.step ≡ Some report.last.next) (sym at.2) report.last.goes in
      let to = ungauged (after at.0 report.last.step) report.last.next goes in
      let few = report.short in
      record {
        steps = report.steps ++ report.last.step ∷ [];
        place = to.0;
        short = grind (arith, common_steps, few);
        leads = run_more report.steps q at.0 to.0 report.last.step at.1 to.1;
        told = sym (told_there at.0 to.0 report.last.step to.1) ∙ (ap (λ w. metered_number w report.last.step) at.2 ∙ report.last.report);
      }

  -- and the other way round
  last_at : (q r : Place) (steps : List ℕ) (last : Last q r steps) → IsReportedAt metered_after metered_number (G last.place) (first_beyond r.machine fs bs 0)
  last_at q r steps last = record { step = last.step; next = G r; goes = ap (option_map G) last.goes; report = told_there last.place r last.step last.goes }

  pub report_of : (q r : Place) (steps : List ℕ) (turns : ℕ) → Last q r steps → length steps ≤ turns → IsReportedWithin metered_after metered_number (G q) turns (first_beyond r.machine fs bs 0)
  report_of q r steps turns last few =
      let long = last.long in
      record {
        steps = last.before;
        place = G last.place;
        short = omega (arith, long, few);
        leads = run_gauged last.before q ∙ ap (option_map G) last.leads;
        last = last_at q r steps last;
      }

  pub report_ever : (q r : Place) (steps : List ℕ) → Last q r steps → IsReported metered_after metered_number (G q) (first_beyond r.machine fs bs 0)
  report_ever q r steps last = record {
    steps = last.before;
    place = G last.place;
    leads = run_gauged last.before q ∙ ap (option_map G) last.leads;
    last = last_at q r steps last;
  }
