-- No order that a text begins with is longer, where the text goes no further.
use Rattle.std.proofs.Common.{◌≡◌, ◌∙◌, ℕ, ◌+◌, ◌<◌, ◌≤◌, ◌^◌, ltb, inl, inr, Bool, List, [], ◌∷◌, ◌++◌, length, append_assoc, ap, sym, subst, arith}
use Rattle.std.proofs.lemmas.Bool.{cases_Bool, ltb-true, ltb-false}
use Rattle.fmp_codes.specs.declared.records.Record.{Record}
use Rattle.fmp_names.specs.Names.{AreValid}
use Rattle.fmp_text_scripts.specs.Scripts.{Steps, AreInBits}
use Rattle.fmp_setup.specs.Setup.{Setup}
use Rattle.fmp_setup.specs.Valid.{IsValid}
use Rattle.fmp_rules.specs.Step.{step}
use Rattle.fmp_kernel_order.specs.Queues.{listed}
use Rattle.fmp_trace.specs.Fits.{FitsNames, AllFit}
use Rattle.fmp_trace.specs.Lines.{line_text, lines_from}
use Rattle.fmp_search_orders.specs.declared.rules.Rules.{Rules}
use Rattle.fmp_search_orders.specs.Orders.{IsOrder}
use Rattle.fmp_search_orders.specs.Places.{Place}
use Rattle.fmp_search_orders.specs.Laws.{LeadsTo}
use Rattle.fmp_search_orders.proofs.Begun.{on_next}
use Rattle.fmp_search_orders.proofs.Staying.{next_order}
use Rattle.fmp_run_explore_from.specs.Lines.{GoesNoFurther}
use Rattle.fmp_run_explore_from.specs.Strays.{BeginsSo}
use Rattle.fmp_run_explore_from.proofs.Printed.{lines-append, same_lines}
use Rattle.fmp_run_explore_from.proofs.Parts.{split_at, fits_part, order_fit}

module _ (c : Setup) (scripts : List Steps) (rules : Rules) (valid : IsValid c) (names_valid : AreValid c.names) (all : AreInBits scripts) (w : Place) (h : List Record) (marks : List Bool)
    (leads : LeadsTo c scripts rules [] w h marks) (n : ℕ) (is : n ≡ length h + 1) (small : n < 2 ^ 64) (text rest : List ℕ) (parts : text ≡ lines_from c.names 1 h ++ rest)
    (none : GoesNoFurther c.names n w rest) where
  -- an order with another record after as many
  beyond : (other : List Record) (tail : List ℕ) → IsOrder c scripts rules other → text ≡ lines_from c.names 1 other ++ tail → (a : List Record) (r : Record) (b : List Record) →
      other ≡ a ++ r ∷ b → length h ≡ length a → ⊥
  beyond other tail order begins a r b cut long =
      let fits = fits_part c.names a r b (subst (λ (rs : List Record). AllFit c.names rs) cut (order_fit c scripts rules other valid all order)) in
      let following = lines_from c.names (1 + length a) (r ∷ b) ++ tail in
      let lines : lines_from c.names 1 h ++ rest ≡ lines_from c.names 1 a ++ following =
      sym parts ∙ begins ∙ ap (λ (rs : List Record). lines_from c.names 1 rs ++ tail) cut ∙ ap (λ (x : List ℕ). x ++ tail) (lines-append c.names 1 a (r ∷ b))
      ∙ append_assoc (lines_from c.names 1 a) (lines_from c.names (1 + length a) (r ∷ b)) tail in
      let same = same_lines c.names 1 h a rest following names_valid (order_fit c scripts rules h valid all leads.order) fits.0 (omega (arith, is, small)) long lines in
      let longer : IsOrder c scripts rules (h ++ r ∷ b) =
      subst (λ (rs : List Record). IsOrder c scripts rules (rs ++ r ∷ b)) (sym same.0) (subst (λ (rs : List Record). IsOrder c scripts rules rs) cut order) in
      let next = on_next c scripts rules valid w h (marks, leads) r (next_order c scripts rules valid h leads.order r b longer) in
      let after = lines_from c.names (n + 1) b ++ tail in
      let at : 1 + length a ≡ n = omega (arith, long, is) in
      let line : rest ≡ line_text c.names n (step listed w.machine r.event).1 ++ after =
      same.1 ∙ ap (λ (k : ℕ). lines_from c.names k (r ∷ b) ++ tail) at ∙ append_assoc (line_text c.names n r) (lines_from c.names (n + 1) b) tail
      ∙ ap (λ (x : Record). line_text c.names n x ++ after) next.1 in
      none r.event after next.0 (subst (λ (x : Record). FitsNames c.names x) next.1 fits.1) (sym (ap (λ (x : Record). x.event) next.1)) line

  pub furthest : (other : List Record) → IsOrder c scripts rules other → BeginsSo c text other → length other ≤ length h
  furthest other order begins =
      elim (cases_Bool (ltb (length h) (length other))) [
        | inl t ↦
            let s = split_at (length h) other (ltb-true (length h) (length other) t) in
            absurd (beyond other begins.0 order begins.1 s.0 s.1 s.2 s.3 s.4)
        | inr f ↦ ltb-false (length h) (length other) f
      ]
