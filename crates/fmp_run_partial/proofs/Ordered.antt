-- What the search for an order says of the lines of a text.
use Rattle.std.proofs.Common.{◌≡◌, ℕ, ◌+◌, ◌<◌, ◌≤◌, ◌^◌, Bool, false, List, [], ◌∷◌, length, Result, Ok, refl, sym, ap, subst, ◌∙◌, arith}
use Rattle.std.specs.Prelude.{map}
use Rattle.std.specs.List.{list_all}
use Rattle.fmp_names.specs.Names.{AreValid}
use Rattle.fmp_rules.specs.Arrivals.{numbered}
use Rattle.fmp_kernel_order.specs.Queues.{listed}
use Rattle.fmp_search_lines.specs.Answers.{FillsRoom, SaysOrders}
use Rattle.fmp_search_lines.specs.Lasts.{last_at, must_at}
use Rattle.fmp_search_lines.specs.declared.searching.Orders.{Orders}
use Rattle.fmp_search_lines.specs.declared.searching.Orders.TheVariants as orders
use Rattle.fmp_setup.specs.Setup.{Setup}
use Rattle.fmp_text.specs.Limits.{most_events}
use Rattle.fmp_text.specs.declared.fault.TextFault.{TextFault}
use Rattle.fmp_text.specs.declared.fault.TextKind.TheVariants.{TooMany}
use Rattle.fmp_trace_orders.specs.Lines.{AreLinesOf, lasts_from, lines_of, must_of}
use Rattle.fmp_trace_orders.specs.Playing.{at_boot, at_booted, plays}
use Rattle.fmp_trace_orders.specs.declared.lines.Lines.{Lines}
use Rattle.fmp_trace_partial.specs.declared.telling.Said.{Said}
use Rattle.fmp_trace_partial.proofs.SaidTexts.{read_says}
use Rattle.fmp_run_partial.specs.Following.{is_plain}
use Rattle.fmp_run_partial.specs.Partials.{IsOfOrders}
use Rattle.fmp_run_partial.specs.Verdicts.{most_places, JudgesOrders, SaysOfOrders, StandsSo}
use Rattle.fmp_run_partial.specs.declared.verdict.Found.{Found}
use Rattle.fmp_run_partial.specs.declared.verdict.Found.TheVariants as found

length-lasts_from : (i : ℕ) (ss : List Said) → length (lasts_from i ss) ≡ length ss
length-lasts_from i [] = refl
length-lasts_from i (s ∷ ss) = let others = length-lasts_from (i + 1) ss in omega (arith, others)

ok_same : (a b : List Said) → ◌≡◌ {A = Result (List Said) TextFault} (Ok a) (Ok b) → a ≡ b
ok_same a b e = cc

module _ (c : Setup) (text : List ℕ) (lines : Lines) (are : AreLinesOf c.names text lines) where
  -- what is said of the lists that were read is said of what the lines say
  says_of_said : (o : Orders) → SaysOrders (plays numbered) (last_at lines.lasts.items) (length lines.lasts.items) (must_at lines.musts.items) (at_booted c (lines_of text)) o
      → SaysOrders (plays numbered) (last_at (lasts_from 0 are.said)) (length are.said) (must_at (map must_of are.said)) (at_booted c (lines_of text)) o
  says_of_said o says =
      let lasts = are.so.lasts in
      let musts = are.so.musts in
      let long : length lines.lasts.items ≡ length are.said = ap (λ (xs : List ℕ). length xs) lasts ∙ length-lasts_from 0 are.said in
      subst (λ (n : ℕ). SaysOrders (plays numbered) (last_at (lasts_from 0 are.said)) n (must_at (map must_of are.said)) (at_booted c (lines_of text)) o) long
      (subst (λ (xs : List ℕ). SaysOrders (plays numbered) (last_at xs) (length lines.lasts.items) (must_at (map must_of are.said)) (at_booted c (lines_of text)) o) lasts
      (subst (λ (bs : List Bool). SaysOrders (plays numbered) (last_at lines.lasts.items) (length lines.lasts.items) (must_at bs) (at_booted c (lines_of text)) o) musts says))

  full_of_said : (room : ℕ) (o : Orders) → FillsRoom (plays listed) (last_at lines.lasts.items) (length lines.lasts.items) (at_boot c (lines_of text)) room o
      → FillsRoom (plays listed) (last_at (lasts_from 0 are.said)) (length are.said) (at_boot c (lines_of text)) room o
  full_of_said room o full =
      let lasts = are.so.lasts in
      let long : length lines.lasts.items ≡ length are.said = ap (λ (xs : List ℕ). length xs) lasts ∙ length-lasts_from 0 are.said in
      subst (λ (n : ℕ). FillsRoom (plays listed) (last_at (lasts_from 0 are.said)) n (at_boot c (lines_of text)) room o) long
      (subst (λ (xs : List ℕ). FillsRoom (plays listed) (last_at xs) (length lines.lasts.items) (at_boot c (lines_of text)) room o) lasts full)

  few_lines : AreValid c.names → length lines.lasts.items ≤ most_events
  few_lines valid =
      let long : length lines.lasts.items ≡ length are.said = ap (λ (xs : List ℕ). length xs) are.so.lasts ∙ length-lasts_from 0 are.said in
      let says = read_says c.names text are.said valid are.read in
      omega (arith, long, says.few)

  module _ (stands : StandsSo c text false) where
    is_ordered : list_all is_plain are.said ≡ false
    is_ordered = subst (λ (ss : List Said). list_all is_plain ss ≡ false) (ok_same stands.said are.said (sym stands.read ∙ are.read)) stands.are_plain

    judges : (f : Found) (order : List ℕ) → SaysOfOrders c text are.said f order → JudgesOrders c text f order
    judges f order says = record { said = are.said; read = are.read; ordered = is_ordered; says = says }

    pub some_order : (o : Orders) (order : _) → o ≡ orders.Right order → SaysOrders (plays numbered) (last_at lines.lasts.items) (length lines.lasts.items) (must_at lines.musts.items) (at_booted c (lines_of text)) o
        → JudgesOrders c text found.Yes order.items
    some_order o order is says =
        let told = subst (SaysOrders (plays numbered) (last_at (lasts_from 0 are.said)) (length are.said) (must_at (map must_of are.said)) (at_booted c (lines_of text))) is (says_of_said o says) in
        judges found.Yes order.items told

    pub none_without : (o : Orders) (n : ℕ) (order : _) → o ≡ orders.Without n order → SaysOrders (plays numbered) (last_at lines.lasts.items) (length lines.lasts.items) (must_at lines.musts.items) (at_booted c (lines_of text)) o
        → JudgesOrders c text (found.No (n + 1)) order.items
    none_without o n order is says =
        let told = subst (SaysOrders (plays numbered) (last_at (lasts_from 0 are.said)) (length are.said) (must_at (map must_of are.said)) (at_booted c (lines_of text))) is (says_of_said o says) in
        judges (found.No (n + 1)) order.items (n, refl, told.0, told.1, told.2)

    pub not_known : (o : Orders) (order : List ℕ) → o ≡ orders.NotKnown → order ≡ []
        → FillsRoom (plays listed) (last_at lines.lasts.items) (length lines.lasts.items) (at_boot c (lines_of text)) most_places o → JudgesOrders c text found.NotKnown order
    not_known o order is none full =
        judges found.NotKnown order (none, subst (FillsRoom (plays listed) (last_at (lasts_from 0 are.said)) (length are.said) (at_boot c (lines_of text)) most_places) is (full_of_said most_places o full))

  pub crowded_fault : (o : Orders) (j : ℕ) (fault : TextFault) → o ≡ orders.Crowded j → fault ≡ record { kind = TooMany; line = j + 1 }
      → SaysOrders (plays numbered) (last_at lines.lasts.items) (length lines.lasts.items) (must_at lines.musts.items) (at_booted c (lines_of text)) o → IsOfOrders c.names text fault
  crowded_fault o j fault is at says =
      let told = subst (SaysOrders (plays numbered) (last_at (lasts_from 0 are.said)) (length are.said) (must_at (map must_of are.said)) (at_booted c (lines_of text))) is (says_of_said o says) in
      record { said = are.said; read = are.read; line = j; crowded = told; is = at }

  -- the line of an answer is one of the lines
  pub without_small : AreValid c.names → (o : Orders) (n : ℕ) (order : _) → o ≡ orders.Without n order → SaysOrders (plays numbered) (last_at lines.lasts.items) (length lines.lasts.items) (must_at lines.musts.items) (at_booted c (lines_of text)) o
      → n + 1 < 2 ^ 32
  without_small valid o n order is says =
      let told = subst (SaysOrders (plays numbered) (last_at lines.lasts.items) (length lines.lasts.items) (must_at lines.musts.items) (at_booted c (lines_of text))) is says in
      omega (arith, told.0, few_lines valid)

  pub crowded_small : AreValid c.names → (o : Orders) (j : ℕ) → o ≡ orders.Crowded j → SaysOrders (plays numbered) (last_at lines.lasts.items) (length lines.lasts.items) (must_at lines.musts.items) (at_booted c (lines_of text)) o
      → j + 1 < 2 ^ 32
  crowded_small valid o j is says =
      let told = subst (SaysOrders (plays numbered) (last_at lines.lasts.items) (length lines.lasts.items) (must_at lines.musts.items) (at_booted c (lines_of text))) is says in
      omega (arith, told.0, few_lines valid)
