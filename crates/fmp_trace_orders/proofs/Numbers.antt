-- What a search of the kernel's orders says of the machine with numbers.
use Rattle.std.proofs.Common.{◌≡◌, ℕ, ◌≤◌, Bool, List, length, sym, ap, subst, ◌∙◌, arith}
use Rattle.std.proofs.lemmas.List.{length-map}
use Rattle.fmp_names.specs.Names.{NameLists, AreValid}
use Rattle.fmp_setup.specs.Setup.{Setup}
use Rattle.fmp_setup.specs.Valid.{IsValid}
use Rattle.fmp_rules.specs.Arrivals.{numbered}
use Rattle.fmp_kernel_order.specs.Queues.{Queues, listed}
use Rattle.fmp_text.specs.Limits.{most_events}
use Rattle.fmp_search_lines.specs.Answers.{FillsRoom, SaysOrders}
use Rattle.fmp_search_lines.specs.declared.searching.Orders.{Orders}
use Rattle.fmp_trace_orders.specs.Lines.{AreLinesOf, lines_of}
use Rattle.fmp_trace_orders.specs.Playing.{Playing, at_boot, at_booted, lines_from, line_from, plays}
use Rattle.fmp_trace_orders.specs.Standing.{begun}
use Rattle.fmp_trace_orders.specs.declared.lines.Lines.{Lines}
use Rattle.fmp_trace_orders.proofs.Answers.{answer_over}
use Rattle.fmp_trace_orders.proofs.Matching.{orders_match}
use Rattle.fmp_trace_orders.proofs.Reading.{length-lasts_from}
use Rattle.fmp_trace_orders.proofs.SaidLines.{few_said, few_lines}

module _ (names : NameLists) (text : List ℕ) (lines : Lines) (valid : AreValid names) (known : AreLinesOf names text lines) where
  pub few_starts : length lines.starts.items ≤ most_events
  few_starts =
      let same = sym (length-map lines.starts.items (line_from text)) ∙ ap length known.starts in
      omega (arith, same, few_lines names text known.said valid known.read)

  pub few_lasts : length lines.lasts.items ≤ 1000000
  few_lasts =
      let same = ap length known.so.lasts ∙ length-lasts_from 0 known.said in
      omega (arith, same, few_said names text known.said valid known.read)

pub judged : (c : Setup) (text : List ℕ) (lines : Lines) (w : Playing Queues) (last : ℕ → ℕ) (count : ℕ) (must : ℕ → Bool) (answer : Orders) → IsValid c →
    AreValid c.names → AreLinesOf c.names text lines → w ≡ at_boot c (lines_from text lines.starts.items) →
    SaysOrders (plays listed) last count must (begun w) answer → SaysOrders (plays numbered) last count must (at_booted c (lines_of text)) answer
judged c text lines w last count must answer valid names_valid known there says =
    let begins : begun w ≡ at_boot c (lines_of text) = ap begun there ∙ ap (at_boot c) known.starts in
    answer_over (plays listed) (plays numbered) (at_boot c (lines_of text)) (at_booted c (lines_of text)) last count must
    (orders_match c (lines_of text) valid names_valid (few_lines c.names text known.said names_valid known.read)) answer
    (subst (λ (x : Playing Queues). SaysOrders (plays listed) last count must x answer) begins says)

pub filled : (c : Setup) (text : List ℕ) (lines : Lines) (w : Playing Queues) (last : ℕ → ℕ) (count room : ℕ) (answer : Orders) → AreLinesOf c.names text lines →
    w ≡ at_boot c (lines_from text lines.starts.items) → FillsRoom (plays listed) last count (begun w) room answer →
    FillsRoom (plays listed) last count (at_boot c (lines_of text)) room answer
filled c text lines w last count room answer known there full =
    let begins : begun w ≡ at_boot c (lines_of text) = ap begun there ∙ ap (at_boot c) known.starts in
    subst (λ (x : Playing Queues). FillsRoom (plays listed) last count x room answer) begins full
