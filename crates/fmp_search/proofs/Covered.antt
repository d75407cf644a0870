-- Where no place is open, the run that was found is no longer than any that ends for ever.
use Rattle.std.proofs.Common.{◌≡◌, ℕ, ◌+◌, ◌≤◌, Bool, true, Option, None, Some, List, length, sym, subst, arith}
use Rattle.fmp_search.specs.declared.chart.Chart.{Chart}
use Rattle.fmp_search.specs.declared.nodes.Node.{Node}
use Rattle.fmp_search.specs.declared.staying.Run.{Run}
use Rattle.fmp_search.specs.Trees.{found_at}
use Rattle.fmp_search.specs.Answers.{AreOpened}
use Rattle.fmp_search.specs.Charts.{IsCharted}
use Rattle.fmp_search.specs.Growth.{AreFound}
use Rattle.fmp_search.specs.Forever.{ForEver, is_bit, test_of, mark_at, AreClosed, AreEarned, AreNearest}
use Rattle.fmp_search.specs.Stays.{AreEntered, Covers, HasWithin}
use Rattle.fmp_search.proofs.Lasting.{is_marked, sound, free_there, enters_near}
use Rattle.fmp_search.proofs.Layers.{complete-all}

pub within_more : (o : Option Run) (n m : ℕ) → HasWithin o n → n ≤ m → HasWithin o m
within_more None n m h le = h
within_more (Some r) n m h le = omega (arith, h, le)

module _ {P : Type 0} (after : P → ℕ → Option P) (passes : P → ℕ → ℕ) (q : P) (nodes : List Node) (chart : Chart) (charted : IsCharted after passes q nodes chart) (whole : chart.opened ≡ length nodes + 1) where
  pub covers_by :
      (test : ℕ) (marks : List Bool) (best : Option Run) → AreClosed after (test_of passes test) q nodes marks → AreEarned after (test_of passes test) q nodes marks →
      AreNearest after q nodes → AreEntered after q nodes chart.edges marks test best → Covers after passes q test best
  covers_by test marks best closed earned nearest entered others ends =
      let it = enters_near after (test_of passes test) q nodes marks earned nearest others ends in
      let enters = it.enters in
      let few = enters.few in
      let step = charted.joined it.place it.step (omega (arith, few, whole)) (found_at after q nodes enters.next).place enters.goes in
      let sure = charted.sure step.number step.edge step.is_one in
      let by = subst (λ n. is_bit (passes (found_at after q nodes it.place).place n) test ≡ true) (sym step.by) enters.passes in
      let from = subst (λ n. is_bit (passes (found_at after q nodes n).place step.edge.step) test ≡ true) (sym step.leaves) by in
      let passed : is_bit step.edge.passes test ≡ true = subst (λ m. is_bit m test ≡ true) (sym sure.report) from in
      let there : ForEver after (test_of passes test) (found_at after q nodes step.edge.to).place =
      subst (λ (x : P). ForEver after (test_of passes test) x) (sym step.comes) (sound after (test_of passes test) q nodes marks closed enters.next enters.free) in
      let free = free_there after (test_of passes test) q nodes marks earned step.edge.to sure.to there (is_marked (mark_at marks step.edge.to)) in
      let within = entered step.number step.edge step.is_one passed free in
      within_more best _ (length others) (subst (λ n. HasWithin best ((found_at after q nodes n).depth + 1)) step.leaves within) it.near

  all_opened : AreOpened after q nodes (length nodes + 1)
  all_opened j s r lt goes =
      let step = charted.joined j s (omega (arith, lt, whole)) r goes in
      let sure = charted.sure step.number step.edge step.is_one in
      (step.edge.to, sure.to, step.comes)

  pub nearest_by : (n : ℕ) → AreFound after q n nodes → AreNearest after q nodes
  nearest_by n x steps r leads =
      let got = complete-all after (λ p. true) q nodes n x.complete all_opened x.near (length steps) steps r (omega arith) leads in
      let lt = got.1 in
      (got.0, omega (arith, lt), got.2, got.3)
