-- Marks of numbers that are told of steps.
use Rattle.std.proofs.Common.{◌≡◌, ℕ, zero, suc, ◌+◌, ◌<◌, ◌≤◌, Bool, true, false, rules, replicate, Option, Some, List, length, sym, subst, arith}
use Rattle.std.specs.Prelude.{slice_get}
use Rattle.fmp_search.specs.declared.nodes.Node.{Node}
use Rattle.fmp_search.specs.Trees.{found_at}
use Rattle.fmp_search.specs.Answers.{Explored}
use Rattle.fmp_search.specs.Surveys.{IsPassed}
use Rattle.fmp_search.specs.Steps.{path_at}
use Rattle.fmp_search.specs.Meeting.{IsMarked, IsNear, IsReported, IsReportedAt, IsReportedWithin}
use Rattle.fmp_search.proofs.Branches.{path_leads, path_long}
use Rattle.fmp_search.proofs.Extents.{all_near}

module _ {P : Type 0} (after : P → ℕ → Option P) (tells : P → ℕ → ℕ) where
  module _ (q : P) (nodes : List Node) where
    abbrev at : ℕ → P
    at i = (found_at after q nodes i).place

    module _ (wanted : P → Bool) (n first turns : ℕ) (marks : List Bool) (x : Explored after wanted q nodes n (length nodes + 1) first) (passed : IsPassed after q nodes turns first)
        (marked : (i s : ℕ) → i < first → IsMarked after tells (at i) marks s) where
      -- what is told of a step from one of the first places is told of a run of so many steps
      pub report_within : (k : ℕ) → IsNear after tells q nodes first k → IsReportedWithin after tells q turns k
      report_within k near =
          let early = near.early in
          let few = passed.few in
          let low : near.number ≤ length nodes = omega (arith, early, few) in
          let long = path_long after q nodes near.number x.tree low in
          let deep = passed.near near.number early in
          record {
            steps = path_at nodes near.number;
            place = at near.number;
            short = omega (arith, long, deep);
            leads = path_leads after q nodes near.number x.tree low;
            last = near.last;
          }

      at_place : (r : P) (k i : ℕ) → k < length marks → IsReportedAt after tells r k → i < first → at i ≡ r → slice_get marks k ≡ Some true
      at_place r k i lt last early is =
          let goes : after (at i) last.step ≡ Some last.next = subst (λ p. after p last.step ≡ Some last.next) (sym is) last.goes in
          let report : tells (at i) last.step ≡ k = subst (λ p. tells p last.step ≡ k) (sym is) last.report in
          subst (λ j. slice_get marks j ≡ Some true) report (marked i last.step early last.next goes (omega (arith, report, lt)))

      pub within_marked : (k : ℕ) → k < length marks → IsReportedWithin after tells q turns k → slice_get marks k ≡ Some true
      within_marked k lt report =
          let there = passed.through report.steps report.place report.short report.leads in
          at_place report.place k there.0 lt report.last there.1 there.2

      pub all_marked : first ≡ length nodes + 1 → (k : ℕ) → k < length marks → IsReported after tells q k → slice_get marks k ≡ Some true
      all_marked whole k lt report =
          let there = all_near after q wanted nodes n first x whole report.steps report.place report.leads in
          let low = there.1 in
          at_place report.place k there.0 lt report.last (omega (arith, low, whole)) there.2

-- where none was marked before, none is
pub no_mark : (n k : ℕ) → slice_get (replicate n false) k ≡ Some true → ⊥
no_mark zero k is = absurd (search (rules, is))
no_mark (suc n) zero is = cc
no_mark (suc n) (suc k) is = no_mark n k is
