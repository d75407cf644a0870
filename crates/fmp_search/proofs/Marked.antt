-- What the marks of a test say of places.
use Rattle.std.proofs.Common.{◌≡◌, ◌⊎◌, inl, inr, ℕ, ◌+◌, ◌<◌, ◌≤◌, Bool, true, false, Option, Some, List, [], ◌∷◌, length, refl, sym, subst, ◌∙◌, arith}
use Rattle.std.specs.Option.{option_and_then}
use Rattle.std.proofs.lemmas.Bool.{cases_lt, false≢true}
use Rattle.std.proofs.lemmas.List.{get_or_past}
use Rattle.fmp_search.specs.declared.nodes.Node.{Node}
use Rattle.fmp_search.specs.declared.chart.Chart.{Chart}
use Rattle.fmp_search.specs.Runs.{run}
use Rattle.fmp_search.specs.Trees.{found_at}
use Rattle.fmp_search.specs.Charts.{IsCharted}
use Rattle.fmp_search.specs.Forever.{GetsOut, is_bit, test_of, mark_at, AreClosed, AreEarned}
use Rattle.fmp_search.specs.Spreads.{AreWithin, IsWay, AreDue, IsSpread, AreKept, AreMarked, AreOpenFrom, HasFailing}

-- one of two, whether it is so
data Is (b : Bool) : Type 0 where
  so : b ≡ true → Is b
  not_so : b ≡ false → Is b

which : (b : Bool) → Is b
which true = so refl
which false = not_so refl

unmarked_if : (b : Bool) → (b ≡ true → ⊥) → Is b → b ≡ false
unmarked_if b never (so is) = absurd (never is)
unmarked_if b never (not_so is) = is

marked_if : (b : Bool) → (b ≡ false → ⊥) → Is b → b ≡ true
marked_if b never (so is) = is
marked_if b never (not_so is) = absurd (never is)

low_if : (marks : List Bool) (i : ℕ) → mark_at marks i ≡ false → (i < length marks) ⊎ (length marks ≤ i) → i < length marks
low_if marks i is (inl lt) = lt
low_if marks i is (inr le) = absurd (false≢true (sym is ∙ get_or_past marks i true le))

-- a number without a mark is not after the last
pub low : (marks : List Bool) (i : ℕ) → mark_at marks i ≡ false → i < length marks
low marks i is = low_if marks i is (cases_lt i (length marks))

module _ {P : Type 0} (after : P → ℕ → Option P) (passes : P → ℕ → ℕ) (q : P) (nodes : List Node) (test : ℕ) (chart : Chart) (charted : IsCharted after passes q nodes chart) where
  -- from the place where an edge leaves that fails the test, a run gets out
  ways :
      (over : List ℕ) (from to : ℕ) → IsWay chart.edges from over to → HasFailing chart.edges test to →
      GetsOut after (test_of passes test) (found_at after q nodes from).place
  ways [] from to is failing =
      let sure = charted.sure failing.number failing.edge failing.is_one in
      let there : failing.edge.from ≡ from = failing.leaves ∙ sym is in
      record {
        steps = [];
        place = (found_at after q nodes from).place;
        step = failing.edge.step;
        next = (found_at after q nodes failing.edge.to).place;
        leads = refl;
        goes = subst (λ n. after (found_at after q nodes n).place failing.edge.step ≡ Some (found_at after q nodes failing.edge.to).place) there sure.goes;
        fails = subst (λ n. is_bit (passes (found_at after q nodes n).place failing.edge.step) test ≡ false) there (subst (λ m. is_bit m test ≡ false) sure.report failing.fails);
      }
  ways (next ∷ rest) from to goes failing =
      let out = ways rest next to goes.1 failing in
      let one = goes.0 in
      let sure = charted.sure one.number one.edge one.is_one in
      let step = subst (λ n. after (found_at after q nodes n).place one.edge.step ≡ Some (found_at after q nodes one.edge.to).place) one.leaves sure.goes in
      let on : run after (found_at after q nodes one.edge.to).place out.steps ≡ Some out.place =
      subst (λ n. run after (found_at after q nodes n).place out.steps ≡ Some out.place) (sym one.comes) out.leads in
      let first : run after (found_at after q nodes from).place (one.edge.step ∷ out.steps) ≡ Some out.place =
      subst (λ o. option_and_then (λ r. run after r out.steps) o ≡ Some out.place) (sym step) on in
      record {
        steps = one.edge.step ∷ out.steps;
        place = out.place;
        step = out.step;
        next = out.next;
        leads = first;
        goes = out.goes;
        fails = out.fails;
      }

  -- both ends of each edge are places
  pub within : (marks : List Bool) → length marks ≡ length nodes + 1 → AreWithin chart.edges (length marks)
  within marks long k e one =
      let sure = charted.sure k e one in
      let from = sure.from in
      let to = sure.to in
      (omega (arith, long, from), omega (arith, long, to))

  end_low : (n : ℕ) → n ≡ length nodes + 1 → (over : List ℕ) (from to : ℕ) → from < n → IsWay chart.edges from over to → to < n
  end_low n is [] from to lt same = subst (λ m. m < n) same lt
  end_low n is (next ∷ rest) from to lt goes =
      let one = goes.0 in
      let sure = charted.sure one.number one.edge one.is_one in
      let few = sure.to in
      let comes = one.comes in
      end_low n is rest next to (omega (arith, few, comes, is)) goes.1

  early : (i : ℕ) → (chart.opened ≤ i → ⊥) → (i < chart.opened) ⊎ (chart.opened ≤ i) → i < chart.opened
  early i never (inl lt) = lt
  early i never (inr le) = absurd (never le)

  module _ (start first spread : List Bool) (long : length first ≡ length nodes + 1) (long' : length spread ≡ length nodes + 1) (failing : AreMarked chart.edges test first)
      (opened : AreOpenFrom chart.opened start) (begun : AreKept start first) (kept : AreKept first spread) (done : IsSpread chart.edges spread) where
    pub closed : AreClosed after (test_of passes test) q nodes spread
    closed i s r free goes =
        let lt = early i (λ le. false≢true (sym free ∙ kept i (begun i (opened.marked i le)))) (cases_lt i chart.opened) in
        let step = charted.joined i s lt r goes in
        let sure = charted.sure step.number step.edge step.is_one in
        let here = λ (is : mark_at spread step.edge.from ≡ true). false≢true (sym free ∙ subst (λ n. mark_at spread n ≡ true) step.leaves is) in
        let passed : is_bit step.edge.passes test ≡ true =
        marked_if (is_bit step.edge.passes test) (λ fails. here (kept step.edge.from (failing step.number step.edge step.is_one fails))) (which (is_bit step.edge.passes test)) in
        let report = subst (λ m. is_bit m test ≡ true) sure.report passed in
        let from = subst (λ n. is_bit (passes (found_at after q nodes n).place step.edge.step) test ≡ true) step.leaves report in
        let by = subst (λ n. is_bit (passes (found_at after q nodes i).place n) test ≡ true) step.by from in
        let next = unmarked_if (mark_at spread step.edge.to) (λ is. here (done step.number step.edge step.is_one is)) (which (mark_at spread step.edge.to)) in
        (by, (step.edge.to, next, step.comes))

    pub earned :
        AreDue chart.edges first spread → ((i : ℕ) → i < length first → mark_at first i ≡ true → (mark_at start i ≡ true) ⊎ HasFailing chart.edges test i) →
        chart.opened ≡ length nodes + 1 → AreEarned after (test_of passes test) q nodes spread
    earned due from whole i few marked =
        let way = due i (omega (arith, few, long')) marked in
        let lt = end_low (length first) long way.over i way.to (omega (arith, few, long)) way.goes in
        ways way.over i way.to way.goes (failing_of way.to (omega (arith, lt, long, whole)) (from way.to lt way.marked))
      where
        failing_of : (n : ℕ) → n < chart.opened → (mark_at start n ≡ true) ⊎ HasFailing chart.edges test n → HasFailing chart.edges test n
        failing_of n lt (inl is) = absurd (false≢true (sym (opened.shut n lt) ∙ is))
        failing_of n lt (inr is) = is
