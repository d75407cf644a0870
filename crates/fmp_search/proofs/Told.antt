-- What is told by how a search went.
use Rattle.std.proofs.Common.{◌≡◌, ◌+◌, ◌==◌, ◌<◌, ℕ, Bool, true, false, List, Option, None, Some, length, refl, subst, sym, arith, rules}
use Rattle.std.specs.Prelude.{IfSome}
use Rattle.std.proofs.lemmas.Bool.{eqb-false, eqb-true}
use Rattle.fmp_search.specs.declared.extent.Extent.{Extent}
use Rattle.fmp_search.specs.declared.layer.Layer.{Layer}
use Rattle.fmp_search.specs.declared.layer.Layer.TheVariants as layer
use Rattle.fmp_search.specs.declared.meeting.Met.{Met}
use Rattle.fmp_search.specs.declared.nodes.Node.{Node}
use Rattle.fmp_search.specs.declared.surveying.Survey.{Survey}
use Rattle.fmp_search.specs.Answers.{Explored, IsEndedBy, Says}
use Rattle.fmp_search.specs.Extents.{HasExtent, IsExtentBeside, Went, WentAlong}
use Rattle.fmp_search.specs.Growth.{IsOverBy}
use Rattle.fmp_search.specs.Meeting.{AreNoted, IsMetBeside, Meets}
use Rattle.fmp_search.specs.Surveys.{answer_by, met_by, met_of, GoesSo, IsThrough, Surveys}
use Rattle.fmp_search.proofs.Extents.{all_near}
use Rattle.fmp_search.proofs.Farther.{stops_full, stops_last}
use Rattle.fmp_search.proofs.Layers.{none-ever, none-within}
use Rattle.fmp_search.proofs.Numbers.{report_within, within_marked, all_marked}

meets : {P : Type 0} (after : P → ℕ → Option P) (tells : P → ℕ → ℕ) (wanted : P → Bool) (q : P) (nodes : List Node) (n opened turns count : ℕ) (m : Met) →
    IsThrough after wanted q turns nodes n opened → AreNoted after tells q nodes m.marks.items opened 0 → length m.marks.items ≡ count → (m.whole ≡ true → opened ≡ length nodes + 1) →
    Meets after tells q turns count m
meets after tells wanted q nodes n opened turns count m through noted long whole = record {
  as_many = long;
  report = λ k is. report_within after tells q nodes wanted n opened turns m.marks.items through.explored through.passed noted.before k
      (noted.near k is opened (omega arith) (λ lt. absurd (omega (arith, lt))));
  within = λ k lt report. within_marked after tells q nodes wanted n opened turns m.marks.items through.explored through.passed noted.before k (subst (λ c. k < c) (sym long) lt) report;
  all = λ is k lt report. all_marked after tells q nodes wanted n opened turns m.marks.items through.explored through.passed noted.before (whole is) k (subst (λ c. k < c) (sym long) lt) report;
}

module _ {P : Type 0} (after : P → ℕ → Option P) (passes tells : P → ℕ → ℕ) (wanted : P → Bool) (q : P) (turns room : ℕ) (over kept : Bool) (count : ℕ) (s : Survey)
    (x : Surveys after passes tells wanted q turns room over kept count s) where
  abbrev places : ℕ
  places = length s.nodes.items + 1

  -- what is told where all steps were tried is so
  pub met_says : (how : Layer) → s.how ≡ how → IfSome (met_by how s.chart places) (Meets after tells q turns count)
  met_says (layer.Found steps) is = tt
  met_says layer.Full is = tt
  met_says layer.Wanting is = tt
  met_says layer.Over is = tt
  met_says layer.Done is =
      meets after tells wanted q s.nodes.items s.depth s.chart.opened turns count (record { marks = s.chart.marks; whole = s.chart.opened == places })
      (subst (λ (how : Layer). GoesSo after wanted q turns room s.nodes.items s.depth s.chart.opened how) is x.through) (x.surveyed.noted is) x.marks (λ w. eqb-true s.chart.opened places w)

  -- what is told beside what was gone through is so
  pub says : IfSome (met_of s) (Meets after tells q turns count)
  says = met_says s.how refl

  goes : (how : Layer) → s.how ≡ how → GoesSo after wanted q turns room s.nodes.items s.depth s.chart.opened how
  goes how is = subst (λ (how : Layer). GoesSo after wanted q turns room s.nodes.items s.depth s.chart.opened how) is x.through

  -- the answer is so
  pub answers : (how : Layer) (whole : Bool) → s.how ≡ how → whole ≡ (s.chart.opened == places) → Says after wanted q turns room (answer_by how s.depth whole)
  answers (layer.Found steps) whole is all = let through = goes _ is in (through.1, through.2)
  answers layer.Full whole is all =
      let through = goes _ is in (through.1, stops_full after q s.nodes.items s.depth turns room x.surveyed.found through.0 through.2 through.3)
  answers layer.Wanting whole is all = goes _ is
  answers layer.Over whole is all = goes _ is
  answers layer.Done true is all =
      let same = eqb-true s.chart.opened places (sym all) in
      none-ever after wanted q s.nodes.items s.depth places (subst (λ n. Explored after wanted q s.nodes.items s.depth places n) same (goes _ is).explored) refl
  answers layer.Done false is all =
      let through = goes _ is in (
        none-within after wanted q s.nodes.items s.depth places s.chart.opened through.explored,
        stops_last after q s.nodes.items s.depth turns wanted room s.chart.opened through (eqb-false s.chart.opened places (sym all)),
      )

  -- how far the search went is so
  along : (e : Option Extent) → HasExtent s.nodes.items e → WentAlong after q s.depth e
  along None extent = absurd extent
  along (Some e) extent =
      let all = x.surveyed.found in (s.nodes.items, record { tree = all.tree; distinct = all.distinct; extent = extent }, all.complete)

  pub went : (how : Layer) (whole : Bool) (e : Option Extent) → s.how ≡ how → whole ≡ (s.chart.opened == places) → IsExtentBeside s.nodes.items how e → Went after q (answer_by how s.depth whole) e
  went (layer.Found steps) whole e is all extent = extent
  went layer.Full whole e is all extent = along e extent
  went layer.Wanting whole e is all extent = along e extent
  went layer.Over whole e is all extent = along e extent
  went layer.Done true None is all extent = absurd extent
  went layer.Done true (Some e) is all extent =
      let same = eqb-true s.chart.opened places (sym all) in
      let found = x.surveyed.found in (
        s.nodes.items,
        record { tree = found.tree; distinct = found.distinct; extent = extent },
        all_near after q wanted s.nodes.items s.depth s.chart.opened (goes _ is).explored same,
      )
  went layer.Done false e is all extent = along e extent

  -- which numbers are known beside the answer
  pub beside : (how : Layer) (whole : Bool) → s.how ≡ how → whole ≡ (s.chart.opened == places) → IsMetBeside turns (answer_by how s.depth whole) (met_by how s.chart places)
  beside (layer.Found steps) whole is all = tt
  beside layer.Full whole is all = λ none. (goes _ is).0
  beside layer.Wanting whole is all = tt
  beside layer.Over whole is all = tt
  beside layer.Done true is all = sym all
  beside layer.Done false is all = λ none. absurd (search (rules, none))

-- where who may end a search ended it, the answer says so
pub ends : (over whole : Bool) (n : ℕ) (how : Layer) → IsOverBy over how → IsEndedBy over (answer_by how n whole)
ends over whole n (layer.Found steps) by = tt
ends over whole n layer.Full by = tt
ends over whole n layer.Wanting by = tt
ends over whole n layer.Over by = by
ends over true n layer.Done by = tt
ends over false n layer.Done by = tt
