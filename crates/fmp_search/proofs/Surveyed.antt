-- How a search through places went.
use Rattle.std.proofs.Common.{◌≡◌, ◌∙◌, inl, inr, ℕ, ◌+◌, ◌<◌, ◌≤◌, Bool, true, false, Option, List, [], length, refl, ap, sym, subst, arith}
use Rattle.std.proofs.lemmas.Option.{slice_get_within}
use Rattle.fmp_search.specs.declared.chart.Chart.{Chart}
use Rattle.fmp_search.specs.declared.edges.Edge.{Edge}
use Rattle.fmp_search.specs.declared.layer.Layer.{Layer}
use Rattle.fmp_search.specs.declared.layer.Layer.TheVariants as layer
use Rattle.fmp_search.specs.declared.nodes.Node.{Node}
use Rattle.fmp_search.specs.Answers.{Explored, IsShortest, NoneWithin}
use Rattle.fmp_search.specs.Charts.{AreFrom, AreShort}
use Rattle.fmp_search.specs.Fronts.{Advances, IsOpen, IsStopped}
use Rattle.fmp_search.specs.Growth.{AreFound, IsOverBy}
use Rattle.fmp_search.specs.Surveys.{GoesSo, IsPassed, IsThrough}
use Rattle.fmp_search.proofs.Growth.{found_here}
use Rattle.fmp_search.proofs.Layers.{explored-root, layer-more}
use Rattle.fmp_search.proofs.Passed.{all_passed}

module _ {P : Type 0} (after : P → ℕ → Option P) (q : P) where
  -- the place where all runs begin is that of all runs of no step
  pub found_none : (nodes : List Node) → nodes ≡ [] → AreFound after q 0 nodes
  found_none nodes is =
      subst (λ (ns : List Node). AreFound after q 0 ns) (sym is) (found_here after q (λ p. false) [] 0 1 0 (explored-root after (λ p. false) q refl))

  -- no run has fewer than no steps
  pub passed_none : (nodes : List Node) → IsPassed after q nodes 0 0
  passed_none nodes = record { few = omega arith; near = λ i lt. absurd (omega (arith, lt)); through = λ steps r lt leads. absurd (omega (arith, lt)) }

  -- edges from places that were found by fewer steps than so many
  pub short_none : (nodes : List Node) (edges : List Edge) (turns : ℕ) → edges ≡ [] → AreShort after q nodes edges turns
  short_none nodes edges turns is k e get = let lt = slice_get_within edges k e get in let long : length edges ≡ 0 = ap length is in absurd (omega (arith, lt, long))

  pub short_within : (nodes : List Node) (edges : List Edge) (n turns : ℕ) → n ≤ turns → AreShort after q nodes edges n → AreShort after q nodes edges turns
  short_within nodes edges n turns le short k e get = let near = short k e get in omega (arith, near, le)

  pub short_passed : (nodes : List Node) (edges : List Edge) (n first : ℕ) → AreFrom edges first 0 → IsPassed after q nodes n first → AreShort after q nodes edges n
  short_passed nodes edges n first early passed k e get = passed.near e.from (early k e get first (omega arith) (λ some. absurd (omega (arith, some))))

  module _ (wanted : P → Bool) where
    pub shortest_here : wanted q ≡ true → IsShortest after wanted q []
    shortest_here is = record { place = q; leads = refl; is_wanted = is; shortest = λ others r leads is. omega arith }

    -- there were no places to open
    pub through_all : (nodes : List Node) (n first turns : ℕ) → n ≤ turns → Explored after wanted q nodes n (length nodes + 1) first → first ≡ length nodes + 1 → IsPassed after q nodes n first →
        IsThrough after wanted q turns nodes n first
    through_all nodes n first turns le x all before = record {
      within = le;
      explored = x;
      near = before.near;
      ended = inl all;
      passed = all_passed after wanted q nodes n first turns x all before le;
    }

    -- or no steps to make
    pub through_last : (nodes : List Node) (n first turns : ℕ) → n ≡ turns → Explored after wanted q nodes n (length nodes + 1) first → IsPassed after q nodes n first →
        IsThrough after wanted q turns nodes turns first
    through_last nodes n first turns is x before = subst (λ k. IsThrough after wanted q turns nodes k first) is (record {
      within = omega (arith, is);
      explored = x;
      near = before.near;
      ended = inr is;
      passed = subst (λ k. IsPassed after q nodes k first) is before;
    })

module _ {P : Type 0} (after : P → ℕ → Option P) (IsKey : ℕ → P → Type 0) (keys : List ℕ) (passes tells : P → ℕ → ℕ) (wanted : P → Bool) (q : P) (n first most : ℕ) (over : Bool) (nodes : List Node)
    (chart : Chart) (at step : ℕ) where
  -- what is known where not all steps were tried
  pub stopped_by : (how : Layer) → (how ≡ layer.Done → ⊥) → Advances after IsKey keys passes tells wanted q n first most over nodes chart at step how →
      IsStopped after passes q n nodes chart × IsOverBy over how
  stopped_by (layer.Found steps) not x = (x.0, tt)
  stopped_by layer.Full not x = (x.0, tt)
  stopped_by layer.Wanting not x = (x, tt)
  stopped_by layer.Over not x = (x.0, x.1)
  stopped_by layer.Done not x = absurd (not refl)

  pub through_by : (how : Layer) (turns asked opened : ℕ) → (how ≡ layer.Done → ⊥) → n < turns → NoneWithin after wanted q n → most ≡ asked →
      Advances after IsKey keys passes tells wanted q n first most over nodes chart at step how → GoesSo after wanted q turns asked nodes n opened how
  through_by (layer.Found steps) turns asked opened not lt none same x = let few = x.1 in (omega (arith, lt), omega (arith, lt, few), x.2)
  through_by layer.Full turns asked opened not lt none same x = (lt, none, x.1 ∙ same, x.2)
  through_by layer.Wanting turns asked opened not lt none same x = (lt, none)
  through_by layer.Over turns asked opened not lt none same x = (lt, none)
  through_by layer.Done turns asked opened not lt none same x = absurd (not refl)

  -- where all steps from the places of a layer were tried, the next one begins
  pub open_layer : first ≡ at → IsOpen after IsKey keys passes tells wanted q n first nodes chart at 0 → IsOpen after IsKey keys passes tells wanted q (n + 1) (length nodes + 1) nodes chart at 0
  open_layer is x = record {
    front = record {
      explored = layer-more after wanted q nodes n at (subst (λ k. Explored after wanted q nodes n k at) is x.front.explored);
      tried = x.front.tried;
      keyed = x.front.keyed;
    };
    charting = x.charting;
  }
