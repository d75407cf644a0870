-- How a layer is opened, step by step.
use Rattle.std.proofs.Common.{◌≡◌, ◌⊎◌, inl, inr, ℕ, ◌+◌, ◌<◌, ◌≤◌, Bool, true, false, Option, None, Some, List, [], ◌∷◌, ◌++◌, length, refl, ap, sym, subst, ◌∙◌, arith, rules}
use Rattle.std.specs.Prelude.{slice_get}
use Rattle.std.proofs.Math.Nat.{eq-or-lt_of_le}
use Rattle.std.proofs.lemmas.Bool.{cases_lt}
use Rattle.std.proofs.lemmas.Grind.{common_steps}
use Rattle.fmp_search.specs.declared.chart.Chart.{Chart}
use Rattle.fmp_search.specs.declared.edges.Edge.{Edge}
use Rattle.fmp_search.specs.declared.layer.Layer.{Layer}
use Rattle.fmp_search.specs.declared.layer.Layer.TheVariants as layer
use Rattle.fmp_search.specs.declared.nodes.Node.{Node}
use Rattle.fmp_search.specs.Answers.{HasMore, IsShortest}
use Rattle.fmp_search.specs.Charts.{Adds, AreLeft}
use Rattle.fmp_search.specs.Fronts.{Advances, IsFront, IsOpen, IsStopped, Stays}
use Rattle.fmp_search.specs.Growth.{AreTried, Extends, IsTried}
use Rattle.fmp_search.specs.Keys.{AreKeyed}
use Rattle.fmp_search.specs.declared.space.Noted.{Noted}
use Rattle.fmp_search.specs.Runs.{AreClosed, told_of, Watches}
use Rattle.fmp_interned.specs.Keys.{AreKeptBy}
use Rattle.fmp_search.specs.Steps.{path_at}
use Rattle.fmp_search.specs.Trees.{Found, found_at, Has, IsAt, IsNew, IsRunOver, Stands}
use Rattle.fmp_search.proofs.Branches.{run_over}
use Rattle.fmp_search.proofs.Charted.{charted_there, charting_more, charting_next, charting_same, edge_is_true, joined_by, none_needed, none_there, not_there, step_there}
use Rattle.fmp_search.proofs.Growth.{found_here, stepped, tried_at, tried_more}
use Rattle.fmp_search.proofs.Keys.{keyed_later, keyed_more}
use Rattle.fmp_search.proofs.Layers.{is-shortest}
use Rattle.fmp_search.proofs.Marking.{none_marked, noted_more, noted_next, not_marked}

one_more : (steps : List ℕ) (s n : ℕ) → length steps ≤ n → length (steps ++ s ∷ []) ≤ n + 1
one_more steps s n few = grind (arith, common_steps, few)

-- what stays over steps, and over more of them, stays over all
pub stays_on : {P X : Type 0} (origin : X → P) (q : P) (w b v a : X) (most mid room : ℕ) (kept : Bool) (count : ℕ) (between new : Chart) →
    Stays origin q w b most mid kept count between → Stays origin (origin w) v a mid room between.kept (length between.marks.items) new → Stays origin q v a most room kept count new
stays_on origin q w b v a most mid room kept count between new one two = record {
  walker_origin = two.walker_origin ∙ one.walker_origin;
  base_origin = two.base_origin ∙ one.walker_origin;
  same_room = two.same_room ∙ one.same_room;
  same = two.same ∙ one.same;
  marks = two.marks ∙ one.marks;
}

module _ {P : Type 0} (after : P → ℕ → Option P) (q : P) where
  pub none_closed : (p : P) → AreClosed after p 0
  none_closed p s is = absurd (grind (arith, common_steps, is))

  pub none_tried : (nodes : List Node) (at : ℕ) → AreTried after q nodes at 0
  none_tried nodes at s lt = absurd (omega (arith, lt))

  pub extends_same : (nodes : List Node) → Extends after q nodes nodes
  extends_same nodes = record { longer = omega arith; stays = λ i le. refl }

  opened_next : (nodes : List Node) (at m : ℕ) → ((j s : ℕ) (r : P) → j < at → after (found_at after q nodes j).place s ≡ Some r → Has after q nodes r) → AreTried after q nodes at m →
      ((t : ℕ) → m ≤ t → IsTried after q nodes at t) → (j s : ℕ) (r : P) → (j ≡ at) ⊎ (j < at) → (s < m) ⊎ (m ≤ s) → after (found_at after q nodes j).place s ≡ Some r → Has after q nodes r
  opened_next nodes at m early tried rest j s r (inr lt) which goes = early j s r lt goes
  opened_next nodes at m early tried rest j s r (inl is) (inl lt) goes = tried s lt r (subst (λ k. after (found_at after q nodes k).place s ≡ Some r) is goes)
  opened_next nodes at m early tried rest j s r (inl is) (inr le) goes = rest s le r (subst (λ k. after (found_at after q nodes k).place s ≡ Some r) is goes)

module _ {P X : Type 0} (place : X → P) (room : X → ℕ) (origin : X → P) (after : P → ℕ → Option P) (q : P) where
  -- one stands at the same place where others were added
  pub stands_there : (nodes more : List Node) (i : ℕ) (w : X) → i ≤ length nodes → Extends after q nodes more → Stands place room origin after q nodes i w → Stands place room origin after q more i w
  stands_there nodes more i w low extends at = record {
    same = at.same;
    there = at.there ∙ sym (ap (λ (f : Found P). f.place) (extends.stays i low));
    roomy = at.roomy;
  }

module _ {P : Type 0} (after : P → ℕ → Option P) (IsKey : ℕ → P → Type 0) (keys : List ℕ) (wanted : P → Bool) (q : P) (n first : ℕ) where
  abbrev Front : List Node → ℕ → ℕ → Type 0
  Front nodes at step = IsFront after IsKey keys wanted q n first nodes at step

  -- there are more keys
  pub front_later : (later : ℕ → P → Type 0) (nodes : List Node) (at step : ℕ) → AreKeptBy IsKey later → Front nodes at step → IsFront after later keys wanted q n first nodes at step
  front_later later nodes at step kept x = record { explored = x.explored; tried = x.tried; keyed = keyed_later after q IsKey later keys nodes kept x.keyed }

  -- a step led to a place that was found before
  pub front_known : (nodes : List Node) (at step number : ℕ) (r : P) → at < first → after (found_at after q nodes at).place step ≡ Some r → IsAt after q nodes number r →
      Front nodes at step → Front nodes at (step + 1) × Extends after q nodes nodes × IsAt after q nodes number r
  front_known nodes at step number r lt made is x =
      let few = x.explored.few in
      let low : at ≤ length nodes = omega (arith, lt, few) in
      let same = extends_same after q nodes in (
        record {
          explored = x.explored;
          tried = tried_more after q nodes nodes at step low same x.tried (tried_at after q nodes nodes at step number r low made same is);
          keyed = x.keyed;
        },
        same,
        is,
      )

  -- or to one that was added
  pub front_more : (next : List ℕ) (nodes more : List Node) (at step key number : ℕ) (r : P) → next ≡ keys ++ key ∷ [] → at < first → after (found_at after q nodes at).place step ≡ Some r → wanted r ≡ false →
      IsNew after q nodes r → IsKey key r → more ≡ nodes ++ record { parent = at; step = step } ∷ [] → number ≡ length more → Front nodes at step →
      IsFront after IsKey next wanted q n first more at (step + 1) × Extends after q nodes more × IsAt after q more number r
  front_more next nodes more at step key number r same lt made clean new of is last x =
      let node : Node = record { parent = at; step = step } in
      let got = stepped after q wanted nodes more n first at node r x.explored lt refl made clean new is in
      let few = x.explored.few in
      let low : at ≤ length nodes = omega (arith, lt, few) in
      let long : length more ≡ length nodes + 1 = ap (λ (ns : List Node). length ns) is ∙ grind (arith, common_steps) in (
        record {
          explored = got.0;
          tried = tried_more after q nodes more at step low got.1 x.tried (tried_at after q nodes more at step _ r low made got.1 got.2);
          keyed = subst (λ (ks : List ℕ). AreKeyed after IsKey q ks more) (sym same) (subst (λ (ns : List Node). AreKeyed after IsKey q (keys ++ key ∷ []) ns) (sym is)
              (keyed_more after q IsKey keys nodes key node r x.keyed of (subst (λ (ns : List Node). IsAt after q ns (length nodes + 1) r) is got.2)));
        },
        got.1,
        subst (λ m. IsAt after q more m r) (sym (last ∙ long)) got.2,
      )

module _ {P : Type 0} (after : P → ℕ → Option P) (IsKey : ℕ → P → Type 0) (keys : List ℕ) (passes tells : P → ℕ → ℕ) (wanted : P → Bool) (q : P) (n first : ℕ) where
  abbrev Open : List Node → Chart → ℕ → ℕ → Type 0
  Open nodes chart at step = IsOpen after IsKey keys passes tells wanted q n first nodes chart at step

  -- no more steps are tried
  pub stopped_here : (nodes : List Node) (chart : Chart) (at step : ℕ) → at < first → Open nodes chart at step → IsStopped after passes q n nodes chart
  stopped_here nodes chart at step lt x =
      let few = x.front.explored.few in
      let opened = x.charting.opened in record {
        found = found_here after q wanted nodes n first at x.front.explored;
        charted = x.charting.charted;
        short = λ is k e get. let near = x.front.explored.near e.from (x.charting.early is k e get first (omega (arith, lt)) (λ some. lt)) in omega (arith, near);
        left = omega (arith, lt, few, opened);
      }

  -- what is known where not all steps were tried is the same for later ones
  pub stops_on : (most : ℕ) (over : Bool) (nodes : List Node) (chart : Chart) (at step later next : ℕ) (how : Layer) → (how ≡ layer.Done → ⊥) →
      Advances after IsKey keys passes tells wanted q n first most false nodes chart at step how → Advances after IsKey keys passes tells wanted q n first most over nodes chart later next how
  stops_on most over nodes chart at step later next (layer.Found steps) not x = x
  stops_on most over nodes chart at step later next layer.Full not x = x
  stops_on most over nodes chart at step later next layer.Wanting not x = x
  stops_on most over nodes chart at step later next layer.Over not x = absurd (let is = x.1 in search (rules, is))
  stops_on most over nodes chart at step later next layer.Done not x = absurd (not refl)

  module _ (nodes : List Node) (chart : Chart) (at step : ℕ) (x : Open nodes chart at step) (lt : at < first) (p r : P) (there : p ≡ (found_at after q nodes at).place) where
    -- a step cannot be made
    pub open_same : Watches (after p step) (told_of passes tells p step) None r → Open nodes chart at (step + 1)
    open_same none =
        let few = x.front.explored.few in
        let low : at ≤ length nodes = omega (arith, lt, few) in
        let last : IsTried after q nodes at step = λ y goes. absurd (none_there after passes tells q nodes (after p step) (told_of passes tells p step) r y none (subst (λ (z : P). after z step ≡ Some y) (sym there) goes)) in
        record {
          front = record {
            explored = x.front.explored;
            tried = tried_more after q nodes nodes at step low (extends_same after q nodes) x.front.tried last;
            keyed = x.front.keyed;
          };
          charting = charting_same after passes tells q nodes chart at step (not_there after passes tells q nodes chart.edges at step p r there none)
              (not_marked after passes tells p (found_at after q nodes at).place r chart.marks.items step there none) x.charting;
        }

    module _ (t : Noted) (watched : Watches (after p step) (told_of passes tells p step) (Some t) r) where
      pub goes_there : after (found_at after q nodes at).place step ≡ Some r
      goes_there = subst (λ (y : P). after y step ≡ Some r) there (step_there after passes tells q nodes p r step t watched).0

      -- it leads to a place that is looked for
      pub found_there : (steps : List ℕ) → wanted r ≡ true → IsRunOver after q nodes at step steps →
          IsStopped after passes q n nodes chart × (length steps ≤ n + 1) × IsShortest after wanted q steps
      found_there steps is over_it =
          let near = x.front.explored.near at lt in
          let count = over_it.count in
          let few : length over_it.before ≤ n = omega (arith, count, near) in (
            stopped_here nodes chart at step lt x,
            subst (λ (ss : List ℕ). length ss ≤ n + 1) (sym over_it.is) (one_more over_it.before step n few),
            subst (λ (ss : List ℕ). IsShortest after wanted q ss) (sym over_it.is)
                (is-shortest after wanted q nodes n first at step over_it.before r x.front.explored lt over_it.leads few goes_there is),
          )

      -- or to another for which there is no room
      pub more_there : IsNew after q nodes r → HasMore after q nodes (n + 1)
      more_there new =
          let e = x.front.explored in
          let few = e.few in
          let low : at ≤ length nodes = omega (arith, lt, few) in
          let over = run_over after q nodes at step r e.tree low goes_there in
          let near = e.near at lt in
          let long = over.1 in
          record { steps = path_at nodes at ++ step ∷ []; place = r; short = omega (arith, near, long); leads = over.0; new = new }

      -- or for which there is, and its edge was not added
      pub stopped_more : (later : ℕ → P → Type 0) (next : List ℕ) (more : List Node) (new : Chart) → IsFront after later next wanted q n first more at (step + 1) → Extends after q nodes more → AreLeft chart new →
          IsStopped after passes q n more new
      stopped_more later next more new front extends left =
          let few = x.front.explored.few in
          let longer = extends.longer in
          let was = x.charting.opened in
          let opened = left.opened in record {
            found = found_here after q wanted more n first at front.explored;
            charted = λ kept. charted_there after passes tells q nodes more extends chart new left.opened left.edges (x.charting.charted (sym left.kept ∙ kept));
            short = λ kept k e get.
                let was = subst (λ (es : List Edge). slice_get es k ≡ Some e) left.edges get in
                let near = front.explored.near e.from (x.charting.early (sym left.kept ∙ kept) k e was first (omega (arith, lt)) (λ some. lt)) in
                omega (arith, near);
            left = omega (arith, lt, few, longer, was, opened);
          }

      -- or it was added
      pub open_more : (later : ℕ → P → Type 0) (next : List ℕ) (more : List Node) (new : Chart) (number : ℕ) → IsFront after later next wanted q n first more at (step + 1) → Extends after q nodes more → IsAt after q more number r →
          Adds (record { passes = t.passes; from = at; to = number; step = step }) t.number chart new →
          IsOpen after later next passes tells wanted q n first more new at (step + 1)
      open_more later next more new number front extends is adds =
          let few = x.front.explored.few in
          let low : at ≤ length nodes = omega (arith, lt, few) in
          let longer = extends.longer in
          let low_more : at ≤ length more = omega (arith, low, longer) in
          let there_now = there ∙ sym (ap (λ (f : Found P). f.place) (extends.stays at low)) in
          record {
            front = front;
            charting = charting_more after passes tells q nodes more extends chart new at step _ refl low adds.opened adds.kept adds.added
                (edge_is_true after passes tells q more at step t number p r low_more there_now watched is)
                (λ kept. joined_by after passes tells q more chart.edges new.edges at step t number p r (adds.added (sym adds.kept ∙ kept)) there_now watched is)
                (noted_more after passes tells q nodes more extends chart.marks.items new.marks.items at step t p r low adds.noted there_now watched x.charting.noted)
                x.charting;
          }

  -- all steps of a place were tried
  pub open_next : (nodes : List Node) (chart : Chart) (at m : ℕ) (p : P) → at < first → p ≡ (found_at after q nodes at).place → ((t : ℕ) → m ≤ t → after p t ≡ None) →
      Open nodes chart at m → Open nodes (record chart { opened = at + 1 }) (at + 1) 0
  open_next nodes chart at m p lt there none x =
      let e = x.front.explored in
      let few = e.few in
      let low : at ≤ length nodes = omega (arith, lt, few) in
      let rest : (t : ℕ) → m ≤ t → IsTried after q nodes at t = λ t le r goes. absurd (
      let is : None ≡ Some r = sym (none t le) ∙ subst (λ (y : P). after y t ≡ Some r) (sym there) goes in search (rules, is)
      ) in
      record {
        front = record {
          explored = record {
            tree = e.tree;
            distinct = e.distinct;
            few = e.few;
            clean = e.clean;
            near = e.near;
            depths = e.depths;
            complete = e.complete;
            all_opened = λ j s r lt goes.
                opened_next after q nodes at m e.all_opened x.front.tried rest j s r (let le : j ≤ at = omega (arith, lt) in eq-or-lt_of_le le) (cases_lt s m) goes;
          };
          tried = λ s lt. absurd (omega (arith, lt));
          keyed = x.front.keyed;
        };
        charting = charting_next after passes tells q nodes chart at m low (λ t le. none_needed after passes tells q nodes chart.edges at t p there (none t le))
            (noted_next after passes tells q nodes chart.marks.items at m (λ t le. none_marked after passes tells p _ chart.marks.items t there (none t le)) x.charting.noted) x.charting;
      }
