use Rattle.std.proofs.Common.{◌≡◌, ◌<◌, ℕ, List, ap, sym, subst, length, arith}
use Rattle.std.specs.Prelude.{slice_index, IfOk}
use Rattle.std.proofs.lemmas.Option.{slice_get-get_or}
use Rattle.fmp_search.specs.First.{AreFirst}
use Rattle.fmp_search.specs.Trees.{found_at}
use Rattle.fmp_search_orders.specs.Places.{Place, after}
use Rattle.fmp_search_kernel.specs.Keys.{IsPlaceKey, KeptPlaces}
use Rattle.fmp_search_kernel.specs.Walked.{origin_of}
use Rattle.fmp_search_kernel.specs.Weights.{AreLeftEach}
use Rattle.fmp_search_walks.proofs.left.without_each.Goals as goal

-- each of the first places has a key, also for one whose runs begin at a place that is the same
keyed : (o p : Place) (kept : KeptPlaces) (turns : ℕ) (keys list : List ℕ) → p ≡ o → list ≡ keys → AreFirst after (IsPlaceKey o kept) o turns keys →
    (i : ℕ) → i < length list → (r : Place) × IsPlaceKey p kept (slice_index list i) r
keyed o p kept turns keys list origin same first i lt =
    let many = ap length same in
    let place = (found_at after o first.nodes i).place in (
      place,
      subst (λ (q : Place). IsPlaceKey q kept (slice_index list i) place) (sym origin)
          (subst (λ (l : List ℕ). IsPlaceKey o kept (slice_index l i) place) (sym same) (first.keyed.each i _ (slice_get-get_or keys i 0 (omega (arith, lt, many))))),
    )

pub left_without-requires : goal.left_without-requires
left_without-requires c =
    let too = ap origin_of c.in_ok-walker.ensures in
    keyed _ _ _ _ _ _ too c.deref.ensures.value c.requires

pub returns-clause-left : goal.returns-clause-left
returns-clause-left c =
    let too = ap origin_of c.in_ok-walker.ensures in
    let first = c.args.first.now in
    subst (λ (o : Place). IfOk c.left_without.result (λ v. AreLeftEach o first.tables first.keys.items v.items)) too
    (subst (λ (ks : List ℕ). IfOk c.left_without.result (λ v. AreLeftEach (origin_of c.in_ok-walker.walker.place) first.tables ks v.items)) c.deref.ensures.value c.left_without.ensures.left)
