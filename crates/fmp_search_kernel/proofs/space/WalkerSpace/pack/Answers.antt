use Rattle.std.proofs.Common.{◌∙◌, ◌/◌, ◌^◌, List, ℕ, [], refl, ap, sym, subst}
use Rattle.std.proofs.lemmas.List.{append-nil}
use Rattle.fmp_interned.specs.Trees.{IsTree}
use Rattle.fmp_interned.specs.Values.{IsBeginning}
use Rattle.fmp_kernel_packed.specs.Kept.{ArePartsBefore, KeptParts}
use Rattle.fmp_search_kernel.specs.Keys.{words_of, IsPlaceKey, KeptPlaces}
use Rattle.fmp_search_kernel.specs.Walked.{origin_of, Walked}
use Rattle.fmp_search_kernel.proofs.Keyed.{kernel_moved, place_kept, place_key}
use Rattle.fmp_search_kernel.proofs.space.WalkerSpace.pack.Goals as goal

all_first : (xs : List (List ℕ)) → IsBeginning xs xs
all_first xs = ([], sym (append-nil xs))

pub returns-in_err-packed-clause-kept : goal.returns-in_err-packed-clause-kept
returns-in_err-packed-clause-kept c =
    let t = c.tables.inside in
    place_kept (origin_of c.args.self.now.place) c.args.tables.now _ (subst (λ (x : KeptPlaces). ArePartsBefore x.parts c.pack.new.parts) c.tables.view_is c.pack.ensures.kept)
    (subst (λ (x : KeptPlaces). IsBeginning x.pairs t.lists) c.tables.view_is (all_first t.lists))

pub returns-in_err-words-clause-kept : goal.returns-in_err-words-clause-kept
returns-in_err-words-clause-kept c =
    let new = c.number_of_words.new.tables in
    let before = subst (λ (x : KeptPlaces). ArePartsBefore x.parts c.pack.new.parts) c.tables.view_is c.pack.ensures.kept in
    place_kept (origin_of c.args.self.now.place) c.args.tables.now new (subst (λ (x : KeptParts). ArePartsBefore c.args.tables.now.parts x) (sym c.number_of_words.ensures.parts) before)
    (subst (λ (x : KeptPlaces). IsBeginning x.pairs new.pairs) c.tables.view_is c.number_of_words.ensures.pairs)

pub returns-clause-kept : goal.returns-clause-kept
returns-clause-kept c =
    let new = c.number_of_words.new.tables in
    let before = subst (λ (x : KeptPlaces). ArePartsBefore x.parts c.pack.new.parts) c.tables.view_is c.pack.ensures.kept in
    place_kept (origin_of c.args.self.now.place) c.args.tables.now new (subst (λ (x : KeptParts). ArePartsBefore c.args.tables.now.parts x) (sym c.number_of_words.ensures.parts) before)
    (subst (λ (x : KeptPlaces). IsBeginning x.pairs new.pairs) c.tables.view_is c.number_of_words.ensures.pairs)

pub returns-clause-key : goal.returns-clause-key
returns-clause-key c =
    let s = c.self.inside in
    let new = c.number_of_words.new.tables in
    let place = c.args.self.now.place in
    let packed = c.in_ok-packed.packed in
    let key : IsPlaceKey (origin_of place) new c.joined.result place = record {
      origin = refl;
      packable = c.is_packable.ensures c.if-not-is_packable.false;
      counting = packed.counting;
      kernel =
          kernel_moved c.pack.new.parts new.parts s.start (origin_of place).machine s.kernel place.machine packed.machine (c.joined.result / 2 ^ 32) packed.counting packed.counting
          (sym c.number_of_words.ensures.parts) (c.self.invariant.1 ∙ ap (λ (x : Walked). (origin_of x.place).machine) c.self.view_is) (ap (λ (x : Walked). x.place.machine) c.self.view_is)
          (sym c.joined.ensures.upper) refl c.in_ok-packed.ensures.packed;
      tree = subst (λ (n : ℕ). IsTree new.pairs (words_of place packed.counting) n) (sym c.joined.ensures.lower) c.in_ok-words.ensures.is;
    } in
    place_key (origin_of place) new place c.joined.result c.validity.ensures.parts c.validity.ensures.pairs key
