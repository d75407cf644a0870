use Rattle.std.proofs.Common.{◌≡◌, ◌∙◌, ◌+◌, ◌<◌, ℕ, List, ◌∷◌, [], ◌++◌, length, ap, sym, subst, arith}
use Rattle.std.specs.Prelude.{slice_index}
use Rattle.std.proofs.lemmas.Grind.{common_steps}
use Rattle.fmp_kernel_order.specs.Queues.{Queues}
use Rattle.fmp_kernel_packed.specs.Told.{things_of}
use Rattle.fmp_rules.specs.World.{World}
use Rattle.fmp_search_kernel.specs.declared.weights.Spot.{Spot}
use Rattle.fmp_search_kernel.specs.Keys.{count_of_words, KeptPlaces}
use Rattle.fmp_search_kernel.specs.Walked.{origin_of, Walked}
use Rattle.fmp_search_kernel.specs.Weights.{spot_of, AreLeft, TellsKey}
use Rattle.fmp_search_kernel.proofs.Weighed.{lefts_more, spot_part, spot_within}
use Rattle.fmp_search_kernel.proofs.walker.Walker.left_without.Goals as goal

longer : (xs : List ℕ) (x n : ℕ) → length xs ≡ n → length (xs ++ x ∷ []) ≡ n + 1
longer xs x n long = grind (arith, common_steps, long)

pub count_without-requires-clause-parts : goal.count_without-requires-clause-parts
count_without-requires-clause-parts c =
    let things = c.thing_count-things in
    let start = c.machine.ensures ∙ c.self.invariant.1 ∙ ap (λ (x : Walked). (origin_of x.place).machine) c.self.view_is in
    c.loop-thing.invariant.parts ∙ ap (λ n. n + 3) (things.ensures.value ∙ ap (λ (w : World Queues). things_of w) start)

pub count_without-requires-clause-part : goal.count_without-requires-clause-part
count_without-requires-clause-part c =
    let things = c.thing_count-things in
    let lt = c.loop-thing-test.true in
    let start = c.machine.ensures ∙ c.self.invariant.1 ∙ ap (λ (x : Walked). (origin_of x.place).machine) c.self.view_is in
    let many = things.ensures.value ∙ ap (λ (w : World Queues). things_of w) start in
    let part = ap (λ (s : Spot). s.part) c.spot_of-spot.ensures ∙ spot_part c.self.inside.config.now c.loop-thing.thing in
    omega (arith, lt, many, part)

pub count_without-requires-clause-position : goal.count_without-requires-clause-position
count_without-requires-clause-position c =
    let same = c.spot_of-spot.ensures ∙ ap (λ (x : Walked). spot_of x.place.config c.loop-thing.thing) c.self.view_is in
    subst (λ (s : Spot). s.position < count_of_words c.args.self.now.place.config) (sym same) (spot_within c.args.self.now.place.config c.loop-thing.thing)

pub loop-thing-preserved : goal.loop-thing-preserved
loop-thing-preserved c =
    let o = origin_of c.args.self.now.place in
    let t = c.args.tables.now in
    let keys = c.args.keys.now in
    let inv = c.loop-thing.invariant in
    let at = c.loop-thing.thing in
    let lefts = c.loop-thing.left.items in
    let n = c.in_ok-places.places in
    let same : c.spot_of-spot.result ≡ spot_of o.config at = c.spot_of-spot.ensures ∙ ap (λ (x : Walked). spot_of x.place.config at) c.self.view_is in
    let items = c.in_ok-push.ensures.items in record {
      same = c.count_without.ensures.same ∙ inv.same;
      parts = c.count_without.ensures.parts ∙ inv.parts;
      words = c.count_without.ensures.words ∙ inv.words;
      all = ap (λ (xs : List ℕ). length xs) items ∙ longer lefts n at inv.all;
      are = λ k lt.
          subst (λ (xs : List ℕ). AreLeft (TellsKey o t (spot_of o.config k)) keys (slice_index xs k)) (sym items)
          (lefts_more (λ k n. AreLeft (TellsKey o t (spot_of o.config k)) keys n) lefts at n inv.all inv.are
          (subst (λ (s : Spot). AreLeft (TellsKey o t s) keys n) same
          (subst (λ (x : KeptPlaces). AreLeft (TellsKey o x c.spot_of-spot.result) keys n) inv.same c.in_ok-places.ensures.left)) k lt);
    }

pub returns-clause-left : goal.returns-clause-left
returns-clause-left c =
    let inv = c.loop-thing.invariant in
    let past = c.loop-thing-test.false in
    let things = c.thing_count-things in
    let end = c.loop-thing.auto.thing-end in
    let done : c.loop-thing.thing ≡ things.result = omega (arith, past, end) in
    let start = c.machine.ensures ∙ c.self.invariant.1 ∙ ap (λ (x : Walked). (origin_of x.place).machine) c.self.view_is in record {
      once = c.validity.ensures.parts;
      all = inv.all ∙ done ∙ things.ensures.value ∙ ap (λ (w : World Queues). things_of w) start;
      are = λ k lt. let long = inv.all in inv.are k (omega (arith, lt, long));
    }

pub count_without-requires-clause-kept : goal.count_without-requires-clause-kept
count_without-requires-clause-kept c = rw c.loop-thing.invariant.same c.requires

pub returns-in_err-places-clause-same : goal.returns-in_err-places-clause-same
returns-in_err-places-clause-same c = c.count_without.ensures.same ∙ c.loop-thing.invariant.same

pub returns-in_err-push-clause-same : goal.returns-in_err-push-clause-same
returns-in_err-push-clause-same c = c.count_without.ensures.same ∙ c.loop-thing.invariant.same

pub returns-clause-same : goal.returns-clause-same
returns-clause-same c = c.loop-thing.invariant.same
