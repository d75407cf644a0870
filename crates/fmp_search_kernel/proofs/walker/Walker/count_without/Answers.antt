use Rattle.std.proofs.Common.{◌≡◌, ◌∙◌, length, refl, subst, arith}
use Rattle.std.specs.Prelude.{slice_index}
use Rattle.fmp_search_kernel.specs.Keys.{KeptPlaces}
use Rattle.fmp_search_kernel.specs.Walked.{origin_of}
use Rattle.fmp_search_kernel.specs.Weights.{TellsKey}
use Rattle.fmp_search_kernel.proofs.Weighed.{left_of, none_gathered, one_gathered}
use Rattle.fmp_search_kernel.proofs.walker.Walker.count_without.Goals as goal

pub loop-key-init : goal.loop-key-init
loop-key-init c = record {
  gathered = none_gathered (TellsKey (origin_of c.args.self.now.place) c.args.tables.now c.args.spot) c.args.keys.now _ c.new-kept.ensures;
  same = refl;
  parts = refl;
  words = refl;
}

pub put_without-requires-clause-kept : goal.put_without-requires-clause-kept
put_without-requires-clause-kept c = rw c.loop-key.invariant.same (c.requires.kept c.loop-key.key-index c.loop-key-test.true)

pub loop-key-preserved : goal.loop-key-preserved
loop-key-preserved c =
    let inv = c.loop-key.invariant in
    let list = subst (λ (t : KeptPlaces). TellsKey (origin_of c.args.self.now.place) t c.args.spot (slice_index c.args.keys.now c.loop-key.key-index) c.put_without.new.list) inv.same c.in_ok-put_without.ensures.list in record {
      gathered =
          one_gathered (TellsKey (origin_of c.args.self.now.place) c.args.tables.now c.args.spot) c.args.keys.now c.loop-key.key-index c.in_ok-number_of.field-0 c.loop-key.kept c.number_of.new.self
          c.put_without.new.list inv.gathered list c.in_ok-number_of.ensures.is c.number_of.ensures.kept c.in_ok-number_of.ensures.added;
      same = c.put_without.ensures.same ∙ inv.same;
      parts = c.put_without.ensures.parts ∙ inv.parts;
      words = c.put_without.ensures.words ∙ inv.words;
    }

pub returns-clause-left : goal.returns-clause-left
returns-clause-left c =
    let past = c.loop-key-test.false in
    let end = c.loop-key.auto.key-index-end in
    let done : c.loop-key.key-index ≡ length c.args.keys.now = omega (arith, past, end) in
    left_of (TellsKey (origin_of c.args.self.now.place) c.args.tables.now c.args.spot) c.args.keys.now c.loop-key.key-index c.len.result c.loop-key.kept c.loop-key.invariant.gathered done c.validity.ensures.distinct
    c.len.ensures

pub returns-in_err-put_without-clause-same : goal.returns-in_err-put_without-clause-same
returns-in_err-put_without-clause-same c = c.put_without.ensures.same ∙ c.loop-key.invariant.same

pub returns-in_err-number_of-clause-same : goal.returns-in_err-number_of-clause-same
returns-in_err-number_of-clause-same c = c.put_without.ensures.same ∙ c.loop-key.invariant.same

pub returns-clause-same : goal.returns-clause-same
returns-clause-same c = c.loop-key.invariant.same
