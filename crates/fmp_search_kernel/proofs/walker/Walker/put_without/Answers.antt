use Rattle.std.proofs.Common.{◌∙◌, ◌+◌, ◌-◌, ℕ, List, length, refl, ap, subst}
use Rattle.std.specs.Prelude.{set}
use Rattle.std.proofs.lemmas.Result.{IfOk-weaker}
use Rattle.fmp_kernel_packed.specs.Told.{ArePartsOf}
use Rattle.fmp_search_kernel.specs.Keys.{words_of, KeptPlaces}
use Rattle.fmp_search_kernel.specs.Walked.{origin_of}
use Rattle.fmp_search_kernel.specs.Weights.{untimed, Told}
use Rattle.fmp_search_kernel.proofs.Said.{kernel_of}
use Rattle.fmp_search_kernel.proofs.Weighed.{listed, things_shaped, uncounted}
use Rattle.fmp_search_kernel.proofs.walker.Walker.put_without.Goals as goal

pub put_numbers-requires : goal.put_numbers-requires
put_numbers-requires c =
    let o = origin_of c.args.self.now.place in
    let p = c.requires.kept.0 in
    let put = c.put_words-packed in
    let kernel = kernel_of o p c.args.tables.now _ put.new.numbers put.result o.machine (c.tables.view_is ∙ put.ensures.same) refl (put.ensures.are p c.requires.kept.1) in
    (p.machine, kernel.packed, c.requires.parts ∙ ap (λ n. n + 3) (things_shaped o.machine p.machine kernel.shaped))

pub times-requires : goal.times-requires
times-requires c =
    let o = origin_of c.args.self.now.place in
    let p = c.requires.kept.0 in
    let put = c.put_words-packed in
    let kernel = kernel_of o p c.args.tables.now _ put.new.numbers put.result o.machine (c.tables.view_is ∙ put.ensures.same) refl (put.ensures.are p c.requires.kept.1) in
    (p.machine, rw c.put_numbers.ensures.same kernel.packed)

pub returns-clause-list : goal.returns-clause-list
returns-clause-list c =
    IfOk-weaker c.add_untimed.result _ _
    (λ done all. λ p g.
    let o = origin_of c.args.self.now.place in
    let spot = c.args.spot in
    let put = c.put_words-packed in
    let same = c.tables.view_is ∙ put.ensures.same in
    let said = put.ensures.are p g in
    let kernel = kernel_of o p c.args.tables.now _ put.new.numbers put.result o.machine same refl said in
    let parts = c.put_numbers.ensures.parts p.machine kernel.packed (c.requires.parts ∙ ap (λ n. n + 3) (things_shaped o.machine p.machine kernel.shaped)) in
    let told : Told = record { parts = c.put_numbers.new.numbers; words = words_of p 0; times = c.times.result.now } in (
      told,
      record {
        parts = subst (λ (k : KeptPlaces). ArePartsOf k.parts p.machine c.put_numbers.new.numbers) same parts;
        words = refl;
        times = c.times.ensures p.machine (rw c.put_numbers.ensures.same kernel.packed);
      },
      listed c.become_slice.new.self c.add_all.new.words c.add_untimed.new.words (set told.parts spot.part 0)
          (set (set put.new.numbers (length put.new.numbers - 1) 0) spot.position 0) (set told.words spot.position 0) (untimed spot.item told.times)
          c.in_ok-become_slice.ensures.is c.in_ok-add_all.ensures all
          (ap (λ (l : List ℕ). set l spot.position 0) (uncounted p put.result.counting put.new.numbers said.words)),
    ))
    c.add_untimed.ensures
