use Rattle.std.proofs.Common.{◌≡◌, ℕ, take, get_or, refl, ap, subst, ◌∙◌, arith}
use Rattle.fmp_out.specs.Putting.{Adds}
use Rattle.fmp_codes.specs.Numbers.{as_object}
use Rattle.fmp_run_wave.specs.Changes.{number_told}
use Rattle.fmp_run_wave.specs.Listing.{each}
use Rattle.fmp_run_wave.specs.Resources.{count_in, number_in}
use Rattle.fmp_run_wave.proofs.Alike.{all_renewed, as_before, long_enough, renewed, renewed_more}
use Rattle.fmp_run_wave.proofs.Counted.{all_told, nothing_yet, told_at, told_more}
use Rattle.fmp_run_wave.proofs.changes.put_numbers_changes.Goals as goal

pub loop-index-init : goal.loop-index-init
loop-index-init c =
    let f : ℕ → ℕ = λ i. number_in c.args.machine.now c.args.resource (as_object i) in
    record { told = nothing_yet (told_at (number_told c.args.resource) 0 f c.args.numbers.now.items) c.args.out.now; shown = refl }

pub put_object_change-requires-clause-next : goal.put_object_change-requires-clause-next
put_object_change-requires-clause-next c =
    let f : ℕ → ℕ = λ i. number_in c.args.machine.now c.args.resource (as_object i) in
    long_enough f c.args.numbers.now.items c.loop-index.numbers.items c.loop-index.index c.loop-index.invariant.shown

pub loop-index-preserved : goal.loop-index-preserved
loop-index-preserved c =
    let f : ℕ → ℕ = λ i. number_in c.args.machine.now c.args.resource (as_object i) in
    let old = c.args.numbers.now.items in
    let xs = c.loop-index.numbers.items in
    let n = c.loop-index.index in
    record {
      told = told_more (number_told c.args.resource) 0 f old n (get_or xs n 0) c.args.out.now c.loop-index.out _ c.loop-index.invariant.told c.put_object_change.ensures.told
          (as_before f old xs n c.loop-index.invariant.shown 0);
      shown = renewed_more f old xs n c.loop-index.invariant.shown _ c.put_object_change.ensures.shown;
    }

pub returns-clause-told : goal.returns-clause-told
returns-clause-told c =
    let f : ℕ → ℕ = λ i. number_in c.args.machine.now c.args.resource (as_object i) in
    let all : c.loop-index.index ≡ count_in c.args.machine.now c.args.resource = omega (arith, c.loop-index-test.false, c.loop-index.auto.index-end, c.count_in-count.ensures.value) in
    all_told (number_told c.args.resource) 0 f c.args.numbers.now.items (count_in c.args.machine.now c.args.resource) c.args.out.now c.loop-index.out
    (subst (λ (n : ℕ). Adds (each (told_at (number_told c.args.resource) 0 f c.args.numbers.now.items) n) c.args.out.now c.loop-index.out) all c.loop-index.invariant.told)

pub returns-clause-shown : goal.returns-clause-shown
returns-clause-shown c =
    let f : ℕ → ℕ = λ i. number_in c.args.machine.now c.args.resource (as_object i) in
    let all : c.loop-index.index ≡ count_in c.args.machine.now c.args.resource = omega (arith, c.loop-index-test.false, c.loop-index.auto.index-end, c.count_in-count.ensures.value) in
    all_renewed f c.args.numbers.now.items c.loop-index.numbers.items (count_in c.args.machine.now c.args.resource)
    (subst (λ (n : ℕ). c.loop-index.numbers.items ≡ renewed f c.args.numbers.now.items n) all c.loop-index.invariant.shown)
    _ (c.truncate.ensures.items ∙ ap (λ (n : ℕ). take n c.loop-index.numbers.items) c.count_in-count.ensures.value)
