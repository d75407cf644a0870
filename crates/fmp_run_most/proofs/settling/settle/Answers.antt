use Rattle.std.proofs.Common.{◌≡◌, ◌∙◌, ◌*◌, ◌&&◌, [], List, Bool, true, Some, length, refl, subst, sym, arith}
use Rattle.std.specs.Prelude.{IfSome, slice_get}
use Rattle.std.proofs.lemmas.Bool.{and_parts}
use Rattle.fmp_search.specs.Meeting.{Meets}
use Rattle.fmp_search.proofs.Growth.{none_of}
use Rattle.fmp_search_orders.specs.Places.{origin}
use Rattle.fmp_search_walks.specs.Metered.{metered_after, metered_number}
use Rattle.fmp_run_most.specs.Gauged.{gauged}
use Rattle.fmp_run_most.specs.Raised.{AreRaised}
use Rattle.fmp_run_most.proofs.Moved.{none_marked}
use Rattle.fmp_run_most.proofs.Kept.{Kept, kept_boot, kept_all, kept_more}
use Rattle.fmp_run_most.proofs.Nearest.{of_all}
use Rattle.fmp_run_most.proofs.Ordered.{most_part, most_all}
use Rattle.fmp_run_most.proofs.settling.settle.Goals as goal

pub loop-at-init : goal.loop-at-init
loop-at-init g c = kept_boot (origin c.args.sizing.now.config.now c.args.sizing.now.scripts.now c.args.sizing.now.rules []) c.args.within.turns.count c.args.sizing.now.figures.now _ c.requires.begin

pub returns-in_default-clause-most : goal.returns-in_default-clause-most
returns-in_default-clause-most g c =
    most_part c.args.sizing.now.config.now c.args.sizing.now.scripts.now c.args.sizing.now.rules c.names-names.ensures.valid c.args.within.turns.count c.args.sizing.now.figures.now c.loop-at.bounds c.loop-at.at c.loop-at.whole c.loop-at.invariant

pub returns-in_default-clause-part : goal.returns-in_default-clause-part
returns-in_default-clause-part g c = λ part. c.in_ok-met.ensures.none (none_of c.in_ok-met.field-0 c.in_default.not-Some)

pub returns-then-not-contains-clause-most : goal.returns-then-not-contains-clause-most
returns-then-not-contains-clause-most g c =
    let q = origin c.args.sizing.now.config.now c.args.sizing.now.scripts.now c.args.sizing.now.rules [] in
    let figures = c.args.sizing.now.figures.now in
    let bounds = c.loop-at.bounds in
    let met = c.in-Some.met in
    let meets = subst (λ o. IfSome o (Meets metered_after metered_number (gauged figures bounds q) c.args.within.turns.count (length figures * 65536))) c.in-Some.is c.in_ok-met.ensures.meets in
    let both = c.loop-at.whole && met.whole in
    most_all c.args.sizing.now.config.now c.args.sizing.now.scripts.now c.args.sizing.now.rules c.names-names.ensures.valid c.args.within.turns.count figures bounds both c.of.result
    (kept_all q c.args.within.turns.count figures bounds c.loop-at.at c.loop-at.whole c.loop-at.invariant met meets
    (λ n is. none_marked _ refl c.deref.result.now n (sym c.contains.ensures.value ∙ c.if-not-contains.true)
    (subst (λ (xs : List Bool). slice_get xs n ≡ Some true) (sym c.deref.ensures.value) is)) both (λ e. (and_parts c.loop-at.whole met.whole e).1))
    c.of.ensures

pub returns-then-not-contains-clause-part : goal.returns-then-not-contains-clause-part
returns-then-not-contains-clause-part g c = λ part. absurd (of_all (c.loop-at.whole && c.in-Some.met.whole) c.of.result c.of.ensures part)

pub loop-at-preserved : goal.loop-at-preserved
loop-at-preserved g c =
    let q = origin c.args.sizing.now.config.now c.args.sizing.now.scripts.now c.args.sizing.now.rules [] in
    let figures = c.args.sizing.now.figures.now in
    let bounds = c.loop-at.bounds in
    let met = c.in-Some.met in
    let meets = subst (λ o. IfSome o (Meets metered_after metered_number (gauged figures bounds q) c.args.within.turns.count (length figures * 65536))) c.in-Some.is c.in_ok-met.ensures.meets in
    kept_more q c.args.within.turns.count figures bounds c.loop-at.at c.loop-at.whole c.loop-at.invariant met meets c.raise.new.bounds
    (subst (λ (xs : List Bool). AreRaised figures bounds xs c.raise.new.bounds) c.deref-in-loop-at.ensures.value c.raise.ensures) (c.loop-at.whole && met.whole)
    (λ e. (and_parts c.loop-at.whole met.whole e).0) (λ e. (and_parts c.loop-at.whole met.whole e).1)

pub returns-clause-most : goal.returns-clause-most
returns-clause-most g c =
    let q = origin c.args.sizing.now.config.now c.args.sizing.now.scripts.now c.args.sizing.now.rules [] in
    let figures = c.args.sizing.now.figures.now in
    let past = c.loop-at-test.false in
    let end = c.loop-at.auto.at-end in
    let same : c.loop-at.at ≡ length figures = omega (arith, past, end) in
    most_all c.args.sizing.now.config.now c.args.sizing.now.scripts.now c.args.sizing.now.rules c.names-names.ensures.valid c.args.within.turns.count figures c.loop-at.bounds c.loop-at.whole c.of-2.result
    (subst (λ n. Kept q c.args.within.turns.count figures c.loop-at.bounds n c.loop-at.whole) same c.loop-at.invariant) c.of-2.ensures

pub returns-clause-part : goal.returns-clause-part
returns-clause-part g c = λ part. absurd (of_all c.loop-at.whole c.of-2.result c.of-2.ensures part)
