use Rattle.std.proofs.Common.{ℕ, subst, sym, arith}
use Rattle.fmp_codes.specs.Records.{AreOn}
use Rattle.fmp_search_shrink.specs.Shrinking.{IsShrunk, Shrinks}
use Rattle.fmp_run_shrink.proofs.Left.{is_written, left_few, left_in_bits, left_on}
use Rattle.fmp_run_shrink.proofs.run.left_of.Goals as goal

pub returns-in_ok-text-in-Some : goal.returns-in_ok-text-in-Some
returns-in_ok-text-in-Some c =
    let config = c.args.config.now in
    let whole = c.args.events.items in
    let es = c.in-Some.left.items in
    let written = c.in_ok-text-in-Some in
    let shrunk : IsShrunk config c.args.question.now c.args.runs whole es =
    subst (Shrinks config c.args.question.now c.args.runs whole) c.in-Some.is c.in_ok-shrink.ensures in
    let on : AreOn config.names.processors es =
    subst (λ (n : ℕ). AreOn n es) (sym c.names.ensures.valid.same_processors) (left_on whole es shrunk.part config.processors c.requires.on) in
    let bits = left_in_bits whole es shrunk.part c.requires.in_bits in
    let some = c.requires.few in
    let sized = c.args.events.ok.0 in
    let few = left_few whole es shrunk.part (omega (arith, some, sized)) in
    let text =
    is_written config.names c.names.result.now written.text.items es c.as_slice.result.now c.names.ensures.value c.as_slice.ensures.value written.ensures.text written.ensures.read on bits few in
    (es, shrunk, text.0, text.1)
