use Rattle.std.proofs.Common.{◌≡◌, ◌+◌, ◌∷◌, ℕ, drop, get_or, eqb, false, ap, ◌∙◌}
use Rattle.std.proofs.lemmas.Bool.{ne_eqb}
use Rattle.std.proofs.lemmas.List.{drop_more}
use Rattle.fmp_bytes.proofs.Cutting.{take-to_end}
use Rattle.fmp_trace_check.proofs.Heads.{cut_here, cut_after}
use Rattle.fmp_trace_check.proofs.report.after_blank.Goals as goal

pub returns-then-byte-eq32 : goal.returns-then-byte-eq32
returns-then-byte-eq32 c =
    let text = c.args.text.now in
    let left = drop c.loop-index.index text in
    let more = drop (c.loop-index.index + 1) text in
    let here : left ≡ 32 ∷ more = drop_more text c.loop-index.index 0 c.loop-index-test.true ∙ ap (λ (b : ℕ). b ∷ more) c.if-byte-eq32.true in
    rw (take-to_end text (c.loop-index.index + 1)) (c.loop-index.invariant more (cut_here left more here))

pub loop-index-preserved : goal.loop-index-preserved
loop-index-preserved c = λ following cut.
    let text = c.args.text.now in
    let byte = get_or text c.loop-index.index 0 in
    let other : eqb byte 32 ≡ false = ne_eqb byte 32 c.if-byte-eq32.false in
    let parts = drop_more text c.loop-index.index 0 c.loop-index-test.true in
    c.loop-index.invariant following (cut_after byte (drop c.loop-index.index text) (drop (c.loop-index.index + 1) text) following parts other cut)
