use Rattle.std.proofs.Common.{ℕ, List, Option, Bool, ap, ◌++◌, ◌∙◌}
use Rattle.std.specs.Option.{option_copied}
use Rattle.fmp_bytes.specs.Bytes.{cut_at}
use Rattle.fmp_bytes.proofs.Cutting.{fewer_left, pieces_left}
use Rattle.fmp_trace_partial.specs.Marks.{ends_answer, filled_led}
use Rattle.fmp_trace_partial.proofs.FilledLoops.{one_filled}
use Rattle.fmp_trace_partial.proofs.marks.put_filled_words.Goals as goal

pub loop-rest-smaller : goal.loop-rest-smaller
loop-rest-smaller c = fewer_left 32 (option_copied c.loop-rest.rest) (option_copied c.cut.result.1) c.in-Some.text.now (ap option_copied c.in-Some.is) c.cut.ensures.rest

pub loop-rest-preserved : goal.loop-rest-preserved
loop-rest-preserved c whole =
    let last = c.put_filled_led.ensures whole in
    let so_far = rw c.in-Some.is at c.loop-rest.invariant in
    let before = so_far last.0 in
    let out = c.loop-rest.out.bytes in
    let answer = c.ends_answer.ensures ∙ ap (λ (rest : Option (List ℕ)). ends_answer (pieces_left 32 rest)) c.cut.ensures.rest in
    let word =
    last.1 ∙ ap (λ (is_answer : Bool). out ++ filled_led is_answer c.cut.result.0.now) answer
    ∙ ap (λ (t : List ℕ). out ++ filled_led (ends_answer (pieces_left 32 (cut_at 32 c.in-Some.text.now).1)) t) c.cut.ensures.prefix in
    (before.0, rw c.cut.ensures.rest (one_filled c.in-Some.text.now out c.put_filled_led.new.out.bytes _ word before.1))
