use Rattle.std.proofs.Common.{◌++◌}
use Rattle.std.specs.Prelude.{codes}
use Rattle.fmp_out.proofs.Puts.{both}
use Rattle.fmp_trace.specs.Lines.{event_text}
use Rattle.fmp_trace_partial.specs.Partial.{kept_answer_text, kept_head, kept_tail, kept_text}
use Rattle.fmp_trace_partial.proofs.kept.put_kept.Goals as goal

pub returns : goal.returns
unfolding kept_text
returns c =
    let names = c.args.names.now in
    let entry = c.args.entry.now in
    let kept = c.args.kept.now in
    let event = event_text names entry.event in
    let answer = kept_answer_text kept.answer entry.answer in
    let tail = kept_tail names kept entry in
    let head = kept_head names c.args.n kept entry in
    let old = c.args.out.now in
    let called = both head event old c.put_kept_head.new.out c.put_event_text.new.out c.put_kept_head.ensures c.put_event_text.ensures in
    let spaced = both (head ++ event) (codes " ") old c.put_event_text.new.out c.put_byte.new.self called c.put_byte.ensures in
    let answered = both (head ++ event ++ codes " ") answer old c.put_byte.new.self c.put_kept_answer.new.out spaced c.put_kept_answer.ensures in
    both (head ++ event ++ codes " " ++ answer) tail old c.put_kept_answer.new.out c.put_kept_tail.new.out answered c.put_kept_tail.ensures
