use Rattle.std.proofs.Common.{ℕ, List, Some, None, ◌++◌, ◌∙◌, refl, sym, ap, append_assoc}
use Rattle.std.proofs.lemmas.Result.{err_from_is_err_and}
use Rattle.fmp_run_stream.proofs.Streaming.{memory_leaves, named_detail, named_entry, named_next, named_same, stream_same, stream_step}
use Rattle.fmp_run_stream.specs.Streams.{pending}
use Rattle.fmp_run_stream.proofs.stream.Answering.answer_next.Goals as goal

pub returns-in_ok-answer-in-Ok-true-clause-answers : goal.returns-in_ok-answer-in-Ok-true-clause-answers
returns-in_ok-answer-in-Ok-true-clause-answers c = λ d tells text whole old written remaining before.
    let names = c.names-names.ensures.value in
    let event = c.next_into.new.event in
    let gives = rw c.in-Ok-true.field-0-test at c.in-Ok-true.ensures.gives in
    let next = named_next _ c.args.config.now names c.args.self.now.feed c.next_into.new.self (Some event) event refl gives in
    let report = c.in_ok-answer-in-Ok-true.ensures in
    stream_step d tells c.args.config.now text whole old c.args.self.now c.answer.new.self c.next_into.new.self _ _ remaining event before (next remaining)
    c.in-Ok-true.ensures.rest c.next_into.ensures.same.2 (λ m stands. named_detail _ c.args.config.now names _ _ _ (report.detail m stands)) c.answer.ensures.feed c.answer.ensures.stands c.answer.ensures.count
    (λ _ m stands. named_entry _ c.args.config.now names _ _ _ _ _ (ap (λ (xs : List ℕ). written ++ xs) (report.ok m stands) ∙ sym (append_assoc written (pending c.args.self.now) _)))

pub returns-in-Ok-false-clause-answers : goal.returns-in-Ok-false-clause-answers
returns-in-Ok-false-clause-answers c = λ d tells text whole old written remaining before.
    let gives = rw c.in-Ok-false.field-0-test at c.in-Ok-false.ensures.gives in
    let same = named_same _ c.args.config.now c.names-names.ensures.value c.args.self.now.feed c.next_into.new.self None refl gives in
    stream_same d tells c.args.config.now text whole old c.args.self.now _ _ remaining before (same remaining) c.in-Ok-false.ensures.rest c.next_into.ensures.same.2 refl refl refl

pub returns-in_err-answer-in-Ok-true-clause-leaves : goal.returns-in_err-answer-in-Ok-true-clause-leaves
returns-in_err-answer-in-Ok-true-clause-leaves c =
    let p = err_from_is_err_and c.from_residual.result c.from_residual.ensures.1 in
    rw (p.1, p.2)
    (λ d text whole old out remaining before.
    memory_leaves d c.args.config.now text whole old c.args.self.now out remaining (λ lines. let wrong = c.in_err-answer-in-Ok-true.ensures.lines lines in absurd cc) before)
