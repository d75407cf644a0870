use Rattle.std.proofs.Common.{◌≡◌, ◌∙◌, length, ap, sym}
use Rattle.std.specs.Option.{option_copied}
use Rattle.fmp_bytes.specs.Bytes.{space, pieces_of}
use Rattle.fmp_bytes.proofs.Cutting.{fewer_left}
use Rattle.fmp_search_question.specs.Lasting.{after_word, ended, no_parts, written_in}
use Rattle.fmp_search_question.specs.WordByWord.{after_words, fault_of, result_then}
use Rattle.fmp_search_question.proofs.EachWord.{rest_within, word_fault, word_read}
use Rattle.fmp_search_question.proofs.parts.read_written.Goals as goal
use Rattle.fmp_search_question.proofs.parts.read_written.Goals.{After-add}

-- what is told of a word is told of the first that is left
so_far : (c : After-add) → after_words (after_word c.args.names.now) (length c.args.text.now) c.loop-rest.parts (pieces_of space c.in-Some.words.now)
    ≡ after_words (after_word c.args.names.now) (length c.args.text.now) no_parts (pieces_of space c.args.text.now)
so_far c = rw c.in-Some.is at c.loop-rest.invariant.0

pub returns-in-Ok-Some-clause-err : goal.returns-in-Ok-Some-clause-err
unfolding written_in
returns-in-Ok-Some-clause-err c other =
    let after = after_word c.args.names.now in
    let is = sym c.in-Ok-Some.field-0-is ∙ c.in-Ok-Some.ensures.report ∙ ap (λ w. fault_of (after c.loop-rest.parts w)) c.cut.ensures.prefix in
    ap (result_then (ended (length c.args.text.now)))
    (sym (so_far (goal.at.returns-in-Ok-Some-clause-err c).After-add) ∙ word_fault after (length c.args.text.now) c.loop-rest.parts c.in-Some.words.now c.in-Ok-Some.fault is)

pub loop-rest-smaller : goal.loop-rest-smaller
loop-rest-smaller c = fewer_left space (option_copied c.loop-rest.rest) (option_copied c.cut.result.1) c.in-Some.words.now (ap option_copied c.in-Some.is) c.cut.ensures.rest

pub loop-rest-preserved : goal.loop-rest-preserved
loop-rest-preserved c =
    let after = after_word c.args.names.now in
    let is = sym c.in-Ok-None.field-0-is ∙ c.in-Ok-None.ensures.report ∙ ap (λ w. fault_of (after c.loop-rest.parts w)) c.cut.ensures.prefix in
    let low = rw c.in-Some.is at c.loop-rest.invariant.1 in (
      word_read after (length c.args.text.now) c.loop-rest.parts c.in-Some.words.now c.add.new.self (option_copied c.cut.result.1) is
          (λ e read. c.in-Ok-None.ensures.added e (ap (after c.loop-rest.parts) c.cut.ensures.prefix ∙ read)) c.cut.ensures.rest
          ∙ so_far (goal.at.loop-rest-preserved c).After-add,
      rest_within (option_copied c.cut.result.1) c.in-Some.words.now (length c.args.text.now) c.cut.ensures.rest low,
    )
