use Rattle.std.proofs.Common.{◌≡◌, Some, None, ap, sym, ◌∙◌}
use Rattle.std.specs.Option.{option_copied}
use Rattle.fmp_bytes.specs.Bytes.{cut_at, pieces_of}
use Rattle.fmp_bytes.proofs.Cutting.{fewer_left}
use Rattle.fmp_trace.specs.Guess.{with_word, with_words, words_left}
use Rattle.fmp_trace.proofs.Guessing.{one_word, no_word}
use Rattle.fmp_trace.proofs.guess.with_words.Goals as goal
use Rattle.fmp_trace.proofs.guess.with_words.Goals.{In-Some}

so_far : (c : In-Some) → with_words c.args.names.now c.loop-rest.entry (pieces_of 32 c.in-Some.text.now) ≡ with_words c.args.names.now c.args.entry (words_left (option_copied c.args.words))
so_far c = rw c.in-Some.is at c.loop-rest.invariant

pub returns-in_err-entry : goal.returns-in_err-entry
returns-in_err-entry c =
    let none : with_word c.args.names.now c.loop-rest.entry (cut_at 32 c.in-Some.text.now).0 ≡ None =
    ap (with_word c.args.names.now c.loop-rest.entry) (sym c.cut.ensures.prefix) ∙ sym c.with_word.ensures ∙ c.in_err-entry.was in
    rw c.from_residual.ensures (no_word c.args.names.now c.loop-rest.entry c.in-Some.text.now _ (so_far (goal.at.returns-in_err-entry c).In-Some) none)

pub loop-rest-smaller : goal.loop-rest-smaller
loop-rest-smaller c = fewer_left 32 (option_copied c.loop-rest.rest) (option_copied c.cut.result.1) c.in-Some.text.now (ap option_copied c.in-Some.is) c.cut.ensures.rest

pub loop-rest-preserved : goal.loop-rest-preserved
loop-rest-preserved c =
    let here : with_word c.args.names.now c.loop-rest.entry (cut_at 32 c.in-Some.text.now).0 ≡ Some c.in_ok-entry.entry =
    ap (with_word c.args.names.now c.loop-rest.entry) (sym c.cut.ensures.prefix) ∙ sym c.with_word.ensures ∙ c.in_ok-entry.was in
    rw c.cut.ensures.rest (one_word c.args.names.now c.loop-rest.entry c.in-Some.text.now _ (so_far (goal.at.loop-rest-preserved c).In-Some) _ here)
