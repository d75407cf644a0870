use Rattle.std.proofs.Common.{List, ℕ, ◌≡◌, ◌∙◌, ◌++◌, ap, ap₂, subst}
use Rattle.std.specs.Prelude.{OnOk, OnErr}
use Rattle.fmp_run_devices.specs.Devices.{BeginsWith, bytes_of}
use Rattle.fmp_cli_colour.specs.Painting as spec
use Rattle.fmp_cli_colour.proofs.Pieces.{both_err, both_ok, first_err}
use Rattle.fmp_cli_colour.proofs.painting.put_word.Goals as goal

pub returns-in_err-write_all-clause-err : goal.returns-in_err-write_all-clause-err
unfolding spec.painted_word
returns-in_err-write_all-clause-err g c = λ known.
    let is = c.before-2.ensures ∙ ap spec.before c.mark_of-mark.ensures in
    let begun = subst (λ (bs : List ℕ). BeginsWith (bytes_of (g.W.Sink.written c.args.sink.now)) bs (bytes_of (g.W.Sink.written c.write_all.new.sink))) is (c.in_err-write_all.ensures.err known) in
    first_err c.from_residual.result _ _ _ (bytes_of (g.W.Sink.written c.write_all.new.sink)) _ begun

pub returns-clause-ok : goal.returns-clause-ok
unfolding spec.painted_word
returns-clause-ok g c = λ known.
    let old = bytes_of (g.W.Sink.written c.args.sink.now) in
    let new = bytes_of (g.W.Sink.written c.put_both.new.sink) in
    let is = c.before-2.ensures ∙ ap spec.before c.mark_of-mark.ensures in
    let ends = c.following.ensures ∙ ap spec.following_word c.mark_of-mark.ensures in
    let all = ap₂ (λ (a b : List ℕ). a ++ (c.args.word.now ++ b)) is ends in
    subst (λ (bs : List ℕ). OnOk c.put_both.result (new ≡ old ++ bs)) all
    (both_ok c.put_both.result old c.before-2.result.now (c.args.word.now ++ c.following.result.now) _ new (c.in_ok-write_all.ensures.ok known) (c.put_both.ensures.ok (c.write_all.ensures.known known)))

pub returns-clause-err : goal.returns-clause-err
unfolding spec.painted_word
returns-clause-err g c = λ known.
    let old = bytes_of (g.W.Sink.written c.args.sink.now) in
    let new = bytes_of (g.W.Sink.written c.put_both.new.sink) in
    let is = c.before-2.ensures ∙ ap spec.before c.mark_of-mark.ensures in
    let ends = c.following.ensures ∙ ap spec.following_word c.mark_of-mark.ensures in
    let all = ap₂ (λ (a b : List ℕ). a ++ (c.args.word.now ++ b)) is ends in
    subst (λ (bs : List ℕ). OnErr c.put_both.result (BeginsWith old bs new)) all
    (both_err c.put_both.result old c.before-2.result.now (c.args.word.now ++ c.following.result.now) _ new (c.in_ok-write_all.ensures.ok known) (c.put_both.ensures.err (c.write_all.ensures.known known)))
