use Rattle.std.proofs.Common.{◌≡◌, ◌∙◌, ◌++◌, ℕ, List, ap, ap₂, arith, subst, sym}
use Rattle.std.proofs.lemmas.Grind.{common_steps}
use Rattle.std.specs.Prelude.{OnErr}
use Rattle.std.specs.Option.{option_copied}
use Rattle.fmp_run_devices.specs.Devices.{BeginsWith, bytes_of}
use Rattle.fmp_cli_colour.specs.Painting.{line_end, painted, painted_first}
use Rattle.fmp_cli_colour.proofs.Lines.{line_length, none_left, whole_length}
use Rattle.fmp_cli_colour.proofs.Pieces.{begun_again, first_err}
use Rattle.fmp_cli_colour.proofs.sink.put_first.Goals as goal

pub returns-in_err-put_painted-clause-err : goal.returns-in_err-put_painted-clause-err
unfolding painted_first
returns-in_err-put_painted-clause-err g c = λ known.
    let new = bytes_of (g.W.Sink.written c.put_painted.new.sink) in
    let begun = subst (λ (bs : List ℕ). BeginsWith (bytes_of (g.W.Sink.written c.args.sink.now)) (painted bs) new) c.cut.ensures.prefix (c.in_err-put_painted.ensures.err known) in
    first_err c.from_residual.result _ _ _ new _ begun

pub returns-in_err-write_all-in-Some-clause-err : goal.returns-in_err-write_all-in-Some-clause-err
unfolding painted_first
returns-in_err-write_all-in-Some-clause-err g c = λ known.
    let old = bytes_of (g.W.Sink.written c.args.sink.now) in
    let new = bytes_of (g.W.Sink.written c.write_all.new.sink) in
    let ends = ap line_end (sym (ap option_copied c.in-Some.is) ∙ c.cut.ensures.rest) in
    let all = ap₂ (λ (a b : List ℕ). painted a ++ b) c.cut.ensures.prefix ends in
    let result = c.from_residual-in_err-write_all-in-Some.result in
    subst (λ (bs : List ℕ). OnErr result (BeginsWith old bs new)) all
    (begun_again result old (painted c.cut.result.0.now) _ _ new (c.in_ok-put_painted.ensures.ok known) (c.in_err-write_all-in-Some.ensures.err (c.put_painted.ensures.known known)))

pub returns-in-None-clause-length : goal.returns-in-None-clause-length
returns-in-None-clause-length g c = whole_length c.args.text.now c.cut.result.0.now c.cut.ensures.prefix (sym c.cut.ensures.rest ∙ ap option_copied c.in-None.is)

pub returns-in-None-clause-count : goal.returns-in-None-clause-count
returns-in-None-clause-count g c =
    let count = rw c.in_ok-put_painted.was at c.put_painted.ensures.count in
    let counted : g.W.Sink.failures c.put_painted.new.sink ≡ g.W.Sink.failures c.args.sink.now = grind (arith, common_steps, count) in
    counted ∙ none_left c.args.text.now c.cut.result.0.now c.cut.ensures.prefix (g.W.Sink.failures c.args.sink.now) (sym c.cut.ensures.rest ∙ ap option_copied c.in-None.is)

pub returns-in_ok-write_all-in-Some-clause-length : goal.returns-in_ok-write_all-in-Some-clause-length
returns-in_ok-write_all-in-Some-clause-length g c = line_length c.args.text.now c.cut.result.0.now c.cut.ensures.prefix c.in-Some.field-0.now (sym c.cut.ensures.rest ∙ ap option_copied c.in-Some.is)
