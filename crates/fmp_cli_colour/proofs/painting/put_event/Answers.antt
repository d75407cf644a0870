use Rattle.std.proofs.Common.{List, ℕ, ◌≡◌, ◌++◌, ap₂, subst}
use Rattle.std.specs.Prelude.{OnOk, OnErr, Option}
use Rattle.std.specs.Option.{option_copied}
use Rattle.fmp_run_devices.specs.Devices.{BeginsWith, bytes_of}
use Rattle.fmp_cli_colour.specs.Painting as spec
use Rattle.fmp_cli_colour.proofs.Pieces.{both_err, both_ok, first_err}
use Rattle.fmp_cli_colour.proofs.painting.put_event.Goals as goal

pub returns-in_err-write_all-clause-err : goal.returns-in_err-write_all-clause-err
unfolding spec.painted_event
returns-in_err-write_all-clause-err g c = λ known.
    let new = bytes_of (g.W.Sink.written c.write_all.new.sink) in
    let begun = subst (λ (bs : List ℕ). BeginsWith (bytes_of (g.W.Sink.written c.args.sink.now)) bs new) c.cut.ensures.prefix (c.in_err-write_all.ensures.err known) in
    first_err c.from_residual.result _ _ _ new _ begun

pub returns-clause-ok : goal.returns-clause-ok
unfolding spec.painted_event
returns-clause-ok g c = λ known.
    let old = bytes_of (g.W.Sink.written c.args.sink.now) in
    let new = bytes_of (g.W.Sink.written c.put_words.new.sink) in
    let all = ap₂ (λ (a : List ℕ) (r : Option (List ℕ)). a ++ spec.painted_words 2 (spec.words_left r)) c.cut.ensures.prefix c.cut.ensures.rest in
    subst (λ (bs : List ℕ). OnOk c.put_words.result (new ≡ old ++ bs)) all
    (both_ok c.put_words.result old c.cut.result.0.now (spec.painted_words 2 (spec.words_left (option_copied c.cut.result.1))) _ new (c.in_ok-write_all.ensures.ok known) (c.put_words.ensures.ok (c.write_all.ensures.known known)))

pub returns-clause-err : goal.returns-clause-err
unfolding spec.painted_event
returns-clause-err g c = λ known.
    let old = bytes_of (g.W.Sink.written c.args.sink.now) in
    let new = bytes_of (g.W.Sink.written c.put_words.new.sink) in
    let all = ap₂ (λ (a : List ℕ) (r : Option (List ℕ)). a ++ spec.painted_words 2 (spec.words_left r)) c.cut.ensures.prefix c.cut.ensures.rest in
    subst (λ (bs : List ℕ). OnErr c.put_words.result (BeginsWith old bs new)) all
    (both_err c.put_words.result old c.cut.result.0.now (spec.painted_words 2 (spec.words_left (option_copied c.cut.result.1))) _ new (c.in_ok-write_all.ensures.ok known) (c.put_words.ensures.err (c.write_all.ensures.known known)))
