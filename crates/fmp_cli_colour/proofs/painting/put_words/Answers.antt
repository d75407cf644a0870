use Rattle.std.proofs.Common.{◌≡◌, ◌∙◌, ◌++◌, ◌-◌, ℕ, ap, arith}
use Rattle.std.proofs.lemmas.Grind.{common_steps}
use Rattle.std.specs.Option.{option_copied}
use Rattle.std.specs.Prelude.{Ok, Err, OnErr}
use Rattle.fmp_bytes.specs.Bytes.{space}
use Rattle.fmp_bytes.proofs.Cutting.{fewer_left}
use Rattle.fmp_run_devices.specs.Devices.{BeginsWith, bytes_of}
use Rattle.fmp_cli_colour.specs.Painting as spec
use Rattle.fmp_cli_colour.proofs.Words.{word_begun, word_out}
use Rattle.fmp_cli_colour.proofs.painting.put_words.Goals as goal

pub returns-in_err-put_word-clause-err : goal.returns-in_err-put_word-clause-err
returns-in_err-put_word-clause-err g c = λ known.
    let old = bytes_of (g.W.Sink.written c.args.sink.now) in
    let whole = spec.painted_words c.args.plain (spec.words_left (option_copied c.args.words)) in
    let between = bytes_of (g.W.Sink.written c.loop-rest.sink) in
    let new = bytes_of (g.W.Sink.written c.put_word.new.sink) in
    let (out, was, so_far) = c.loop-rest.invariant.before known in
    let begun : BeginsWith old whole new = word_begun old out whole between c.in-Some.text.now c.cut.result.0.now c.loop-rest.left (option_copied c.cut.result.1) was (rw c.in-Some.is at so_far)
    c.cut.ensures.prefix c.cut.ensures.rest new (c.in_err-put_word.ensures.err (c.loop-rest.invariant.known known)) in
    elim c.from_residual.result as (λ r. OnErr r (BeginsWith old whole new)) [ Ok done ↦ tt | Err failed ↦ begun ]

pub loop-rest-smaller : goal.loop-rest-smaller
loop-rest-smaller g c = fewer_left space (option_copied c.loop-rest.rest) (option_copied c.cut.result.1) c.in-Some.text.now (ap option_copied c.in-Some.is) c.cut.ensures.rest

pub loop-rest-preserved : goal.loop-rest-preserved
loop-rest-preserved g c =
    let counted = rw c.in_ok-put_word.was at c.put_word.ensures.count in
    record {
      failures = grind (arith, common_steps, counted);
      known = λ known. c.put_word.ensures.known (c.loop-rest.invariant.known known);
      before = λ known.
          let old = bytes_of (g.W.Sink.written c.args.sink.now) in
          let new = bytes_of (g.W.Sink.written c.put_word.new.sink) in
          let whole = spec.painted_words c.args.plain (spec.words_left (option_copied c.args.words)) in
          let between = bytes_of (g.W.Sink.written c.loop-rest.sink) in
          let (out, was, so_far) = c.loop-rest.invariant.before known in
          let next = word_out old out whole between c.in-Some.text.now c.cut.result.0.now c.loop-rest.left (option_copied c.cut.result.1) was (rw c.in-Some.is at so_far)
          c.cut.ensures.prefix c.cut.ensures.rest new (c.in_ok-put_word.ensures.ok (c.loop-rest.invariant.known known)) in
          let left : c.saturating_sub-left.result ≡ c.loop-rest.left - 1 = c.saturating_sub-left.ensures in
          (next.0, next.1, ap (λ (n : ℕ). next.0 ++ spec.painted_words n (spec.words_left (option_copied c.cut.result.1))) left ∙ next.2);
    }
