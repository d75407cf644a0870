use Rattle.std.proofs.Common.{◌≡◌, Some, None, [], ◌∷◌, ap, sym, ◌∙◌, length, length-append, arith}
use Rattle.std.specs.Option.{option_copied}
use Rattle.fmp_bytes.specs.Bytes.{cut_at, pieces_of}
use Rattle.fmp_bytes.proofs.Cutting.{fewer_left}
use Rattle.fmp_trace.specs.GuessParts.{request_in, requests_in}
use Rattle.fmp_trace.proofs.Guessing.{one_request, no_request}
use Rattle.fmp_trace.proofs.guess.requests_in.Goals as goal
use Rattle.fmp_trace.proofs.guess.requests_in.Goals.{In-Some}

so_far : (c : In-Some) → requests_in c.args.names.now c.loop-rest.least c.loop-rest.requests (pieces_of 44 c.in-Some.text.now) ≡ requests_in c.args.names.now 0 [] (pieces_of 44 c.args.text.now)
so_far c = rw c.in-Some.is at c.loop-rest.invariant.read

pub returns-in_err-processor : goal.returns-in_err-processor
returns-in_err-processor c =
    let none : request_in c.args.names.now c.loop-rest.least (cut_at 44 c.in-Some.text.now).0 ≡ None =
    ap (request_in c.args.names.now c.loop-rest.least) (sym c.cut.ensures.prefix) ∙ sym c.request_in.ensures.value ∙ c.in_err-processor.was in
    rw c.from_residual.ensures (no_request c.args.names.now c.loop-rest.least c.loop-rest.requests c.in-Some.text.now _ (so_far (goal.at.returns-in_err-processor c).In-Some) none)

pub loop-rest-smaller : goal.loop-rest-smaller
loop-rest-smaller c = fewer_left 44 (option_copied c.loop-rest.rest) (option_copied c.cut.result.1) c.in-Some.text.now (ap option_copied c.in-Some.is) c.cut.ensures.rest

pub loop-rest-preserved : goal.loop-rest-preserved
loop-rest-preserved c =
    let here : request_in c.args.names.now c.loop-rest.least (cut_at 44 c.in-Some.text.now).0 ≡ Some c.in_ok-processor.processor =
    ap (request_in c.args.names.now c.loop-rest.least) (sym c.cut.ensures.prefix) ∙ sym c.request_in.ensures.value ∙ c.in_ok-processor.was in
    let more = one_request c.args.names.now c.loop-rest.least c.loop-rest.requests c.in-Some.text.now _ (so_far (goal.at.loop-rest-preserved c).In-Some) c.in_ok-processor.processor here in
    let above = c.in_ok-processor.ensures.above in
    record {
      read = rw (c.push.ensures, c.cut.ensures.rest) more;
      few = omega (arith, ap length c.push.ensures, length-append c.loop-rest.requests (c.in_ok-processor.processor ∷ []), c.loop-rest.invariant.few, above);
      most = c.in_ok-processor.processor.most;
    }
