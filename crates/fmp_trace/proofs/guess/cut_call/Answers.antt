use Rattle.std.proofs.Common.{◌≡◌, ◌∷◌, Some, ap, sym, ◌∙◌, length, length-append, ◌+◌, arith}
use Rattle.std.specs.Option.{option_copied}
use Rattle.std.proofs.lemmas.List.{length-take-le}
use Rattle.fmp_bytes.specs.Bytes.{cut_at}
use Rattle.fmp_bytes.proofs.Cutting.{cut_at-parts}
use Rattle.fmp_trace.proofs.guess.cut_call.Goals as goal

pub slice_bounds-result-end : goal.slice_bounds-result-end
slice_bounds-result-end c =
    let rest : (cut_at 41 c.args.text.now).1 ≡ Some c.in_ok-rest.rest.now = sym c.cut.ensures.rest ∙ ap option_copied c.in_ok-rest.was in
    let whole = ap length (cut_at-parts 41 c.args.text.now c.in_ok-rest.rest.now rest) in
    let long = length-append (cut_at 41 c.args.text.now).0 (41 ∷ c.in_ok-rest.rest.now) in
    let prefix = ap length c.cut.ensures.prefix in
    sym (length-take-le (length c.cut.result.0.now + 1) c.args.text.now (omega (arith, whole, long, prefix)))
