use Rattle.std.proofs.Common.{◌≡◌, ◌++◌, [], ◌∷◌, Option, length, length-append, sym, ap, ◌∙◌, arith}
use Rattle.std.specs.Prelude.{slice_get, unwrap_or}
use Rattle.fmp_codes.specs.declared.records.Release.{Release}
use Rattle.fmp_trace_partial.specs.declared.codes_kept.CodeKept.{CodeKept}
use Rattle.fmp_trace_partial.specs.declared.codes_kept.CodeKept.TheVariants as of_code
use Rattle.fmp_run_partial.specs.Filling.{filled_release}
use Rattle.fmp_run_partial.proofs.FilledReleases.{one_filled}
use Rattle.fmp_run_partial.proofs.filling.filled_each.Goals as goal

pub loop-index-preserved : goal.loop-index-preserved
loop-index-preserved c =
    let i = c.loop-index.index in
    let r = c.unwrap.result in
    let code : c.unwrap_or-code.result ≡ unwrap_or (slice_get c.args.kept.now i) of_code.Whole =
    c.unwrap_or-code.ensures ∙ ap (λ (kept : Option CodeKept). unwrap_or kept of_code.Whole) c.get.ensures in
    let one : c.filled_release.result ≡ filled_release (unwrap_or (slice_get c.args.kept.now i) of_code.Whole) r (slice_get c.args.own.now i) =
    c.filled_release.ensures
    ∙ ap (λ (kept : CodeKept). filled_release kept r c.get-in-loop-index-2.result) code
    ∙ ap (λ (own : Option Release). filled_release (unwrap_or (slice_get c.args.kept.now i) of_code.Whole) r own) c.get-in-loop-index-2.ensures in
    let long = ap length c.push.ensures ∙ length-append c.loop-index.all (c.filled_release.result ∷ []) in
    record {
      made = one_filled c.args.kept.now c.args.own.now c.args.said.now i r c.loop-index.all c.push.new.self _ (sym c.get-in-loop-index.ensures ∙ c.unwrap.ensures)
          (c.push.ensures ∙ ap (λ (x : Release). c.loop-index.all ++ x ∷ []) one) c.loop-index.invariant.made;
      count = omega (arith, long, c.loop-index.invariant.count);
    }
