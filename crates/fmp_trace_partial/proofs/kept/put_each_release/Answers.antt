use Rattle.std.proofs.Common.{◌++◌, ap, sym, ◌∙◌}
use Rattle.std.specs.Prelude.{unwrap_or, Option}
use Rattle.fmp_trace_partial.specs.Partial.{kept_release_text}
use Rattle.fmp_trace_partial.specs.declared.codes_kept.CodeKept.{CodeKept}
use Rattle.fmp_trace_partial.specs.declared.codes_kept.CodeKept.TheVariants as of_code
use Rattle.fmp_trace_partial.proofs.FilledLoops.{one_release}
use Rattle.fmp_trace_partial.proofs.kept.put_each_release.Goals as goal

pub loop-index-preserved : goal.loop-index-preserved
loop-index-preserved c whole =
    let last = c.put_kept_release.ensures whole in
    let before = c.loop-index.invariant last.0 in
    let code = c.unwrap_or-code.ensures ∙ ap (λ (kept : Option CodeKept). unwrap_or kept of_code.Whole) c.get.ensures in
    let added = last.1 ∙ ap (λ (kept : CodeKept). c.loop-index.out.bytes ++ kept_release_text c.args.names.now kept c.unwrap.result) code in (
      before.0,
      one_release c.args.names.now c.args.kept.now c.args.releases.now c.loop-index.index c.unwrap.result c.loop-index.out.bytes c.put_kept_release.new.out.bytes _
          (sym c.get-in-loop-index.ensures ∙ c.unwrap.ensures) added before.1,
    )
