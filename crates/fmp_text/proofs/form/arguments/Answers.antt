use Rattle.std.proofs.Common.{map}
use Rattle.std.proofs.lemmas.Result.{err_from_is_err_and}
use Rattle.fmp_codes.specs.declared.kinds.ArgumentKind.TheVariants.{Object}
use Rattle.fmp_codes.specs.declared.kinds.ObjectKind.TheVariants.{Task}
use Rattle.fmp_text.specs.Places.{place_of}
use Rattle.fmp_text.proofs.Pieces.{no_start}
use Rattle.fmp_text.proofs.form.arguments.Goals as goal

pub returns-in_err-first-clause-gives : goal.returns-in_err-first-clause-gives
returns-in_err-first-clause-gives c =
    let p = err_from_is_err_and c.from_residual.result c.from_residual.ensures.1 in
    rw (p.1, p.2) (no_start c.args.call c.args.kinds.now _ (map (λ t. t.now) c.loop-index.starts.items) c.loop-index.index (Object Task) c.loop-index.rest.now (place_of c.in_err-first.field-0.0) c.loop-index-test.true c.in_err-first.ensures c.loop-index.invariant.0)
