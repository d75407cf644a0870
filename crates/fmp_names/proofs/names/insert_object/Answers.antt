use Rattle.std.proofs.Math.Seq.{map-set_same}
use Rattle.std.proofs.lemmas.Result.{on_err_weaker}
use Rattle.fmp_names.specs.Names.{texts}
use Rattle.fmp_names.proofs.names.insert_object.Goals as goal

pub returns-clause-err : goal.returns-clause-err
returns-clause-err c = on_err_weaker c.insert_name.result (λ same. map-set_same texts c.args.objects.now c.args.place _ _ same) c.insert_name.ensures.err
