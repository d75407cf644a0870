use Rattle.std.proofs.lemmas.Result.{IfOk-weaker}
use Rattle.fmp_run_devices.proofs.whole.new_piece.Goals as goal

pub returns : goal.returns
returns c = IfOk-weaker c.vec.result _ _ (λ piece zeros. zeros (λ byte same. same)) c.vec.ensures.items_if_clones_equal
