use Rattle.std.proofs.Common.{◌∙◌}
use Rattle.fmp_law_lists.proofs.SafeLists.{tells_alike}
use Rattle.fmp_kernel.proofs.kernel.Kernel.ready.Goals as goal

pub returns-clause-model : goal.returns-clause-model
returns-clause-model c =
    let report = rw (c.deref.ensures, c.self.view_is) at c.ready.ensures in
    λ m stands. report ∙ (tells_alike c.args.self.now m stands).ready c.args.p c.args.priority
