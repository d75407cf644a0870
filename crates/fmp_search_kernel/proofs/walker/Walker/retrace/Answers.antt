use Rattle.std.proofs.Common.{ap}
use Rattle.fmp_search_kernel.specs.Walked.{origin_of}
use Rattle.fmp_search_kernel.proofs.walker.Walker.retrace.Goals as goal

pub returns-in-Some-clause-origin : goal.returns-in-Some-clause-origin
returns-in-Some-clause-origin c = ap origin_of c.play.ensures.place
