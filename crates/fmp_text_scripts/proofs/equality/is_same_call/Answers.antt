use Rattle.std.proofs.Common.{ap}
use Rattle.fmp_calls.specs.Table.{values_of}
use Rattle.fmp_text_scripts.proofs.Same.{calls_same}
use Rattle.fmp_text_scripts.proofs.equality.is_same_call.Goals as goal

pub returns-then-have_same_name : goal.returns-then-have_same_name
returns-then-have_same_name c = (
  λ same. calls_same c.args.one c.args.other (c.have_same_name.ensures.0 c.if-have_same_name.true) (c.have_same_arguments.ensures.0 same),
  λ e. c.have_same_arguments.ensures.1 (ap values_of e),
)
