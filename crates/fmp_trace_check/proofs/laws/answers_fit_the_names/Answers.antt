use Rattle.fmp_trace_check.proofs.FittingAnswers.{answers-fit}
use Rattle.fmp_trace_check.proofs.laws.answers_fit_the_names.Goals as goal

pub returns : goal.returns
returns c = answers-fit
