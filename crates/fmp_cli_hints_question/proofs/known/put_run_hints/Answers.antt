use Rattle.std.proofs.Common.{ap}
use Rattle.std.specs.Option.{option_copied}
use Rattle.fmp_search_pattern.proofs.Running.{fewer_runs}
use Rattle.fmp_cli_hints_question.proofs.known.put_run_hints.Goals as goal

pub loop-rest-smaller : goal.loop-rest-smaller
loop-rest-smaller c = fewer_runs (option_copied c.loop-rest.rest) (option_copied c.cut_run.result.1) c.in-Some.text.now (ap option_copied c.in-Some.is) c.cut_run.ensures.rest
