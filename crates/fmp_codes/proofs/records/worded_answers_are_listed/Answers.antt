use Rattle.fmp_codes.proofs.Listed.{worded_listed}
use Rattle.fmp_codes.proofs.records.worded_answers_are_listed.Goals as goal

pub returns-clause-every : goal.returns-clause-every
returns-clause-every c = worded_listed
