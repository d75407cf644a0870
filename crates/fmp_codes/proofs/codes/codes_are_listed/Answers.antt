use Rattle.fmp_codes.proofs.Listed.{code_listed}
use Rattle.fmp_codes.proofs.codes.codes_are_listed.Goals as goal

pub returns-clause-every : goal.returns-clause-every
returns-clause-every c = code_listed
