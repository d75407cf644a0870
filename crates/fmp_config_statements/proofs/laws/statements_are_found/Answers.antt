use Rattle.fmp_config_statements.proofs.Found.{statement_of-text_of}
use Rattle.fmp_config_statements.proofs.laws.statements_are_found.Goals as goal

pub returns : goal.returns
returns c = statement_of-text_of
