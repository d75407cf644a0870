use Rattle.fmp_cli_help.proofs.ListedDeeds.{deed_once, deed_in_family, deed_of_call}
use Rattle.fmp_cli_help.proofs.laws.deeds_are_listed.Goals as goal

pub returns-clause-once : goal.returns-clause-once
returns-clause-once c = deed_once

pub returns-clause-place : goal.returns-clause-place
returns-clause-place c = deed_in_family

pub returns-clause-no_other : goal.returns-clause-no_other
returns-clause-no_other c = deed_of_call
