use Rattle.fmp_law_records.proofs.effects.Records.{one_record, record_reported}
use Rattle.fmp_law_records.proofs.effects.Told.{told_same}
use Rattle.fmp_law_records.proofs.effects.laws.records_are_reported.Goals as goal

pub returns-clause-report : goal.returns-clause-report
returns-clause-report c = record_reported

pub returns-clause-one : goal.returns-clause-one
returns-clause-one c = one_record

pub returns-clause-made : goal.returns-clause-made
returns-clause-made c = told_same
