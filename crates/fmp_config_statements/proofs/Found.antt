-- A statement is found by its word.
use Rattle.std.proofs.Common.{◌≡◌, Some, refl}
use Rattle.fmp_codes.specs.declared.kinds.ObjectKind.TheVariants.{Task, Semaphore, Eventflag, DataQueue, Pool, Cyclic, Alarm, SpinLock}
use Rattle.fmp_config_statements.specs.declared.table.StatementName.{StatementName}
use Rattle.fmp_config_statements.specs.declared.table.StatementName.TheVariants.{Include, Processors, Timer, Limits, DefClass, Class, Create}
use Rattle.fmp_config_statements.specs.Table.{statement_of, text_of}

pub statement_of-text_of : (name : StatementName) → statement_of (text_of name) ≡ Some name
unfolding statement_of
statement_of-text_of Include = refl
statement_of-text_of Processors = refl
statement_of-text_of Timer = refl
statement_of-text_of Limits = refl
statement_of-text_of DefClass = refl
statement_of-text_of Class = refl
statement_of-text_of (Create Task) = refl
statement_of-text_of (Create Semaphore) = refl
statement_of-text_of (Create Eventflag) = refl
statement_of-text_of (Create DataQueue) = refl
statement_of-text_of (Create Pool) = refl
statement_of-text_of (Create Cyclic) = refl
statement_of-text_of (Create Alarm) = refl
statement_of-text_of (Create SpinLock) = refl
