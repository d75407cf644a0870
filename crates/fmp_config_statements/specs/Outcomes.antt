-- What a step of the reading returns, beside what the definitions give.
use Rattle.std.specs.Prelude.{◌≡◌, Result, Ok, Err}
use Rattle.fmp_config_statements.specs.declared.fault.ReadError.{ReadError}
use Rattle.fmp_config_statements.specs.declared.fault.ReadError.TheVariants as errors
use Rattle.fmp_config_statements.specs.Faults.{Fault}

-- an error is the fault that reading gives, unless memory ran out
abbrev pub Stops : {Y : Type 0} → ReadError → Result Y Fault → Type 0
Stops errors.Memory read = Unit {0}
Stops (errors.Fault fault) read = read ≡ Err fault

-- reading gives this state
abbrev pub Leads : {S : Type 0} → Result (Unit {0}) ReadError → S → Result S Fault → Type 0
Leads (Ok x) state read = read ≡ Ok state
Leads (Err e) state read = Stops e read

-- the value is what reading gives
abbrev pub Gives : {Y : Type 0} → Result Y ReadError → Result Y Fault → Type 0
Gives (Ok y) read = read ≡ Ok y
Gives (Err e) read = Stops e read
