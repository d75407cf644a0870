-- Passing on what is told.
use Rattle.std.proofs.Common.{◌≡◌, ◌∙◌, ℕ, Bool, false, true, List, [], ◌++◌, ap, subst, append_assoc, Result, Ok, Err}
use Rattle.std.specs.Prelude.{IfErr, OnErr}
use Rattle.std.proofs.lemmas.List.{append-nil}
use Rattle.fmp_run_devices.specs.Devices.{BeginsWith}
use Rattle.fmp_run_stream.proofs.Traces.{begins_on}
use Rattle.fmp_run_texts.specs.Faults.{failed_write, is_write}
use Rattle.fmp_run_texts.specs.declared.fault.RunFault.{RunFault}
use Rattle.fmp_run_texts.specs.declared.fault.RunFault.TheVariants as run

-- after bytes that are out a beginning of others is out
pub begins_after : (old prefix line after new : List ℕ) → after ≡ old ++ prefix → BeginsWith after line new → BeginsWith old (prefix ++ line) new
begins_after old prefix line after new split begins =
    subst (λ (xs : List ℕ). BeginsWith old xs new) (append-nil (prefix ++ line)) (begins_on old prefix line [] new (subst (λ (xs : List ℕ). BeginsWith xs line new) split begins))

-- more and more is out
pub grown : (first second third one two : List ℕ) → second ≡ first ++ one → third ≡ second ++ two → (made : List ℕ) × (third ≡ first ++ made)
grown first second third one two a b = (one ++ two, b ∙ ap (λ (xs : List ℕ). xs ++ two) a ∙ append_assoc first one two)

-- what holds of a fault that is no failed write
pub unless_failed_write : (P : RunFault → Type 0) (r : Result (Unit {0}) RunFault) → failed_write r ≡ false → IfErr r (λ fault. is_write fault ≡ false → P fault) → IfErr r P
unless_failed_write P (Ok x) is holds = tt
unless_failed_write P (Err fault) is holds = holds is

-- what holds in any case holds after an error
pub on_err : {T E : Type 0} (r : Result T E) (P : Type 0) → P → OnErr r P
on_err (Ok x) P holds = tt
on_err (Err e) P holds = holds

-- what holds of a failed write
pub when_failed_write : (P : RunFault → Type 0) (r : Result (Unit {0}) RunFault) → failed_write r ≡ true → P run.Write → IfErr r P
when_failed_write P (Ok x) is holds = tt
when_failed_write P (Err run.Write) is holds = holds
when_failed_write P (Err (run.Config fault)) is holds = absurd cc
when_failed_write P (Err (run.Text fault)) is holds = absurd cc
when_failed_write P (Err run.Read) is holds = absurd cc
when_failed_write P (Err run.Memory) is holds = absurd cc
when_failed_write P (Err run.Start) is holds = absurd cc
when_failed_write P (Err run.Disagree) is holds = absurd cc
