-- What records say of who holds a spin lock.
use Rattle.std.specs.Prelude.{◌≡◌, Bool, true, false, ◌&&◌, ◌==◌, Option, None, Some, List, [], ◌∷◌, if◌then◌else◌}
use Rattle.std.specs.Option.{option_map_or}
use Rattle.fmp_codes.specs.declared.numbers.Proc.{Proc}
use Rattle.fmp_codes.specs.declared.numbers.Object.{Object}
use Rattle.fmp_codes.specs.declared.calls.Call.TheVariants as call
use Rattle.fmp_codes.specs.declared.calls.TaskCall.TheVariants as task
use Rattle.fmp_codes.specs.declared.calls.SpinCall.TheVariants as spin
use Rattle.fmp_codes.specs.declared.records.Answer.{Answer}
use Rattle.fmp_codes.specs.declared.records.Event.{Event}
use Rattle.fmp_codes.specs.declared.records.Event.TheVariants as event
use Rattle.fmp_codes.specs.declared.records.Record.{Record}
use Rattle.fmp_codes.specs.Records.{processor_of, is_gone}
use Rattle.fmp_rules.specs.World.{World}
use Rattle.fmp_rules.specs.Objects.{holder}
use Rattle.fmp_law_balance.specs.Accepted.{is_accepted, names}

-- the event is a call that asks for this lock
abbrev pub asks_for : Object → Event → Bool
asks_for l (event.Call p (call.Spin (spin.LocSpn id))) = names l id
asks_for l (event.Call p (call.Spin (spin.IlocSpn id))) = names l id
asks_for l (event.Call p (call.Spin (spin.TrySpn id))) = names l id
asks_for l (event.Call p (call.Spin (spin.ItrySpn id))) = names l id
asks_for l other = false

-- it is a call that gives this lock back
abbrev pub gives_back : Object → Event → Bool
gives_back l (event.Call p (call.Spin (spin.UnlSpn id))) = names l id
gives_back l (event.Call p (call.Spin (spin.IunlSpn id))) = names l id
gives_back l other = false

-- it is the end of a task or the return of a handler, which frees what its processor holds
abbrev pub ends_there : Event → Answer → Bool
ends_there (event.Call p call.RetHdr) a = is_accepted a
ends_there (event.Call p (call.Task task.ExtTsk)) a = is_gone a
ends_there other a = false

abbrev pub is_holder : Proc → Option Proc → Bool
is_holder p who = option_map_or (λ q. p.number == q.number) who false

-- who holds the lock l after a record, where this one held it, or none, before
abbrev pub holder_after : Object → Record → Option Proc → Option Proc
holder_after l r held =
    if asks_for l r.event && is_accepted r.answer then Some (processor_of r.event)
    else if gives_back l r.event && is_accepted r.answer then None
    else if ends_there r.event r.answer && is_holder (processor_of r.event) held then None
    else held

abbrev pub holder_by : Object → List Record → Option Proc → Option Proc
holder_by l [] held = held
holder_by l (r ∷ rs) held = holder_by l rs (holder_after l r held)

-- the lock is held by whom the records say
abbrev pub IsHolderReported : {Q : Type 0} → List Record → World Q → Object → Type 0
IsHolderReported records w l = holder w l ≡ holder_by l records None

-- where this one holds l before a record, a call takes l only where nobody does, and gives l back only where its own processor does
pub record LocksFit (l : Object) (held : Option Proc) (r : Record) : Type 0 where
  pub taken : (asks_for l r.event && is_accepted r.answer) ≡ true → held ≡ None
  pub given_back : (gives_back l r.event && is_accepted r.answer) ≡ true → is_holder (processor_of r.event) held ≡ true
