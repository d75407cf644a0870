-- believed: see docs/PROOF.md, "What has to be believed"
-- What is written of each call: where it may come from, its errors in order, and what it does.
use Rattle.std.specs.Prelude.{ℤ, Bool, true, false, not, ◌&&◌, ◌||◌, Option, None, Some, List, [], ◌∷◌, ◌++◌, if◌then◌else◌, unwrap_or, is_some}
use Rattle.fmp_codes.specs.Numbers.{as_proc, as_task, as_object}
use Rattle.fmp_codes.specs.declared.numbers.Proc.{Proc}
use Rattle.fmp_codes.specs.declared.numbers.Task.{Task}
use Rattle.fmp_codes.specs.declared.numbers.Object.{Object}
use Rattle.fmp_codes.specs.declared.codes.Code.{Code}
use Rattle.fmp_codes.specs.declared.codes.Code.TheVariants as code
use Rattle.fmp_codes.specs.declared.records.Answer.{Answer}
use Rattle.fmp_codes.specs.declared.records.Answer.TheVariants as answer
use Rattle.fmp_codes.specs.declared.records.Release.{Release}
use Rattle.fmp_rules.specs.Effects.{Effect}
use Rattle.fmp_setup.specs.declared.setup.Class.{Class}
use Rattle.fmp_rules.specs.declared.machine.Context.{Context}
use Rattle.fmp_rules.specs.declared.machine.Context.TheVariants as context
use Rattle.fmp_rules.specs.declared.machine.Rule.{Rule}
use Rattle.fmp_rules.specs.declared.machine.Wait.{Wait}
use Rattle.fmp_setup.specs.Setup.{has_member}
use Rattle.fmp_rules.specs.World.{World, processor, handler, is_held}
use Rattle.fmp_rules.specs.Ordering.{Ordering, begin_wait}
use Rattle.fmp_rules.specs.Tasks.{make_ready}
use Rattle.fmp_rules.specs.Arguments.{caller, is_timeout, is_zero, ticks_of}

pub record Row (Q : Type 0) : Type 0 where
  pub rule : Rule  -- when the call may be made
  pub known : Bool  -- each ID is that of an object
  pub proper : Bool  -- each other argument is in its range
  pub errors : List (Bool × Code)  -- the errors on the state, in order
  pub effect : World Q × Effect  -- what an accepted call does

-- the context is another than the call's; a call from a task needs one that runs
abbrev pub is_wrong_context : Context → Bool → Bool → Bool
is_wrong_context context.Task has_handler has_task = has_handler || not has_task
is_wrong_context context.Handler has_handler has_task = not has_handler
is_wrong_context context.Any has_handler has_task = false

-- the code of the first test that passes
abbrev pub first_error : List (Bool × Code) → Option Code
first_error [] = None
first_error (e ∷ es) = if e.0 then Some e.1 else first_error es

-- an answer and nothing else
abbrev pub plain : Answer → Effect
plain a = record { answer = a; releases = []; lost = None }

abbrev pub done : Effect
done = plain (answer.Done code.Accepted None)

abbrev pub with_value : ℤ → Effect
with_value v = plain (answer.Done code.Accepted (Some v))

abbrev pub refused : Code → Effect
refused c = plain (answer.Done c None)

abbrev pub in_task : Rule
in_task = record { context = context.Task; when_locked = false; unheld = false }

abbrev pub anywhere : Rule
anywhere = record { context = context.Any; when_locked = true; unheld = false }

abbrev pub no_errors : {X : Type 0} → X → List (Bool × Code)
no_errors x = []

module _ {Q : Type 0} (w : World Q) where
  -- the call may not be made on p now
  abbrev pub is_refused_context : Proc → Rule → Bool
  is_refused_context p rule =
      is_wrong_context rule.context (is_some (handler w p)) (is_some (processor w p).running)
      || ((processor w p).locked && not rule.when_locked)
      || (rule.unheld && is_held w p)

  -- the first error of a call that applies
  abbrev pub check : Proc → Row Q → Option Code
  check p row =
      first_error (
      (is_refused_context p row.rule, code.Context)
      ∷ (not row.known, code.Identifier)
      ∷ (not row.proper, code.Parameter)
      ∷ row.errors)

  -- the effect, or where there is an error its code and no change
  abbrev pub called_by : (World Q × Effect) → Option Code → World Q × Effect
  called_by effect None = effect
  called_by effect (Some c) = (w, refused c)

  -- what a call from p does, be it refused or not
  abbrev pub called : Proc → Row Q → World Q × Effect
  called p row = called_by row.effect (check p row)

module _ {Q : Type 0} where
  -- the call is made from a handler
  abbrev pub in_handler : Row Q → Row Q
  in_handler row = record row { rule = record row.rule { context = context.Handler } }

  -- the call may also be made in the CPU-locked state
  abbrev pub when_locked : Row Q → Row Q
  when_locked row = record row { rule = record row.rule { when_locked = true } }

  -- the call may be made from a task and from a handler, and in the CPU-locked state
  abbrev pub from_anywhere : Row Q → Row Q
  from_anywhere row = record row { rule = anywhere }

  -- where this is so, the call may be made only while dispatching is not held
  abbrev pub unheld_if : Bool → Row Q → Row Q
  unheld_if b row = record row { rule = record row.rule { unheld = b } }

  -- a call that can make the caller wait, with this timeout
  abbrev pub waiting : ℤ → Row Q → Row Q
  waiting timeout row = unheld_if true (record row { proper = row.proper && is_timeout timeout })

  -- a call from a task that has no arguments and no errors
  abbrev pub row : World Q × Effect → Row Q
  row effect = record { rule = in_task; known = true; proper = true; errors = []; effect = effect }

  -- a call on what its argument names. Where it names nothing the call is refused, and its effect on `none` is thrown away
  abbrev pub on_named : {X : Type 0} → X → Option X → (X → List (Bool × Code)) → (X → World Q × Effect) → Row Q
  on_named none o errors effect = record (row (effect (unwrap_or o none))) { known = is_some o; errors = errors (unwrap_or o none) }

  -- a call on the task that its argument names
  abbrev pub on_task : Option Task → (Task → List (Bool × Code)) → (Task → World Q × Effect) → Row Q
  on_task t errors effect = on_named (as_task 1) t errors effect

  -- a call on the object that its argument names
  abbrev pub on_object : Option Object → (Object → List (Bool × Code)) → (Object → World Q × Effect) → Row Q
  on_object o errors effect = on_named (as_object 1) o errors effect

  -- a call that also names a processor, which must be one of a class
  abbrev pub at_processor : Class → Option Proc → Row Q → Row Q
  at_processor c to row = record row { known = row.known && is_some to; proper = row.proper && has_member c (unwrap_or to (as_proc 1)) }

  -- a release before those that follow it
  abbrev pub and_release : Release → (World Q × List Release) → World Q × List Release
  and_release r others = (others.0, r ∷ others.1)

  -- these releases before those that follow them
  abbrev pub and_releases : List Release → (World Q × List Release) → World Q × List Release
  and_releases rs others = (others.0, rs ++ others.1)

module _ {Q : Type 0} (k : Ordering Q) (w : World Q) where
  -- a task waits for this so long, unless the timeout is 0
  abbrev pub wait_for : Task → Wait → ℤ → World Q × Effect
  wait_for t x timeout = if is_zero timeout then (w, refused code.TimedOut) else (begin_wait k w t x (ticks_of timeout), plain answer.Wait)

  -- what can be done at once is done; else the caller waits
  abbrev pub done_or_wait : Proc → Bool → World Q × Effect → Wait → ℤ → World Q × Effect
  done_or_wait p can effect x timeout = if can then effect else wait_for (caller w p) x timeout

  -- the wait of a task ends with a code and perhaps a value, and the call is accepted
  abbrev pub release : Task → Code → Option ℤ → World Q × Effect
  release t c v = (make_ready k w t, record done { releases = record { task = t; code = c; value = v } ∷ [] })
