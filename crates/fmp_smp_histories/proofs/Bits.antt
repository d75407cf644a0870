-- The next calls of scripts are within the bits of their kinds, where the scripts are.
use Rattle.std.proofs.Common.{◌≡◌, ℕ, zero, suc, ◌==◌, List, [], ◌∷◌, slice_get, Option, Some, None, refl, arith}
use Rattle.std.specs.Prelude.{All, unwrap_or}
use Rattle.std.proofs.lemmas.Bool.{cond_both}
use Rattle.std.proofs.lemmas.List.Elements.{All-nil, All-cons, All-tail}
use Rattle.fmp_codes.specs.declared.calls.Call.{Call}
use Rattle.fmp_codes.specs.declared.numbers.Proc.{Proc}
use Rattle.fmp_codes.specs.declared.records.Event.{Event}
use Rattle.fmp_codes.specs.declared.records.Record.{Record}
use Rattle.fmp_codes.specs.declared.records.Runner.{Runner}
use Rattle.fmp_codes.specs.declared.records.Runner.TheVariants as runner
use Rattle.fmp_calls.specs.Arguments.{CallInBits, EventInBits}
use Rattle.fmp_setup.specs.Setup.{Setup}
use Rattle.fmp_text_scripts.specs.Scripts.{Steps, script_of, script_of_option, AreInBits}
use Rattle.fmp_smp_histories.specs.Histories.{events_of}
use Rattle.fmp_smp_histories.specs.Positions.{function_of}
use Rattle.fmp_smp_histories.specs.Scripted.{last_of, next_call}

abbrev CallFits : Option Call → Type 0
CallFits None = Unit {0}
CallFits (Some call) = CallInBits call

abbrev pub EventFits : Option Event → Type 0
EventFits None = Unit {0}
EventFits (Some e) = EventInBits e

step_fits : (steps : List Call) (n : ℕ) → All CallInBits steps → CallFits (slice_get steps n)
step_fits [] n all = tt
step_fits (x ∷ xs) zero all = all 0 x (omega arith)
step_fits (x ∷ xs) (suc n) all = step_fits xs n (All-tail CallInBits x xs all)

script_fits : (scripts : List Steps) (f : ℕ) → AreInBits scripts → All CallInBits (script_of scripts f)
script_fits [] f all = All-nil CallInBits
script_fits (s ∷ ss) f all =
    cond_both (s.function == f) _ _ (All CallInBits) (λ _. all 0 s (omega arith)) (λ _. script_fits ss f (All-tail (λ x. All CallInBits x.steps) s ss all))

option_fits : (scripts : List Steps) (o : Option ℕ) → AreInBits scripts → All CallInBits (script_of_option scripts o)
option_fits scripts None all = All-nil CallInBits
option_fits scripts (Some f) all = script_fits scripts f all

last_fits : (r : Runner) → CallInBits (last_of r)
last_fits (runner.Task t) = tt
last_fits (runner.Alarm a) = tt
last_fits (runner.Cyclic y) = tt

or_fits : (a : Option Call) (b : Call) → CallFits a → CallInBits b → CallInBits (unwrap_or a b)
or_fits None b fa fb = fb
or_fits (Some x) b fa fb = fa

-- events that are each within the bits of their kinds
pub at_each : (h : List Record) → ((k : ℕ) (r : Record) → slice_get h k ≡ Some r → EventInBits r.event) → All EventInBits (events_of h)
at_each [] fits = All-nil EventInBits
at_each (r ∷ h) fits = All-cons EventInBits r.event (events_of h) (fits 0 r refl) (at_each h (λ k x at. fits (suc k) x at))

module _ (c : Setup) (scripts : List Steps) (all : AreInBits scripts) where
  -- the call that is next
  pub next_fits : (h : List Record) (p : Proc) (o : Option Runner) → EventFits (next_call c scripts h p o)
  next_fits h p None = tt
  next_fits h p (Some r) = or_fits _ _ (step_fits _ _ (option_fits scripts (function_of c r) all)) (last_fits r)
