-- The events of a scripted history are within the bits of their kinds, where the scripts are.
use Rattle.std.proofs.Common.{◌≡◌, ℕ, List, take, slice_get, Some, subst, inl, inr}
use Rattle.std.specs.Prelude.{All}
use Rattle.std.proofs.lemmas.Bool.{cond_both}
use Rattle.fmp_codes.specs.Records.{processor_of}
use Rattle.fmp_codes.specs.declared.numbers.Proc.{Proc}
use Rattle.fmp_codes.specs.declared.records.Event.{Event}
use Rattle.fmp_codes.specs.declared.records.Event.TheVariants as event
use Rattle.fmp_codes.specs.declared.records.Record.{Record}
use Rattle.fmp_calls.specs.Arguments.{EventInBits}
use Rattle.fmp_setup.specs.Setup.{Setup}
use Rattle.fmp_text_scripts.specs.Scripts.{Steps, AreInBits}
use Rattle.fmp_rules.specs.World.{runner_of}
use Rattle.fmp_smp_histories.specs.Histories.{events_of, state_after}
use Rattle.fmp_smp_histories.specs.Scripted.{next_call, is_asked, choice, Scripted, IsScripted}
use Rattle.fmp_smp_histories.proofs.Bits.{EventFits, next_fits, at_each}

module _ (c : Setup) (scripts : List Steps) (all : AreInBits scripts) where
  choice_fits : (h : List Record) (p : Proc) → EventFits (choice c scripts h p)
  choice_fits h p =
      let m = state_after c h in
      cond_both (is_asked m p) (Some (event.Ipi p)) (next_call c scripts h p (runner_of m p)) EventFits (λ _. tt) (λ _. next_fits c scripts all h p (runner_of m p))

  scripted_fits : (h : List Record) (e : Event) → IsScripted c scripts h e → EventInBits e
  scripted_fits h (event.Call p call) (inl tick) = absurd tick
  scripted_fits h (event.Tick p) (inl tick) = tt
  scripted_fits h (event.Ipi p) (inl tick) = tt
  scripted_fits h e (inr picked) = subst EventFits picked (choice_fits h (processor_of e))

  -- every event of a scripted history
  pub events_fit : (h : List Record) → Scripted c scripts h → All EventInBits (events_of h)
  events_fit h scripted = at_each h (λ k r at. scripted_fits (take k h) r.event (scripted k r at))
