-- What a state has along a run of what its configuration and the records tell.
use Rattle.std.proofs.Common.{◌≡◌, ℕ, ◌+◌, Bool, true, false, List, [], ◌∷◌, length, refl, sym, ◌∙◌, subst, arith}
use Rattle.std.specs.Prelude.{nat_lt, slice_index_or, take}
use Rattle.std.proofs.lemmas.Bool.{lt-ltb, le-ltb}
use Rattle.std.proofs.lemmas.List.{take_all}
use Rattle.fmp_codes.specs.declared.numbers.Object.{Object}
use Rattle.fmp_codes.specs.declared.records.Event.{Event}
use Rattle.fmp_codes.specs.declared.records.Record.{Record}
use Rattle.fmp_setup.specs.Setup.{Setup}
use Rattle.fmp_setup.specs.Valid.{IsValid}
use Rattle.fmp_rules.specs.Objects.{pool}
use Rattle.fmp_rules.specs.Arrivals.{State, numbered}
use Rattle.fmp_rules.specs.Step.{step, replay, answers}
use Rattle.fmp_rules.specs.Boot.{booted}
use Rattle.fmp_rules.proofs.Replays.{answers_take}
use Rattle.fmp_law_safety.specs.Runs.{processor_of, AreOn}
use Rattle.fmp_law_safety.proofs.Booted.{runs_safe, count_booted}
use Rattle.fmp_law_safety.proofs.Listed.{numbered_lists}
use Rattle.fmp_law_safety.proofs.Stepping.{numbered_tops, safe_step}
use Rattle.fmp_law_balance.specs.Accepted.{one_if}
use Rattle.fmp_law_balance.specs.Balance.{Balance}
use Rattle.fmp_law_balance.proofs.Booted.{balanced_throughout}
use Rattle.fmp_law_balance.specs.Waits.Waits.{OpenWaits, nobody_waits, after_record}
use Rattle.fmp_law_records.proofs.counts.Ready.{Ready, ready_next, ready_at_boot, ready_after}
use Rattle.fmp_law_records.proofs.LivesRuns.{life_from_boot}
use Rattle.fmp_law_records.specs.Refusals.Arguments.{is_out}
use Rattle.fmp_law_records.proofs.refusals.Frames.{framed_from_boot}
use Rattle.fmp_law_records.proofs.refusals.Configured.{Configured}

-- Along a run.

less_by_one : (back out : ℕ) (b : Bool) → out ≡ back + one_if b → nat_lt back out ≡ b
less_by_one back out true e = lt-ltb back out (omega (arith, e))
less_by_one back out false e = le-ltb back out (omega (arith, e))

processors_run : (c : Setup) (pending : OpenWaits) (m : State) (es : List Event) → Ready c pending m es → length (replay numbered m es).processors ≡ length m.processors
processors_run c pending m [] ready = refl
processors_run c pending m (e ∷ es) ready =
    processors_run c (after_record c pending (step numbered m e).1) (step numbered m e).0 es (ready_next c pending m e es ready)
    ∙ (safe_step numbered numbered_tops numbered_lists m e ready.safe ((processor_of e).least, ready.on 0 e (omega arith))).count

module _ (c : Setup) (events : List Event) (valid : IsValid c) (on : AreOn c.processors events) where
  abbrev m : State
  m = replay numbered (booted c) events

  abbrev records : List Record
  records = answers numbered (booted c) events

  -- what is so at every prefix is so in the end
  pub at_end : (P : List Record → State → Type 0) → ((n : ℕ) → P (take n records) (replay numbered (booted c) (take n events))) → P records m
  at_end P so =
      let n : ℕ = length events in
      let all : take n events ≡ events = take_all n events (omega arith) in
      subst (λ es. P (answers numbered (booted c) es) (replay numbered (booted c) es)) all
      (subst (λ rs. P rs (replay numbered (booted c) (take n events))) (sym (answers_take n (booted c) events)) (so n))

  -- all that came in and went out of objects balances
  pub balance_after_all : Balance c records m
  balance_after_all = at_end (λ rs v. Balance c rs v) (balanced_throughout c events valid.few (runs_safe c events valid on))

  pub configured_after_all : Configured c m
  configured_after_all =
      let ready = ready_after c valid events on in
      record {
        frame = framed_from_boot c events;
        tasks = ready.tasks;
        processors = processors_run c nobody_waits (booted c) events (ready_at_boot c valid events on) ∙ count_booted c;
        few = ready.sound.few_tasks;
        classes = λ t here. (life_from_boot c t (rw (sym ready.tasks) here) events valid on).setup;
      }

  pub blocks_after_all : (o : Object) (b : ℕ) → slice_index_or (pool m o).handed b false ≡ is_out records o b
  blocks_after_all o b = sym (less_by_one _ _ _ (balance_after_all.pools o b))
