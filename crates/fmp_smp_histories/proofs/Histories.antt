-- A history that is one event longer.
use Rattle.std.proofs.Common.{◌≡◌, ◌≤◌, List, [], ◌∷◌, ◌++◌, length, refl, ap, sym, ◌∙◌, arith}
use Rattle.std.proofs.lemmas.List.{map-append}
use Rattle.std.proofs.lemmas.List.Elements.{All-push, All-tail}
use Rattle.fmp_codes.specs.Records.{processor_of, AreOn}
use Rattle.fmp_codes.specs.declared.records.Event.{Event}
use Rattle.fmp_codes.specs.declared.records.Event.TheVariants as events
use Rattle.fmp_codes.specs.declared.records.Record.{Record}
use Rattle.fmp_setup.specs.Setup.{Setup}
use Rattle.fmp_rules.specs.World.{World}
use Rattle.fmp_rules.specs.Arrivals.{State, numbered}
use Rattle.fmp_rules.specs.Step.{step, replay, answers}
use Rattle.fmp_rules.specs.Boot.{booted}
use Rattle.fmp_rules.proofs.Replays.{replay_more, answers_more}
use Rattle.fmp_setup.specs.Valid.{IsValid}
use Rattle.fmp_law_safety.specs.Safe.{Safe}
use Rattle.fmp_law_safety.proofs.Stepping.{numbered_tops, safe_step}
use Rattle.fmp_law_safety.proofs.Listed.{numbered_lists}
use Rattle.fmp_law_safety.proofs.Booted.{booted_safe, count_booted}
use Rattle.fmp_kernel_order.specs.Queues.{Queues}
use Rattle.fmp_law_lists.specs.Stands.{Stands}
use Rattle.fmp_smp_histories.specs.Histories.{events_of, state_after, IsRunOf}

pub events_more : (h : List Record) (r : Record) → events_of (h ++ r ∷ []) ≡ events_of h ++ r.event ∷ []
events_more h r = map-append (λ (x : Record). x.event) h (r ∷ [])

-- the state after one more record, that of an event
pub after_more : (c : Setup) (h : List Record) (e : Event) (r : Record) → r.event ≡ e → state_after c (h ++ r ∷ []) ≡ (step numbered (state_after c h) e).0
unfolding state_after
after_more c h e r is = rw (events_more h r, is) (replay_more (booted c) (events_of h) e)

-- a run is still a run with the record of one more event
pub run_more : (c : Setup) (h : List Record) (e : Event) (r : Record) → IsRunOf c h → r ≡ (step numbered (state_after c h) e).1 → r.event ≡ e
    → (processor_of e).number ≤ c.processors → IsRunOf c (h ++ r ∷ [])
unfolding state_after
run_more c h e r run is event here =
    let longer : answers numbered (booted c) (events_of h ++ e ∷ []) ≡ answers numbered (booted c) (events_of h) ++ r ∷ [] =
    answers_more (booted c) (events_of h) e ∙ ap (λ x. answers numbered (booted c) (events_of h) ++ x ∷ []) (sym is) in
    let P : Event → Type 0 = λ x. (processor_of x).number ≤ c.processors in
    let events : events_of (h ++ r ∷ []) ≡ events_of h ++ e ∷ [] = events_more h r ∙ ap (λ x. events_of h ++ x ∷ []) event in
    record {
      answers = ap (λ x. x ++ r ∷ []) run.answers ∙ sym longer ∙ ap (answers numbered (booted c)) (sym events);
      on = rw events (All-push P (events_of h) e run.on here);
    }

-- ---- how many processors there are

count_replay : (m : State) (es : List Event) → Safe numbered m → AreOn (length m.processors) es → length (replay numbered m es).processors ≡ length m.processors
count_replay m [] safe on = refl
count_replay m (e ∷ es) safe on =
    let one = safe_step numbered numbered_tops numbered_lists m e safe ((processor_of e).least, on 0 e (omega arith)) in
    let P : Event → Type 0 = λ x. (processor_of x).number ≤ length m.processors in
    count_replay (step numbered m e).0 es one.safe (rw one.count (All-tail P e es on)) ∙ one.count

-- after a run there are the processors of its configuration
pub count_after : (c : Setup) (h : List Record) → IsValid c → IsRunOf c h → length (state_after c h).processors ≡ c.processors
unfolding state_after
count_after c h valid run =
    count_replay (booted c) (events_of h) (booted_safe c valid) (rw (count_booted c) run.on)
    ∙ count_booted c

-- what stands for that state has as many
pub stands_count : (c : Setup) (h : List Record) (k : World Queues) → IsValid c → IsRunOf c h → Stands k (state_after c h) → length k.processors ≡ c.processors
stands_count c h k valid run stands = ap (λ (w : World Queues). length w.processors) stands.same ∙ count_after c h valid run
