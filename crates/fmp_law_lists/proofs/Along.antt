-- The state with queues stands for that with numbers along a run.
use Rattle.std.proofs.Common.{◌≡◌, ◌∙◌, ◌+◌, ℕ, zero, suc, ◌≤◌, List, [], ◌∷◌, length, take, sym, ap, arith}
use Rattle.std.proofs.lemmas.List.{take_all}
use Rattle.std.proofs.lemmas.List.Elements.{All-head, All-tail}
use Rattle.fmp_codes.specs.Records.{processor_of}
use Rattle.fmp_codes.specs.declared.records.Event.{Event}
use Rattle.fmp_codes.specs.declared.records.Record.{Record}
use Rattle.fmp_setup.specs.Setup.{Setup}
use Rattle.fmp_setup.specs.Valid.{IsValid}
use Rattle.fmp_rules.specs.World.{World}
use Rattle.fmp_rules.specs.Arrivals.{State, numbered}
use Rattle.fmp_rules.specs.Boot.{booted}
use Rattle.fmp_rules.specs.Step.{replay, answers, step}
use Rattle.fmp_rules.proofs.Replays.{answers_take}
use Rattle.fmp_law_safety.specs.Runs.{AreOn}
use Rattle.fmp_law_safety.specs.Safe.{IsNumberOf, Safe}
use Rattle.fmp_law_safety.proofs.Booted.{booted_safe, count_booted, runs_safe}
use Rattle.fmp_law_safety.proofs.Stepping.{numbered_tops, safe_step}
use Rattle.fmp_law_safety.proofs.Listed.{numbered_lists}
use Rattle.fmp_law_balance.proofs.Booted.{balanced_throughout}
use Rattle.fmp_kernel_order.specs.Queues.{Queues, listed}
use Rattle.fmp_law_lists.specs.Stands.{Stands}
use Rattle.fmp_law_lists.proofs.Boots.{boot_stands}
use Rattle.fmp_law_lists.proofs.SafeLists.{lists_are_right}
use Rattle.fmp_law_lists.proofs.Steps.{lists_refine}
use Rattle.fmp_law_lists.specs.Headline.{Headline, HeadlineThroughout, queues_after}
use Rattle.fmp_law_lists.proofs.Parts.{on_one, runs_highest}

-- the lists stand for the state after every prefix
stands_along : (k : World Queues) (m : State) (es : List Event) → Stands k m → Safe numbered m → AreOn (length m.processors) es → (n : ℕ) →
    Stands (replay listed k (take n es)) (replay numbered m (take n es))
stands_along k m es h s on zero = h
stands_along k m [] h s on (suc n) = h
stands_along k m (e ∷ es) h s on (suc n) =
    let P : Event → Type 0 = λ x. (processor_of x).number ≤ length m.processors in
    let here : IsNumberOf m.processors (processor_of e).number = ((processor_of e).least, All-head P e es on) in
    let next = safe_step numbered numbered_tops numbered_lists m e s here in
    stands_along (step listed k e).0 (step numbered m e).0 es (lists_refine k m e h s here).stands next.safe (rw next.count (All-tail P e es on)) n

pub headline_throughout : (c : Setup) (es : List Event) → IsValid c → AreOn c.processors es → HeadlineThroughout c es (answers numbered (booted c) es)
headline_throughout c es valid on n =
    let m : State = replay numbered (booted c) (take n es) in
    let safe : Safe numbered m = runs_safe c es valid on n in
    let stands : Stands (queues_after c (take n es)) m = stands_along _ (booted c) es (boot_stands c valid.few_tasks) (booted_safe c valid) (rw (count_booted c) on) n in
    record {
      profile = sym (answers_take n (booted c) es);
      one_processor = on_one m safe;
      same_state = stands;
      queues = lists_are_right (queues_after c (take n es)) m stands;
      balanced = balanced_throughout c es valid.few (runs_safe c es valid on) n;
      precedence = runs_highest m safe;
    }

-- records of which the headline speaks are the answers, all of them
pub records_are_answers : (c : Setup) (es : List Event) (rs : List Record) → HeadlineThroughout c es rs → rs ≡ answers numbered (booted c) es
records_are_answers c es rs headline =
    let all : ℕ = length rs + length es in
    sym (take_all all rs (omega arith)) ∙ (headline all).profile ∙ ap (answers numbered (booted c)) (take_all all es (omega arith))
