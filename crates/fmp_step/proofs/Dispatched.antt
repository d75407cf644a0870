-- A processor that runs its top already, and a tick after which nothing is over.
use Rattle.std.proofs.Common.{◌≡◌, ◌≤◌, ◌-◌, Bool, true, false, ◌||◌, inl, inr, Option, None, Some, List, [], length, if◌then◌else◌, refl, ap, sym, ◌∙◌, arith}
use Rattle.std.specs.Prelude.{is_some}
use Rattle.std.proofs.lemmas.Bool.{cases_Bool, eqb-true}
use Rattle.std.proofs.lemmas.List.{length-map, set-get_or}
use Rattle.std.proofs.lemmas.List.FromFn.{length-map-range_with_len}
use Rattle.fmp_codes.specs.Numbers.{as_proc}
use Rattle.fmp_codes.specs.declared.numbers.Proc.{Proc}
use Rattle.fmp_codes.specs.declared.numbers.Task.{Task}
use Rattle.fmp_codes.specs.declared.records.Event.TheVariants as event
use Rattle.fmp_codes.specs.declared.records.Answer.TheVariants as answer
use Rattle.fmp_codes.specs.declared.records.Record.{Record}
use Rattle.fmp_codes.proofs.Same.{tasks_same}
use Rattle.fmp_rules.specs.declared.machine.Processor.{Processor}
use Rattle.fmp_rules.specs.World.{World, processor, with_processor, handler, is_held, no_processor, runner_of, processors_of}
use Rattle.fmp_rules.specs.Ordering.{Ordering, top}
use Rattle.fmp_rules.specs.Rows.{plain}
use Rattle.fmp_rules.specs.Step.{is_same, before_event, changed_run, dispatched, latched, requests, settle, settled, step, tops, unchanged}
use Rattle.fmp_rules.specs.Tick.{counted_down, tick}
use Rattle.fmp_setup.specs.Setup.{has_time}
use Rattle.fmp_rules.proofs.Runners.{same_as_itself}
use Rattle.fmp_step.proofs.Processors.{none_requested}

pub same_tasks : (a b : Option Task) → is_same a b ≡ true → a ≡ b
same_tasks None None same = refl
same_tasks None (Some u) same = cc
same_tasks (Some t) None same = cc
same_tasks (Some t) (Some u) same = ap Some (tasks_same t u (eqb-true t.number u.number same))

module _ {Q : Type 0} (k : Ordering Q) (w : World Q) (q : Proc) where
  pub dispatched_same : (processor w q).latch ≡ false → (processor w q).running ≡ top k w q → dispatched k w q ≡ w
  dispatched_same none runs =
      let r : Processor = processor w q in
      let is : record r { running = top k w q; latch = false } ≡ r =
      ap (λ (o : Option Task). record r { running = o; latch = false }) (sym runs) ∙ ap (λ (b : Bool). record r { latch = b }) (sym none) in
      elim (cases_Bool (is_held w q)) [
        | inl b ↦ rw b refl
        | inr b ↦ rw b (ap (with_processor w q) is ∙ ap (λ (ps : List Processor). record w { processors = ps }) (set-get_or w.processors (q.number - 1) no_processor))
      ]

  unmoved : (a : Option Task) → changed_run a a ≡ None
  unmoved a = ap (λ (b : Bool). if b then None else Some a) (same_as_itself a)

  -- after the counts fell nothing is over, and the processor runs its top
  pub still : length w.processors ≤ 8 → dispatched k (counted_down w q) q ≡ counted_down w q
      → settled k (before_event k w (event.Tick q) q) (counted_down w q, plain answer.Taken) ≡ unchanged (counted_down w q) (event.Tick q) q answer.Taken
  unfolding settled before_event unchanged counted_down
  still few stays =
      let v : World Q = counted_down w q in
      let some : length (tops k w) ≤ 8 = omega (arith, few, length-map (processors_of w) (top k w), length-map-range_with_len as_proc 1 (length w.processors)) in
      let none : requests k (tops k w) v q ≡ [] = none_requested k v q (tops k w) refl some in
      let after : settle k (tops k w) v q ≡ v = ap (λ (ps : List Proc). dispatched k (latched v ps) q) none ∙ stays in
      let report : World Q → Option (Option Task) → List Proc → World Q × Record =
      λ a change ps. (
        a,
        record { event = event.Tick q; runner = runner_of w q; answer = answer.Taken; releases = []; lost = None; run_change = change; requests = ps },
      ) in
      ap (λ (a : World Q). report a (changed_run (processor w q).running (processor a q).running) (requests k (tops k w) v q)) after
      ∙ ap (λ (ps : List Proc). report v (changed_run (processor w q).running (processor w q).running) ps) none
      ∙ ap (λ (o : Option (Option Task)). report v o []) (unmoved (processor w q).running)

  -- the step of a tick that counts and is not held back
  pub taken : (did : World Q × Record) → has_time w.timer q ≡ true → (processor w q).locked ≡ false → is_some (handler w q) ≡ false
      → did ≡ settled k (before_event k w (event.Tick q) q) (tick k w q) → did ≡ step k w (event.Tick q)
  taken did counts unlocked idle is =
      let either : Bool → Bool → World Q × Record =
      λ a b. if a then (if b then unchanged w (event.Tick q) q answer.Held else settled k (before_event k w (event.Tick q) q) (tick k w q)) else unchanged w (event.Tick q) q answer.Nothing in
      let free : ((processor w q).locked || is_some (handler w q)) ≡ false = ap (λ (b : Bool). b || is_some (handler w q)) unlocked ∙ idle in
      is ∙ ap (either true) (sym free) ∙ ap (λ (a : Bool). either a ((processor w q).locked || is_some (handler w q))) (sym counts)
