-- A law of one step, from the calls and the tick.
use Rattle.std.proofs.Common.{◌≡◌, ◌+◌, ℕ, false, ◌||◌, List, [], ◌∷◌, refl, sym, subst, arith, Option, None}
use Rattle.std.specs.Prelude.{if◌then◌else◌, is_some, sum_by}
use Rattle.std.proofs.lemmas.Bool.{cond_both}
use Rattle.std.proofs.lemmas.List.Sums.{sum_by-cons}
use Rattle.fmp_codes.specs.declared.numbers.Proc.{Proc}
use Rattle.fmp_codes.specs.declared.numbers.Task.{Task}
use Rattle.fmp_codes.specs.declared.calls.Call.{Call}
use Rattle.fmp_codes.specs.declared.records.Answer.{Answer}
use Rattle.fmp_codes.specs.declared.records.Answer.TheVariants as answer
use Rattle.fmp_codes.specs.declared.records.Event.{Event}
use Rattle.fmp_codes.specs.declared.records.Event.TheVariants as event
use Rattle.fmp_codes.specs.declared.records.Record.{Record}
use Rattle.fmp_codes.specs.declared.records.Runner.{Runner}
use Rattle.fmp_codes.specs.Records.{is_call}
use Rattle.fmp_rules.specs.Effects.{Effect}
use Rattle.fmp_rules.specs.declared.machine.Processor.{Processor}
use Rattle.fmp_setup.specs.Setup.{has_time}
use Rattle.fmp_rules.specs.World.{World, processor, handler, runner_of, is_held}
use Rattle.fmp_rules.specs.Ordering.{Ordering}
use Rattle.fmp_rules.specs.Rows.{called, plain}
use Rattle.fmp_rules.specs.Tick.{tick}
use Rattle.fmp_rules.specs.Step.{tops, row_of, settled, before_event, unchanged, step, replay, answers}
use Rattle.fmp_law_safety.proofs.Settling.{settle_is}
use Rattle.fmp_law_balance.specs.Accepted.{is_accepted}

-- the record of an event that did this, before it is known what runs and who is sent a request
abbrev pub report : Event → Option Runner → Effect → Record
report e r did = record { event = e; runner = r; answer = did.answer; releases = did.releases; lost = did.lost; run_change = None; requests = [] }

-- A law that says nothing of the processors, of the change of the running task and of requests holds of a step where it
-- holds of what each call does and of what a tick does, and of the answers of which nothing is accepted.
module _ {Q : Type 0} (k : Ordering Q) (w : World Q) (L : World Q → Record → Type 0)
    (blind : (v : World Q) (cs : List Processor) (r : Record) (x : Option (Option Task)) (ps : List Proc) →
    L v r → L (record v { processors = cs }) (record r { run_change = x; requests = ps }))
    (calls : (p : Proc) (c : Call) → L (called w p (row_of k w p c)).0 (report (event.Call p c) (runner_of w p) (called w p (row_of k w p c)).1))
    (idles : (p : Proc) (c : Call) → is_some (runner_of w p) ≡ false → L w (report (event.Call p c) (runner_of w p) (plain answer.Idle)))
    (ticks : (p : Proc) → L (tick k w p).0 (report (event.Tick p) (runner_of w p) (tick k w p).1))
    (others : (e : Event) (r : Option Runner) (a : Answer) → is_call e ≡ false → is_accepted a ≡ false → L w (report e r (plain a))) where
  abbrev After : World Q × Record → Type 0
  After after = L after.0 after.1

  ended : (e : Event) (q : Proc) (did : World Q × Effect) → L did.0 (report e (runner_of w q) did.1) → After (settled k (before_event k w e q) did)
  unfolding settled before_event
  ended e q did h =
      subst (λ v. L v (settled k (before_event k w e q) did).1) (sym (settle_is k (tops k w) did.0 q)) (blind did.0 _ (report e (runner_of w q) did.1) _ _ h)

  pub by_step : (e : Event) → L (step k w e).0 (step k w e).1
  unfolding unchanged
  by_step (event.Call p c) = cond_both (is_some (runner_of w p)) _ _ After (λ _. ended _ p (called w p (row_of k w p c)) (calls p c)) (λ none. idles p c none)
  by_step (event.Tick p) =
      cond_both (has_time w.timer p) _ _ After
      (λ _.
      cond_both ((processor w p).locked || is_some (handler w p)) _ _ After (λ _. others (event.Tick p) (runner_of w p) answer.Held refl refl)
      (λ _. ended _ p (tick k w p) (ticks p)))
      (λ _. others (event.Tick p) (runner_of w p) answer.Nothing refl refl)
  by_step (event.Ipi p) =
      cond_both (is_held w p) _ _ After (λ _. others (event.Ipi p) (runner_of w p) answer.Held refl refl)
      (λ _. ended _ p (w, plain (if (processor w p).latch then answer.Taken else answer.Nothing))
      (others (event.Ipi p) (runner_of w p) _ refl (cond_both (processor w p).latch answer.Taken answer.Nothing (λ a. is_accepted a ≡ false) (λ _. refl) (λ _. refl))))

-- A number of each state, which each record makes greater and smaller, where this is so at the beginning and is kept.
module _ {Q : Type 0} (k : Ordering Q) (Kept : World Q → Type 0) (keeps : (w : World Q) (e : Event) → Kept w → Kept (step k w e).0) (value : World Q → ℕ)
    (more less : Record → ℕ) (law : (w : World Q) → Kept w → (e : Event) → value w + more (step k w e).1 ≡ value (step k w e).0 + less (step k w e).1) where
  pub sums : (w : World Q) (es : List Event) → Kept w → value w + sum_by more (answers k w es) ≡ value (replay k w es) + sum_by less (answers k w es)
  sums w [] kept = refl
  sums w (e ∷ es) kept =
      let v = (step k w e).0 in
      let r = (step k w e).1 in
      omega (arith, law w kept e, sums v es (keeps w e kept), sum_by-cons more r (answers k v es), sum_by-cons less r (answers k v es))
