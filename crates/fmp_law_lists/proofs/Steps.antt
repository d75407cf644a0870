-- One event does the same on lists and on numbers.
use Rattle.std.proofs.Common.{◌≡◌, ◌==◌, not, ◌||◌, ◌&&◌, List, map, filter, refl, sym, ap, ◌∙◌, subst, Option, None}
use Rattle.std.specs.Prelude.{is_some}
use Rattle.fmp_codes.specs.declared.numbers.Proc.{Proc}
use Rattle.fmp_codes.specs.declared.numbers.Task.{Task}
use Rattle.fmp_codes.specs.declared.calls.Call.{Call}
use Rattle.fmp_codes.specs.declared.calls.Call.TheVariants as call
use Rattle.fmp_codes.specs.declared.records.Event.{Event}
use Rattle.fmp_codes.specs.declared.records.Event.TheVariants as event
use Rattle.fmp_codes.specs.declared.records.Answer.{Answer}
use Rattle.fmp_codes.specs.declared.records.Answer.TheVariants as answer
use Rattle.fmp_codes.specs.declared.records.Record.{Record}
use Rattle.fmp_rules.specs.Effects.{Effect}
use Rattle.fmp_rules.specs.declared.machine.Processor.{Processor}
use Rattle.fmp_rules.specs.World.{World, item, processor, handler, runner_of, is_held, processors_of}
use Rattle.fmp_setup.specs.Setup.{has_time}
use Rattle.fmp_rules.specs.Ordering.{order_in, top}
use Rattle.fmp_rules.specs.Arrivals.{State, numbered}
use Rattle.fmp_rules.specs.Rows.{called}
use Rattle.fmp_rules.specs.Step.{row_of, is_same, requests, settle, changed_run, Before, before_event, settled, unchanged, step}
use Rattle.fmp_law_safety.specs.Runs.{processor_of}
use Rattle.fmp_law_safety.specs.Safe.{IsNumberOf, Safe}
use Rattle.fmp_law_safety.proofs.Settling.{with_latches, with_dispatch, settle_is}
use Rattle.fmp_kernel_order.specs.Queues.{Queues, listed}
use Rattle.fmp_law_lists.specs.Stands.{count_in, with_order, AreListsOf, Stands, Matches, StepsMatch}
use Rattle.fmp_law_lists.proofs.Words.{by_tests}
use Rattle.fmp_law_lists.proofs.Tops.{same_top}
use Rattle.fmp_law_lists.proofs.Matching.{matches}
use Rattle.fmp_law_lists.proofs.TaskCalls.{task_matches}
use Rattle.fmp_law_lists.proofs.SyncCalls.{sync_matches}
use Rattle.fmp_law_lists.proofs.BufferCalls.{buffer_matches}
use Rattle.fmp_law_lists.proofs.TimeCalls.{time_matches}
use Rattle.fmp_law_lists.proofs.SystemCalls.{system_matches}
use Rattle.fmp_law_lists.proofs.SpinCalls.{spin_matches, return_matches}
use Rattle.fmp_law_lists.proofs.Ticks.{tick_matches}

-- The end of an event asks of the order only what comes first.

module _ (v : State) (x : Queues) (s : AreListsOf x v) where
  pub same_tops : ◌≡◌ {A = Proc → Option Task} (λ p. top listed (with_order v x) p) (λ p. top numbered v p)
  same_tops = λ i p. same_top v.tasks (order_in v) (count_in v) v.waits_left x v.order s p i

  module _ (before : List (Option Task)) (p : Proc) where
    abbrev asked : (Proc → Option Task) → List Proc
    asked first = filter (λ r. not (r.number == p.number) && not (is_same (item None before r.number) (first r))) (processors_of v)

    abbrev latches : (Proc → Option Task) → List Processor
    latches first = with_latches v.processors (asked first)

    abbrev last : (Proc → Option Task) → List Processor
    last first = with_dispatch (latches first) (is_held (record v { processors = latches first }) p) (first p) p

    same_requests : requests listed before (with_order v x) p ≡ requests numbered before v p
    same_requests = ap asked same_tops

    same_settle : settle listed before (with_order v x) p ≡ with_order (settle numbered before v p) x
    same_settle =
        settle_is listed before (with_order v x) p
        ∙ ap (λ (cs : List Processor). with_order (record v { processors = cs }) x) (ap last same_tops)
        ∙ sym (ap (λ (y : State). with_order y x) (settle_is numbered before v p))

    kept_settle : AreListsOf x (settle numbered before v p)
    kept_settle = subst (AreListsOf x) (sym (settle_is numbered before v p)) s

  settled_same : (before : Before) (e : Effect) → StepsMatch (settled listed before (with_order v x, e)) (settled numbered before (v, e))
  unfolding settled
  settled_same before e =
      let after : State = settle numbered before.tops v before.processor in
      let same : settle listed before.tops (with_order v x) before.processor ≡ with_order after x = same_settle before.tops before.processor in
      let order : x ≡ (settle listed before.tops (with_order v x) before.processor).order = sym (ap (λ (y : World Queues). y.order) same) in
      record {
        stands = record { same = same ∙ ap (λ (y : Queues). with_order after y) order; order = subst (λ (y : Queues). AreListsOf y after) order (kept_settle before.tops before.processor) };
        same = ap (λ (y : World Queues). report y (requests listed before.tops (with_order v x) before.processor)) same
            ∙ ap (λ (rs : List Proc). report (with_order after x) rs) (same_requests before.tops before.processor);
      }
    where
      report : World Queues → List Proc → Record
      report y rs = record {
        event = before.event;
        runner = before.runner;
        answer = e.answer;
        releases = e.releases;
        lost = e.lost;
        run_change = changed_run before.running (processor y before.processor).running;
        requests = rs;
      }

settled_matches : (before : Before) (a : World Queues × Effect) (b : State × Effect) → Matches a b → StepsMatch (settled listed before a) (settled numbered before b)
settled_matches before a b h =
    let is : a ≡ (with_order b.0 a.0.order, b.1) = λ i. (h.stands.same i, h.effect i) in
    subst (λ (y : World Queues × Effect). StepsMatch (settled listed before y) (settled numbered before b)) (sym is) (settled_same b.0 a.0.order h.stands.order before b.1)

module _ (m : State) (q : Queues) (s : AreListsOf q m) where
  abbrev w : World Queues
  w = with_order m q

  same_before : (e : Event) (p : Proc) → before_event listed w e p ≡ before_event numbered m e p
  unfolding before_event
  same_before e p =
      ap (λ (first : Proc → Option Task). record { event = e; processor = p; runner = runner_of m p; running = (processor m p).running; tops = map first (processors_of m) })
      (same_tops m q s)

  ended : (e : Event) (p : Proc) (a : World Queues × Effect) (b : State × Effect) → Matches a b → StepsMatch (settled listed (before_event listed w e p) a) (settled numbered (before_event numbered m e p) b)
  ended e p a b h =
      subst (λ (f : Before). StepsMatch (settled listed f a) (settled numbered (before_event numbered m e p) b)) (sym (same_before e p))
      (settled_matches (before_event numbered m e p) a b h)

  nothing : (e : Event) (p : Proc) (a : Answer) → StepsMatch (unchanged w e p a) (unchanged m e p a)
  unfolding unchanged
  nothing e p a = record { stands = record { same = refl; order = s }; same = refl }

  module _ (safe : Safe numbered m) where
    call_matches : (p : Proc) → IsNumberOf m.processors p.number → (c : Call) → Matches (called w p (row_of listed w p c)) (called m p (row_of numbered m p c))
    call_matches p there (call.Task c) = task_matches m q s safe p there c
    call_matches p there (call.Sync c) = sync_matches m q s safe p there c
    call_matches p there (call.Buffer c) = buffer_matches m q s safe p there c
    call_matches p there (call.Time c) = time_matches m q s safe p there c
    call_matches p there (call.System c) = system_matches m q s p c
    call_matches p there (call.Spin c) = spin_matches m q s p c
    call_matches p there call.RetHdr = return_matches m q s p

    step_matches : (e : Event) → IsNumberOf m.processors (processor_of e).number → StepsMatch (step listed w e) (step numbered m e)
    step_matches (event.Call p c) there =
        by_tests StepsMatch (is_some (runner_of m p)) _ _ _ _ (λ _. ended (event.Call p c) p _ _ (call_matches p there c)) (λ _. nothing (event.Call p c) p answer.Idle)
    step_matches (event.Tick p) there =
        by_tests StepsMatch (has_time m.timer p) _ _ _ _
        (λ _.
        by_tests StepsMatch ((processor m p).locked || is_some (handler m p)) _ _ _ _
        (λ _. nothing (event.Tick p) p answer.Held) (λ _. ended (event.Tick p) p _ _ (tick_matches m q s p)))
        (λ _. nothing (event.Tick p) p answer.Nothing)
    step_matches (event.Ipi p) there =
        by_tests StepsMatch (is_held m p) _ _ _ _ (λ _. nothing (event.Ipi p) p answer.Held) (λ _. ended (event.Ipi p) p _ _ (matches m q s _))

pub lists_refine : (k : World Queues) (m : State) (e : Event) → Stands k m → Safe numbered m → IsNumberOf m.processors (processor_of e).number →
    StepsMatch (step listed k e) (step numbered m e)
lists_refine k m e h safe there =
    subst (λ (y : World Queues). StepsMatch (step listed y e) (step numbered m e)) (sym h.same)
    (step_matches m k.order h.order safe e there)
