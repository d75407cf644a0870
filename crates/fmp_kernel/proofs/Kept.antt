-- What the kernel keeps, and what it tells, over one step.
use Rattle.std.proofs.Common.{◌≡◌, ◌-◌, ◌<◌, ◌≤◌, true, false, None, length, sym, ap, ◌∙◌, subst, arith, ⊎_elim}
use Rattle.std.specs.Prelude.{is_some}
use Rattle.std.proofs.lemmas.Bool.{cases_lt}
use Rattle.std.proofs.lemmas.List.{get_or_past}
use Rattle.fmp_codes.specs.declared.numbers.Task.{Task}
use Rattle.fmp_codes.specs.declared.records.Event.{Event}
use Rattle.fmp_codes.specs.declared.records.Record.{Record}
use Rattle.fmp_kernel_parts.specs.Tasks.{has_task}
use Rattle.fmp_rules.specs.World.{World, item}
use Rattle.fmp_rules.specs.Arrivals.{State, numbered}
use Rattle.fmp_rules.specs.Step.{step}
use Rattle.fmp_law_safety.specs.Runs.{processor_of}
use Rattle.fmp_law_safety.specs.Safe.{Safe}
use Rattle.fmp_law_safety.specs.Laws.{FindsNothing, TakesRequest, RunsTop}
use Rattle.fmp_law_safety.proofs.Stepping.{numbered_tops, safe_step}
use Rattle.fmp_law_safety.proofs.Listed.{numbered_lists}
use Rattle.fmp_law_safety.proofs.Interrupts.{finds_nothing, takes_request, runs_top}
use Rattle.fmp_kernel_order.specs.Queues.{Queues, listed}
use Rattle.fmp_law_lists.specs.Stands.{Stands, StepsMatch}
use Rattle.fmp_law_lists.specs.Laws.{ListsAreRight}
use Rattle.fmp_law_lists.proofs.Steps.{lists_refine}
use Rattle.fmp_law_lists.proofs.SafeLists.{lists_safe, numbers_safe, lists_are_right}
use Rattle.fmp_kernel.specs.Kept.{IsKept}
use Rattle.fmp_kernel.proofs.Report.{takes_over, runs_over}

module _ (k l : World Queues) (e : Event) (r : Record) (kept : IsKept k) (on : (processor_of e).number ≤ length k.processors) (did : (l, r) ≡ step listed k e) where
  on_processor : (m : State) → Stands k m → (processor_of e).number ≤ length m.processors
  on_processor m h = subst (λ (x : World Queues). (processor_of e).number ≤ length x.processors) h.same on

  matches : (m : State) → Stands k m → StepsMatch (l, r) (step numbered m e)
  matches m h = subst (λ (x : World Queues × Record). StepsMatch x (step numbered m e)) (sym did) (lists_refine k m e h (numbers_safe k m h (lists_safe k kept.state kept.stands kept.safe)) ((processor_of e).least, on_processor m h))

  pub stands_after : (m : State) → Stands k m → Stands l (step numbered m e).0
  stands_after m h = (matches m h).stands

  pub record_after : (m : State) → Stands k m → r ≡ (step numbered m e).1
  record_after m h = (matches m h).same

  pub count_after : length l.processors ≡ length k.processors
  count_after =
      let m = kept.state in
      ap (λ (x : World Queues). length x.processors) (stands_after m kept.stands).same
      ∙ (safe_step numbered numbered_tops numbered_lists m e kept.safe ((processor_of e).least, on_processor m kept.stands)).count
      ∙ sym (ap (λ (x : World Queues). length x.processors) kept.stands.same)

  pub kept_after : IsKept l
  kept_after = record {
    state = (step numbered kept.state e).0;
    stands = stands_after kept.state kept.stands;
    safe = (safe_step numbered numbered_tops numbered_lists kept.state e kept.safe ((processor_of e).least, on_processor kept.state kept.stands)).safe;
  }

  pub nothing_after : FindsNothing listed k e r l
  nothing_after = subst (λ (x : World Queues × Record). FindsNothing listed k e x.1 x.0) (sym did) (finds_nothing listed k e)

  pub taken_after : TakesRequest k e r l
  taken_after =
      let m = kept.state in
      takes_over k l m (step numbered m e).0 kept.stands (stands_after m kept.stands) e r
      (subst (λ (x : Record). TakesRequest m e x (step numbered m e).0) (sym (record_after m kept.stands)) (takes_request numbered m numbered_lists e))

  pub top_after : RunsTop listed k e r l
  top_after =
      let m = kept.state in
      runs_over k l m (step numbered m e).0 kept.stands (stands_after m kept.stands) e r
      (subst (λ (x : Record). RunsTop numbered m e x (step numbered m e).0) (sym (record_after m kept.stands)) (runs_top numbered m numbered_lists e))

pub kept_safe : (k : World Queues) → IsKept k → Safe listed k
kept_safe k h = lists_safe k h.state h.stands h.safe

pub kept_lists : (k : World Queues) → IsKept k → ListsAreRight k
kept_lists k h = lists_are_right k h.state h.stands

-- each task whose wait has ticks left is one of the tasks
pub kept_timed : (k : World Queues) → IsKept k → (t : Task) → has_task t k.order.timed ≡ true → t.number ≤ length k.tasks
kept_timed k h t e =
    let m = h.state in
    let w = h.stands.order.waits in
    let first = t.least in
    let has : is_some (item None m.waits_left t.number) ≡ true = sym (w.timed.members t) ∙ e in
    subst (λ (x : World Queues). t.number ≤ length x.tasks) (sym h.stands.same)
    (⊎_elim (λ (low : t.number - 1 < length m.tasks). omega (arith, low, first))
    (λ (past : length m.tasks ≤ t.number - 1). absurd (let bad : true ≡ false = sym has ∙ ap is_some (get_or_past m.waits_left (t.number - 1) None (omega (arith, past, w.left_counted))) in cc))
    (cases_lt (t.number - 1) (length m.tasks)))
