use Rattle.std.proofs.Common.{◌≡◌, ◌+◌, ◌-◌, ◌==◌, ◌&&◌, length, sym, ap, ◌∙◌, arith}
use Rattle.std.proofs.lemmas.List.{get_or_read}
use Rattle.fmp_codes.specs.Numbers.{as_task}
use Rattle.fmp_rules.specs.World.{item, no_task}
use Rattle.fmp_rules.specs.Arrivals.{is_ready_on, priority_in}
use Rattle.fmp_rules.specs.Ordering.{is_runnable}
use Rattle.fmp_rules.specs.declared.machine.TaskRecord.{TaskRecord}
use Rattle.fmp_plain_machine.specs.Best.{best_of}
use Rattle.fmp_plain_machine.specs.Tops.{top_among}
use Rattle.fmp_plain_machine.specs.declared.tops.Best.{Best}
use Rattle.fmp_plain_machine.proofs.FoundBest.{one_ready, one_not_ready, task_best}
use Rattle.fmp_plain_machine.proofs.tops.first_on.Goals as goal
use Rattle.fmp_plain_machine.proofs.tops.first_on.Goals.{then-is_ready_on, else-is_ready_on}

pub loop-index-preserved : goal.loop-index-preserved
loop-index-preserved c =
    let records = c.args.records.now in
    let ready = c.args.ready.now in
    let p = c.args.p in
    let n = c.loop-index.index in
    let r = c.index-records-index.result in
    let e : (as_task (n + 1)).number - 1 ≡ n = omega (arith, c.loop-index-test.true, c.requires) in
    let here : item no_task records (as_task (n + 1)).number ≡ r = rw e (sym (get_or_read records n r c.loop-index-test.true c.index-records-index.is no_task)) in
    let is : is_ready_on records p (as_task (n + 1)) ≡ c.is_ready_on.result = ap (λ (x : TaskRecord). is_runnable x && x.assigned.number == p.number) here ∙ sym c.is_ready_on.ensures in
    record {
      within = omega (arith, c.loop-index-test.true);
      found = elim c.if-is_ready_on.branch [
        | then-is_ready_on w ↦
            let rank : priority_in records (as_task (n + 1)) ≡ r.priority.number = ap (λ (x : TaskRecord). x.priority.number) here in
            rw (w.best-is, w.meet.ensures, w.number_of.ensures, w.from_index-task.ensures.value, c.loop-index.invariant.found, ← rank) (one_ready records ready n p (is ∙ w.if-is_ready_on.true))
        | else-is_ready_on w ↦ rw (w.best-is, c.loop-index.invariant.found) (one_not_ready records ready n p (is ∙ w.if-is_ready_on.false))
      ];
    }

pub returns : goal.returns
returns c =
    let records = c.args.records.now in
    let ready = c.args.ready.now in
    let top = top_among records ready (length records) c.args.p in
    let whole : c.loop-index.index ≡ length records = omega (arith, c.loop-index.invariant.within, c.loop-index-test.false) in
    let made : c.loop-index.best ≡ best_of records ready top = rw whole at c.loop-index.invariant.found in
    ap (λ (b : Best). b.task) made ∙ task_best records ready top
