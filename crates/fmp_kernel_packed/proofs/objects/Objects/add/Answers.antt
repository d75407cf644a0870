use Rattle.std.proofs.Common.{◌∙◌, List, ap, map, subst, sym}
use Rattle.fmp_dtq.specs.DataQueue.{DataQueue}
use Rattle.fmp_flag.specs.Eventflags.{EventflagState}
use Rattle.fmp_mpf.specs.MemoryPool.{MemoryPool}
use Rattle.fmp_sem.specs.Semaphores.{SemaphoreState}
use Rattle.fmp_interned.specs.Parts.{AddsNumbers}
use Rattle.fmp_kernel_packed.specs.Kept.{KeptObjects}
use Rattle.fmp_kernel_packed.specs.Packed.{AreColumns}
use Rattle.fmp_kernel_packed.proofs.ObjectsLaws.{objects_added}
use Rattle.fmp_kernel_packed.proofs.objects.Objects.add.Goals as goal

pub returns-clause-added : goal.returns-clause-added
returns-clause-added c =
    let pools = c.pools.ensures in
    let flags = c.eventflags.ensures in
    let semaphores = c.semaphores.ensures in
    let queues = c.data_queues.ensures in
    let kept : KeptObjects = record {
      semaphores = c.number_each-3.new.kept;
      eventflags = c.number_each-2.new.kept;
      data_queues = c.number_each-4.new.kept;
      pools = c.number_each.new.kept;
    } in
    let columns : AreColumns c.args.resources.now = record {
      semaphores = ap (map (λ s. s.semaphore)) (sym semaphores.value) ∙ semaphores.columns.0;
      semaphore_waiters = ap (map (λ s. s.waiters)) (sym semaphores.value) ∙ semaphores.columns.1;
      eventflags = ap (map (λ f. f.eventflag)) (sym flags.value) ∙ flags.columns.0;
      eventflag_waiters = ap (map (λ f. f.waiters)) (sym flags.value) ∙ flags.columns.1;
      data_queues = ap (map (λ q. q.setup)) (sym queues.value) ∙ queues.columns.0;
      contents = ap (map (λ q. q.values)) (sym queues.value) ∙ queues.columns.1;
      senders = ap (map (λ q. q.senders)) (sym queues.value) ∙ queues.waiters.0;
      receivers = ap (map (λ q. q.receivers)) (sym queues.value) ∙ queues.waiters.1;
      pools = ap (map (λ m. m.pool)) (sym pools.value) ∙ pools.columns.0;
      pool_waiters = ap (map (λ m. m.waiters)) (sym pools.value) ∙ pools.columns.1;
    } in
    objects_added kept c.args.resources.now c.args.numbers.now c.number_each.new.numbers c.number_each-2.new.numbers c.number_each-3.new.numbers c.number_each-4.new.numbers
    (subst (λ (xs : List MemoryPool). AddsNumbers kept.pools xs c.args.numbers.now c.number_each.new.numbers) pools.value c.in_ok-number_each.ensures.added)
    (subst (λ (xs : List EventflagState). AddsNumbers kept.eventflags xs c.number_each.new.numbers c.number_each-2.new.numbers) flags.value c.in_ok-number_each-2.ensures.added)
    (subst (λ (xs : List SemaphoreState). AddsNumbers kept.semaphores xs c.number_each-2.new.numbers c.number_each-3.new.numbers) semaphores.value c.in_ok-number_each-3.ensures.added)
    (subst (λ (xs : List DataQueue). AddsNumbers kept.data_queues xs c.number_each-3.new.numbers c.number_each-4.new.numbers) queues.value c.in_ok-number_each-4.ensures.added) columns
