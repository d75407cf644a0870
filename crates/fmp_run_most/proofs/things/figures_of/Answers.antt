use Rattle.std.proofs.Common.{◌≤◌, ◌∙◌, ◌++◌, ℕ, List, length, ap, subst, sym}
use Rattle.fmp_setup.specs.declared.setup.DataQueueSetup.{DataQueueSetup}
use Rattle.fmp_setup.specs.declared.setup.EventflagSetup.{EventflagSetup}
use Rattle.fmp_setup.specs.declared.setup.PoolSetup.{PoolSetup}
use Rattle.fmp_setup.specs.declared.setup.SemaphoreSetup.{SemaphoreSetup}
use Rattle.fmp_setup.specs.declared.setup.TaskSetup.{TaskSetup}
use Rattle.fmp_run_most.specs.declared.figure.Figure.{Figure}
use Rattle.fmp_run_most.specs.Figures.{of_things, of_processor, of_task, of_semaphore, of_eventflag, of_data_queue, of_pool}
use Rattle.fmp_run_most.proofs.Listed.{all_listed, figures_few}
use Rattle.fmp_run_most.proofs.things.figures_of.Goals as goal

pub returns-clause-figures : goal.returns-clause-figures
returns-clause-figures c =
    all_listed c.args.config.now c.new-figures.result.items _ _ _ _ _ _ c.new-figures.ensures.items
    (c.in_ok-add_things.ensures ∙ ap (λ (n : ℕ). c.new-figures.result.items ++ of_things of_processor n) (c.from-processors.ensures ∙ c.processors.ensures.value))
    (c.in_ok-add_things-2.ensures ∙ ap (λ (xs : List TaskSetup). c.add_things.new.figures.items ++ of_things of_task (length xs)) c.tasks.ensures.value)
    (c.in_ok-add_things-3.ensures ∙ ap (λ (xs : List SemaphoreSetup). c.add_things-2.new.figures.items ++ of_things of_semaphore (length xs)) c.semaphores.ensures.value)
    (c.in_ok-add_things-4.ensures ∙ ap (λ (xs : List EventflagSetup). c.add_things-3.new.figures.items ++ of_things of_eventflag (length xs)) c.eventflags.ensures.value)
    (c.in_ok-add_things-5.ensures ∙ ap (λ (xs : List DataQueueSetup). c.add_things-4.new.figures.items ++ of_things of_data_queue (length xs)) c.data_queues.ensures.value)
    (c.in_ok-add_things-6.ensures ∙ ap (λ (xs : List PoolSetup). c.add_things-5.new.figures.items ++ of_things of_pool (length xs)) c.pools.ensures.value)

pub returns-clause-few : goal.returns-clause-few
returns-clause-few c = subst (λ (xs : List Figure). length xs ≤ 1024) (sym (returns-clause-figures c)) (figures_few c.args.config.now c.processors.ensures.valid)
