use Rattle.std.proofs.Common.{◌≡◌, ◌≤◌, length, sym, subst}
use Rattle.fmp_rules.specs.World.{World}
use Rattle.fmp_law_safety.specs.Runs.{processor_of}
use Rattle.fmp_kernel_order.specs.Queues.{Queues, listed}
use Rattle.fmp_kernel.proofs.Kept.{stands_after, record_after, count_after, kept_after, kept_safe, kept_lists, nothing_after, taken_after, top_after}
use Rattle.fmp_rules.specs.Step.{step}
use Rattle.fmp_kernel.proofs.kernel.Kernel.step_recorded.Goals as goal
use Rattle.fmp_kernel.proofs.kernel.Kernel.step_recorded.Goals.{After-step_recorded}

-- the step of what the box holds
stepped : (c : After-step_recorded) → (c.step_recorded.new.machine, c.step_recorded.new.report) ≡ step listed c.self.inside.machine.value c.args.report.now.event
stepped c =
    subst (λ (w : World Queues). (c.step_recorded.new.machine, c.step_recorded.new.report) ≡ step listed w c.args.report.now.event) c.deref_mut.ensures.value c.step_recorded.ensures.step

pub invariant_of-self : goal.invariant_of-self
invariant_of-self c =
    kept_after _ _ _ _ c.self.invariant (subst (λ (x : World Queues). (processor_of c.args.report.now.event).number ≤ length x.processors) (sym c.self.view_is) c.requires) (stepped (goal.at.invariant_of-self c).After-step_recorded)

pub returns-clause-stands : goal.returns-clause-stands
returns-clause-stands c =
    rw (← c.self.view_is)
    (stands_after _ _ _ _ c.self.invariant (subst (λ (x : World Queues). (processor_of c.args.report.now.event).number ≤ length x.processors) (sym c.self.view_is) c.requires) (stepped (goal.at.returns-clause-stands c).After-step_recorded))

pub returns-clause-record : goal.returns-clause-record
returns-clause-record c =
    rw (← c.self.view_is)
    (record_after _ _ _ _ c.self.invariant (subst (λ (x : World Queues). (processor_of c.args.report.now.event).number ≤ length x.processors) (sym c.self.view_is) c.requires) (stepped (goal.at.returns-clause-record c).After-step_recorded))

pub returns-clause-processors : goal.returns-clause-processors
returns-clause-processors c =
    rw (← c.self.view_is)
    (count_after _ _ _ _ c.self.invariant (subst (λ (x : World Queues). (processor_of c.args.report.now.event).number ≤ length x.processors) (sym c.self.view_is) c.requires) (stepped (goal.at.returns-clause-processors c).After-step_recorded))

pub returns-clause-safe : goal.returns-clause-safe
returns-clause-safe c =
    kept_safe _ (kept_after _ _ _ _ c.self.invariant (subst (λ (x : World Queues). (processor_of c.args.report.now.event).number ≤ length x.processors) (sym c.self.view_is) c.requires) (stepped (goal.at.returns-clause-safe c).After-step_recorded))

pub returns-clause-lists : goal.returns-clause-lists
returns-clause-lists c =
    kept_lists _ (kept_after _ _ _ _ c.self.invariant (subst (λ (x : World Queues). (processor_of c.args.report.now.event).number ≤ length x.processors) (sym c.self.view_is) c.requires) (stepped (goal.at.returns-clause-lists c).After-step_recorded))

pub returns-clause-nothing : goal.returns-clause-nothing
returns-clause-nothing c =
    rw (← c.self.view_is)
    (nothing_after _ _ _ _ c.self.invariant (subst (λ (x : World Queues). (processor_of c.args.report.now.event).number ≤ length x.processors) (sym c.self.view_is) c.requires) (stepped (goal.at.returns-clause-nothing c).After-step_recorded))

pub returns-clause-taken : goal.returns-clause-taken
returns-clause-taken c =
    rw (← c.self.view_is)
    (taken_after _ _ _ _ c.self.invariant (subst (λ (x : World Queues). (processor_of c.args.report.now.event).number ≤ length x.processors) (sym c.self.view_is) c.requires) (stepped (goal.at.returns-clause-taken c).After-step_recorded))

pub returns-clause-top : goal.returns-clause-top
returns-clause-top c =
    rw (← c.self.view_is)
    (top_after _ _ _ _ c.self.invariant (subst (λ (x : World Queues). (processor_of c.args.report.now.event).number ≤ length x.processors) (sym c.self.view_is) c.requires) (stepped (goal.at.returns-clause-top c).After-step_recorded))

pub returns-clause-same : goal.returns-clause-same
returns-clause-same c = rw (← c.self.view_is) (stepped (goal.at.returns-clause-same c).After-step_recorded)
