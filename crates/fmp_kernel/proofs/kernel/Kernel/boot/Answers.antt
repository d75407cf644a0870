use Rattle.std.proofs.Common.{◌≡◌, length, refl, ap, ◌∙◌}
use Rattle.fmp_rules.specs.Boot.{boot}
use Rattle.fmp_rules.specs.World.{World}
use Rattle.fmp_law_safety.proofs.Booted.{booted_safe, count_booted}
use Rattle.fmp_kernel_order.specs.Queues.{Queues, listed, no_queues}
use Rattle.fmp_law_lists.proofs.Boots.{boot_stands}
use Rattle.fmp_kernel.proofs.Kept.{kept_safe, kept_lists}
use Rattle.fmp_kernel.proofs.kernel.Kernel.boot.Goals as goal
use Rattle.fmp_kernel.proofs.kernel.Kernel.boot.Goals.{After-boot}

-- what the box holds once the machine is booted
stands_booted : (c : After-boot) → c.boot.new.machine ≡ boot listed (no_queues c.args.config.now) c.args.config.now
stands_booted c =
    c.boot.ensures.state ∙ ap (λ (w : World Queues). boot listed w.order c.args.config.now) (c.deref_mut.ensures.value ∙ c.in_ok-machine.ensures.ok ∙ c.in_ok-blank.ensures)

pub invariant_of-result : goal.invariant_of-result
invariant_of-result c =
    rw (stands_booted (goal.at.invariant_of-result c).After-boot)
    (record { state = _; stands = boot_stands c.args.config.now c.boot.ensures.valid.few_tasks; safe = booted_safe c.args.config.now c.boot.ensures.valid })

pub returns-clause-stands : goal.returns-clause-stands
returns-clause-stands c = rw (stands_booted (goal.at.returns-clause-stands c).After-boot) (boot_stands c.args.config.now c.boot.ensures.valid.few_tasks)

pub returns-clause-processors : goal.returns-clause-processors
returns-clause-processors c =
    rw (stands_booted (goal.at.returns-clause-processors c).After-boot)
    (ap (λ (w : World Queues). length w.processors) (boot_stands c.args.config.now c.boot.ensures.valid.few_tasks).same ∙ count_booted c.args.config.now)

pub returns-clause-same : goal.returns-clause-same
returns-clause-same c = rw (stands_booted (goal.at.returns-clause-same c).After-boot) refl

pub returns-clause-safe : goal.returns-clause-safe
returns-clause-safe c =
    rw (stands_booted (goal.at.returns-clause-safe c).After-boot)
    (kept_safe _ (record { state = _; stands = boot_stands c.args.config.now c.boot.ensures.valid.few_tasks; safe = booted_safe c.args.config.now c.boot.ensures.valid }))

pub returns-clause-lists : goal.returns-clause-lists
returns-clause-lists c =
    rw (stands_booted (goal.at.returns-clause-lists c).After-boot)
    (kept_lists _ (record { state = _; stands = boot_stands c.args.config.now c.boot.ensures.valid.few_tasks; safe = booted_safe c.args.config.now c.boot.ensures.valid }))
