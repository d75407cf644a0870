use Rattle.std.proofs.Common.{length, ap, ◌∙◌}
use Rattle.fmp_codes.specs.Numbers.{task_number}
use Rattle.fmp_rules.specs.World.{World}
use Rattle.fmp_ready.specs.Queues.{top_at}
use Rattle.fmp_kernel_order.specs.Queues.{Queues}
use Rattle.fmp_kernel_machine.proofs.Topping.{small_each, tops_reported}
use Rattle.fmp_kernel_machine.proofs.words.KernelMachineOverview.tops.Goals as goal

pub new-requires : goal.new-requires
new-requires c = record {
  few = c.count.ensures.few;
  tasks = small_each c.self.inside.ready.lists c.tops.result c.tops.ensures.count c.tops.ensures.each;
}

pub returns : goal.returns
returns c =
    c.new.ensures ∙ tops_reported c.args.self.now c.tops.result c.count.result (c.count.ensures.value ∙ ap (λ (w : World Queues). length w.processors) c.self.view_is)
    c.count.ensures.few c.tops.ensures.count
    (λ k h. c.tops.ensures.each k h ∙ ap (λ (w : World Queues). task_number (top_at w.order.ready k)) c.self.view_is)
