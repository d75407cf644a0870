-- The numbers of kernels of one configuration: each has one pair of them, which is that of no other.
use Rattle.std.proofs.Common.{◌≡◌, ◌∙◌, ℕ, sym}
use Rattle.fmp_kernel_order.specs.Queues.{Queues}
use Rattle.fmp_kernel_packed.specs.Kept.{KeptParts, ArePartsBefore, ArePartsOnce}
use Rattle.fmp_kernel_packed.specs.Kernels.{IsKernel}
use Rattle.fmp_kernel_packed.specs.Shaped.{AreShaped}
use Rattle.fmp_kernel_packed.proofs.Packing.{packed_one, packed_only, packed_stays}
use Rattle.fmp_rules.specs.World.{World}

-- two that are of the configuration of a third are of that of each other
shaped_both : (start v w : World Queues) → AreShaped start v → AreShaped start w → AreShaped v w
shaped_both start v w one two = record {
  timer = sym one.timer ∙ two.timer;
  limits = sym one.limits ∙ two.limits;
  tasks = sym one.tasks ∙ two.tasks;
  cyclics = sym one.cyclics ∙ two.cyclics;
  alarms = sym one.alarms ∙ two.alarms;
  alike = record {
    processors = sym one.alike.processors ∙ two.alike.processors;
    objects = record {
      semaphores = sym one.alike.objects.semaphores ∙ two.alike.objects.semaphores;
      eventflags = sym one.alike.objects.eventflags ∙ two.alike.objects.eventflags;
      data_queues = sym one.alike.objects.data_queues ∙ two.alike.objects.data_queues;
      pools = sym one.alike.objects.pools ∙ two.alike.objects.pools;
    };
  };
}

pub kernel_one : (kept : KeptParts) (start w : World Queues) (m n c d : ℕ) → ArePartsOnce kept → IsKernel kept start w m c → IsKernel kept start w n d → (n ≡ m) × (d ≡ c)
kernel_one kept start w m n c d once one two = packed_one kept w m n c d once one.packed two.packed

pub kernel_only : (kept : KeptParts) (start v w : World Queues) (m c : ℕ) → IsKernel kept start v m c → IsKernel kept start w m c → v ≡ w
kernel_only kept start v w m c one two = packed_only kept v w m c (shaped_both start v w one.shaped two.shaped) one.packed two.packed

pub kernel_stays : (kept more : KeptParts) (start w : World Queues) (m c : ℕ) → ArePartsBefore kept more → IsKernel kept start w m c → IsKernel more start w m c
kernel_stays kept more start w m c before is = record { packed = packed_stays kept more w m c before is.packed; shaped = is.shaped; safe = is.safe }
