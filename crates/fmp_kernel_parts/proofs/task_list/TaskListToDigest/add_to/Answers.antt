use Rattle.std.proofs.Common.{◌≡◌, ◌+◌, Some, List, take, drop, sym, ap, ◌∙◌}
use Rattle.fmp_codes.specs.declared.numbers.Task.{Task}
use Rattle.fmp_kernel_parts.specs.Digests.{added, added_all, added_task}
use Rattle.fmp_kernel_parts.specs.Lists.{first_of}
use Rattle.fmp_kernel_parts.proofs.Walking.{part, left_over}
use Rattle.fmp_kernel_parts.proofs.task_list.TaskListToDigest.add_to.Goals as goal

pub loop-preserved : goal.loop-preserved
loop-preserved c =
    let ts = c.args.self.now in
    let t = c.in-Some.task in
    let e : first_of (drop c.loop.counter c.args.self.now) ≡ Some c.in-Some.task = sym c.loop.invariant.here ∙ c.in-Some.is in
    let rest = drop (c.loop.counter + 1) ts in
    let sum : c.add.new.self ≡ added_task t c.loop.digest = c.add.ensures ∙ ap (added c.loop.digest) c.from.ensures in
    record {
      sum = ap (added_all added_task rest) sum ∙ sym (ap (λ (us : List Task). added_all added_task us c.loop.digest) (left_over ts c.loop.counter t e)) ∙ c.loop.invariant.sum;
      here = c.next-here.ensures (take c.loop.counter ts) rest (part ts c.loop.counter t e);
      few = c.loop.invariant.few;
    }
