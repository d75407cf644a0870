use Rattle.std.proofs.Common.{◌≡◌, ◌+◌, Some, List, ◌∷◌, [], ◌++◌, map, take, drop, ap, sym, subst, ◌∙◌}
use Rattle.std.proofs.lemmas.List.{map_push}
use Rattle.fmp_codes.specs.declared.numbers.Task.{Task}
use Rattle.fmp_kernel_parts.specs.Lists.{list_at, first_of}
use Rattle.fmp_kernel_parts.specs.Tasks.{task_at, AreDistinct}
use Rattle.fmp_kernel_parts.proofs.Tasks.{distinct-map}
use Rattle.fmp_kernel_parts.proofs.Walking.{part, prefix, met, ended}
use Rattle.fmp_kernel_parts.proofs.task_list.TaskList.list.Goals as goal

pub from_index-requires : goal.from_index-requires
from_index-requires c = c.self.invariant.small c.in-Some.here (met (list_at c.self.inside.links 0) c.loop.counter c.in-Some.here (sym c.loop.invariant.next ∙ c.in-Some.is))

pub returns-in-None : goal.returns-in-None
returns-in-None c = record {
  tasks = c.loop.invariant.prefix ∙ ap (map task_at) (ended (list_at c.self.inside.links 0) c.loop.counter (sym c.loop.invariant.next ∙ c.in-None.is)) ∙ c.self.view_is;
  distinct = subst AreDistinct c.self.view_is (distinct-map (list_at c.self.inside.links 0) c.self.invariant.small (c.loop.invariant.disjoint.apart 0));
}

pub returns-clause-distinct : goal.returns-clause-distinct
returns-clause-distinct c = subst AreDistinct c.self.view_is (distinct-map (list_at c.self.inside.links 0) c.self.invariant.small (c.loop.invariant.disjoint.apart 0))

pub loop-preserved : goal.loop-preserved
loop-preserved c =
    let xs = list_at c.self.inside.links 0 in
    let e : first_of (drop c.loop.counter (list_at c.self.inside.links 0)) ≡ Some c.in-Some.here = sym c.loop.invariant.next ∙ c.in-Some.is in
    record {
      prefix = c.push.ensures.items ∙ ap (λ (us : List Task). us ++ c.from_index.result ∷ []) c.loop.invariant.prefix
          ∙ ap (λ (t : Task). map task_at (take c.loop.counter xs) ++ t ∷ []) c.from_index.ensures.value
          ∙ sym (map_push task_at (take c.loop.counter xs) c.in-Some.here) ∙ ap (map task_at) (sym (prefix xs c.loop.counter c.in-Some.here e));
      next = c.next-item.ensures.value 0 (take c.loop.counter xs) (drop (c.loop.counter + 1) xs) (part xs c.loop.counter c.in-Some.here e);
      few = c.loop.invariant.few;
      disjoint = c.loop.invariant.disjoint;
    }
