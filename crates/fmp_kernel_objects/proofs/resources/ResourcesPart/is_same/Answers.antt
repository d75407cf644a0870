use Rattle.std.proofs.Common.{◌≡◌, ap, sym, ◌∙◌, rules}
use Rattle.fmp_kernel_objects.specs.Rows.{semaphores_in, eventflags_in, queues_in, pools_in}
use Rattle.fmp_kernel_objects.proofs.Columns.{semaphores_told, eventflags_told, queues_told, pools_told}
use Rattle.fmp_kernel_objects.proofs.resources.ResourcesPart.is_same.Goals as goal
use Rattle.fmp_kernel_objects.proofs.resources.ResourcesPart.is_same.Goals.{After-other}

-- all objects of each kind are the same
record Same (c : After-other) : Type 0 where
  pub semaphores : c.self.inside.semaphores ≡ c.other.inside.semaphores
  pub eventflags : c.self.inside.eventflags ≡ c.other.inside.eventflags
  pub data_queues : c.self.inside.data_queues ≡ c.other.inside.data_queues
  pub pools : c.self.inside.pools ≡ c.other.inside.pools

same : (c : After-other) → c.args.self.now ≡ c.args.other.now → Same c
same c e =
    let h = c.self.view_is ∙ e ∙ sym c.other.view_is in
    record {
      semaphores = sym (semaphores_told c.self.inside.semaphores) ∙ ap semaphores_in h ∙ semaphores_told c.other.inside.semaphores;
      eventflags = sym (eventflags_told c.self.inside.eventflags) ∙ ap eventflags_in h ∙ eventflags_told c.other.inside.eventflags;
      data_queues = sym (queues_told c.self.inside.data_queues) ∙ ap queues_in h ∙ queues_told c.other.inside.data_queues;
      pools = sym (pools_told c.self.inside.pools) ∙ ap pools_in h ∙ pools_told c.other.inside.pools;
    }

pub returns-then-is_same-3 : goal.returns-then-is_same-3
returns-then-is_same-3 c = (search rules, λ e. let s = same (goal.at.returns-then-is_same-3 c).After-other e in search rules)

pub returns-else-is_same-3 : goal.returns-else-is_same-3
returns-else-is_same-3 c = (search rules, λ e. let s = same (goal.at.returns-else-is_same-3 c).After-other e in search rules)
