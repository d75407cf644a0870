use Rattle.std.proofs.Common.{◌+◌, List, ℕ, ap, ◌∙◌}
use Rattle.std.specs.Prelude.{slice_set}
use Rattle.fmp_kernel_parts.specs.Lists.{list_at}
use Rattle.fmp_kernel_parts.proofs.Having.{inserted_last}
use Rattle.fmp_kernel_parts.proofs.links.Links.push_last.Goals as goal

pub returns : goal.returns
returns g c =
    c.put.ensures.lists
    ∙ ap (λ (xs : List ℕ). slice_set c.args.self.now c.args.list xs) (inserted_last (g.row.ITEMS + c.args.list) c.args.item (list_at c.args.self.now c.args.list) c.put.ensures.head_out)
