use Rattle.std.proofs.Common.{◌++◌, ◌∷◌, ◌∙◌, ap, [], List, ℕ}
use Rattle.fmp_search.proofs.Branches.{path_leads, path_long, tree-following}
use Rattle.fmp_search.specs.Steps.{path_at}
use Rattle.fmp_search.proofs.nodes.steps_over.Goals as goal

pub path_to-requires-clause-following : goal.path_to-requires-clause-following
path_to-requires-clause-following g c = tree-following g.W.Space.after _ c.args.nodes.now c.requires.tree

pub returns : goal.returns
returns g c =
    let nodes = c.args.nodes.now in
    let at = c.args.at in record {
      before = path_at nodes at;
      is = c.in_ok-push.ensures.items ∙ ap (λ (xs : List ℕ). xs ++ c.args.last ∷ []) c.in_ok-steps.ensures;
      leads = path_leads g.W.Space.after _ nodes at c.requires.tree c.requires.place;
      count = path_long g.W.Space.after _ nodes at c.requires.tree c.requires.place;
    }
