use Rattle.std.proofs.Common.{◌∙◌, sym}
use Rattle.fmp_names.specs.Names.{number_defined}
use Rattle.fmp_config.proofs.Table.{found}
use Rattle.fmp_config.proofs.indexed.IndexedParts.defined.Goals as goal

pub returns : goal.returns
unfolding number_defined
returns c = rw (← c.self.view_is, ← c.self.invariant) (c.copied.ensures ∙ c.get.ensures.value ∙ sym (found c.args.name.now c.self.inside.defined.entries))
