use Rattle.std.proofs.Common.{sym}
use Rattle.fmp_names.specs.Names.{number_defined}
use Rattle.fmp_names.proofs.Defined.{found}
use Rattle.fmp_names.proofs.names.Names.defined.Goals as goal

pub returns : goal.returns
unfolding number_defined
returns c = rw (← c.self.view_is, c.number_among.ensures, c.deref.ensures.value) (sym (found c.args.name.now c.self.inside.defined.items))
