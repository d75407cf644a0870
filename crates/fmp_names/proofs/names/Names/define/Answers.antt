use Rattle.std.proofs.Common.{rules}
use Rattle.fmp_names.specs.Names.{lists_of}
use Rattle.fmp_names.proofs.Valid.{definition_kept}
use Rattle.fmp_names.proofs.names.Names.define.Goals as goal

pub invariant_of-self : goal.invariant_of-self
invariant_of-self c = (
  definition_kept (lists_of c.self.inside.processors c.self.inside.objects c.self.inside.functions c.self.inside.defined) c.args.name.now c.self.invariant.0 c.requires.name c.requires.free
      (rw (← c.self.view_is) at c.requires.object) (rw (← c.self.view_is) at c.requires.new) (rw (← c.self.view_is) at c.requires.room)
      c.insert_definition.result c.in_ok-copy.copy.items c.args.number _ c.in_ok-copy.ensures.items (search rules) c.insert_definition.ensures.ok c.insert_definition.ensures.err,
  c.self.invariant.1,
)
