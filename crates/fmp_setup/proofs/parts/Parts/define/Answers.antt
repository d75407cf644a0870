use Rattle.fmp_setup.proofs.Named.{not_refused}
use Rattle.fmp_setup.specs.Parts.{setup_of}
use Rattle.fmp_setup.proofs.parts.Parts.define.Goals as goal

pub define-requires-clause-free : goal.define-requires-clause-free
define-requires-clause-free c = (not_refused (setup_of c.args.self.now) c.args.name.now c.requires.new).0

pub define-requires-clause-object : goal.define-requires-clause-object
define-requires-clause-object c = (not_refused (setup_of c.args.self.now) c.args.name.now c.requires.new).2

pub define-requires-clause-new : goal.define-requires-clause-new
define-requires-clause-new c = (not_refused (setup_of c.args.self.now) c.args.name.now c.requires.new).3
