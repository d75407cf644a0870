use Rattle.std.proofs.lemmas.List.{map_push}
use Rattle.fmp_names.proofs.Defined.{shown}
use Rattle.fmp_names.proofs.names.insert_definition.Goals as goal

pub returns-clause-ok : goal.returns-clause-ok
returns-clause-ok c = rw c.in_ok-push.ensures.items (map_push shown c.args.defined.now.items (c.args.name, c.args.number))
