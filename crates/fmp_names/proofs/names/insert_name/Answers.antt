use Rattle.std.proofs.lemmas.List.{map_push}
use Rattle.fmp_names.proofs.names.insert_name.Goals as goal

pub returns-clause-ok : goal.returns-clause-ok
returns-clause-ok c = rw c.in_ok-push.ensures.items (map_push (λ v. v.items) c.args.set.now.items c.args.name)
