use Rattle.fmp_text.proofs.Fronted.{comma_space}
use Rattle.fmp_text.proofs.quick.after_comma.Goals as goal

pub returns-in-Some-clause-front : goal.returns-in-Some-clause-front
returns-in-Some-clause-front c = comma_space c.args.text.now c.in_ok-rest.rest.now c.in-Some.more.now c.in_ok-rest.ensures c.in-Some.ensures
