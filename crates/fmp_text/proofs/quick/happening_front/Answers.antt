use Rattle.fmp_text.proofs.Fronted.{happens_call}
use Rattle.fmp_text.proofs.quick.happening_front.Goals as goal

pub returns-in-Some-call_front-clause-front : goal.returns-in-Some-call_front-clause-front
returns-in-Some-call_front-clause-front c = happens_call c.args.names.now c.args.processor c.args.text.now c.in-Some-call_front.rest.now c.in-Some-call_front.call c.in-Some-call_front.ensures.front

pub returns-in-Some-call_front-clause-printed : goal.returns-in-Some-call_front-clause-printed
returns-in-Some-call_front-clause-printed c = λ old own. c.in-Some-call_front.ensures.printed own
