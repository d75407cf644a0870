use Rattle.fmp_text.proofs.Echoed.{closed_printed}
use Rattle.fmp_text.proofs.Fronted.{call_closed}
use Rattle.fmp_text.proofs.quick.call_closed.Goals as goal

pub returns-clause-made : goal.returns-clause-made
returns-clause-made c =
    call_closed c.args.names.now c.args.known.now.call c.with_known_values.result c.args.known.now.form.kinds.now _ c.args.text.now c.in_ok-end.end.now c.requires.kinds c.with_known_values.ensures.same c.in_ok-end.ensures.closed

pub returns-clause-printed : goal.returns-clause-printed
returns-clause-printed c = λ own.
    closed_printed c.args.names.now c.args.known.now.call c.with_known_values.result c.args.known.now.form.kinds.now c.arguments_front.new.values c.args.text.now c.in_ok-end.end.now c.requires.kinds
    c.with_known_values.ensures.same c.in_ok-end.ensures.closed (c.in_ok-end.ensures.printed own)
