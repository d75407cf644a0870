use Rattle.std.proofs.Common.{sym, ◌∙◌}
use Rattle.fmp_trace.proofs.FrontCalls.{front_call}
use Rattle.fmp_trace.proofs.heads.front_event.Goals as goal

pub returns : goal.returns
returns c = front_call c.args.names.now c.args.text.now c.in_ok-call.field-0-1.now c.in_ok-call.call c.args.p c.validity.ensures c.in_ok-call.ensures (sym c.form.ensures.bare ∙ c.if-form.false)
