use Rattle.std.proofs.Common.{◌≡◌, Bool, true, false, not, refl, sym, ◌∙◌}
use Rattle.fmp_trace.proofs.FrontCalls.{front_call}
use Rattle.fmp_trace_check.proofs.Heads.{ticks}
use Rattle.fmp_trace_check.proofs.report.tell_front.Goals as goal

is_false : (b : Bool) → not b ≡ true → b ≡ false
is_false false e = refl
is_false true e = sym e

pub returns-in-Some : goal.returns-in-Some
returns-in-Some c = λ same. ticks c.args.names.now c.args.p c.args.text.now c.in-Some._rest.now c.in-Some.ensures

pub returns : goal.returns
returns c = λ apart.
    front_call c.args.names.now c.args.text.now c.in-Some-quick_call.field-0-1.now c.in-Some-quick_call.call c.args.p c.validity.ensures c.in-Some-quick_call.ensures
    (sym c.form.ensures.bare ∙ is_false c.form.result.bare apart)
