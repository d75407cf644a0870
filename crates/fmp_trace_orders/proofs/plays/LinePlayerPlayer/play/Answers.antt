use Rattle.std.proofs.Common.{◌+◌, ap, arith, ◌∙◌}
use Rattle.fmp_trace_orders.specs.Standing.{Standing, begun}
use Rattle.fmp_trace_orders.proofs.ReadLines.{read_on}
use Rattle.fmp_trace_orders.proofs.plays.LinePlayerPlayer.play.Goals as goal

pub follow-requires-clause-on : goal.follow-requires-clause-on
follow-requires-clause-on c =
    let names = c.names-names in
    read_on c.self.inside.config.now names.result.now (c.args.line + 1) c.in-Some.text.now c.in-Ok.said names.ensures.valid c.validity.ensures
    names.ensures.value (omega (arith, c.in-Some.ensures.few)) c.in-Ok.ensures

pub returns-in-Ok-clause-begins : goal.returns-in-Ok-clause-begins
returns-in-Ok-clause-begins c = c.follow.ensures.begun ∙ ap (λ (x : Standing). begun x.state) c.self.view_is

pub returns-in-Err-clause-begins : goal.returns-in-Err-clause-begins
returns-in-Err-clause-begins c = ap (λ (x : Standing). begun x.state) c.self.view_is
