use Rattle.std.proofs.Common.{◌≡◌, List, ap, sym, ◌∙◌}
use Rattle.fmp_codes.specs.declared.numbers.Proc.{Proc}
use Rattle.fmp_rules.specs.Step.{tops, latched}
use Rattle.fmp_step.proofs.Processors.{none_requested}
use Rattle.fmp_step.proofs.dispatch.request.Goals as goal

pub returns-else-not-is_same-clause-state : goal.returns-else-not-is_same-clause-state
returns-else-not-is_same-clause-state g c = let W = g.M.Words in
    let w = W.world c.args.machine.now in
    let same : c.args.before.now ≡ tops W.ordering w = c.is_same.ensures.same.0 c.if-not-is_same.false ∙ c.tops.ensures in
    sym (ap (λ (ps : List Proc). latched w ps) (none_requested W.ordering w c.args.q c.args.before.now same c.is_same.ensures.few))

pub returns-else-not-is_same-clause-requests : goal.returns-else-not-is_same-clause-requests
returns-else-not-is_same-clause-requests g c = let W = g.M.Words in
    let w = W.world c.args.machine.now in
    let same : c.args.before.now ≡ tops W.ordering w = c.is_same.ensures.same.0 c.if-not-is_same.false ∙ c.tops.ensures in
    c.new.ensures ∙ sym (none_requested W.ordering w c.args.q c.args.before.now same c.is_same.ensures.few)
