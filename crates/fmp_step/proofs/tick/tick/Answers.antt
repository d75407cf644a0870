use Rattle.std.proofs.Common.{List, ap, sym, ◌∙◌}
use Rattle.fmp_codes.specs.declared.records.Answer.TheVariants as answer
use Rattle.fmp_codes.specs.declared.records.Release.{Release}
use Rattle.fmp_rules.specs.World.{World}
use Rattle.fmp_rules.specs.Rows.{plain}
use Rattle.fmp_rules.specs.Tick.{ticked}
use Rattle.fmp_step.proofs.Ticks.{nothing_ticked}
use Rattle.fmp_step.proofs.tick.tick.Goals as goal

pub returns-then-not-may_have_expired-clause-step : goal.returns-then-not-may_have_expired-clause-step
returns-then-not-may_have_expired-clause-step g c = let W = g.M.Words in
    let w = W.world c.count_down.new.self in
    let no = c.if-not-may_have_expired.true in
    let nothing = c.may_have_expired.ensures in
    ap (λ (rs : List Release). (w, record (plain answer.Taken) { releases = rs })) c.requires.empty
    ∙ sym (nothing_ticked W.ordering w c.args.p (nothing.waits no) (nothing.alarms no) (nothing.cyclics no))
    ∙ ap (λ (v : World W.Order). ticked W.ordering v c.args.p) c.count_down.ensures.state
