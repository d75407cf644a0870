use Rattle.std.proofs.Common.{ap, ◌∙◌}
use Rattle.fmp_rules.specs.Arrivals.{numbered}
use Rattle.fmp_rules.specs.Step.{step}
use Rattle.fmp_run_view.specs.Moments.{Moment, following}
use Rattle.fmp_run_view.proofs.Left.{leaves}
use Rattle.fmp_run_view.proofs.showing.Showing.play.Goals as goal

pub tell-requires : goal.tell-requires
tell-requires c =
    let m = c.args.self.now.before in
    let e = c.args.event in
    leaves m e c.play.new.report c.play.new.self (c.play.ensures.report ∙ ap (λ (x : Moment). (step numbered x.state e).1) c.requires.same)
    (c.play.ensures.moment ∙ ap (λ (x : Moment). following x e) c.requires.same)
