use Rattle.std.proofs.Common.{ap, ◌∙◌}
use Rattle.std.specs.Prelude.{is_some}
use Rattle.fmp_time.specs.Times.{Times, left_of}
use Rattle.fmp_time.proofs.Effects.{counts_where}
use Rattle.fmp_time.proofs.timers.Timers.counts.Goals as goal

pub returns : goal.returns
returns c =
    counts_where c.self.inside.differences c.self.inside.waits c.args.item c.place.result c.stands.result c.stands.ensures.value c.place.ensures.value
    ∙ ap (λ (m : Times). is_some (left_of m c.args.item)) c.self.view_is
