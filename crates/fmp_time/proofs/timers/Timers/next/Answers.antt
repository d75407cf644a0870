use Rattle.std.proofs.Common.{ℕ, ap, subst, ◌∙◌}
use Rattle.fmp_time.specs.Differences.{entries_at, least_of, IsLeastIn}
use Rattle.fmp_time.specs.Times.{Times, IsLeastOn}
use Rattle.fmp_time.proofs.Effects.{least_is}
use Rattle.fmp_time.proofs.timers.Timers.next.Goals as goal

pub returns-clause-least : goal.returns-clause-least
returns-clause-least c =
    let q = c.self.inside.differences in
    let r = c.next.result in
    subst (λ (m : Times). IsLeastOn m c.args.processor r) c.self.view_is
    (least_is q c.self.inside.waits c.args.processor r c.next.ensures.disjoint
    (c.next.ensures.value ∙ ap (λ (i : ℕ). least_of (entries_at q i)) c.index.ensures.value)
    (subst (λ (i : ℕ). IsLeastIn (entries_at q i) r) c.index.ensures.value c.next.ensures.least))
