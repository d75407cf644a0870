use Rattle.std.proofs.Common.{◌≡◌, true, sym, ap, subst, ◌∙◌}
use Rattle.std.specs.Prelude.{is_some}
use Rattle.fmp_codes.specs.declared.numbers.Task.{Task}
use Rattle.std.specs.Prelude.{List}
use Rattle.fmp_time.specs.Times.{Times, left_of, renewed, AreWaits}
use Rattle.fmp_time.specs.Shown.{times_of}
use Rattle.fmp_time.proofs.Effects.{counts_where, renewed_there, renewed_not}
use Rattle.fmp_time.proofs.Waits.{waits-began}
use Rattle.fmp_time.proofs.timers.Timers.renew.Goals as goal
use Rattle.fmp_time.proofs.timers.Timers.renew.Goals.{After-begin}

there : (c : After-begin) → is_some (left_of (times_of c.self.inside.differences c.self.inside.waits) c.args.item) ≡ true
there c = sym (counts_where c.self.inside.differences c.self.inside.waits c.args.item c.place.result c.stands.result c.stands.ensures.value c.place.ensures.value) ∙ c.if-stands.true

pub invariant_of-self : goal.invariant_of-self
invariant_of-self c = subst (λ (w : List Task). AreWaits (times_of c.self.inside.differences w)) (sym c.begin.ensures)
    (waits-began (times_of c.self.inside.differences c.self.inside.waits) c.args.item (there c) c.self.invariant)

pub returns-then-stands : goal.returns-then-stands
returns-then-stands c =
    ap (times_of c.self.inside.differences) c.begin.ensures ∙ renewed_there (times_of c.self.inside.differences c.self.inside.waits) c.args.item (there c)
    ∙ ap (λ (m : Times). renewed m c.args.item) c.self.view_is

pub returns-else-stands : goal.returns-else-stands
returns-else-stands c = renewed_not c.args.self.now c.args.item
    (ap (λ (m : Times). is_some (left_of m c.args.item)) (sym c.self.view_is)
    ∙ sym (counts_where c.self.inside.differences c.self.inside.waits c.args.item c.place.result c.stands.result c.stands.ensures.value c.place.ensures.value) ∙ c.if-stands.false)
