use Rattle.std.proofs.Common.{◌≡◌, subst}
use Rattle.fmp_time.specs.Times.{Times, no_times}
use Rattle.fmp_time.specs.Words.{words_of, made_from}
use Rattle.fmp_time.proofs.Making.{times_again}
use Rattle.fmp_time.proofs.timers.Timers.add_waits.Goals as goal

pub returns-in_err-add_item-clause-back : goal.returns-in_err-add_item-clause-back
returns-in_err-add_item-clause-back c =
    subst (λ (m : Times). made_from no_times (words_of m) ≡ m) c.self.view_is
    (times_again c.self.inside.differences c.self.inside.waits c.self.invariant c.list-waits.ensures.distinct)

pub returns-clause-back : goal.returns-clause-back
returns-clause-back c =
    subst (λ (m : Times). made_from no_times (words_of m) ≡ m) c.self.view_is
    (times_again c.self.inside.differences c.self.inside.waits c.self.invariant c.list-waits.ensures.distinct)
