use Rattle.std.proofs.Common.{◌≡◌, ◌++◌, sym, ap, subst, ◌∙◌}
use Rattle.std.specs.Prelude.{IfOk}
use Rattle.fmp_time.specs.Times.{Times}
use Rattle.fmp_time.specs.Words.{words_of}
use Rattle.fmp_kernel_assigned.specs.Telling.{times_in, IsTold}
use Rattle.fmp_kernel_assigned.proofs.Telling.{times_told, told}
use Rattle.fmp_kernel_assigned.proofs.assigned.Assigned.add_words.Goals as goal

pub returns-clause-added : goal.returns-clause-added
returns-clause-added c =
    let a = c.self.inside in
    let shown : times_in c.args.self.now ≡ a.timers =
    ap times_in (sym c.self.view_is) ∙ times_told a.timer a.tasks a.cyclics.items a.alarms.items a.timers c.self.invariant c.know_waits.ensures in
    subst (λ (m : Times). IfOk c.add_words.result (λ done. c.add_words.new.words ≡ c.args.words.now ++ words_of m)) (sym shown) c.add_words.ensures.added

pub returns-clause-told : goal.returns-clause-told
returns-clause-told c =
    let a = c.self.inside in
    subst IsTold c.self.view_is (told a.timer a.tasks a.cyclics.items a.alarms.items a.timers c.self.invariant c.know_waits.ensures c.add_words.ensures.back)
