use Rattle.std.proofs.Common.{◌≡◌, ◌∙◌, None, Option, ap, refl, rules, sym}
use Rattle.fmp_text.specs.declared.fault.TextFault.{TextFault}
use Rattle.fmp_text.proofs.Scanned.{said_as}
use Rattle.fmp_text_feed.specs.Feed.{Feed}
use Rattle.fmp_text_feed.proofs.Ahead.{ahead_failed, nothing_said, rest_done, rest_failed}
use Rattle.fmp_text_feed.proofs.feed.EventFeed.next.Goals as goal

pub returns-in-Some-clause-gives : goal.returns-in-Some-clause-gives
returns-in-Some-clause-gives c =
    let is = sym (ap (λ (f : Feed). f.fault) c.self.view_is) ∙ c.in-Some.is in
    (ahead_failed c.args.names.now c.args.self.now c.in-Some.fault is, ap (λ (x : Option TextFault). record c.args.self.now { fault = x }) is)

pub returns-in-Some-rest_fault-clause-gives : goal.returns-in-Some-rest_fault-clause-gives
returns-in-Some-rest_fault-clause-gives c =
    let said = said_as _ _ None c.in-Ok.is c.in-None.is in
    let fine : c.take_line.new.self.fault ≡ None = search (rules, c.self.view_is, c.in_default.not-Some, c.take_line.ensures.takes.others) in
    let rest = rest_failed c.args.names.now c.take_line.new.self fine (c.take_line.ensures.takes.whole said) c.rest_fault.ensures.kept.0 c.rest_fault.ensures.full c.in-Some-rest_fault.fault (sym c.rest_fault.ensures.value ∙ c.in-Some-rest_fault.is) in
    rw (c.fail-in-Some-rest_fault.ensures.answered, c.fail-in-Some-rest_fault.ensures.kept)
    (λ more. nothing_said c.args.names.now c.args.self.now c.take_line.new.self _ c.take_line.ensures.takes said more ∙ rest more, refl)

pub returns-in-None-rest_fault-clause-done : goal.returns-in-None-rest_fault-clause-done
returns-in-None-rest_fault-clause-done c =
    let said = said_as _ _ None c.in-Ok.is c.in-None.is in
    let fine : c.take_line.new.self.fault ≡ None = search (rules, c.self.view_is, c.in_default.not-Some, c.take_line.ensures.takes.others) in
    let same = ap (λ (f : Feed). f.ended) c.take_line.ensures.takes.others in
    λ none ended. rest_done c.args.names.now c.take_line.new.self fine (c.take_line.ensures.takes.whole said) c.rest_fault.ensures.kept.0 c.rest_fault.ensures.full (sym c.rest_fault.ensures.value ∙ c.in-None-rest_fault.is) (same ∙ ended)
