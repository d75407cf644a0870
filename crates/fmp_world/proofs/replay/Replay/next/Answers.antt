use Rattle.std.proofs.Common.{◌≡◌, ◌∙◌, List, [], ◌∷◌, rules, refl, ap, sym}
use Rattle.std.proofs.lemmas.List.{nil_from_length}
use Rattle.fmp_codes.specs.declared.records.Record.{Record}
use Rattle.fmp_rules.specs.Arrivals.{numbered}
use Rattle.fmp_rules.specs.Step.{step}
use Rattle.fmp_smp_histories.specs.Histories.{state_after}
use Rattle.fmp_world.specs.Moves.{played_one, added_by}
use Rattle.fmp_world.specs.Views.{History}
use Rattle.fmp_world.proofs.Played.{added_none, added_next}
use Rattle.fmp_world.proofs.replay.Replay.next.Goals as goal

pub returns-in_default : goal.returns-in_default
returns-in_default c =
    let w = c.self.inside.again in
    let empty : c.self.inside.left.now ≡ [] = nil_from_length c.self.inside.left.now c.in_default.ensures.cases in
    let none : c.args.self.now ≡ [] = sym c.self.view_is ∙ ap (added_by w.config w.scripts w.records) empty ∙ added_none w.config w.scripts w.records in
    (none, none, refl)

pub returns : goal.returns
returns c =
    let w = c.self.inside.again in
    let by = c.in-Some.by.now in
    let later = c.in-Some.later.now in
    let split : c.self.inside.left.now ≡ by ∷ later = search rules in
    let event = c.play.new.report.event in
    let report : c.play.new.report ≡ (step numbered (state_after w.config w.records) event).1 = c.play.ensures.is in
    let longer : List Record = played_one w.config w.scripts w.records by in
    sym c.self.view_is
    ∙ ap (added_by w.config w.scripts w.records) split
    ∙ added_next w.config w.scripts w.records by later event c.play.ensures.report
    ∙ ap (λ (r : Record). r ∷ added_by w.config w.scripts longer later) (sym report)
    ∙ ap (λ (v : History). c.play.new.report ∷ added_by v.config v.scripts v.records later) (sym c.play.ensures.plays)
