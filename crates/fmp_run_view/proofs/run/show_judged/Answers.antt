use Rattle.std.proofs.Common.{◌≡◌, ◌∙◌, ◌++◌, ℕ, List, [], OnOk, OnErr, refl, subst, sym}
use Rattle.fmp_run_devices.specs.Devices.{BeginsWith, bytes_of}
use Rattle.fmp_trace.specs.Prints.{PrintsWithin}
use Rattle.fmp_run_view.specs.Runs.{ShowsDifferences, ShowsOwn}
use Rattle.fmp_run_view.specs.Pages.{page_of}
use Rattle.fmp_run_view.proofs.Passed.{leaves_passed}
use Rattle.fmp_run_view.proofs.SoFar.{events_of}
use Rattle.fmp_run_view.proofs.run.show_judged.Goals as goal

pub returns-in-Own-Yes-clause-leaves : goal.returns-in-Own-Yes-clause-leaves
returns-in-Own-Yes-clause-leaves g c = λ known.
    let judged = c.requires.judged in
    let config = c.args.config.now in
    let text = c.args.judged.now.text.items in
    let events = events_of judged.records in
    let old = bytes_of (g.W.Sink.written c.args.page.now) in
    let new = bytes_of (g.W.Sink.written c.show-shown.new.page) in
    let prints = subst (λ (xs : List ℕ). PrintsWithin config.names xs judged.records) (sym c.as_slice-text.ensures.value) judged.prints in
    let shows : ShowsOwn config text (page_of config text [] events) = record { records = judged.records; prints = judged.prints; own = rw c.in-Own-Yes.is-1 at judged.compares; shown = refl } in
    let shown = c.show-shown.ensures in
    let whole = subst (λ (xs : List ℕ). OnOk c.show-shown.result (new ≡ old ++ page_of config xs [] events)) c.as_slice-text.ensures.value (shown.shown known judged.records prints) in
    let begun = subst (λ (xs : List ℕ). OnErr c.show-shown.result (BeginsWith old (page_of config xs [] events) new)) c.as_slice-text.ensures.value (shown.begun known judged.records prints) in
    rw (c.in-Own-Yes.is-0, c.pass_on.ensures.same (shown.known known))
    (leaves_passed (ShowsOwn config text) (page_of config text [] events) _ _ shows c.show-shown.result c.pass_on.result c.pass_on.ensures.ended whole begun (shown.kinds judged.records prints))

pub returns-in_ok-found-in-Differences-default-clause-leaves : goal.returns-in_ok-found-in-Differences-default-clause-leaves
returns-in_ok-found-in-Differences-default-clause-leaves g c = λ known.
    let judged = c.requires.judged in
    let config = c.args.config.now in
    let text = c.args.judged.now.text.items in
    let prints = subst (λ (xs : List ℕ). PrintsWithin config.names xs judged.records) (sym c.as_slice-text.ensures.value) judged.prints in
    let own = c.as_slice-own.ensures.value ∙ c.in_ok-found-in-Differences-default.ensures.own judged.records prints in
    let given = c.as_slice-given.ensures.value ∙ c.in_ok-found-in-Differences-default.ensures.given judged.records prints in
    let page = page_of config c.as_slice-own.result.now c.as_slice-given.result.now (events_of judged.records) in
    let shows : ShowsDifferences config text page = record { records = judged.records; prints = judged.prints; shown = rw (own, given) refl } in
    let shown = c.show-shown-in-Differences-default.ensures in
    rw (c.in-Differences-default.is-0, c.pass_on-in-Differences-default.ensures.same (shown.known known))
    (leaves_passed (ShowsDifferences config text) page _ _ shows c.show-shown-in-Differences-default.result c.pass_on-in-Differences-default.result c.pass_on-in-Differences-default.ensures.ended (shown.shown known judged.records prints) (shown.begun known judged.records prints)
    (shown.kinds judged.records prints))
