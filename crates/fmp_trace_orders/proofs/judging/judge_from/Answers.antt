use Rattle.std.proofs.Common.{length, subst}
use Rattle.std.proofs.lemmas.Result.{IfOk-weaker}
use Rattle.fmp_names.specs.Names.{AreValid}
use Rattle.fmp_search_lines.specs.Lasts.{last_at, must_at}
use Rattle.fmp_trace_orders.proofs.Numbers.{few_starts, few_lasts, filled, judged}
use Rattle.fmp_trace_orders.proofs.judging.judge_from.Goals as goal

pub new-requires-clause-few : goal.new-requires-clause-few
new-requires-clause-few c =
    few_starts c.args.config.now.names c.args.text.now c.args.lines.now (subst AreValid c.names.ensures.value c.validity.ensures) c.requires.lines

pub search_orders-requires : goal.search_orders-requires
search_orders-requires c =
    let value = c.deref.ensures.value in
    rw value (few_lasts c.args.config.now.names c.args.text.now c.args.lines.now (subst AreValid c.names.ensures.value c.validity.ensures) c.requires.lines)

pub returns-clause-says : goal.returns-clause-says
returns-clause-says c =
    let config = c.args.config.now in
    let lines = c.args.lines.now in
    let valid = subst AreValid c.names.ensures.value c.validity.ensures in
    let lasts_are = c.deref.ensures.value in
    let musts_are = c.deref-2.ensures.value in
    let says = rw (lasts_are, musts_are) at c.search_orders.ensures.says in
    IfOk-weaker c.search_orders.result _ _
    (λ answer known. judged config c.args.text.now lines c.in_ok-player.player.state (last_at lines.lasts.items) (length lines.lasts.items)
    (must_at lines.musts.items) answer c.names.ensures.valid valid c.requires.lines c.in_ok-player.ensures known)
    says

pub returns-clause-full : goal.returns-clause-full
returns-clause-full c =
    let lines = c.args.lines.now in
    let lasts_are = c.deref.ensures.value in
    let full = rw lasts_are at c.search_orders.ensures.full in
    IfOk-weaker c.search_orders.result _ _
    (λ answer known. filled c.args.config.now c.args.text.now lines c.in_ok-player.player.state (last_at lines.lasts.items) (length lines.lasts.items)
    c.args.most answer c.requires.lines c.in_ok-player.ensures known)
    full
