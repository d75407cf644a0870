use Rattle.std.proofs.Common.{inl, refl, subst, arith}
use Rattle.fmp_names.specs.Names.{AreValid, NameLists}
use Rattle.fmp_trace_orders.specs.Lines.{AreLinesOf}
use Rattle.fmp_run_partial.proofs.Ordered.{crowded_fault, crowded_small, none_without, not_known, some_order, without_small}
use Rattle.fmp_run_partial.proofs.judging.judge_ordered.Goals as goal

pub returns-in-Right-clause-verdict : goal.returns-in-Right-clause-verdict
returns-in-Right-clause-verdict c =
    let are = subst (λ (n : NameLists). AreLinesOf n c.args.body.now c.in_ok-lines.lines) c.names-names.ensures.value c.in_ok-lines.ensures.lines in
    some_order c.args.config.now c.args.body.now c.in_ok-lines.lines are c.requires c.in_ok-orders.orders c.in-Right.order c.in-Right.is c.in_ok-orders.ensures.says

pub overflow_add-result : goal.overflow_add-result
overflow_add-result c =
    let are = subst (λ (n : NameLists). AreLinesOf n c.args.body.now c.in_ok-lines.lines) c.names-names.ensures.value c.in_ok-lines.ensures.lines in
    omega (arith, without_small c.args.config.now c.args.body.now c.in_ok-lines.lines are (subst AreValid c.names-names.ensures.value c.validity.ensures) c.in_ok-orders.orders c.in-Without.line c.in-Without.order c.in-Without.is c.in_ok-orders.ensures.says)

pub returns-in-Without-clause-verdict : goal.returns-in-Without-clause-verdict
returns-in-Without-clause-verdict c =
    let are = subst (λ (n : NameLists). AreLinesOf n c.args.body.now c.in_ok-lines.lines) c.names-names.ensures.value c.in_ok-lines.ensures.lines in
    none_without c.args.config.now c.args.body.now c.in_ok-lines.lines are c.requires c.in_ok-orders.orders c.in-Without.line c.in-Without.order c.in-Without.is c.in_ok-orders.ensures.says

pub overflow_add-result-in-Crowded : goal.overflow_add-result-in-Crowded
overflow_add-result-in-Crowded c =
    let are = subst (λ (n : NameLists). AreLinesOf n c.args.body.now c.in_ok-lines.lines) c.names-names.ensures.value c.in_ok-lines.ensures.lines in
    omega (arith, crowded_small c.args.config.now c.args.body.now c.in_ok-lines.lines are (subst AreValid c.names-names.ensures.value c.validity.ensures) c.in_ok-orders.orders c.in-Crowded.line c.in-Crowded.is c.in_ok-orders.ensures.says)

pub returns-in-Crowded-clause-fault : goal.returns-in-Crowded-clause-fault
returns-in-Crowded-clause-fault c =
    let are = subst (λ (n : NameLists). AreLinesOf n c.args.body.now c.in_ok-lines.lines) c.names-names.ensures.value c.in_ok-lines.ensures.lines in
    inl (crowded_fault c.args.config.now c.args.body.now c.in_ok-lines.lines are c.in_ok-orders.orders c.in-Crowded.line _ c.in-Crowded.is refl c.in_ok-orders.ensures.says)

pub returns-clause-verdict : goal.returns-clause-verdict
returns-clause-verdict c =
    let are = subst (λ (n : NameLists). AreLinesOf n c.args.body.now c.in_ok-lines.lines) c.names-names.ensures.value c.in_ok-lines.ensures.lines in
    not_known c.args.config.now c.args.body.now c.in_ok-lines.lines are c.requires c.in_ok-orders.orders _ c.in-NotKnown.is c.new.ensures.items c.in_ok-orders.ensures.full
