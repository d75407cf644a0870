use Rattle.std.proofs.Common.{arith, inl, sym}
use Rattle.std.proofs.lemmas.Result.{err_from_is_err_and}
use Rattle.fmp_bytes.proofs.Cutting.{shorter}
use Rattle.fmp_trace_orders.proofs.Reading.{read_none, goes_on, fits, fails, ends, is_short}
use Rattle.fmp_trace_orders.proofs.lines.lines_within.Goals as goal

pub loop-line-init : goal.loop-line-init
loop-line-init c = read_none c.args.names.now c.args.text.now c.none-lines.result c.none-lines.ensures

pub loop-line-smaller : goal.loop-line-smaller
loop-line-smaller c = shorter 10 c.loop-line.rest.now c.in-Some.after.now c.in-Some.ensures.rest

pub returns-in_err-said : goal.returns-in_err-said
returns-in_err-said c =
    let p = err_from_is_err_and c.from_residual.result c.from_residual.ensures.1 in
    rw (p.1, p.2) (fails c.loop-line.invariant c.in-Some.ensures.line c.in-Some.ensures.rest c.in_err-said.field-0.0 c.in_err-said.ensures)

pub overflow_cast-start : goal.overflow_cast-start
overflow_cast-start c =
    omega (arith, c.requires, fits c.loop-line.invariant c.in-Some.ensures.line c.in-Some.ensures.rest)

pub overflow_add-start : goal.overflow_add-start
overflow_add-start c =
    omega (arith, c.requires, fits c.loop-line.invariant c.in-Some.ensures.line c.in-Some.ensures.rest)

pub overflow_add-start-in-Some : goal.overflow_add-start-in-Some
overflow_add-start-in-Some c =
    omega (arith, c.requires, fits c.loop-line.invariant c.in-Some.ensures.line c.in-Some.ensures.rest)

pub loop-line-preserved : goal.loop-line-preserved
loop-line-preserved c =
    goes_on c.loop-line.invariant c.in-Some.ensures.line c.in-Some.ensures.rest c.push.new.self c.in_ok-said.said c.in_ok-said.ensures
    c.in_ok-push.ensures.starts c.in_ok-push.ensures.events c.in_ok-push.ensures.lasts c.in_ok-push.ensures.musts

pub returns-then-is_empty : goal.returns-then-is_empty
returns-then-is_empty c = ends c.loop-line.invariant c.in_default.ensures.none (sym c.if-is_empty.ensures)

pub returns-else-is_empty : goal.returns-else-is_empty
returns-else-is_empty c = inl (is_short c.loop-line.invariant c.in_default.ensures.none (sym c.if-is_empty.ensures))
