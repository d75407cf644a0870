use Rattle.std.proofs.Common.{sym, ◌∙◌, arith}
use Rattle.fmp_config_statements.proofs.Stepping.{passes, gives, stops, ends}
use Rattle.fmp_config_statements.proofs.lexer.Lexer.next.Goals as goal

pub returns-in-Give-clause-ok : goal.returns-in-Give-clause-ok
returns-in-Give-clause-ok c =
    rw (c.new-token.ensures, c.token_text.ensures, c.line_after-next_line.ensures.value)
    (gives c.loop-byte.mode c.loop-byte.line c.loop-byte.rest.now _ c.in-Some.byte.now c.in-Some.after.now c.in-Give.kind c.in-Give.at c.in-Give.next c.in-Some.ensures.cases.0 c.in-Give.ensures c.loop-byte.invariant.0)

pub returns-in-Stop-clause-err : goal.returns-in-Stop-clause-err
returns-in-Stop-clause-err c =
    stops c.loop-byte.mode c.loop-byte.line c.loop-byte.rest.now _ c.in-Some.byte.now c.in-Some.after.now c.in-Stop.end c.in-Some.ensures.cases.0 c.in-Stop.ensures c.loop-byte.invariant.0

pub loop-byte-preserved : goal.loop-byte-preserved
loop-byte-preserved c = (
  sym (c.past_comment-rest.ensures.same c.line_after-next_line.result) ∙ rw c.line_after-next_line.ensures.value
      (passes c.loop-byte.mode c.loop-byte.line c.loop-byte.rest.now _ c.in-Some.byte.now c.in-Some.after.now c.in-Pass.next c.in-Some.ensures.cases.0 c.in-Pass.ensures c.loop-byte.invariant.0),
  omega (arith, c.past_comment-rest.ensures.shorter, c.line_after-next_line.ensures.bound, c.in-Some.ensures.cases.1, c.loop-byte.invariant.1),
)

pub returns-clause-ok : goal.returns-clause-ok
returns-clause-ok c =
    let done = ends c.loop-byte.mode c.loop-byte.line c.loop-byte.rest.now _ c.in_default.ensures.cases c.loop-byte.invariant.0 in
    rw done c.ended_in.ensures.ok

pub returns-clause-err : goal.returns-clause-err
returns-clause-err c =
    let done = ends c.loop-byte.mode c.loop-byte.line c.loop-byte.rest.now _ c.in_default.ensures.cases c.loop-byte.invariant.0 in
    rw done c.ended_in.ensures.err
