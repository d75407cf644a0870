use Rattle.std.proofs.Common.{arith}
use Rattle.fmp_config_statements.proofs.Passing.{past_star}
use Rattle.fmp_config_statements.proofs.comments.past_block.Goals as goal

pub returns-in-Some-clause-same : goal.returns-in-Some-clause-same
returns-in-Some-clause-same c = λ line.
    let found = rw c.in-Some.is at c.memchr2.ensures in
    past_star c.args.place c.args.began line c.args.bytes.now c.in-Some.at (omega (arith, found.0.high)) found.0.before

pub returns-in-None-clause-same : goal.returns-in-None-clause-same
returns-in-None-clause-same c = λ line.
    let none = rw c.in-None.is at c.memchr2.ensures in
    past_star c.args.place c.args.began line c.args.bytes.now _ (omega arith) none
