use Rattle.std.proofs.Common.{rules}
use Rattle.fmp_session.proofs.Listed.{if_none, none_more, on_some, some_more}
use Rattle.fmp_session.proofs.numbers.+put_values.Goals as goal

pub returns-in_ok-value_of-in-len1-up-numbers-clause-some : goal.returns-in_ok-value_of-in-len1-up-numbers-clause-some
returns-in_ok-value_of-in-len1-up-numbers-clause-some t c =
    let it = c.in_ok-value_of-in-len1-up-numbers in
    on_some c.put_values.result
    (some_more it.field-0 c.args.kinds.now c.args.numbers.now c.args.values.now.items c.push.new.self.items c.put_values.new.values.items
    c.in-len1-up.len_at_least c.in-len1-up-numbers.len_at_least (search rules) c.push.ensures.items)
    c.put_values.ensures.some

pub returns-in_ok-value_of-in-len1-up-numbers-clause-none : goal.returns-in_ok-value_of-in-len1-up-numbers-clause-none
returns-in_ok-value_of-in-len1-up-numbers-clause-none t c =
    let it = c.in_ok-value_of-in-len1-up-numbers in
    if_none c.put_values.result
    (none_more it.field-0 c.args.kinds.now c.args.numbers.now c.in-len1-up.len_at_least c.in-len1-up-numbers.len_at_least (search rules))
    c.put_values.ensures.none
