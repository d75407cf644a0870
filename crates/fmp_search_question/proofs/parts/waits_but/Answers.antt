use Rattle.std.proofs.Common.{◌≤◌, arith}
use Rattle.std.specs.Option.{option_copied}
use Rattle.fmp_codes.specs.declared.kinds.ObjectKind.TheVariants.{Task}
use Rattle.fmp_search_question.specs.Waiting.{listed_in, tasks_of}
use Rattle.fmp_search_question.proofs.Waiting.{all_waits}
use Rattle.fmp_search_question.proofs.parts.waits_but.Goals as goal

pub returns : goal.returns
returns c =
    let over = c.loop-at-test.false in
    let past : 64 ≤ c.loop-at.at = omega (arith, over) in
    all_waits (listed_in (option_copied c.args.but)) (tasks_of c.args.names.now) c.loop-at.at c.loop-at.lasting.items (c.validity.ensures.limits Task) past c.loop-at.invariant
