use Rattle.std.proofs.Common.{◌≡◌, ◌++◌, drop}
use Rattle.std.specs.Option.{option_copied}
use Rattle.fmp_search_question.specs.Waiting.{waits_of, waits_but, tasks_of, listed_in}
use Rattle.fmp_search_question.proofs.parts.waits_but.Given as goal

-- with those of the tasks that are left they are all
abbrev pub invariant-loop-at : goal.invariant-loop-at
invariant-loop-at l =
    l.lasting.items ++ waits_of (listed_in (option_copied l.fn.but)) (drop l.at (tasks_of l.fn.names)) ≡ waits_but l.fn.names (listed_in (option_copied l.fn.but))
