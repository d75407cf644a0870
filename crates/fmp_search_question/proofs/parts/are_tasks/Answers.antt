use Rattle.std.proofs.Common.{◌≡◌, ◌∙◌, ap, sym}
use Rattle.std.specs.List.{list_all}
use Rattle.std.specs.Option.{option_copied}
use Rattle.fmp_bytes.specs.Bytes.{cut_at}
use Rattle.fmp_bytes.proofs.Cutting.{fewer_left, pieces_left}
use Rattle.fmp_search_question.specs.Waiting.{comma}
use Rattle.fmp_search_question.specs.Lasting.{is_task, are_tasks}
use Rattle.fmp_search_pattern.proofs.Pieces.{all_first, all_rest}
use Rattle.fmp_search_question.proofs.parts.are_tasks.Goals as goal
use Rattle.fmp_search_question.proofs.parts.are_tasks.Goals.{After-is_task}

-- what was tried is the first of those that are left
tried : (c : After-is_task) → c.is_task.result ≡ is_task c.args.names.now (cut_at comma c.in-Some.text.now).0
tried c = c.is_task.ensures ∙ ap (is_task c.args.names.now) c.cut.ensures.prefix

so_far : (c : After-is_task) → are_tasks c.args.names.now c.in-Some.text.now ≡ are_tasks c.args.names.now c.args.list.now
so_far c = rw c.in-Some.is at c.loop-rest.invariant

pub returns-then-not-is_task : goal.returns-then-not-is_task
returns-then-not-is_task c =
    let at = (goal.at.returns-then-not-is_task c).After-is_task in
    sym (all_first (is_task c.args.names.now) comma c.in-Some.text.now (sym (tried at) ∙ c.if-not-is_task.true)) ∙ so_far at

pub loop-rest-smaller : goal.loop-rest-smaller
loop-rest-smaller c = fewer_left comma (option_copied c.loop-rest.rest) (option_copied c.cut.result.1) c.in-Some.text.now (ap option_copied c.in-Some.is) c.cut.ensures.rest

pub loop-rest-preserved : goal.loop-rest-preserved
loop-rest-preserved c =
    let at = (goal.at.loop-rest-preserved c).After-is_task in
    ap (λ r. list_all (is_task c.args.names.now) (pieces_left comma r)) c.cut.ensures.rest
    ∙ sym (all_rest (is_task c.args.names.now) comma c.in-Some.text.now (sym (tried at) ∙ c.if-not-is_task.false))
    ∙ so_far at
