use Rattle.std.proofs.Common.{◌≡◌, ◌∙◌, ap, sym}
use Rattle.std.specs.List.{list_all}
use Rattle.std.specs.Option.{option_copied}
use Rattle.fmp_search_pattern.specs.Words as spec
use Rattle.fmp_search_pattern.proofs.Running.{runs_left, fewer_runs, first_fails, first_passes}
use Rattle.fmp_search_pattern.proofs.words.are_fine.Goals as goal
use Rattle.fmp_search_pattern.proofs.words.are_fine.Goals.{After-is_fine}

-- what was tried is the first of the runs that are left
tried : (c : After-is_fine) → c.is_fine.result ≡ spec.is_fine c.args.names.now (spec.cut_run c.in-Some.text.now).0
tried c = c.is_fine.ensures ∙ ap (spec.is_fine c.args.names.now) c.cut_run.ensures.prefix

so_far : (c : After-is_fine) → list_all (spec.is_fine c.args.names.now) (spec.runs_of c.in-Some.text.now) ≡ list_all (spec.is_fine c.args.names.now) (spec.runs_of c.args.word.now)
so_far c = rw c.in-Some.is at c.loop-rest.invariant

pub returns-then-not-is_fine : goal.returns-then-not-is_fine
returns-then-not-is_fine c =
    let at = (goal.at.returns-then-not-is_fine c).After-is_fine in
    sym (first_fails (spec.is_fine c.args.names.now) c.in-Some.text.now (sym (tried at) ∙ c.if-not-is_fine.true)) ∙ so_far at

pub loop-rest-smaller : goal.loop-rest-smaller
loop-rest-smaller c = fewer_runs (option_copied c.loop-rest.rest) (option_copied c.cut_run.result.1) c.in-Some.text.now (ap option_copied c.in-Some.is) c.cut_run.ensures.rest

pub loop-rest-preserved : goal.loop-rest-preserved
loop-rest-preserved c =
    let at = (goal.at.loop-rest-preserved c).After-is_fine in
    ap (λ r. list_all (spec.is_fine c.args.names.now) (runs_left r)) c.cut_run.ensures.rest
    ∙ sym (first_passes (spec.is_fine c.args.names.now) c.in-Some.text.now (sym (tried at) ∙ c.if-not-is_fine.false))
    ∙ so_far at
