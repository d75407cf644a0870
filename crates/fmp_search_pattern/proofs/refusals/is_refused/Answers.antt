use Rattle.std.proofs.Common.{◌≡◌, ◌∙◌, ap, sym}
use Rattle.std.specs.List.{list_any}
use Rattle.std.specs.Option.{option_copied}
use Rattle.fmp_bytes.specs.Bytes.{cut_at, pieces_of, space}
use Rattle.fmp_bytes.proofs.Cutting.{fewer_left, pieces_left}
use Rattle.fmp_search_pattern.specs.Items.{is_refusal}
use Rattle.fmp_search_pattern.proofs.Pieces.{any_first, any_rest}
use Rattle.fmp_search_pattern.proofs.refusals.is_refused.Goals as goal
use Rattle.fmp_search_pattern.proofs.refusals.is_refused.Goals.{After-is_refusal}

-- what was tried is the first of those that are left
tried : (c : After-is_refusal) → c.is_refusal.result ≡ is_refusal (cut_at space c.in-Some.text.now).0
tried c = c.is_refusal.ensures ∙ ap is_refusal c.cut.ensures.prefix

so_far : (c : After-is_refusal) → list_any is_refusal (pieces_of space c.in-Some.text.now) ≡ list_any is_refusal (pieces_of space c.args.line.now)
so_far c = rw c.in-Some.is at c.loop-rest.invariant

pub returns-then-is_refusal : goal.returns-then-is_refusal
returns-then-is_refusal c =
    let at = (goal.at.returns-then-is_refusal c).After-is_refusal in
    sym (any_first is_refusal space c.in-Some.text.now (sym (tried at) ∙ c.if-is_refusal.true)) ∙ so_far at

pub loop-rest-smaller : goal.loop-rest-smaller
loop-rest-smaller c = fewer_left space (option_copied c.loop-rest.rest) (option_copied c.cut.result.1) c.in-Some.text.now (ap option_copied c.in-Some.is) c.cut.ensures.rest

pub loop-rest-preserved : goal.loop-rest-preserved
loop-rest-preserved c =
    let at = (goal.at.loop-rest-preserved c).After-is_refusal in
    ap (λ r. list_any is_refusal (pieces_left space r)) c.cut.ensures.rest
    ∙ sym (any_rest is_refusal space c.in-Some.text.now (sym (tried at) ∙ c.if-is_refusal.false))
    ∙ so_far at
