use Rattle.std.proofs.Common.{◌≡◌, ◌∙◌, ap, sym}
use Rattle.std.specs.Option.{option_copied}
use Rattle.std.specs.Str.{bytes_eq}
use Rattle.fmp_bytes.specs.Bytes.{cut_at, pieces_of}
use Rattle.fmp_bytes.proofs.Cutting.{fewer_left, pieces_left}
use Rattle.fmp_names.specs.Names.{has_name}
use Rattle.fmp_search_question.specs.Waiting.{comma}
use Rattle.fmp_search_pattern.proofs.Pieces.{any_first, any_rest}
use Rattle.fmp_search_question.proofs.parts.is_listed.Goals as goal
use Rattle.fmp_search_question.proofs.parts.is_listed.Goals.{After-is_word}

-- what was tried is the first of those that are left
tried : (c : After-is_word) → c.is_word.result ≡ bytes_eq c.args.name.now (cut_at comma c.in-Some.text.now).0
tried c = c.is_word.ensures ∙ ap (bytes_eq c.args.name.now) c.cut.ensures.prefix

so_far : (c : After-is_word) → has_name (pieces_of comma c.in-Some.text.now) c.args.name.now ≡ has_name (pieces_of comma c.args.list.now) c.args.name.now
so_far c = rw c.in-Some.is at c.loop-rest.invariant

pub returns-then-is_word : goal.returns-then-is_word
returns-then-is_word c =
    let at = (goal.at.returns-then-is_word c).After-is_word in
    sym (any_first (bytes_eq c.args.name.now) comma c.in-Some.text.now (sym (tried at) ∙ c.if-is_word.true)) ∙ so_far at

pub loop-rest-smaller : goal.loop-rest-smaller
loop-rest-smaller c = fewer_left comma (option_copied c.loop-rest.rest) (option_copied c.cut.result.1) c.in-Some.text.now (ap option_copied c.in-Some.is) c.cut.ensures.rest

pub loop-rest-preserved : goal.loop-rest-preserved
loop-rest-preserved c =
    let at = (goal.at.loop-rest-preserved c).After-is_word in
    ap (λ r. has_name (pieces_left comma r) c.args.name.now) c.cut.ensures.rest
    ∙ sym (any_rest (bytes_eq c.args.name.now) comma c.in-Some.text.now (sym (tried at) ∙ c.if-is_word.false))
    ∙ so_far at
