use Rattle.std.proofs.Common.{◌≡◌, ◌∙◌, ℕ, List, ap, sym}
use Rattle.std.specs.List.{list_any}
use Rattle.std.specs.Option.{option_copied}
use Rattle.std.specs.Str.{bytes_eq}
use Rattle.fmp_bytes.specs.Bytes.{cut_at, pieces_of, space}
use Rattle.fmp_bytes.proofs.Cutting.{fewer_left, pieces_left}
use Rattle.fmp_search_pattern.proofs.Pieces.{any_first, any_rest}
use Rattle.fmp_cli_notes.proofs.words.has_word.Goals as goal
use Rattle.fmp_cli_notes.proofs.words.has_word.Goals.{After-eq}

-- what was tried is the first of those that are left
tried : (c : After-eq) → c.eq.result ≡ bytes_eq (cut_at space c.in-Some.words.now).0 c.args.word.now
tried c = c.eq.ensures ∙ ap (λ (w : List ℕ). bytes_eq w c.args.word.now) c.cut.ensures.prefix

so_far : (c : After-eq) → list_any (λ it. bytes_eq it c.args.word.now) (pieces_of space c.in-Some.words.now) ≡ list_any (λ it. bytes_eq it c.args.word.now) (pieces_of space c.args.text.now)
so_far c = rw c.in-Some.is at c.loop-rest.invariant

pub returns-then-eq : goal.returns-then-eq
returns-then-eq c =
    let at = (goal.at.returns-then-eq c).After-eq in
    sym (any_first (λ it. bytes_eq it c.args.word.now) space c.in-Some.words.now (sym (tried at) ∙ c.if-eq.true)) ∙ so_far at

pub loop-rest-smaller : goal.loop-rest-smaller
loop-rest-smaller c = fewer_left space (option_copied c.loop-rest.rest) (option_copied c.cut.result.1) c.in-Some.words.now (ap option_copied c.in-Some.is) c.cut.ensures.rest

pub loop-rest-preserved : goal.loop-rest-preserved
loop-rest-preserved c =
    let at = (goal.at.loop-rest-preserved c).After-eq in
    ap (λ r. list_any (λ it. bytes_eq it c.args.word.now) (pieces_left space r)) c.cut.ensures.rest
    ∙ sym (any_rest (λ it. bytes_eq it c.args.word.now) space c.in-Some.words.now (sym (tried at) ∙ c.if-eq.false))
    ∙ so_far at
