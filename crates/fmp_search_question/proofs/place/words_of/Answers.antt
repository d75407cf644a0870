use Rattle.std.proofs.Common.{◌≡◌, ◌∙◌, ◌++◌, ◌∷◌, ℕ, List, [], Bor, ap, sym, map, append_assoc}
use Rattle.std.specs.Option.{option_copied}
use Rattle.fmp_bytes.specs.Bytes.{cut_at, pieces_of, space}
use Rattle.fmp_bytes.proofs.Cutting.{fewer_left, pieces_left, pieces_of-cut}
use Rattle.fmp_search_question.specs.Places.{filled, words_of}
use Rattle.fmp_search_question.proofs.Filled.{filled-first}
use Rattle.fmp_search_question.proofs.place.words_of.Goals as goal

pub loop-rest-smaller : goal.loop-rest-smaller
loop-rest-smaller c = fewer_left space (option_copied c.loop-rest.rest) (option_copied c.cut.result.1) c.in-Some.left.now (ap option_copied c.in-Some.is) c.cut.ensures.rest

pub loop-rest-preserved : goal.loop-rest-preserved
loop-rest-preserved c =
    let so_many = map (λ (x : Bor (List ℕ)). x.now) c.loop-rest.words.items in
    let text = c.in-Some.left.now in
    let so_far : so_many ++ filled (pieces_of space text) ≡ words_of c.args.text.now = rw c.in-Some.is at c.loop-rest.invariant in
    let left = pieces_left space (option_copied c.cut.result.1) in
    ap (λ xs. xs ++ filled left) c.in_ok-push_filled.ensures
    ∙ append_assoc so_many (filled (c.cut.result.0.now ∷ [])) (filled left)
    ∙ ap (λ xs. so_many ++ xs) (sym (filled-first c.cut.result.0.now left))
    ∙ ap (λ (word : List ℕ). so_many ++ filled (word ∷ left)) c.cut.ensures.prefix
    ∙ ap (λ r. so_many ++ filled ((cut_at space text).0 ∷ pieces_left space r)) c.cut.ensures.rest
    ∙ ap (λ ps. so_many ++ filled ps) (sym (pieces_of-cut space text))
    ∙ so_far
