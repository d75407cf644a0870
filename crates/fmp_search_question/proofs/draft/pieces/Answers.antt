use Rattle.std.proofs.Common.{◌≡◌, ◌∙◌, ◌++◌, ◌∷◌, [], ap, sym, append_assoc}
use Rattle.std.specs.Option.{option_copied}
use Rattle.fmp_bytes.specs.Bytes.{cut_at, pieces_of}
use Rattle.fmp_bytes.proofs.Cutting.{fewer_left, pieces_left, pieces_of-cut}
use Rattle.fmp_search_pattern.specs.Words.{star}
use Rattle.fmp_search_question.proofs.draft.pieces.Goals as goal

pub loop-rest-smaller : goal.loop-rest-smaller
loop-rest-smaller c = fewer_left star (option_copied c.loop-rest.rest) (option_copied c.cut.result.1) c.in-Some.text.now (ap option_copied c.in-Some.is) c.cut.ensures.rest

pub loop-rest-preserved : goal.loop-rest-preserved
loop-rest-preserved c =
    let so_far : c.loop-rest.pieces.items ++ pieces_of star c.in-Some.text.now ≡ pieces_of star c.args.pattern.now = rw c.in-Some.is at c.loop-rest.invariant in
    let so_many = c.loop-rest.pieces.items in
    let first : c.new.result ≡ (cut_at star c.in-Some.text.now).0 = c.new.ensures ∙ c.in_ok-from_slice.ensures.items ∙ c.cut.ensures.prefix in
    let rest : pieces_left star (option_copied c.cut.result.1) ≡ pieces_left star (cut_at star c.in-Some.text.now).1 = ap (pieces_left star) c.cut.ensures.rest in
    ap (λ xs. xs ++ pieces_left star (option_copied c.cut.result.1)) c.in_ok-push.ensures.items
    ∙ append_assoc so_many (c.new.result ∷ []) (pieces_left star (option_copied c.cut.result.1))
    ∙ ap (λ x. so_many ++ x ∷ pieces_left star (option_copied c.cut.result.1)) first
    ∙ ap (λ xs. so_many ++ (cut_at star c.in-Some.text.now).0 ∷ xs) rest
    ∙ ap (λ xs. so_many ++ xs) (sym (pieces_of-cut star c.in-Some.text.now))
    ∙ so_far
