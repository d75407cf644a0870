use Rattle.std.proofs.Common.{◌≡◌, ◌∙◌, Bool, ◌&&◌, true, false, List, ℕ, ap, sym}
use Rattle.std.specs.Prelude.{codes}
use Rattle.std.specs.Option.{option_copied}
use Rattle.std.specs.Str.{bytes_eq}
use Rattle.fmp_bytes.specs.Bytes.{space, cut_at, pieces_of}
use Rattle.fmp_bytes.proofs.Cutting.{fewer_left, pieces_left, pieces_of-cut}
use Rattle.fmp_search_question.specs.Lasting as spec
use Rattle.fmp_search_pattern.proofs.Pieces.{or_true, or_false}
use Rattle.fmp_search_question.proofs.parts.has_for_ever.Goals as goal
use Rattle.fmp_search_question.proofs.parts.has_for_ever.Goals.{After-is_ever}

module _ (after_for : Bool) (text : List ℕ) where
  abbrev word : List ℕ
  word = (cut_at space text).0

  abbrev ends : Bool
  ends = after_for && bytes_eq word (codes "ever")

  abbrev following : Bool
  following = spec.has_for_ever (bytes_eq word (codes "for")) (pieces_left space (cut_at space text).1)

  first : ends ≡ true → spec.has_for_ever after_for (pieces_of space text) ≡ true
  first is = ap (spec.has_for_ever after_for) (pieces_of-cut space text) ∙ or_true ends following is

  rest : ends ≡ false → spec.has_for_ever after_for (pieces_of space text) ≡ following
  rest is = ap (spec.has_for_ever after_for) (pieces_of-cut space text) ∙ or_false ends following is

tried : (c : After-is_ever) → c.is_ever.result ≡ ends c.loop-rest.after_for c.in-Some.words.now
tried c = c.is_ever.ensures ∙ ap (λ w. c.loop-rest.after_for && bytes_eq w (codes "ever")) c.cut.ensures.prefix

so_far : (c : After-is_ever) → spec.has_for_ever c.loop-rest.after_for (pieces_of space c.in-Some.words.now) ≡ spec.has_for_ever false (pieces_of space c.args.text.now)
so_far c = rw c.in-Some.is at c.loop-rest.invariant

pub returns-then-is_ever : goal.returns-then-is_ever
returns-then-is_ever c =
    let at = (goal.at.returns-then-is_ever c).After-is_ever in
    sym (first c.loop-rest.after_for c.in-Some.words.now (sym (tried at) ∙ c.if-is_ever.true)) ∙ so_far at

pub loop-rest-smaller : goal.loop-rest-smaller
loop-rest-smaller c = fewer_left space (option_copied c.loop-rest.rest) (option_copied c.cut.result.1) c.in-Some.words.now (ap option_copied c.in-Some.is) c.cut.ensures.rest

pub loop-rest-preserved : goal.loop-rest-preserved
loop-rest-preserved c =
    let at = (goal.at.loop-rest-preserved c).After-is_ever in
    ap (λ r. spec.has_for_ever c.is_word-after_for.result (pieces_left space r)) c.cut.ensures.rest
    ∙ ap (λ b. spec.has_for_ever b (pieces_left space (cut_at space c.in-Some.words.now).1)) (c.is_word-after_for.ensures ∙ ap (λ w. bytes_eq w (codes "for")) c.cut.ensures.prefix)
    ∙ sym (rest c.loop-rest.after_for c.in-Some.words.now (sym (tried at) ∙ c.if-is_ever.false))
    ∙ so_far at
