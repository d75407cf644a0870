-- The words of a text, and the text of the pieces of a pattern.
use Rattle.std.proofs.Common.{◌≡◌, ℕ, Bool, true, false, not, eqb, cond, List, [], ◌∷◌, ◌++◌, length, refl, sym, ap, append-nil}
use Rattle.std.specs.List.{join_with_byte}
use Rattle.fmp_search_pattern.specs.Words.{star}
use Rattle.fmp_search_question.specs.Places.{filled}

-- the first piece, and those after it
pub filled-first : (piece : List ℕ) (pieces : List (List ℕ)) → filled (piece ∷ pieces) ≡ filled (piece ∷ []) ++ filled pieces
filled-first piece pieces = go (not (eqb (length piece) 0)) (filled pieces)
  where
    go : (some : Bool) (others : List (List ℕ)) → cond some (piece ∷ others) others ≡ cond some (piece ∷ []) [] ++ others
    go true others = refl
    go false others = refl

-- the pieces after the first one, each with a star before it
abbrev pub starred : List (List ℕ) → List ℕ
starred [] = []
starred (piece ∷ pieces) = star ∷ (piece ++ starred pieces)

pub joined-first : (piece : List ℕ) (pieces : List (List ℕ)) → join_with_byte star (piece ∷ pieces) ≡ piece ++ starred pieces
joined-first piece [] = sym (append-nil piece)
joined-first piece (next ∷ pieces) = ap (λ (text : List ℕ). piece ++ star ∷ text) (joined-first next pieces)
