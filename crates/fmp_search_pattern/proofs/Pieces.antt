-- A test of the pieces of a text, one after the other.
use Rattle.std.proofs.Common.{◌≡◌, ◌∙◌, ℕ, Bool, true, false, ◌||◌, ◌&&◌, List, ap, refl}
use Rattle.std.specs.List.{list_all, list_any}
use Rattle.fmp_bytes.specs.Bytes.{cut_at, pieces_of}
use Rattle.fmp_bytes.proofs.Cutting.{pieces_left, pieces_of-cut}

pub or_true : (a b : Bool) → a ≡ true → (a || b) ≡ true
or_true true b is = refl
or_true false b is = cc

pub or_false : (a b : Bool) → a ≡ false → (a || b) ≡ b
or_false false b is = refl
or_false true b is = cc

and_false : (a b : Bool) → a ≡ false → (a && b) ≡ false
and_false false b is = refl
and_false true b is = cc

and_true : (a b : Bool) → a ≡ true → (a && b) ≡ b
and_true true b is = refl
and_true false b is = cc

module _ (test : List ℕ → Bool) (c : ℕ) (text : List ℕ) where
  abbrev first : List ℕ
  first = (cut_at c text).0

  abbrev left : List (List ℕ)
  left = pieces_left c (cut_at c text).1

  pub any_first : test first ≡ true → list_any test (pieces_of c text) ≡ true
  any_first is = ap (list_any test) (pieces_of-cut c text) ∙ or_true (test first) (list_any test left) is

  pub any_rest : test first ≡ false → list_any test (pieces_of c text) ≡ list_any test left
  any_rest is = ap (list_any test) (pieces_of-cut c text) ∙ or_false (test first) (list_any test left) is

  pub all_first : test first ≡ false → list_all test (pieces_of c text) ≡ false
  all_first is = ap (list_all test) (pieces_of-cut c text) ∙ and_false (test first) (list_all test left) is

  pub all_rest : test first ≡ true → list_all test (pieces_of c text) ≡ list_all test left
  all_rest is = ap (list_all test) (pieces_of-cut c text) ∙ and_true (test first) (list_all test left) is
