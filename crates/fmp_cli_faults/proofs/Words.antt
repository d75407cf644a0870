-- All words of a command line but those that say whether what stands beside a fault is shown.
use Rattle.std.proofs.Common.{◌≡◌, ℕ, Bool, true, false, List, [], ◌∷◌, ◌++◌, cond, refl, sym, ap, ◌∙◌}
use Rattle.std.specs.Prelude.{String, filter, not, take, drop}
use Rattle.std.specs.Global.{Global}
use Rattle.std.specs.List.{insert}
use Rattle.std.proofs.lemmas.List.{take-append-drop}
use Rattle.std.proofs.lemmas.List.Elements.{filter-append}
use Rattle.fmp_cli_faults.specs.Context.{is_context, others}

-- one more of those changes nothing
pub others_before : (words : List (String Global)) (word : String Global) → is_context word.bytes.items ≡ true → others (word ∷ words) ≡ others words
others_before words word is = rw (is) refl

pub others_with : (words : List (String Global)) (n : ℕ) (word : String Global) → is_context word.bytes.items ≡ true → others (insert words n word) ≡ others words
others_with words n word is =
    let test : String Global → Bool = λ w. not (is_context w.bytes.items) in
    filter-append test (take n words) (word ∷ drop n words)
    ∙ ap (λ rest. others (take n words) ++ rest) (others_before (drop n words) word is)
    ∙ sym (filter-append test (take n words) (drop n words))
    ∙ ap others (take-append-drop n words)

-- nor does it that they are left out
twice : {X : Type 0} (test : X → Bool) (xs : List X) → filter test (filter test xs) ≡ filter test xs
twice test [] = refl
twice test (x ∷ xs) =
    let rest = twice test xs in
    (elim (test x) as (λ (b : Bool). test x ≡ b → filter test (cond b (x ∷ filter test xs) (filter test xs)) ≡ cond b (x ∷ filter test xs) (filter test xs)) [
      | true ↦ λ is. rw (is) (ap (λ (ys : List _). x ∷ ys) rest)
      | false ↦ λ is. rest
    ]) refl

pub others_of : (words : List (String Global)) → others (others words) ≡ others words
others_of words = twice (λ word. not (is_context word.bytes.items)) words
