-- Words with one more after them.
use Rattle.std.proofs.Common.{◌≡◌, ℕ, Bool, true, false, ◌||◌, cond, List, [], ◌∷◌, ◌++◌, refl, ap, ◌∙◌}
use Rattle.std.specs.Prelude.{codes}
use Rattle.std.specs.List.{list_any}
use Rattle.std.specs.Str.{bytes_eq}
use Rattle.fmp_law_faults.specs.Words.{after_last, end_with, is_then, steps_of, times_of, with_first}

-- ---- the words after the last that is such

pub or_true : (a b : Bool) → b ≡ true → (a || b) ≡ true
or_true true b e = refl
or_true false b e = e

module _ (is : List ℕ → Bool) where
  pub any_true : (words : List (List ℕ)) (word : List ℕ) → is word ≡ true → list_any is (words ++ word ∷ []) ≡ true
  any_true [] word e = rw e refl
  any_true (first ∷ words) word e = or_true (is first) (list_any is (words ++ word ∷ [])) (any_true words word e)

  pub any_same : (words : List (List ℕ)) (word : List ℕ) → is word ≡ false → list_any is (words ++ word ∷ []) ≡ list_any is words
  any_same [] word e = rw e refl
  any_same (first ∷ words) word e = ap (λ (b : Bool). is first || b) (any_same words word e)

  pub after_such : (words : List (List ℕ)) (word : List ℕ) → is word ≡ true → after_last is (words ++ word ∷ []) ≡ []
  after_such [] word e = rw e refl
  after_such (first ∷ words) word e = let any = any_true words word e in rw any (after_such words word e)

  pub after_other : (words : List (List ℕ)) (word : List ℕ) → is word ≡ false → after_last is (words ++ word ∷ []) ≡ after_last is words ++ word ∷ []
  after_other [] word e = rw e refl
  after_other (first ∷ words) word e = let any = any_same words word e in rw any (go (after_other words word e) (list_any is words) (is first)) where
    go : after_last is (words ++ word ∷ []) ≡ after_last is words ++ word ∷ [] → (any here : Bool) → cond any (after_last is (words ++ word ∷ [])) (cond here (words ++ word ∷ []) (first ∷ (words ++ word ∷ [])))
        ≡ cond any (after_last is words) (cond here words (first ∷ words)) ++ word ∷ []
    go rest true here = rest
    go rest false true = refl
    go rest false false = refl

pub ends_more : (own : List ℕ) (words : List (List ℕ)) (word : List ℕ) → end_with own (words ++ word ∷ []) ≡ bytes_eq word own
ends_more own [] word = refl
ends_more own (first ∷ []) word = refl
ends_more own (first ∷ next ∷ words) word = ends_more own (next ∷ words) word

-- ---- steps

record HasSome (steps : List (List (List ℕ))) : Type 0 where
  first : List (List ℕ)
  rest : List (List (List ℕ))
  parts : steps ≡ first ∷ rest

some_first : (word : List ℕ) (steps : List (List (List ℕ))) → HasSome (with_first word steps)
some_first word [] = record { first = word ∷ []; rest = []; parts = refl }
some_first word (step ∷ steps) = record { first = word ∷ step; rest = steps; parts = refl }

some_steps : (words : List (List ℕ)) → HasSome (steps_of words)
some_steps [] = record { first = []; rest = []; parts = refl }
some_steps (word ∷ words) = go (is_then word) where
  go : (here : Bool) → HasSome (cond here ([] ∷ steps_of words) (with_first word (steps_of words)))
  go true = record { first = []; rest = steps_of words; parts = refl }
  go false = some_first word (steps_of words)

pub steps_then : (words : List (List ℕ)) (word : List ℕ) → is_then word ≡ true → steps_of (words ++ word ∷ []) ≡ steps_of words ++ [] ∷ []
steps_then [] word e = rw e refl
steps_then (first ∷ words) word e = let rest = steps_then words word e in rw rest (go (is_then first)) where
  go : (here : Bool) → cond here ([] ∷ (steps_of words ++ [] ∷ [])) (with_first first (steps_of words ++ [] ∷ []))
      ≡ cond here ([] ∷ steps_of words) (with_first first (steps_of words)) ++ [] ∷ []
  go true = refl
  go false = let some = (some_steps words).parts in rw some refl

-- a word more in the last one
abbrev with_last : List (List (List ℕ)) → List ℕ → List (List (List ℕ))
with_last [] word = []
with_last (step ∷ []) word = (step ++ word ∷ []) ∷ []
with_last (step ∷ next ∷ steps) word = step ∷ with_last (next ∷ steps) word

with_last-last : (closed : List (List (List ℕ))) (step : List (List ℕ)) (word : List ℕ) → with_last (closed ++ step ∷ []) word ≡ closed ++ (step ++ word ∷ []) ∷ []
with_last-last [] step word = refl
with_last-last (one ∷ []) step word = refl
with_last-last (one ∷ next ∷ closed) step word = ap (λ (steps : List (List (List ℕ))). one ∷ steps) (with_last-last (next ∷ closed) step word)

with_last-first : (first word : List ℕ) (steps : List (List (List ℕ))) → HasSome steps → with_first first (with_last steps word) ≡ with_last (with_first first steps) word
with_last-first first word [] some = let none = some.parts in absurd cc
with_last-first first word (step ∷ []) some = refl
with_last-first first word (step ∷ next ∷ steps) some = refl

steps_more : (words : List (List ℕ)) (word : List ℕ) → is_then word ≡ false → steps_of (words ++ word ∷ []) ≡ with_last (steps_of words) word
steps_more [] word e = rw e refl
steps_more (first ∷ words) word e = let rest = steps_more words word e in rw rest (go (is_then first)) where
  go : (here : Bool) → cond here ([] ∷ with_last (steps_of words) word) (with_first first (with_last (steps_of words) word))
      ≡ with_last (cond here ([] ∷ steps_of words) (with_first first (steps_of words))) word
  go true = let some = (some_steps words).parts in rw some refl
  go false = with_last-first first word (steps_of words) (some_steps words)

pub steps_other : (words : List (List ℕ)) (word : List ℕ) (closed : List (List (List ℕ))) (step : List (List ℕ)) → is_then word ≡ false → steps_of words ≡ closed ++ step ∷ []
    → steps_of (words ++ word ∷ []) ≡ closed ++ (step ++ word ∷ []) ∷ []
steps_other words word closed step e are =
    steps_more words word e ∙ ap (λ (steps : List (List (List ℕ))). with_last steps word) are ∙ with_last-last closed step word

pub times_more : (step : List (List ℕ)) (word : List ℕ) → bytes_eq word (codes "times") ≡ false → times_of (step ++ word ∷ []) ≡ times_of step
times_more [] word e = refl
times_more (first ∷ []) word e = rw e refl
times_more (first ∷ next ∷ step) word e = refl
