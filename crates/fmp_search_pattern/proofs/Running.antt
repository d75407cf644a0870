-- The runs of a word, one after the other.
use Rattle.std.proofs.Common.{◌≡◌, ℕ, ◌+◌, ◌<◌, Bool, true, false, ◌&&◌, List, [], ◌∷◌, length, drop, Option, Some, None, ◌∙◌, refl, ap, arith, inl, inr, length-drop}
use Rattle.std.proofs.lemmas.Bool.{cases_lt, lt-ltb, le-ltb}
use Rattle.std.proofs.lemmas.List.Splits.{slice_split_first, slice_split_none}
use Rattle.std.proofs.lemmas.List.Sums.{fails_before_first}
use Rattle.std.specs.List.{position_or_len, list_all}
use Rattle.std.specs.Option.{option_map_or}
use Rattle.fmp_search_pattern.specs.Words.{is_outside, cut_run, runs_of}

abbrev pub runs_left : Option (List ℕ) → List (List ℕ)
runs_left rest = option_map_or runs_of rest []

pub runs_cut : (word : List ℕ) → runs_of word ≡ (cut_run word).0 ∷ runs_left (cut_run word).1
unfolding runs_of cut_run
runs_cut word =
    elim (cases_lt (position_or_len is_outside word) (length word)) [
      | inl lt ↦ let test = lt-ltb (position_or_len is_outside word) (length word) lt in rw test (slice_split_first is_outside word 0 lt)
      | inr le ↦ let test = le-ltb (position_or_len is_outside word) (length word) le in rw test (slice_split_none is_outside word (λ k d h. fails_before_first is_outside word k d (omega (arith, h, le))))
    ]

shorter : (word rest : List ℕ) → (cut_run word).1 ≡ Some rest → length rest < length word
unfolding cut_run
shorter word rest e =
    elim (cases_lt (position_or_len is_outside word) (length word)) [
      | inl lt ↦ let test = lt-ltb (position_or_len is_outside word) (length word) lt in let e2 = rw test at e in let same : drop (position_or_len is_outside word + 1) word ≡ rest = cc in omega (arith, length-drop (position_or_len is_outside word + 1) word, ap length same)
      | inr le ↦ let test = le-ltb (position_or_len is_outside word) (length word) le in let e2 = rw test at e in absurd cc
    ]

pub fewer_runs : (rest after : Option (List ℕ)) (word : List ℕ) → rest ≡ Some word → after ≡ (cut_run word).1 → option_map_or (λ r. length r + 1) after 0 < option_map_or (λ r. length r + 1) rest 0
fewer_runs rest None word e f = rw e (omega arith)
fewer_runs rest (Some after) word e f = let lt = shorter word after (rw f refl) in rw e (omega arith)

-- the first run decides, or the others do
pub first_fails : (test : List ℕ → Bool) (word : List ℕ) → test (cut_run word).0 ≡ false → list_all test (runs_of word) ≡ false
first_fails test word is = ap (list_all test) (runs_cut word) ∙ ap (λ b. b && list_all test (runs_left (cut_run word).1)) is

pub first_passes : (test : List ℕ → Bool) (word : List ℕ) → test (cut_run word).0 ≡ true → list_all test (runs_of word) ≡ list_all test (runs_left (cut_run word).1)
first_passes test word is = ap (list_all test) (runs_cut word) ∙ ap (λ b. b && list_all test (runs_left (cut_run word).1)) is
