-- What is told of patterns, one after the other, and of the steps before them.
use Rattle.std.proofs.Common.{◌≡◌, ◌∙◌, ℕ, Bool, true, false, List, [], ◌∷◌, ◌++◌, Option, None, Some, ap, refl, sym, inl, inr, append_assoc, subst}
use Rattle.std.proofs.lemmas.Bool.{cases_Bool}
use Rattle.std.proofs.lemmas.List.{append-nil, map_push}
use Rattle.std.proofs.lemmas.List.Elements.{All-nil, All-push}
use Rattle.std.specs.Option.{option_and_then}
use Rattle.fmp_out.proofs.Puts.{both}
use Rattle.fmp_out.specs.Putting.{Adds, Putting}
use Rattle.fmp_run_explore.specs.Searched.{Searched}
use Rattle.fmp_search_pattern.specs.declared.question.Step.{Step}
use Rattle.fmp_search_pattern.specs.Items.{Item}
use Rattle.fmp_setup.specs.Setup.{Setup}
use Rattle.fmp_cli_notes.specs.Judged.{IsFirst, IsKnown, TellsPattern, TellsPatterns, first_note, known_lines}
use Rattle.fmp_cli_notes.specs.Parts.{only, only_item, only_item_of, patterns_of}
use Rattle.fmp_cli_notes.specs.Patterns.{words_of}
use Rattle.fmp_cli_notes.specs.Unshown.{pattern_note}

-- one more
lines_push : (asked : List ℕ) (c : Setup) (known : List (List ℕ × Option Bool)) (pattern : List ℕ) (has : Option Bool) → known_lines asked c (known ++ (pattern, has) ∷ []) ≡ known_lines asked c known ++ pattern_note asked c pattern has
lines_push asked c [] pattern has = append-nil (pattern_note asked c pattern has)
lines_push asked c (one ∷ known) pattern has =
    ap (λ (lines : List ℕ). pattern_note asked c one.0 one.1 ++ lines) (lines_push asked c known pattern has)
    ∙ sym (append_assoc (pattern_note asked c one.0 one.1) (known_lines asked c known) (pattern_note asked c pattern has))

pub of_one_more : (asked : List ℕ) (s : Searched) (turns room : ℕ) (patterns : List (List ℕ)) (pattern : List ℕ) (old between new : Putting) → TellsPatterns [] asked s turns room patterns old between → TellsPattern asked s turns room pattern between new → TellsPatterns [] asked s turns room (patterns ++ pattern ∷ []) old new
of_one_more asked s turns room patterns pattern old between new some one =
    let lines = both (known_lines asked s.config some.known) (pattern_note asked s.config pattern one.has) old between new some.told one.told in
    record {
      known = some.known ++ (pattern, one.has) ∷ [];
      all = map_push (λ (it : List ℕ × Option Bool). it.0) some.known (pattern, one.has) ∙ ap (λ (ps : List (List ℕ)). ps ++ pattern ∷ []) some.all;
      right = All-push (IsKnown s turns room) some.known (pattern, one.has) some.right (inl one.judged);
      told = rw (lines_push asked s.config some.known pattern one.has) lines;
    }

-- the moment that has one item
only_moment : (moment : List (List Item)) (item : Item) → option_and_then only (only moment) ≡ Some item → moment ≡ (item ∷ []) ∷ []
only_moment [] item is = cc
only_moment ([] ∷ []) item is = cc
only_moment ((i ∷ []) ∷ []) item is = let same : i ≡ item = cc in ap (λ (it : Item). (it ∷ []) ∷ []) same
only_moment ((i ∷ j ∷ part) ∷ []) item is = cc
only_moment (part ∷ other ∷ moment) item is = cc

pub patterns_of-only : (moment : List (List Item)) (item : Item) → option_and_then only (only moment) ≡ Some item → item.negated ≡ false → patterns_of moment ≡ words_of item.wanted ∷ []
patterns_of-only moment item is positive = rw (only_moment moment item is, positive) refl

pub patterns_of-not : (moment : List (List Item)) (item : Item) → option_and_then only (only moment) ≡ Some item → item.negated ≡ true → patterns_of moment ≡ []
patterns_of-not moment item is negated = rw (only_moment moment item is, negated) refl

-- the item that is all of a step is that of its moment
only_of_moment : (without : Option (List (List Item))) (moment : List (List Item)) (item : Item) → only_item_of without moment ≡ Some item → option_and_then only (only moment) ≡ Some item
only_of_moment None moment item is = is
only_of_moment (Some without) moment item is = cc

-- what is told of the item that is all of the first step
pub of_first : (asked : List ℕ) (s : Searched) (turns room : ℕ) (step : Step) (item : Item) (old new : Putting) → only_item step ≡ Some item → (item.negated ≡ false → IsFirst s (words_of item.wanted) (Some false)) → Adds (first_note asked s.config item) old new → TellsPatterns [] asked s turns room (patterns_of step.moment) old new
of_first asked s turns room step item old new only first told =
    let is = only_of_moment step.without step.moment item only in
    elim (cases_Bool item.negated) [
      | inl negated ↦
          let none : first_note asked s.config item ≡ [] = rw negated refl in
          record {
            known = [];
            all = sym (patterns_of-not step.moment item is negated);
            right = All-nil (IsKnown s turns room);
            told = subst (λ (lines : List ℕ). Adds lines old new) none told;
          }
      | inr positive ↦
          let line = pattern_note asked s.config (words_of item.wanted) (Some false) in
          let all_of_it : first_note asked s.config item ≡ line ++ [] = rw positive (sym (append-nil line)) in
          record {
            known = (words_of item.wanted, Some false) ∷ [];
            all = sym (patterns_of-only step.moment item is positive);
            right = All-push (IsKnown s turns room) [] (words_of item.wanted, Some false) (All-nil (IsKnown s turns room)) (inr (first positive));
            told = subst (λ (lines : List ℕ). Adds lines old new) all_of_it told;
          }
    ]
