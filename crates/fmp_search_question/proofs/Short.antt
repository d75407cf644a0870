-- A question that was read has no more steps than there may be.
use Rattle.std.proofs.Common.{◌≡◌, ◌≤◌, ℕ, Bool, true, false, cond, List, length, Option, Some, None, refl, subst, arith}
use Rattle.std.specs.Prelude.{nat_le, Result, Ok, Err}
use Rattle.std.proofs.lemmas.Bool.{leb-true}
use Rattle.std.proofs.lemmas.List.{length-map}
use Rattle.fmp_names.specs.Names.{NameLists}
use Rattle.fmp_search_question.specs.declared.fault.QuestionFault.{QuestionFault}
use Rattle.fmp_search_question.specs.declared.fault.QuestionFault.TheVariants.{TooLong}
use Rattle.fmp_search_pattern.specs.declared.question.Step.{Step}
use Rattle.fmp_search_question.specs.Reading.{Draft, after_word, ended, limited, most_steps, nothing_read, or_form, question_in, with_step, written_in}
use Rattle.fmp_search_question.specs.Resolved.{resolved, resolved_step}
use Rattle.fmp_search_question.specs.WordByWord.{after_words, at_place, result_then}

module _ (bytes : ℕ) (q : List Step) where
  -- what was limited has few steps
  limited_short : (e : Draft) (b : Bool) → nat_le (length e.steps) most_steps ≡ b
      → result_then (λ x. Ok x.steps) (at_place bytes (cond b (Ok e) (Err TooLong))) ≡ Ok q → length q ≤ most_steps
  limited_short e true few is =
      let same : e.steps ≡ q = cc in
      subst (λ steps. length steps ≤ most_steps) same (leb-true (length e.steps) most_steps few)
  limited_short e false few is = cc

  step_short : (o : Option Draft) → result_then (λ x. Ok x.steps) (at_place bytes (limited (or_form o))) ≡ Ok q → length q ≤ most_steps
  step_short None is = cc
  step_short (Some e) is = limited_short e (nat_le (length e.steps) most_steps) refl is

written_short : (names : NameLists) (text : List ℕ) (q : List Step) → written_in names text ≡ Ok q → length q ≤ most_steps
unfolding written_in
written_short names text q is = go (after_words (after_word names) (length text) nothing_read _) is
  where
    go : (r : Result Draft (QuestionFault × ℕ)) → result_then (ended (length text)) r ≡ Ok q → length q ≤ most_steps
    go (Ok d) on = step_short (length text) q (with_step d) on
    go (Err fault) on = cc

-- resolved it has as many
pub question_short : (names : NameLists) (text : List ℕ) (q : List Step) → question_in names text ≡ Ok q → length q ≤ most_steps
unfolding question_in
question_short names text q is = go (written_in names text) refl is
  where
    go : (r : Result (List Step) (QuestionFault × ℕ)) → written_in names text ≡ r → result_then (λ steps. Ok (resolved names steps)) r ≡ Ok q → length q ≤ most_steps
    go (Ok steps) written on =
        let same : resolved names steps ≡ q = cc in
        subst (λ (all : List Step). length all ≤ most_steps) same (omega (arith, length-map steps (resolved_step names), written_short names text steps written))
    go (Err fault) written on = cc
