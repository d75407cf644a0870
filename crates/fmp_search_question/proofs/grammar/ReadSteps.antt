-- What is read is asked.
use Rattle.std.proofs.Common.{◌≡◌, ℕ, ◌≤◌, Bool, true, false, cond, leb, List, [], ◌∷◌, ◌++◌, length, Option}
use Rattle.std.proofs.Common.{Some, None, Result, Ok, Err, refl, sym, subst}
use Rattle.std.specs.Prelude.{codes}
use Rattle.std.proofs.lemmas.Bool.{leb-true}
use Rattle.fmp_bytes.specs.Bytes.{pieces_of, space}
use Rattle.fmp_bytes.proofs.Cutting.{apart-pieces_of, join-pieces_of}
use Rattle.fmp_names.specs.Names.{NameLists}
use Rattle.fmp_search_question.specs.declared.fault.QuestionFault.{QuestionFault}
use Rattle.fmp_search_question.specs.declared.fault.QuestionFault.TheVariants.{TooLong}
use Rattle.fmp_search_pattern.specs.declared.question.Step.{Step}
use Rattle.fmp_search_question.specs.Reading.{Draft, after_word, ended, limited, nothing_read, or_form, question_in, with_step, written_in}
use Rattle.fmp_search_question.specs.Resolved.{resolved}
use Rattle.fmp_search_question.specs.WordByWord.{after_words, at_place, result_then}
use Rattle.fmp_search_question.specs.Grammar.Rows.{SpellsRow}
use Rattle.fmp_search_question.specs.Grammar.Grammar.{Asks, AsksWords, Writes}
use Rattle.fmp_search_question.proofs.grammar.Led.{led_keeps, led_words}
use Rattle.fmp_search_question.proofs.grammar.Closed.{closed_row}
use Rattle.fmp_search_question.proofs.grammar.Begun.{no_item}
use Rattle.fmp_search_question.proofs.grammar.ReadSoFar.{IsRead, SpellsCounted, step_is_read, step_read, steps_are_read}
use Rattle.fmp_search_question.proofs.grammar.Moves.{moves}

nothing_is_read : (names : NameLists) → IsRead names [] nothing_read
nothing_is_read names =
    record {
      done = [];
      timed = [];
      barred = [];
      parts = [];
      items = [];
      last = [];
      row = [];
      whole = refl;
      are_steps = refl;
      steps = refl;
      has_count = refl;
      has_moment = refl;
      are_parts = refl;
      are_items = refl;
      has_item = no_item names nothing_read refl refl refl;
    }

-- after the last word a step is complete
pub words_asked : (names : NameLists) (words : List (List ℕ)) (d e : Draft) → IsRead names words d → with_step d ≡ Some e → AsksWords names words e.steps
words_asked names words d e s is =
    let p = step_is_read names words d e s is in
    let row = closed_row (SpellsCounted names) (codes "then") s.done _ s.row (step_read names words d e s) s.are_steps p.0 in (
      s.row ++ step_read names words d e s ∷ [],
      subst (λ (ws : List (List ℕ)). SpellsRow (SpellsCounted names) (codes "then") ws (s.row ++ step_read names words d e s ∷ [])) (sym s.whole) row,
      steps_are_read names words d e s is,
    )

-- what was complete at the end
module _ (bytes : ℕ) (question : List Step) where
  abbrev Ended : Option Draft → Type 0
  Ended o = (e : Draft) × (o ≡ Some e) × (e.steps ≡ question) × (length e.steps ≤ 255)

  few_parts : (e : Draft) (test : Bool) → leb (length e.steps) 255 ≡ test
      → result_then (λ (f : Draft). Ok f.steps) (at_place bytes (cond test (Ok e) (Err TooLong))) ≡ Ok question → Ended (Some e)
  few_parts e true few is = (e, refl, cc, leb-true (length e.steps) 255 few)
  few_parts e false few is = absurd cc

  ended_parts : (o : Option Draft) → result_then (λ (e : Draft). Ok e.steps) (at_place bytes (limited (or_form o))) ≡ Ok question → Ended o
  ended_parts None is = absurd cc
  ended_parts (Some e) is = few_parts e (leb (length e.steps) 255) refl is

  read_parts : (r : Result Draft (QuestionFault × ℕ)) → result_then (ended bytes) r ≡ Ok question → (d : Draft) × (r ≡ Ok d) × Ended (with_step d)
  read_parts (Ok d) is = (d, refl, ended_parts (with_step d) is)
  read_parts (Err fault) is = absurd cc

read_is_written : (names : NameLists) (text : List ℕ) (question : List Step) → written_in names text ≡ Ok question → Writes names text question
unfolding written_in
read_is_written names text question is =
    let p = read_parts (length text) question (after_words (after_word names) (length text) nothing_read (pieces_of space text)) is in
    let ends = p.2 in
    let led_so = led_words (after_word names) (length text) nothing_read p.0 (pieces_of space text) p.1 in
    let all = led_keeps (after_word names) (IsRead names) (λ before d e word kept is. moves names before d e kept word is) [] (pieces_of space text) nothing_read p.0 (nothing_is_read names) led_so in
    record {
      words = pieces_of space text;
      parts = sym (join-pieces_of space text);
      cut = apart-pieces_of space text;
      asked = subst (λ (q : List Step). AsksWords names (pieces_of space text) q) ends.2 (words_asked names (pieces_of space text) p.0 ends.0 all ends.1);
      few = subst (λ (q : List Step). length q ≤ 255) ends.2 ends.3;
    }

pub read_is_asked : (names : NameLists) (text : List ℕ) (question : List Step) → question_in names text ≡ Ok question → Asks names text question
unfolding question_in
read_is_asked names text question is = go (written_in names text) refl is
  where
    go : (r : Result (List Step) (QuestionFault × ℕ)) → written_in names text ≡ r → result_then (λ steps. Ok (resolved names steps)) r ≡ Ok question → Asks names text question
    go (Ok written) there on = let same : resolved names written ≡ question = cc in (written, read_is_written names text written there, sym same)
    go (Err fault) there on = absurd cc
