-- One word after the other, whatever is kept of the words so far.
use Rattle.std.proofs.Common.{◌≡◌, ℕ, ◌-◌, ◌≤◌, arith, List, length, Option, Some, None, ◌∙◌, refl, ap, sym}
use Rattle.std.specs.Prelude.{Result, Ok, Err}
use Rattle.std.specs.List.{join_with_byte}
use Rattle.std.specs.Option.{option_map_or}
use Rattle.fmp_bytes.specs.Bytes.{space, cut_at, pieces_of}
use Rattle.fmp_bytes.proofs.Cutting.{pieces_left, pieces_of-cut, join-pieces_of, shorter}
use Rattle.fmp_search_question.specs.declared.fault.QuestionFault.{QuestionFault}
use Rattle.fmp_search_question.specs.WordByWord.{fault_of, at_place, result_then, after_words}

no_fault : {D : Type 0} (r : Result D QuestionFault) → None ≡ fault_of r → (d : D) × (r ≡ Ok d)
no_fault (Ok d) is = (d, refl)
no_fault (Err fault) is = cc

a_fault : {D : Type 0} (r : Result D QuestionFault) (fault : QuestionFault) → Some fault ≡ fault_of r → r ≡ Err fault
a_fault (Ok d) fault is = cc
a_fault (Err other) fault is = let same : fault ≡ other = cc in ap Err (sym same)

-- what is left is no longer than what there was
pub rest_within : (after : Option (List ℕ)) (text : List ℕ) (most : ℕ) → after ≡ (cut_at space text).1 → length text ≤ most → option_map_or length after 0 ≤ most
rest_within None text most is low = omega arith
rest_within (Some rest) text most is low = omega (arith, shorter space text rest (sym is), low)

module _ {D : Type 0} (after : D → List ℕ → Result D QuestionFault) (bytes : ℕ) (d : D) (text : List ℕ) where
  abbrev word : List ℕ
  word = (cut_at space text).0

  abbrev place : ℕ
  place = bytes - length text

  -- what this word and those after it make of what was read, by what the word alone makes of it
  abbrev by_word : Result D QuestionFault → Result D (QuestionFault × ℕ)
  by_word r = result_then (λ e. after_words after bytes e (pieces_left space (cut_at space text).1)) (at_place place r)

  one_word : after_words after bytes d (pieces_of space text) ≡ by_word (after d word)
  one_word =
      ap (after_words after bytes d) (pieces_of-cut space text)
      ∙ ap (λ n. result_then (λ e. after_words after bytes e (pieces_left space (cut_at space text).1)) (at_place (bytes - n) (after d word)))
      (ap (λ ws. length (join_with_byte space ws)) (sym (pieces_of-cut space text)) ∙ ap length (join-pieces_of space text))

  pub word_fault : (fault : QuestionFault) → Some fault ≡ fault_of (after d word) → after_words after bytes d (pieces_of space text) ≡ Err (fault, place)
  word_fault fault is = one_word ∙ ap by_word (a_fault _ fault is)

  -- where it has no fault, the words that are left lead to the same from what it made
  pub word_read : (new : D) (rest : Option (List ℕ)) → None ≡ fault_of (after d word) → ((e : D) → after d word ≡ Ok e → new ≡ e) → rest ≡ (cut_at space text).1
      → after_words after bytes new (pieces_left space rest) ≡ after_words after bytes d (pieces_of space text)
  word_read new rest is added left =
      let read = no_fault _ is in
      ap (λ e. after_words after bytes e (pieces_left space rest)) (added read.0 read.1)
      ∙ ap (λ r. after_words after bytes read.0 (pieces_left space r)) left
      ∙ sym (one_word ∙ ap by_word read.1)
