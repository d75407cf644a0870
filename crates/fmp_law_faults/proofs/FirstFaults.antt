-- Word by word: the first fault is that of the rows for words and for the end, where one word and the end agree with them.
use Rattle.std.proofs.Common.{◌≡◌, ℕ, ◌+◌, ◌-◌, inl, inr, List, [], ◌∷◌, ◌++◌, length, Result, Ok, Err, sym, ap, ◌∙◌, arith, length-append}
use Rattle.std.specs.List.{join_with_byte}
use Rattle.fmp_bytes.specs.Bytes.{space}
use Rattle.fmp_search_question.specs.declared.fault.QuestionFault.{QuestionFault}
use Rattle.fmp_search_question.specs.WordByWord.{after_words, at_place, result_then}
use Rattle.fmp_law_faults.specs.QuestionFaults.{FaultAfter}
use Rattle.fmp_law_faults.specs.Words.{bytes_of}

bytes_of-more : (words : List (List ℕ)) (word : List ℕ) → bytes_of (words ++ word ∷ []) ≡ bytes_of words + (length word + 1)
bytes_of-more [] word = omega arith
bytes_of-more (first ∷ words) word = omega (arith, bytes_of-more words word)

-- the words that are left are the last bytes
abbrev pub AreLeft : ℕ → List (List ℕ) → List (List ℕ) → Type 0
AreLeft bytes before [] = Unit {0}
AreLeft bytes before (word ∷ words) = bytes ≡ bytes_of before + length (join_with_byte space (word ∷ words))

left_more : (bytes : ℕ) (before : List (List ℕ)) (word : List ℕ) (words : List (List ℕ)) → AreLeft bytes before (word ∷ words) → AreLeft bytes (before ++ word ∷ []) words
left_more bytes before word [] left = tt
left_more bytes before word (next ∷ words) left =
    omega (arith, left, bytes_of-more before word, length-append word (space ∷ join_with_byte space (next ∷ words)))

pub all_left : (text : List ℕ) (words : List (List ℕ)) → join_with_byte space words ≡ text → AreLeft (length text) [] words
all_left text [] is = tt
all_left text (word ∷ words) is = omega (arith, ap length (sym is))

-- a word, the end, or both: a fault is that of the rows, and where there is none the rows have none
abbrev pub WordAgrees : {D : Type 0} → (List (List ℕ) → List ℕ → QuestionFault → Type 0) → (List (List ℕ) → D → Type 0) → List (List ℕ) → List ℕ → Result D QuestionFault
    → Type 0
WordAgrees OfWord Is before word (Err fault) = OfWord before word fault
WordAgrees OfWord Is before word (Ok e) = ((other : QuestionFault) → ¬ (OfWord before word other)) × Is (before ++ word ∷ []) e

abbrev pub EndAgrees : {R : Type 0} → (List (List ℕ) → QuestionFault → Type 0) → ℕ → List (List ℕ) → Result R (QuestionFault × ℕ) → Type 0
EndAgrees OfEnd bytes words (Err fault) = OfEnd words fault.0 × (fault.1 ≡ bytes)
EndAgrees OfEnd bytes words (Ok read) = (fault : QuestionFault) → ¬ (OfEnd words fault)

module _ {D R : Type 0} (OfWord : List (List ℕ) → List ℕ → QuestionFault → Type 0) (OfEnd : List (List ℕ) → QuestionFault → Type 0) (Is : List (List ℕ) → D → Type 0)
    (after : D → List ℕ → Result D QuestionFault) (ended : D → Result R (QuestionFault × ℕ)) (bytes : ℕ) where
  abbrev pub AllAgree : List (List ℕ) → List (List ℕ) → Result R (QuestionFault × ℕ) → Type 0
  AllAgree before words (Err fault) = FaultAfter OfWord OfEnd bytes before words fault.0 fault.1
  AllAgree before words (Ok read) = (fault : QuestionFault) (place : ℕ) → ¬ (FaultAfter OfWord OfEnd bytes before words fault place)

  abbrev pub read_from : D → List (List ℕ) → Result R (QuestionFault × ℕ)
  read_from d words = result_then ended (after_words after bytes d words)

  at_end : (before : List (List ℕ)) (r : Result R (QuestionFault × ℕ)) → EndAgrees OfEnd bytes before r → AllAgree before [] r
  at_end before (Err fault) s = s
  at_end before (Ok read) s = λ fault place f. s fault f.0

  -- after a word without a fault
  one_more : (before : List (List ℕ)) (word : List ℕ) (words : List (List ℕ)) (r : Result R (QuestionFault × ℕ))
      → ((other : QuestionFault) → ¬ (OfWord before word other)) → AllAgree (before ++ word ∷ []) words r → AllAgree before (word ∷ words) r
  one_more before word words (Err fault) none rest = inr (none, rest)
  one_more before word words (Ok read) none rest = λ fault place f. elim f [ inl here ↦ none fault here.0 | inr later ↦ rest fault place later.1 ]

  pub all_agree : ((before : List (List ℕ)) (d : D) (word : List ℕ) → Is before d → WordAgrees OfWord Is before word (after d word))
      → ((words : List (List ℕ)) (d : D) → Is words d → EndAgrees OfEnd bytes words (ended d))
      → (before words : List (List ℕ)) (d : D) → Is before d → AreLeft bytes before words → AllAgree before words (read_from d words)
  all_agree judged end_judged before [] d s left = at_end before (ended d) (end_judged before d s)
  all_agree judged end_judged before (word ∷ words) d s left =
      go (λ e kept. all_agree judged end_judged (before ++ word ∷ []) words e kept (left_more bytes before word words left)) (after d word) (judged before d word s) where
        go : ((e : D) → Is (before ++ word ∷ []) e → AllAgree (before ++ word ∷ []) words (read_from e words)) → (r : Result D QuestionFault) → WordAgrees OfWord Is before word r
            → AllAgree before (word ∷ words) (result_then ended (result_then (λ e. after_words after bytes e words) (at_place (bytes - length (join_with_byte space (word ∷ words))) r)))
        go rest (Err fault) at = inl (at, omega (arith, left))
        go rest (Ok e) at = one_more before word words (read_from e words) at.0 (rest e at.1)

-- ---- a text has one first fault

pub one_first : (OfWord : List (List ℕ) → List ℕ → QuestionFault → Type 0) (OfEnd : List (List ℕ) → QuestionFault → Type 0) (bytes : ℕ)
    → ((before : List (List ℕ)) (word : List ℕ) (f g : QuestionFault) → OfWord before word f → OfWord before word g → f ≡ g)
    → ((words : List (List ℕ)) (f g : QuestionFault) → OfEnd words f → OfEnd words g → f ≡ g)
    → (before words : List (List ℕ)) (f g : QuestionFault) (p q : ℕ) → FaultAfter OfWord OfEnd bytes before words f p → FaultAfter OfWord OfEnd bytes before words g q
    → (f ≡ g) × (p ≡ q)
one_first OfWord OfEnd bytes one_word one_end before [] f g p q a b = (one_end before f g a.0 b.0, a.1 ∙ sym b.1)
one_first OfWord OfEnd bytes one_word one_end before (word ∷ words) f g p q (inl a) (inl b) = (one_word before word f g a.0 b.0, a.1 ∙ sym b.1)
one_first OfWord OfEnd bytes one_word one_end before (word ∷ words) f g p q (inl a) (inr b) = absurd (b.0 f a.0)
one_first OfWord OfEnd bytes one_word one_end before (word ∷ words) f g p q (inr a) (inl b) = absurd (a.0 g b.0)
one_first OfWord OfEnd bytes one_word one_end before (word ∷ words) f g p q (inr a) (inr b) =
    one_first OfWord OfEnd bytes one_word one_end (before ++ word ∷ []) words f g p q a.1 b.1

pub pair_is : {R : Type 0} (at : QuestionFault × ℕ) (fault : QuestionFault) (place : ℕ) → at.0 ≡ fault → at.1 ≡ place → ◌≡◌ {A = Result R (QuestionFault × ℕ)} (Err at) (Err (fault, place))
pair_is (f, p) fault place a b = cc
