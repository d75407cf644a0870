-- What words lead to, one after the other, without the places of faults, whatever is kept of the words so far.
use Rattle.std.proofs.Common.{◌≡◌, ℕ, ◌-◌, List, [], ◌∷◌, ◌++◌, length, Option, Some, None, Result, Ok, Err, refl, sym, ap, subst, ◌∙◌, append-nil, append_assoc}
use Rattle.std.specs.Prelude.{option_and_then}
use Rattle.std.specs.List.{join_with_byte}
use Rattle.fmp_bytes.specs.Bytes.{space}
use Rattle.fmp_search_question.specs.declared.fault.QuestionFault.{QuestionFault}
use Rattle.fmp_search_question.specs.WordByWord.{after_words, at_place, result_then}

-- what was read, where it has no fault
abbrev pub faultless : {D E : Type 0} → Result D E → Option D
faultless (Ok d) = Some d
faultless (Err fault) = None

-- what the words lead to, where none of them is at fault, by what one word more makes of what was read
abbrev pub led_by : {D : Type 0} → (D → List ℕ → Result D QuestionFault) → D → List (List ℕ) → Option D
led_by after d [] = Some d
led_by after d (word ∷ words) = option_and_then (λ e. led_by after e words) (faultless (after d word))

module _ {D : Type 0} (after : D → List ℕ → Result D QuestionFault) where
  pub led_first : (d e : D) (word : List ℕ) (words : List (List ℕ)) → after d word ≡ Ok e → led_by after d (word ∷ words) ≡ led_by after e words
  led_first d e word words is = rw is refl

  led_both : (d : D) (xs ys : List (List ℕ)) → led_by after d (xs ++ ys) ≡ option_and_then (λ e. led_by after e ys) (led_by after d xs)
  led_both d [] ys = refl
  led_both d (word ∷ xs) ys = both (λ e. led_both e xs ys) (faultless (after d word)) where
    both : ((e : D) → led_by after e (xs ++ ys) ≡ option_and_then (λ f. led_by after f ys) (led_by after e xs)) → (o : Option D)
        → option_and_then (λ e. led_by after e (xs ++ ys)) o ≡ option_and_then (λ e. led_by after e ys) (option_and_then (λ e. led_by after e xs) o)
    both rest None = refl
    both rest (Some e) = rest e

  pub led_on : (d e : D) (xs ys : List (List ℕ)) → led_by after d xs ≡ Some e → led_by after d (xs ++ ys) ≡ led_by after e ys
  led_on d e xs ys is = led_both d xs ys ∙ ap (λ (o : Option D). option_and_then (λ f. led_by after f ys) o) is

  -- the first word, and what the others lead to
  pub led_parts : (d e : D) (word : List ℕ) (words : List (List ℕ)) → led_by after d (word ∷ words) ≡ Some e
      → (f : D) × (after d word ≡ Ok f) × (led_by after f words ≡ Some e)
  led_parts d e word words is = parts (after d word) refl is where
    parts : (r : Result D QuestionFault) → after d word ≡ r → option_and_then (λ f. led_by after f words) (faultless r) ≡ Some e
        → (f : D) × (after d word ≡ Ok f) × (led_by after f words ≡ Some e)
    parts (Ok f) h led_is = (f, h, led_is)
    parts (Err fault) h led_is = absurd cc

  -- what is kept by one word more is kept by all words
  pub led_keeps : (Keeps : List (List ℕ) → D → Type 0)
      → ((before : List (List ℕ)) (d e : D) (word : List ℕ) → Keeps before d → after d word ≡ Ok e → Keeps (before ++ word ∷ []) e)
      → (before words : List (List ℕ)) (d e : D) → Keeps before d → led_by after d words ≡ Some e → Keeps (before ++ words) e
  led_keeps Keeps one before [] d e kept is =
      let same : d ≡ e = cc in
      subst (λ (f : D). Keeps (before ++ []) f) same (subst (λ (ws : List (List ℕ)). Keeps ws d) (sym (append-nil before)) kept)
  led_keeps Keeps one before (word ∷ words) d e kept is =
      let p = led_parts d e word words is in
      subst (λ (ws : List (List ℕ)). Keeps ws e) (append_assoc before (word ∷ []) words)
      (led_keeps Keeps one (before ++ word ∷ []) words p.0 e (one before d p.0 word kept p.1) p.2)

  -- ---- with the places of faults

  pub words_led : (bytes : ℕ) (d e : D) (words : List (List ℕ)) → led_by after d words ≡ Some e → after_words after bytes d words ≡ Ok e
  words_led bytes d e [] is = let same : d ≡ e = cc in ap (λ (x : D). Ok x) same
  words_led bytes d e (word ∷ words) is =
      let p = led_parts d e word words is in
      let first = p.1 in
      rw first (words_led bytes p.0 e words p.2)

  after_parts : (bytes : ℕ) (d e : D) (word : List ℕ) (words : List (List ℕ)) → after_words after bytes d (word ∷ words) ≡ Ok e
      → (f : D) × (after d word ≡ Ok f) × (after_words after bytes f words ≡ Ok e)
  after_parts bytes d e word words is = parts (after d word) refl is where
    parts : (r : Result D QuestionFault) → after d word ≡ r
        → result_then (λ f. after_words after bytes f words) (at_place (bytes - length (join_with_byte space (word ∷ words))) r) ≡ Ok e
        → (f : D) × (after d word ≡ Ok f) × (after_words after bytes f words ≡ Ok e)
    parts (Ok f) h rest = (f, h, rest)
    parts (Err fault) h rest = absurd cc

  pub led_words : (bytes : ℕ) (d e : D) (words : List (List ℕ)) → after_words after bytes d words ≡ Ok e → led_by after d words ≡ Some e
  led_words bytes d e [] is = let same : d ≡ e = cc in ap (λ (x : D). Some x) same
  led_words bytes d e (word ∷ words) is =
      let p = after_parts bytes d e word words is in
      led_first d p.0 word words p.1 ∙ led_words bytes p.0 e words p.2
