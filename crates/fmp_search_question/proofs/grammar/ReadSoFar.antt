-- What was read of a question so far, and what one word more makes of it.
use Rattle.std.proofs.Common.{◌≡◌, ℕ, inl, inr, List, [], ◌∷◌, ◌++◌, Option, Some, None, refl, sym, ap, ◌∙◌, append_assoc, append-nil}
use Rattle.std.specs.Prelude.{codes, replicate, unwrap_or}
use Rattle.fmp_names.specs.Names.{NameLists}
use Rattle.fmp_search_pattern.specs.declared.question.Step.{Step}
use Rattle.fmp_search_pattern.specs.Items.{Item}
use Rattle.fmp_search_question.specs.Reading.{Draft, part_ended, step_of, with_part, with_pattern, with_read, with_step}
use Rattle.fmp_search_question.specs.Grammar.Grammar.{SpellsCount, SpellsItem, SpellsMoment, SpellsPart, SpellsStep, SpellsTimes, repeated}
use Rattle.fmp_search_question.proofs.grammar.Closed.{Closed, closed_row}
use Rattle.fmp_search_question.proofs.grammar.Taken.{map_parts}
use Rattle.fmp_search_question.proofs.grammar.Begun.{HasItem, after_item, item_of, item_spelled}

-- a number and `times`, or nothing
abbrev pub HasCount : List (List ℕ) → Option ℕ → Type 0
HasCount words None = words ≡ []
HasCount words (Some times) = (digits : List ℕ) × (words ≡ digits ∷ codes "times" ∷ []) × SpellsCount digits times

-- a moment and `without`, or nothing
abbrev pub HasMoment : NameLists → List (List ℕ) → Option (List (List Item)) → Type 0
HasMoment names words None = words ≡ []
HasMoment names words (Some moment) = (front : List (List ℕ)) × (words ≡ front ++ codes "without" ∷ []) × SpellsMoment names front moment

abbrev pub SpellsCounted : NameLists → List (List ℕ) → ℕ × Step → Type 0
SpellsCounted names words step = SpellsStep names words step.0 step.1

-- which words led to what was read
pub record IsRead (names : NameLists) (words : List (List ℕ)) (d : Draft) : Type 0 where
  pub done : List (List ℕ)
  pub timed : List (List ℕ)
  pub barred : List (List ℕ)
  pub parts : List (List ℕ)
  pub items : List (List ℕ)
  pub last : List (List ℕ)
  pub row : List (ℕ × Step)
  pub whole : words ≡ done ++ (timed ++ (barred ++ (parts ++ (items ++ last))))
  pub are_steps : Closed (SpellsCounted names) (codes "then") done row
  pub steps : d.steps ≡ repeated row
  pub has_count : HasCount timed d.times
  pub has_moment : HasMoment names barred d.moment
  pub are_parts : Closed (SpellsPart names) (codes "or") parts d.parts
  pub are_items : Closed (SpellsItem names) (codes "&") items d.items
  pub has_item : HasItem names last d

-- ---- where a word more stands

module _ (a b c d e f x : List (List ℕ)) where
  pub after_last : (a ++ (b ++ (c ++ (d ++ (e ++ f))))) ++ x ≡ a ++ (b ++ (c ++ (d ++ (e ++ (f ++ x)))))
  after_last = simp append_assoc

  pub after_items : (a ++ (b ++ (c ++ (d ++ (e ++ f))))) ++ x ≡ a ++ (b ++ (c ++ (d ++ ((e ++ (f ++ x)) ++ []))))
  after_items = simp (append_assoc, append-nil {A = List ℕ})

  pub after_parts : (a ++ (b ++ (c ++ (d ++ (e ++ f))))) ++ x ≡ a ++ (b ++ (c ++ ((d ++ ((e ++ f) ++ x)) ++ [])))
  after_parts = simp (append_assoc, append-nil {A = List ℕ})

  pub after_moment : (a ++ (b ++ ([] ++ (d ++ (e ++ f))))) ++ x ≡ a ++ (b ++ (((d ++ (e ++ f)) ++ x) ++ []))
  after_moment = simp (append_assoc, append-nil {A = List ℕ})

  pub after_steps : (a ++ (b ++ (c ++ (d ++ (e ++ f))))) ++ x ≡ (a ++ ((b ++ (c ++ (d ++ (e ++ f)))) ++ x)) ++ []
  after_steps = simp (append_assoc, append-nil {A = List ℕ})

-- ---- parts, moments and steps that are complete

step_spelled : (names : NameLists) (times : Option ℕ) (moment : Option (List (List Item))) (timed barred words : List (List ℕ)) (parts : List (List Item))
    → HasCount timed times
    → HasMoment names barred moment → SpellsMoment names words parts → SpellsStep names (timed ++ (barred ++ words)) (unwrap_or times 1) (step_of moment parts)
step_spelled names times None timed barred words parts count none s =
    record {
      front = timed;
      middle = words;
      rest = [];
      counted = counted times count;
      moment = s;
      without = refl;
      parts = ap (λ (ws : List (List ℕ)). timed ++ (ws ++ words)) none ∙ ap (λ (ws : List (List ℕ)). timed ++ ws) (sym (append-nil words));
    } where
      counted : (n : Option ℕ) → HasCount timed n → SpellsTimes timed (unwrap_or n 1)
      counted None empty = inl (empty, refl)
      counted (Some n) c = inr c
step_spelled names times (Some moment) timed barred words parts count m s =
    record {
      front = timed;
      middle = m.0;
      rest = codes "without" ∷ words;
      counted = counted times count;
      moment = m.2;
      without = (words, refl, s);
      parts = ap (λ (ws : List (List ℕ)). timed ++ (ws ++ words)) m.1 ∙ ap (λ (ws : List (List ℕ)). timed ++ ws) (append_assoc m.0 (codes "without" ∷ []) words);
    } where
      counted : (n : Option ℕ) → HasCount timed n → SpellsTimes timed (unwrap_or n 1)
      counted None empty = inl (empty, refl)
      counted (Some n) c = inr c

repeated-more : (row : List (ℕ × Step)) (one : ℕ × Step) → repeated (row ++ one ∷ []) ≡ repeated row ++ replicate one.0 one.1
repeated-more [] one = append-nil (replicate one.0 one.1)
repeated-more (first ∷ row) one = ap (λ (steps : List Step). replicate first.0 first.1 ++ steps) (repeated-more row one)
    ∙ sym (append_assoc (replicate first.0 first.1) (repeated row) (replicate one.0 one.1))

module _ (names : NameLists) (words : List (List ℕ)) (d e : Draft) (s : IsRead names words d) where
  -- the parts with the one that is being read
  abbrev pub moment_of : List (List Item)
  moment_of = d.parts ++ (d.items ++ item_of d ∷ []) ∷ []

  abbrev pub step_read : ℕ × Step
  step_read = (unwrap_or d.times 1, step_of d.moment moment_of)

  pub part_read : with_part d ≡ Some e → SpellsPart names (s.items ++ s.last) (d.items ++ item_of d ∷ []) × (part_ended (after_item d) ≡ e)
  unfolding with_part
  part_read is =
      let p = map_parts part_ended (with_pattern d) e is in
      let i = item_spelled names s.last d p.0 s.has_item p.1 in
      (closed_row (SpellsItem names) (codes "&") s.items s.last d.items (item_of d) s.are_items i.0, ap part_ended i.1 ∙ p.2)

  pub moment_read : with_part d ≡ Some e → SpellsMoment names (s.parts ++ (s.items ++ s.last)) moment_of × (part_ended (after_item d) ≡ e)
  moment_read is =
      let p = part_read is in
      (closed_row (SpellsPart names) (codes "or") s.parts (s.items ++ s.last) d.parts (d.items ++ item_of d ∷ []) s.are_parts p.0, p.1)

-- a step that is complete
pub step_is_read : (names : NameLists) (words : List (List ℕ)) (d e : Draft) (s : IsRead names words d) → with_step d ≡ Some e
    → SpellsCounted names (s.timed ++ (s.barred ++ (s.parts ++ (s.items ++ s.last)))) (step_read names words d e s) × (with_read (part_ended (after_item d)) ≡ e)
unfolding with_step
step_is_read names words d e s is =
    let p = map_parts with_read (with_part d) e is in
    let m = moment_read names words d p.0 s p.1 in (
      step_spelled names d.times d.moment s.timed s.barred (s.parts ++ (s.items ++ s.last)) (moment_of names words d e s) s.has_count s.has_moment m.0,
      ap with_read m.1 ∙ p.2,
    )

pub steps_are_read : (names : NameLists) (words : List (List ℕ)) (d e : Draft) (s : IsRead names words d) → with_step d ≡ Some e
    → e.steps ≡ repeated (s.row ++ step_read names words d e s ∷ [])
steps_are_read names words d e s is =
    let p = step_is_read names words d e s is in
    let one = step_read names words d e s in
    sym (ap (λ (f : Draft). f.steps) p.1) ∙ ap (λ (steps : List Step). steps ++ replicate one.0 one.1) s.steps ∙ sym (repeated-more s.row one)
