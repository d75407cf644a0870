-- Steps that are asked are read, and so are whole questions.
use Rattle.std.proofs.Common.{◌≡◌, ℕ, ◌≤◌, ◌<◌, inl, inr, List, [], ◌∷◌, ◌++◌, length, Option, Some, None}
use Rattle.std.proofs.Common.{Result, Ok, refl, sym, ap, subst, ◌∙◌, arith, length-append, append_assoc, append-nil}
use Rattle.std.specs.Prelude.{codes, unwrap_or, replicate}
use Rattle.std.proofs.lemmas.Bool.{le-leb}
use Rattle.fmp_bytes.specs.Bytes.{is_of, pieces_of, space}
use Rattle.fmp_bytes.proofs.Cutting.{pieces_of-join}
use Rattle.fmp_names.specs.Names.{NameLists}
use Rattle.fmp_search_question.specs.declared.fault.QuestionFault.{QuestionFault}
use Rattle.fmp_search_pattern.specs.declared.question.Step.{Step}
use Rattle.fmp_search_pattern.specs.Items.{Item}
use Rattle.fmp_search_question.specs.Reading.{Draft, after_word, ended, nothing_read, question_in, step_of, with_moment, with_part, with_pattern, with_step, written_in}
use Rattle.fmp_search_question.specs.Resolved.{resolved}
use Rattle.fmp_search_question.specs.WordByWord.{result_then}
use Rattle.fmp_search_question.specs.Grammar.Rows.{SpellsRow}
use Rattle.fmp_search_question.specs.Grammar.Grammar.{Asks, SpellsMoment, SpellsStep, SpellsTimes, SpellsWithout, Writes, repeated}
use Rattle.fmp_search_question.proofs.grammar.Led.{led_first, led_on, words_led}
use Rattle.fmp_search_question.proofs.grammar.Steps.{Leads, fresh, led}
use Rattle.fmp_search_question.proofs.grammar.Counts.{count_led}
use Rattle.fmp_search_question.proofs.grammar.Asked.{moment_led}

-- ---- a step

abbrev step_with : List (List Item) → Option (List (List Item)) → Step
step_with moment without = record { moment = moment; without = without }

module _ (names : NameLists) (steps : List Step) where
  -- so many steps were read, and nothing of the next
  abbrev pub after_steps : List Step → Draft
  after_steps more = fresh (steps ++ more) None None [] []

  times_led : (words : List (List ℕ)) (n : ℕ) → SpellsTimes words n
      → (times : Option ℕ) × (led names (fresh steps None None [] []) words ≡ Some (fresh steps times None [] [])) × (unwrap_or times 1 ≡ n)
  times_led words n (inl s) = (None, ap (led names (fresh steps None None [] [])) s.0, sym s.1)
  times_led words n (inr s) = (Some n, ap (led names (fresh steps None None [] [])) s.1 ∙ count_led names steps s.0 n s.2, refl)

  without_taken : (e : Draft) (times : Option ℕ) (moment : List (List Item)) → with_part e ≡ Some (fresh steps times None moment [])
      → after_word names e (codes "without") ≡ Ok (fresh steps times (Some moment) [] [])
  unfolding after_word is_of with_moment
  without_taken e times moment is = rw is refl

  step_ends : (e : Draft) (times : Option ℕ) (moment : Option (List (List Item))) (parts : List (List Item)) → with_part e ≡ Some (fresh steps times moment parts [])
      → with_step e ≡ Some (after_steps (replicate (unwrap_or times 1) (step_of moment parts)))
  unfolding with_step
  step_ends e times moment parts is = rw is refl

  module _ (times : Option ℕ) (words rest : List (List ℕ)) (moment : List (List Item)) (is_moment : SpellsMoment names words moment) where
    moments_led : (without : Option (List (List Item))) → SpellsWithout names rest without
        → Leads names (fresh steps times None [] []) (words ++ rest) with_step (after_steps (replicate (unwrap_or times 1) (step_with moment without)))
    moments_led None none =
        let first = moment_led names steps times None [] words moment is_moment in
        (first.0, led_on (after_word names) (fresh steps times None [] []) first.0 words rest first.1 ∙ ap (led names first.0) none, step_ends first.0 times None moment first.2)
    moments_led (Some unwanted) s =
        let first = moment_led names steps times None [] words moment is_moment in
        let second = moment_led names steps times (Some moment) [] s.0 unwanted s.2 in (
          second.0,
          led_on (after_word names) (fresh steps times None [] []) first.0 words rest first.1 ∙ ap (led names first.0) s.1
              ∙ led_first (after_word names) first.0 (fresh steps times (Some moment) [] []) (codes "without") s.0 (without_taken first.0 times moment first.2) ∙ second.1,
          step_ends second.0 times (Some moment) unwanted second.2,
        )

  step_led : (words : List (List ℕ)) (n : ℕ) (step : Step) → SpellsStep names words n step
      → Leads names (fresh steps None None [] []) words with_step (after_steps (replicate n step))
  step_led words n step s =
      let times = times_led s.front n s.counted in
      let read = moments_led times.0 s.middle s.rest step.moment s.moment step.without s.without in (
        read.0,
        ap (led names (fresh steps None None [] [])) s.parts
            ∙ led_on (after_word names) (fresh steps None None [] []) (fresh steps times.0 None [] []) s.front (s.middle ++ s.rest) times.1 ∙ read.1,
        read.2 ∙ ap (λ (k : ℕ). Some (after_steps (replicate k step))) times.2,
      )

-- ---- all steps

then_taken : (names : NameLists) (e f : Draft) → with_step e ≡ Some f → length f.steps ≤ 255 → after_word names e (codes "then") ≡ Ok f
unfolding after_word is_of
then_taken names e f is few = let room = le-leb (length f.steps) 255 few in rw (is, room) refl

abbrev pub SpellsSteps : NameLists → List (List ℕ) → List (ℕ × Step) → Type 0
SpellsSteps names words row = SpellsRow (λ front step. SpellsStep names front step.0 step.1) (codes "then") words row

steps_led : (names : NameLists) (steps : List Step) (words : List (List ℕ)) (row : List (ℕ × Step)) → SpellsSteps names words row → length (steps ++ repeated row) ≤ 255
    → Leads names (fresh steps None None [] []) words with_step (after_steps names steps (repeated row))
steps_led names steps words [] s few = absurd s
steps_led names steps words (one ∷ []) s few =
    let read = step_led names steps words one.0 one.1 s in
    (read.0, read.1, read.2 ∙ ap (λ (more : List Step). Some (after_steps names steps more)) (sym (append-nil (replicate one.0 one.1))))
steps_led names steps words (one ∷ next ∷ more) s few =
    let first = step_led names steps s.0 one.0 one.1 s.3 in
    let whole = append_assoc steps (replicate one.0 one.1) (repeated (next ∷ more)) in
    let fewer : length (steps ++ replicate one.0 one.1) ≤ 255 =
    omega (arith, ap length whole, few, length-append (steps ++ replicate one.0 one.1) (repeated (next ∷ more))) in
    let closed = then_taken names first.0 (after_steps names steps (replicate one.0 one.1)) first.2 fewer in
    let others = steps_led names (steps ++ replicate one.0 one.1) s.1 (next ∷ more) s.4 (subst (λ (all : List Step). length all ≤ 255) (sym whole) few) in (
      others.0,
      ap (led names (fresh steps None None [] [])) s.2 ∙ led_on (after_word names) (fresh steps None None [] []) first.0 s.0 (codes "then" ∷ s.1) first.1
          ∙ led_first (after_word names) first.0 (after_steps names steps (replicate one.0 one.1)) (codes "then") s.1 closed ∙ others.1,
      others.2 ∙ ap (λ (all : List Step). Some (fresh all None None [] [])) whole,
    )

-- ---- whole questions

-- a question has a word
some_words : (names : NameLists) (words : List (List ℕ)) (f : Draft) → Leads names nothing_read words with_step f → 0 < length words
unfolding with_step with_part with_pattern
some_words names [] f s = let same = s.1 in let ends = s.2 in absurd (none (subst (λ (o : Option Draft). o ≡ Some f) (ap with_step (sym (some_same same))) ends)) where
  some_same : {a b : Draft} → Some a ≡ Some b → a ≡ b
  some_same e = cc

  none : None ≡ Some f → ⊥
  none e = cc
some_words names (word ∷ words) f s = omega arith

ended_so : (bytes : ℕ) (e f : Draft) → with_step e ≡ Some f → length f.steps ≤ 255 → ended bytes e ≡ Ok f.steps
ended_so bytes e f is few = let room = le-leb (length f.steps) 255 few in rw (is, room) refl

written_is_read : (names : NameLists) (text : List ℕ) (question : List Step) → Writes names text question → written_in names text ≡ Ok question
unfolding written_in
written_is_read names text question s =
    let row = s.asked in
    let few : length (repeated row.0) ≤ 255 = subst (λ (q : List Step). length q ≤ 255) row.2 s.few in
    let read = steps_led names [] s.words row.0 row.1 few in
    let pieces : pieces_of space text ≡ s.words = ap (pieces_of space) s.parts ∙ pieces_of-join space s.words (some_words names s.words _ read) s.cut in
    let all = words_led (after_word names) (length text) nothing_read read.0 s.words read.1 in
    let ends = ended_so (length text) read.0 _ read.2 few in
    let same = row.2 in
    rw (pieces, all, ends, same) refl

pub asked_is_read : (names : NameLists) (text : List ℕ) (question : List Step) → Asks names text question → question_in names text ≡ Ok question
unfolding question_in
asked_is_read names text question s =
    ap (λ (r : Result (List Step) (QuestionFault × ℕ)). result_then (λ steps. Ok (resolved names steps)) r) (written_is_read names text s.0 s.1)
    ∙ ap (λ (q : List Step). Ok q) (sym s.2)

pub one_question : (names : NameLists) (text : List ℕ) (a b : List Step) → Asks names text a → Asks names text b → a ≡ b
one_question names text a b asked also = same_value (sym (asked_is_read names text a asked) ∙ asked_is_read names text b also) where
  same_value : ◌≡◌ {A = Result (List Step) (QuestionFault × ℕ)} (Ok a) (Ok b) → a ≡ b
  same_value e = cc
