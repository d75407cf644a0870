-- A word of a question is at fault exactly where the table has a fault for it.
use Rattle.std.proofs.Common.{◌≡◌, ℕ, ◌+◌, ◌≤◌, ◌<◌, eqb, leb, inl, inr, ◌⊎◌, Bool, true, false, not, ◌||◌, cond, List, [], ◌∷◌, ◌++◌, length, replicate, Option, Some, None}
use Rattle.std.proofs.Common.{Result, Ok, Err, refl, sym, ap, subst, ◌∙◌, arith, length-append}
use Rattle.std.specs.Prelude.{codes, is_some, option_and_then, option_map, unwrap_or}
use Rattle.std.specs.List.{list_any}
use Rattle.std.specs.Str.{bytes_eq}
use Rattle.std.proofs.lemmas.Bool.{false≢true, leb-true, leb-false, ne_eqb}
use Rattle.std.proofs.lemmas.List.{length-replicate}
use Rattle.fmp_bytes.proofs.Words.{not_word}
use Rattle.fmp_names.specs.Names.{NameLists}
use Rattle.fmp_search_pattern.specs.declared.spot.Spot.TheVariants.{Front, Whole}
use Rattle.fmp_search_pattern.specs.Words.{is_printed}
use Rattle.fmp_search_pattern.specs.declared.question.Step.{Step}
use Rattle.fmp_search_pattern.specs.Items.{Item}
use Rattle.fmp_search_question.specs.declared.fault.QuestionFault.{QuestionFault}
use Rattle.fmp_search_question.specs.declared.fault.QuestionFault.TheVariants.{BadForm, TooLong}
use Rattle.fmp_search_question.specs.Grammar.Grammar.{SpellsCount, own_words, spaced}
use Rattle.fmp_search_question.specs.Reading.{Draft, before_without, has_begun, limited, or_form, part_ended, step_of as step_in, wanted_by}
use Rattle.fmp_search_question.specs.Reading.{with_moment, with_not, with_part, with_pattern, with_read, with_refused, with_step, with_times}
use Rattle.fmp_law_faults.specs.Words.{is_break, is_without, pattern_of, step_of, steps_in, times_of}
use Rattle.fmp_law_faults.specs.QuestionFaults.{EndWithNoPattern, IsMisplaced, WordFault, closes_nothing, no_count, not_again, not_within, refused_within, without_again}
use Rattle.fmp_law_faults.proofs.Following.{any_same, any_true, or_true, times_more}
use Rattle.fmp_law_faults.proofs.Patterns.{can_end, front_place, has_no_end, is_spelled, refusal, some_length, text_of}
use Rattle.fmp_law_faults.proofs.Numbers.{CountsSteps, count_found, count_in, count_is, no_break}
use Rattle.fmp_law_faults.proofs.FirstFaults.{WordAgrees}
use Rattle.fmp_law_faults.proofs.Drafts.{IsAfter, all_steps, in_pattern, next_step, within_step}

-- ---- values that are there

pub if_not : {A : Type 0} (test : Bool) (x : A) (o : Option A) → cond test None (Some x) ≡ o → ((test ≡ true) × (o ≡ None)) ⊎ ((test ≡ false) × (o ≡ Some x))
if_not true x o e = inl (refl, sym e)
if_not false x o e = inr (refl, sym e)

some_more : {A : Type 0} (xs : List A) (x : A) → not (eqb (length (xs ++ x ∷ [])) 0) ≡ true
some_more xs x = let some = ne_eqb (length (xs ++ x ∷ [])) 0 (λ e. omega (arith, e, length-append xs (x ∷ []))) in rw some refl

-- two words that are not the same
differ : {a b : List ℕ} → a ≡ b → bytes_eq a b ≡ false → ⊥
differ {a} {b} is other = not_word a b other is

second : (a : Bool) → ((((a || true) || false) || false) || false) ≡ true
second true = refl
second false = refl

third : (a b : Bool) → ((a || true) || b) ≡ true
third true b = refl
third false b = refl

fourth : (a b c : Bool) → (((a || true) || b) || c) ≡ true
fourth true b c = refl
fourth false b c = refl

pub empty_text : (words : List (List ℕ)) → eqb (length (text_of words)) 0 ≡ true → words ≡ []
empty_text [] e = refl
empty_text (word ∷ words) e = let some = some_length 32 (word ++ spaced words) in absurd (false≢true (sym some ∙ e))

some_text : (words : List (List ℕ)) → eqb (length (text_of words)) 0 ≡ false → 1 ≤ length words
some_text [] e = absurd (false≢true (sym e))
some_text (word ∷ words) e = omega arith

-- ---- one word

-- what the word makes of what was read, where it has no fault; else its fault
abbrev pub Agrees : NameLists → List (List ℕ) → List ℕ → Result Draft QuestionFault → Type 0
Agrees names before word r = WordAgrees (WordFault names) (IsAfter names) before word r

module _ (names : NameLists) (before : List (List ℕ)) (d : Draft) (s : IsAfter names before d) where
  abbrev words : List (List ℕ)
  words = pattern_of before

  -- ---- whether a pattern ends there

  end_is : has_no_end d.pattern d.spot ≡ has_no_end (text_of words) d.spot
  end_is = ap (λ (text : List ℕ). has_no_end text d.spot) s.pattern

  pub no_end : has_no_end d.pattern d.spot ≡ true → EndWithNoPattern names before
  no_end e one spelled = false≢true (sym (can_end names words d.spot one s.is_open spelled) ∙ sym end_is ∙ e)

  pub an_end : has_no_end d.pattern d.spot ≡ false → ¬ (EndWithNoPattern names before)
  an_end e none = let one = is_spelled names words d.spot s.is_open (sym end_is ∙ e) in none one.0 one.1

  abbrev item : Item
  item = record { negated = d.negated; wanted = wanted_by d.pattern }

  -- the draft after a whole pattern
  abbrev pub ended : Draft
  ended = record d { items = d.items ++ item ∷ []; negated = false; pattern = []; spot = Front }

  pub pattern_ends : (o : Option Draft) → with_pattern d ≡ o → ((has_no_end d.pattern d.spot ≡ true) × (o ≡ None)) ⊎ ((has_no_end d.pattern d.spot ≡ false) × (o ≡ Some ended))
  unfolding with_pattern
  pattern_ends o e = if_not (has_no_end d.pattern d.spot) ended o e

  -- ---- faults of words of the language

  module _ (word : List ℕ) (printed : is_printed word ≡ true) where
    misplaced : IsMisplaced names before word → WordFault names before word BadForm
    misplaced m = inr (printed, inl (refl, m))

    placed_well : ¬ (IsMisplaced names before word) → list_any (bytes_eq word) own_words ≡ true → (word ≡ codes "then" → 255 < steps_in before → ⊥) → (other : QuestionFault)
        → ¬ (WordFault names before word other)
    placed_well fits own few other fault =
        elim fault [
          | inl a ↦ false≢true (sym a.1 ∙ printed)
          | inr b ↦ elim b.1 [
            | inl c ↦ fits c.1
            | inr c ↦ elim c.1 [
              | inl g ↦ few g.1 g.2
              | inr h ↦ false≢true (sym h.0 ∙ own)
            ]
          ]
        ]

  never : {A : Type 0} → false ≡ true → A
  never e = absurd (false≢true e)

  -- ---- `&`

  and_fits : has_no_end d.pattern d.spot ≡ false → ¬ (IsMisplaced names before (codes "&"))
  and_fits e (closes_nothing one none) = an_end e none
  and_fits e (without_again is again) = differ is refl
  and_fits e (not_within is within) = differ is refl
  and_fits e (not_again is again) = differ is refl
  and_fits e (refused_within is within) = differ is refl
  and_fits e (no_count is none) = differ is refl

  pub and_judged : is_printed (codes "&") ≡ true → Agrees names before (codes "&") (or_form (with_pattern d))
  and_judged printed = go (with_pattern d) refl where
    begun : has_begun ended ≡ true
    begun = let some = some_more d.items item in rw some (third _ false)

    go : (o : Option Draft) → with_pattern d ≡ o → Agrees names before (codes "&") (or_form o)
    go o e =
        elim (pattern_ends o e) [
          | inl p ↦ let none = p.1 in rw none (misplaced (codes "&") printed (closes_nothing refl (no_end p.0)))
          | inr p ↦ let some = p.1 in rw some (
            placed_well (codes "&") printed (and_fits p.0) refl (λ is many. differ is refl),
            within_step names before d s (codes "&") ended (record {
              is_one = refl;
              no_then = refl;
              steps = refl;
              times = s.times ∙ sym (times_more (step_of before) (codes "&") refl);
              begun = begun;
              moment = s.moment ∙ sym (any_same is_without (step_of before) (codes "&") refl);
              negated = refl;
              pattern = refl;
              place = refl;
            }),
          )
        ]

  -- ---- `or`

  or_fits : has_no_end d.pattern d.spot ≡ false → ¬ (IsMisplaced names before (codes "or"))
  or_fits e (closes_nothing one none) = an_end e none
  or_fits e (without_again is again) = differ is refl
  or_fits e (not_within is within) = differ is refl
  or_fits e (not_again is again) = differ is refl
  or_fits e (refused_within is within) = differ is refl
  or_fits e (no_count is none) = differ is refl

  pub or_judged : is_printed (codes "or") ≡ true → Agrees names before (codes "or") (or_form (with_part d))
  unfolding with_part
  or_judged printed = go (with_pattern d) refl where
    begun : has_begun (part_ended ended) ≡ true
    begun = let some = some_more d.parts (ended.items) in rw some (fourth _ false false)

    go : (o : Option Draft) → with_pattern d ≡ o → Agrees names before (codes "or") (or_form (option_map part_ended o))
    go o e =
        elim (pattern_ends o e) [
          | inl p ↦ let none = p.1 in rw none (misplaced (codes "or") printed (closes_nothing refl (no_end p.0)))
          | inr p ↦ let some = p.1 in rw some (
            placed_well (codes "or") printed (or_fits p.0) refl (λ is many. differ is refl),
            within_step names before d s (codes "or") (part_ended ended) (record {
              is_one = refl;
              no_then = refl;
              steps = refl;
              times = s.times ∙ sym (times_more (step_of before) (codes "or") refl);
              begun = begun;
              moment = s.moment ∙ sym (any_same is_without (step_of before) (codes "or") refl);
              negated = refl;
              pattern = refl;
              place = refl;
            }),
          )
        ]

  -- ---- `without`

  without_fits : has_no_end d.pattern d.spot ≡ false → is_some d.moment ≡ false → ¬ (IsMisplaced names before (codes "without"))
  without_fits e first (closes_nothing one none) = an_end e none
  without_fits e first (without_again is again) = false≢true (sym first ∙ s.moment ∙ again)
  without_fits e first (not_within is within) = differ is refl
  without_fits e first (not_again is again) = differ is refl
  without_fits e first (refused_within is within) = differ is refl
  without_fits e first (no_count is none) = differ is refl

  pub without_judged : is_printed (codes "without") ≡ true → Agrees names before (codes "without") (or_form (with_moment d))
  unfolding with_moment with_part
  without_judged printed = go (with_pattern d) refl where
    parts : List (List Item)
    parts = d.parts ++ ended.items ∷ []

    after : Draft
    after = record d { items = []; negated = false; pattern = []; spot = Front; moment = Some parts; parts = [] }

    begun : has_begun after ≡ true
    begun = second (is_some d.times)

    by : has_no_end d.pattern d.spot ≡ false → (m : Option (List (List Item))) → d.moment ≡ m → Agrees names before (codes "without") (or_form (before_without (part_ended ended)))
    by e (Some moment) is =
        let again = s.moment in
        rw is (misplaced (codes "without") printed (without_again refl (sym again ∙ ap is_some is)))
    by e None is = rw is (
      placed_well (codes "without") printed (without_fits e (ap is_some is)) refl (λ is many. differ is refl),
      within_step names before d s (codes "without") after (record {
        is_one = refl;
        no_then = refl;
        steps = refl;
        times = s.times ∙ sym (times_more (step_of before) (codes "without") refl);
        begun = begun;
        moment = sym (any_true is_without (step_of before) (codes "without") refl);
        negated = refl;
        pattern = refl;
        place = refl;
      }),
    )

    go : (o : Option Draft) → with_pattern d ≡ o → Agrees names before (codes "without") (or_form (option_and_then before_without (option_map part_ended o)))
    go o e =
        elim (pattern_ends o e) [
          | inl p ↦ let none = p.1 in rw none (misplaced (codes "without") printed (closes_nothing refl (no_end p.0)))
          | inr p ↦ let some = p.1 in rw some (by p.0 d.moment refl)
        ]

  -- ---- `not` and `refused`

  empty_is : eqb (length d.pattern) 0 ≡ eqb (length (text_of words)) 0
  empty_is = ap (λ (text : List ℕ). eqb (length text) 0) s.pattern

  no_words : eqb (length d.pattern) 0 ≡ true → words ≡ []
  no_words e = empty_text words (sym empty_is ∙ e)

  some_words : eqb (length d.pattern) 0 ≡ false → 1 ≤ length words
  some_words e = some_text words (sym empty_is ∙ e)

  none_within : words ≡ [] → 1 ≤ length words → ⊥
  none_within empty some = omega (arith, ap length empty, some)

  no_text : words ≡ [] → d.pattern ≡ []
  no_text empty = s.pattern ∙ ap text_of empty

  not_fits : words ≡ [] → d.negated ≡ false → ¬ (IsMisplaced names before (codes "not"))
  not_fits empty first (closes_nothing one none) = never one
  not_fits empty first (without_again is again) = differ is refl
  not_fits empty first (not_within is within) = none_within empty within
  not_fits empty first (not_again is again) = false≢true (sym first ∙ s.negated empty ∙ again)
  not_fits empty first (refused_within is within) = differ is refl
  not_fits empty first (no_count is none) = differ is refl

  pub not_judged : is_printed (codes "not") ≡ true → Agrees names before (codes "not") (or_form (with_not d))
  not_judged printed = go (eqb (length d.pattern) 0) d.negated refl refl where
    begun : (a : Bool) → (a || true) ≡ true
    begun a = or_true a true refl

    go : (empty again : Bool) → eqb (length d.pattern) 0 ≡ empty → d.negated ≡ again → Agrees names before (codes "not") (or_form (with_not d))
    go false again e f = rw e (misplaced (codes "not") printed (not_within refl (some_words e)))
    go true true e f = rw e (rw f (misplaced (codes "not") printed (not_again refl (sym (s.negated (no_words e)) ∙ f))))
    go true false e f = rw e (rw f (
      placed_well (codes "not") printed (not_fits (no_words e) f) refl (λ is many. differ is refl),
      within_step names before d s (codes "not") (record d { negated = true }) (record {
        is_one = refl;
        no_then = refl;
        steps = refl;
        times = s.times ∙ sym (times_more (step_of before) (codes "not") refl);
        begun = begun _;
        moment = s.moment ∙ sym (any_same is_without (step_of before) (codes "not") refl);
        negated = refl;
        pattern = no_text (no_words e);
        place = front_place names words d.spot s.is_open (no_words e);
      }),
    ))

  refused_fits : words ≡ [] → ¬ (IsMisplaced names before (codes "refused"))
  refused_fits empty (closes_nothing one none) = never one
  refused_fits empty (without_again is again) = differ is refl
  refused_fits empty (not_within is within) = differ is refl
  refused_fits empty (not_again is again) = differ is refl
  refused_fits empty (refused_within is within) = none_within empty within
  refused_fits empty (no_count is none) = differ is refl

  pub refused_judged : is_printed (codes "refused") ≡ true → Agrees names before (codes "refused") (or_form (with_refused d))
  refused_judged printed = go (eqb (length d.pattern) 0) refl where
    go : (empty : Bool) → eqb (length d.pattern) 0 ≡ empty → Agrees names before (codes "refused") (or_form (with_refused d))
    go false e = rw e (misplaced (codes "refused") printed (refused_within refl (some_words e)))
    go true e =
        let alone : words ++ codes "refused" ∷ [] ≡ codes "refused" ∷ [] = ap (λ (ws : List (List ℕ)). ws ++ codes "refused" ∷ []) (no_words e) in
        rw e (
          placed_well (codes "refused") printed (refused_fits (no_words e)) refl (λ is many. differ is refl),
          in_pattern names before d s (codes "refused") (codes " refused ") Whole refl refl refl refl (sym (ap text_of alone)) (refusal alone refl),
        )

  -- ---- `times`

  count_is_of : (m : Option ℕ) → count_in d.pattern ≡ m → count_in (text_of words) ≡ m
  count_is_of m e = sym (ap count_in s.pattern) ∙ e

  times_fits : (n : ℕ) → CountsSteps (step_of before) n → ¬ (IsMisplaced names before (codes "times"))
  times_fits n c (closes_nothing one none) = never one
  times_fits n c (without_again is again) = differ is refl
  times_fits n c (not_within is within) = differ is refl
  times_fits n c (not_again is again) = differ is refl
  times_fits n c (refused_within is within) = differ is refl
  times_fits n c (no_count is none) = none c.0 n c.1 c.2

  pub times_judged : is_printed (codes "times") ≡ true → Agrees names before (codes "times") (or_form (with_times d))
  unfolding with_times
  times_judged printed = go (has_begun d) (count_in d.pattern) refl refl where
    after : ℕ → Draft
    after n = record d { times = Some n; pattern = []; spot = Front }

    -- more of the step was read
    more : has_begun d ≡ true → (digits : List ℕ) (times : ℕ) → step_of before ≡ digits ∷ [] → ¬ (SpellsCount digits times)
    more e digits times is c =
        let none = no_break digits c.decimal in
        let only : list_any is_break (digits ∷ []) ≡ false = rw none refl in
        false≢true (sym only ∙ sym (ap (list_any is_break) is) ∙ sym s.begun ∙ e)

    same : has_begun d ≡ false → words ≡ step_of before
    same e = s.alone (sym s.begun ∙ e)

    -- it is no number
    other : has_begun d ≡ false → count_in d.pattern ≡ None → (digits : List ℕ) (times : ℕ) → step_of before ≡ digits ∷ [] → ¬ (SpellsCount digits times)
    other e f digits times is c =
        let both : Some times ≡ None = sym (count_found words times (digits, same e ∙ is, c)) ∙ count_is_of None f in cc

    go : (started : Bool) (count : Option ℕ) → has_begun d ≡ started → count_in d.pattern ≡ count
        → Agrees names before (codes "times") (or_form (cond started None (option_map after count)))
    go true count e f = misplaced (codes "times") printed (no_count refl (more e))
    go false None e f = misplaced (codes "times") printed (no_count refl (other e f))
    go false (Some n) e f =
        let c = subst (λ (ws : List (List ℕ)). CountsSteps ws n) (same e) (count_is names words d.spot n s.is_open (count_is_of (Some n) f)) in
        let value = c.2.value in
        let none : list_any is_without (step_of before) ≡ is_some d.moment = sym s.moment in (
          placed_well (codes "times") printed (times_fits n c) refl (λ is many. differ is refl),
          within_step names before d s (codes "times") (after n) (record {
            is_one = refl;
            no_then = refl;
            steps = refl;
            times = sym value ∙ sym (ap (λ (ws : List (List ℕ)). times_of (ws ++ codes "times" ∷ [])) c.1);
            begun = refl;
            moment = s.moment ∙ sym (any_same is_without (step_of before) (codes "times") refl);
            negated = last (is_some d.times || is_some d.moment || not (eqb (length d.parts) 0) || not (eqb (length d.items) 0)) d.negated e;
            pattern = refl;
            place = refl;
          }),
        ) where
          last : (a b : Bool) → (a || b) ≡ false → b ≡ false
          last false b e = e
          last true b e = absurd (false≢true (sym e))

  -- ---- `then`

  then_fits : has_no_end d.pattern d.spot ≡ false → ¬ (IsMisplaced names before (codes "then"))
  then_fits e (closes_nothing one none) = an_end e none
  then_fits e (without_again is again) = differ is refl
  then_fits e (not_within is within) = differ is refl
  then_fits e (not_again is again) = differ is refl
  then_fits e (refused_within is within) = differ is refl
  then_fits e (no_count is none) = differ is refl

  -- the draft after a whole step
  abbrev pub step_read : Draft
  step_read = with_read (part_ended ended)

  pub steps_read : length step_read.steps ≡ steps_in before
  steps_read =
      length-append d.steps (replicate (unwrap_or d.times 1) one) ∙ ap (λ (n : ℕ). length d.steps + n) (length-replicate (unwrap_or d.times 1) one) ∙ sym (all_steps names before d s) where
        one : Step
        one = step_in d.moment (d.parts ++ ended.items ∷ [])

  pub then_judged : is_printed (codes "then") ≡ true → Agrees names before (codes "then") (limited (or_form (with_step d)))
  unfolding with_step with_part
  then_judged printed = go (with_pattern d) refl where
    by : has_no_end d.pattern d.spot ≡ false → (few : Bool) → leb (length step_read.steps) 255 ≡ few → Agrees names before (codes "then") (cond few (Ok step_read) (Err TooLong))
    by e true few =
        let most = leb-true (length step_read.steps) 255 few in (
          placed_well (codes "then") printed (then_fits e) refl (λ is many. omega (arith, most, steps_read, many)),
          next_step names before d s step_read (steps_read ∙ all_steps names before d s) refl refl refl refl refl refl,
        )
    by e false many =
        let more = leb-false (length step_read.steps) 255 many in
        inr (printed, inr (then_fits e, inl (refl, refl, omega (arith, more, steps_read))))

    go : (o : Option Draft) → with_pattern d ≡ o → Agrees names before (codes "then") (limited (or_form (option_map with_read (option_map part_ended o))))
    go o e =
        elim (pattern_ends o e) [
          | inl p ↦ let none = p.1 in rw none (misplaced (codes "then") printed (closes_nothing refl (no_end p.0)))
          | inr p ↦ let some = p.1 in rw some (by p.0 (leb (length step_read.steps) 255) refl)
        ]
