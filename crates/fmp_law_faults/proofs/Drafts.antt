-- What was read of a question, by the words that were read.
use Rattle.std.proofs.Common.{◌≡◌, ℕ, ◌+◌, true, false, List, [], ◌∷◌, ◌++◌, length, Option, None, refl, sym, ap, subst, ◌∙◌, arith}
use Rattle.std.specs.Prelude.{codes, is_some, sum_by, unwrap_or}
use Rattle.std.specs.List.{list_any}
use Rattle.std.specs.Str.{bytes_eq}
use Rattle.std.proofs.lemmas.List.Sums.{sum_by-append}
use Rattle.fmp_names.specs.Names.{NameLists}
use Rattle.fmp_search_pattern.specs.declared.spot.Spot.{Spot}
use Rattle.fmp_search_pattern.specs.declared.spot.Spot.TheVariants.{Front}
use Rattle.fmp_search_question.specs.Reading.{Draft, has_begun, nothing_read}
use Rattle.fmp_law_faults.specs.Words.{end_with, is_break, is_then, is_without, pattern_of, step_of, steps_in, steps_of, times_of}
use Rattle.fmp_law_faults.proofs.Following.{after_other, after_such, any_same, any_true, ends_more, steps_other, steps_then, times_more}
use Rattle.fmp_law_faults.proofs.Patterns.{IsOpen, nothing_open, text_of}

-- these words lead to this draft
pub record IsAfter (names : NameLists) (before : List (List ℕ)) (d : Draft) : Type 0 where
  pub closed : List (List (List ℕ))
  pub steps : steps_of before ≡ closed ++ step_of before ∷ []
  pub done : length d.steps ≡ sum_by times_of closed
  pub times : unwrap_or d.times 1 ≡ times_of (step_of before)
  pub begun : has_begun d ≡ list_any is_break (step_of before)
  pub alone : list_any is_break (step_of before) ≡ false → pattern_of before ≡ step_of before
  pub moment : is_some d.moment ≡ list_any is_without (step_of before)
  pub negated : pattern_of before ≡ [] → d.negated ≡ end_with (codes "not") before
  pub pattern : d.pattern ≡ text_of (pattern_of before)
  pub is_open : IsOpen names (pattern_of before) d.spot

pub nothing_is_read : (names : NameLists) → IsAfter names [] nothing_read
nothing_is_read names =
    record {
      closed = [];
      steps = refl;
      done = refl;
      times = refl;
      begun = refl;
      alone = λ e. refl;
      moment = refl;
      negated = λ e. refl;
      pattern = refl;
      is_open = nothing_open names [] Front refl refl;
    }

pub all_steps : (names : NameLists) (before : List (List ℕ)) (d : Draft) → IsAfter names before d → steps_in before ≡ length d.steps + unwrap_or d.times 1
all_steps names before d s =
    ap (sum_by times_of) s.steps ∙ omega (arith, sum_by-append times_of s.closed (step_of before ∷ []), s.done, s.times)

-- ---- a word with which a pattern ends, within a step

pub record IsWithin (before : List (List ℕ)) (d : Draft) (word : List ℕ) (e : Draft) : Type 0 where
  pub is_one : is_break word ≡ true
  pub no_then : is_then word ≡ false
  pub steps : e.steps ≡ d.steps
  pub times : unwrap_or e.times 1 ≡ times_of (step_of before ++ word ∷ [])
  pub begun : has_begun e ≡ true
  pub moment : is_some e.moment ≡ list_any is_without (step_of before ++ word ∷ [])
  pub negated : e.negated ≡ bytes_eq word (codes "not")
  pub pattern : e.pattern ≡ []
  pub place : e.spot ≡ Front

module _ (names : NameLists) (before : List (List ℕ)) (d : Draft) (s : IsAfter names before d) where
  pub within_step : (word : List ℕ) (e : Draft) → IsWithin before d word e → IsAfter names (before ++ word ∷ []) e
  within_step word e w =
      let step = after_other is_then before word w.no_then in
      let none = after_such is_break before word w.is_one in
      let some = any_true is_break (step_of before) word w.is_one in
      record {
        closed = s.closed;
        steps = steps_other before word s.closed (step_of before) w.no_then s.steps ∙ ap (λ (ws : List (List ℕ)). s.closed ++ ws ∷ []) (sym step);
        done = ap length w.steps ∙ s.done;
        times = w.times ∙ ap times_of (sym step);
        begun = w.begun ∙ sym (ap (list_any is_break) step ∙ some);
        alone = λ e. let both : false ≡ true = sym e ∙ ap (list_any is_break) step ∙ some in absurd cc;
        moment = w.moment ∙ ap (list_any is_without) (sym step);
        negated = λ _. w.negated ∙ sym (ends_more (codes "not") before word);
        pattern = w.pattern ∙ ap text_of (sym none);
        is_open = nothing_open names (pattern_of (before ++ word ∷ [])) e.spot none w.place;
      }

  -- ---- a word of a pattern

  pub in_pattern : (word text : List ℕ) (place : Spot) → is_break word ≡ false → is_then word ≡ false → is_without word ≡ false → bytes_eq word (codes "times") ≡ false
      → text ≡ text_of (pattern_of before ++ word ∷ []) → IsOpen names (pattern_of before ++ word ∷ []) place
      → IsAfter names (before ++ word ∷ []) (record d { pattern = text; spot = place })
  in_pattern word text place no_break no_then no_without no_times is open_more =
      let step = after_other is_then before word no_then in
      let pattern = after_other is_break before word no_break in
      let breaks = any_same is_break (step_of before) word no_break in
      record {
        closed = s.closed;
        steps = steps_other before word s.closed (step_of before) no_then s.steps ∙ ap (λ (ws : List (List ℕ)). s.closed ++ ws ∷ []) (sym step);
        done = s.done;
        times = s.times ∙ sym (times_more (step_of before) word no_times) ∙ ap times_of (sym step);
        begun = s.begun ∙ sym breaks ∙ ap (list_any is_break) (sym step);
        alone = λ e. pattern ∙ ap (λ (ws : List (List ℕ)). ws ++ word ∷ []) (s.alone (sym breaks ∙ ap (list_any is_break) (sym step) ∙ e)) ∙ sym step;
        moment = s.moment ∙ sym (any_same is_without (step_of before) word no_without) ∙ ap (list_any is_without) (sym step);
        negated = λ e. absurd (some (pattern_of before) (sym pattern ∙ e));
        pattern = is ∙ ap text_of (sym pattern);
        is_open = subst (λ (ws : List (List ℕ)). IsOpen names ws place) (sym pattern) open_more;
      } where
        some : (ws : List (List ℕ)) → ws ++ word ∷ [] ≡ [] → ⊥
        some [] e = cc
        some (w ∷ ws) e = cc

  -- ---- `then`

  pub next_step : (e : Draft) → length e.steps ≡ length d.steps + unwrap_or d.times 1 → e.times ≡ None → has_begun e ≡ false → e.moment ≡ None → e.negated ≡ false
      → e.pattern ≡ []
      → e.spot ≡ Front → IsAfter names (before ++ codes "then" ∷ []) e
  next_step e done times begun moment negated pattern place =
      let step : step_of (before ++ codes "then" ∷ []) ≡ [] = after_such is_then before (codes "then") refl in
      let none : pattern_of (before ++ codes "then" ∷ []) ≡ [] = after_such is_break before (codes "then") refl in
      record {
        closed = steps_of before;
        steps = steps_then before (codes "then") refl ∙ ap (λ (ws : List (List ℕ)). steps_of before ++ ws ∷ []) (sym step);
        done = done ∙ sym (all_steps names before d s);
        times = ap (λ (n : Option ℕ). unwrap_or n 1) times ∙ ap times_of (sym step);
        begun = begun ∙ ap (list_any is_break) (sym step);
        alone = λ _. none ∙ sym step;
        moment = ap is_some moment ∙ ap (list_any is_without) (sym step);
        negated = λ _. negated ∙ sym (ends_more (codes "not") before (codes "then"));
        pattern = pattern ∙ ap text_of (sym none);
        is_open = nothing_open names (pattern_of (before ++ codes "then" ∷ [])) e.spot none place;
      }
