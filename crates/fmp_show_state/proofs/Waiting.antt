-- The lines of the tasks that wait: one task more, and that there is none just where no task waits.
use Rattle.std.proofs.Common.{◌≡◌, ◌≢◌, ℕ, zero, ◌+◌, ◌<◌, ◌↔◌, suc, List, [], ◌∷◌, ◌++◌, length, add-one, refl, sym, ap, ap₂, subst, ◌∙◌, append-nil, arith, inl, inr}
use Rattle.std.specs.Prelude.{Option, None, Some, codes, is_some, if◌then◌else◌}
use Rattle.std.proofs.lemmas.Bool.{cases_lt}
use Rattle.fmp_out.specs.Putting.{Adds, Putting}
use Rattle.fmp_out.proofs.Puts.{both}
use Rattle.fmp_codes.specs.Numbers.{as_task}
use Rattle.fmp_codes.specs.declared.numbers.Task.{Task}
use Rattle.fmp_rules.specs.declared.machine.TaskRecord.{TaskRecord}
use Rattle.fmp_rules.specs.declared.machine.Wait.{Wait}
use Rattle.fmp_rules.specs.World.{World, item, task}
use Rattle.fmp_names.specs.Names.{NameLists}
use Rattle.fmp_trace.specs.Lines.{task_text}
use Rattle.fmp_show_state.specs.Changes.{numbers_text}
use Rattle.fmp_show_state.specs.States.{flag_text, left_text, task_words, waiting_text}
use Rattle.fmp_show_state.specs.Waits.{NoneWaits, wait_line, waiting_lines, waits_text}

module _ {Q : Type 0} (w : World Q) where
  waits_suc : (lists : NameLists) (n : ℕ) → waits_text lists w (suc n)
      ≡ waits_text lists w n ++ wait_line lists (as_task (suc n)) (task w (as_task (suc n))) (item None w.waits_left (as_task (suc n)).number)
  unfolding waits_text
  waits_suc lists n = refl

  waits_more : (lists : NameLists) (n : ℕ) → waits_text lists w (n + 1)
      ≡ waits_text lists w n ++ wait_line lists (as_task (n + 1)) (task w (as_task (n + 1))) (item None w.waits_left (as_task (n + 1)).number)
  waits_more lists n = rw (add-one) (waits_suc lists n)

  waits_none : (lists : NameLists) → waits_text lists w 0 ≡ []
  unfolding waits_text
  waits_none lists = refl

  pub no_wait_yet : (lists : NameLists) (old : Putting) → Adds (waits_text lists w 0) old old
  no_wait_yet lists old whole = (whole, sym (ap (λ (xs : List ℕ). old.bytes ++ xs) (waits_none lists) ∙ append-nil old.bytes))

  -- what was written, and what is told of one task more
  pub wait_reported : (lists : NameLists) (n : ℕ) (t : Task) (x : TaskRecord) (left : Option ℕ) (old between new : Putting)
      → t ≡ as_task (n + 1) → x ≡ task w t → left ≡ item None w.waits_left t.number
      → Adds (waits_text lists w n) old between → Adds (wait_line lists t x left) between new → Adds (waits_text lists w (n + 1)) old new
  wait_reported lists n t x left old between new number record_is left_is before line =
      let same : wait_line lists t x left ≡ wait_line lists (as_task (n + 1)) (task w (as_task (n + 1))) (item None w.waits_left (as_task (n + 1)).number) =
      rw (record_is, left_is, number) refl in
      subst (λ (xs : List ℕ). Adds xs old new) (ap (λ (xs : List ℕ). waits_text lists w n ++ xs) same ∙ sym (waits_more lists n))
      (both (waits_text lists w n) (wait_line lists t x left) old between new before line)

-- ---- no line, and no task that waits

front_empty : (xs ys : List ℕ) → xs ++ ys ≡ [] → xs ≡ []
front_empty [] ys none = refl
front_empty (x ∷ xs) ys none = cc

after_empty : (xs ys : List ℕ) → xs ++ ys ≡ [] → ys ≡ []
after_empty [] ys none = none
after_empty (x ∷ xs) ys none = cc

-- what is told of a task has a line feed at least
words_some : (lists : NameLists) (t : Task) (x : TaskRecord) (left : Option ℕ) → task_words lists t x left ≢ []
unfolding task_words
words_some lists t x left none =
    let report = task_text lists t ++ flag_text x.suspended (codes " suspended") ++ waiting_text lists x.wait ++ left_text left ++ numbers_text x in
    let feed : codes "\n" ≡ [] = after_empty report (codes "\n") none in
    cc

no_line : (lists : NameLists) (t : Task) (x : TaskRecord) (left : Option ℕ) (o : Option Wait) → x.wait ≡ o → wait_line lists t x left ≡ [] → x.wait ≡ None
no_line lists t x left None is none = is
no_line lists t x left (Some w) is none =
    let report : wait_line lists t x left ≡ task_words lists t x left = ap (λ (o : Option Wait). if is_some o then task_words lists t x left else []) is in
    absurd (words_some lists t x left (sym report ∙ none))

line_of_none : (lists : NameLists) (t : Task) (x : TaskRecord) (left : Option ℕ) → x.wait ≡ None → wait_line lists t x left ≡ []
line_of_none lists t x left is = ap (λ (o : Option Wait). if is_some o then task_words lists t x left else []) is

module _ {Q : Type 0} (w : World Q) (lists : NameLists) where
  none_to : (n : ℕ) → waits_text lists w n ≡ [] → (k : ℕ) → k < n → (task w (as_task (k + 1))).wait ≡ None
  none_to zero none k small = absurd (omega arith)
  none_to (suc n) none k small =
      let parts = sym (waits_suc w lists n) ∙ none in
      elim (cases_lt k n) [
        | inl less ↦ none_to n (front_empty _ _ parts) k less
        | inr past ↦
            let last : suc n ≡ k + 1 = omega arith in
            let here = no_line lists (as_task (suc n)) (task w (as_task (suc n))) (item None w.waits_left (as_task (suc n)).number) _ refl (after_empty _ _ parts) in
            rw (← last) here
      ]

  lines_of_none : (n : ℕ) → ((k : ℕ) → k < n → (task w (as_task (k + 1))).wait ≡ None) → waits_text lists w n ≡ []
  lines_of_none zero all = waits_none w lists
  lines_of_none (suc n) all =
      let here : (task w (as_task (suc n))).wait ≡ None = rw (add-one) at (all n (omega arith)) in
      waits_suc w lists n ∙ ap₂ ◌++◌ (lines_of_none n (λ k small. all k (omega arith))) (line_of_none lists (as_task (suc n)) (task w (as_task (suc n))) (item None w.waits_left (as_task (suc n)).number) here)

  pub none_waits : (waiting_lines lists w ≡ []) ↔ NoneWaits w
  none_waits = (none_to (length w.tasks), lines_of_none (length w.tasks))
