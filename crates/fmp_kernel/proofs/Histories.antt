-- One event more of a history.
use Rattle.std.proofs.Common.{◌≡◌, ◌<◌, ◌+◌, ◌++◌, ◌∷◌, [], List, ℕ, length, drop, slice_index_or, append_assoc, append-nil, ap, subst, sym, ◌∙◌, ◌≤◌}
use Rattle.std.proofs.lemmas.List.{drop_more, drop_all}
use Rattle.fmp_codes.specs.declared.records.Event.{Event}
use Rattle.fmp_codes.specs.declared.records.Record.{Record}
use Rattle.fmp_rules.specs.Arrivals.{State, numbered}
use Rattle.fmp_rules.specs.Step.{step, answers}

-- the records so far, with one more, before those of the events that are left
pub answers_more : (m : State) (es : List Event) (i : ℕ) (e : Event) (report all : List Record) → i < length es → e ≡ slice_index_or es i e
    → report ++ answers numbered m (drop i es) ≡ all → (report ++ (step numbered m e).1 ∷ []) ++ answers numbered (step numbered m e).0 (drop (i + 1) es) ≡ all
answers_more m es i e report all below is h =
    let split : drop i es ≡ e ∷ drop (i + 1) es = drop_more es i e below ∙ ap (λ x. x ∷ drop (i + 1) es) (sym is) in
    let split_reported : report ++ answers numbered m (e ∷ drop (i + 1) es) ≡ all = subst (λ x. report ++ answers numbered m x ≡ all) split h in
    append_assoc report ((step numbered m e).1 ∷ []) _ ∙ split_reported

-- after the last event all records are there
pub answers_end : (m : State) (es : List Event) (i : ℕ) (report all : List Record) → length es ≤ i → report ++ answers numbered m (drop i es) ≡ all → report ≡ all
answers_end m es i report all past h =
    let none_left : report ++ answers numbered m [] ≡ all = subst (λ x. report ++ answers numbered m x ≡ all) (drop_all i es past) h in
    sym (append-nil report) ∙ none_left
