-- One line more of those that go by numbers, and one value more.
use Rattle.std.proofs.Common.{◌≡◌, ℕ, ℤ, pos, ◌+◌, ◌<◌, suc, List, [], ◌++◌, Some, length, drop, get_or, add-one, refl, sym, ap, subst, ◌∙◌, append_assoc, append-nil}
use Rattle.std.specs.Prelude.{Option, slice_get}
use Rattle.std.proofs.lemmas.List.{drop_more}
use Rattle.std.proofs.lemmas.Option.{slice_get-get_or}
use Rattle.fmp_out.specs.Putting.{Adds, Owes, Putting}
use Rattle.fmp_out.proofs.Puts.{both}
use Rattle.fmp_show_state.specs.Changes.{lines_to, value_text, values_from}

module _ (line : ℕ → List ℕ) where
  lines_suc : (n : ℕ) → lines_to line (suc n) ≡ lines_to line n ++ line (suc n)
  unfolding lines_to
  lines_suc n = refl

  lines_more : (n : ℕ) → lines_to line (n + 1) ≡ lines_to line n ++ line (n + 1)
  lines_more n = rw (add-one) (lines_suc n)

  lines_none : lines_to line 0 ≡ []
  unfolding lines_to
  lines_none = refl

  pub no_line_yet : (old : Putting) → Adds (lines_to line 0) old old
  no_line_yet old whole = (whole, sym (ap (λ (xs : List ℕ). old.bytes ++ xs) lines_none ∙ append-nil old.bytes))

  pub line_added : (n : ℕ) (text : List ℕ) (old between new : Putting) → Adds (lines_to line n) old between → text ≡ line (n + 1) → Adds text between new
      → Adds (lines_to line (n + 1)) old new
  line_added n text old between new before is written =
      subst (λ (xs : List ℕ). Adds xs old new) (ap (λ (xs : List ℕ). lines_to line n ++ xs) is ∙ sym (lines_more n)) (both (lines_to line n) text old between new before written)

-- what is written of the values, and one value more
value_more : (vs : List ℤ) (i : ℕ) → i < length vs → values_from i (drop i vs) ≡ value_text i (Some (get_or vs i (pos 0))) ++ values_from (i + 1) (drop (i + 1) vs)
value_more vs i h = ap (values_from i) (drop_more vs i (pos 0) h)

pub value_added : (vs : List ℤ) (i : ℕ) (v : Option ℤ) (all : List ℕ) (old out new : Putting) → i < length vs → v ≡ slice_get vs i
    → Owes (values_from i (drop i vs)) all old out → Adds (value_text i v) out new → Owes (values_from (i + 1) (drop (i + 1) vs)) all old new
value_added vs i v all old out new h is before written whole =
    let last = written whole in
    let first = before last.0 in
    let rest = values_from (i + 1) (drop (i + 1) vs) in
    let report : v ≡ Some (get_or vs i (pos 0)) = is ∙ slice_get-get_or vs i (pos 0) h in (
      first.0,
      ap (λ (xs : List ℕ). xs ++ rest) (last.1 ∙ ap (λ (x : Option ℤ). out.bytes ++ value_text i x) report)
          ∙ append_assoc out.bytes (value_text i (Some (get_or vs i (pos 0)))) rest ∙ ap (λ (xs : List ℕ). out.bytes ++ xs) (sym (value_more vs i h)) ∙ first.1,
    )
