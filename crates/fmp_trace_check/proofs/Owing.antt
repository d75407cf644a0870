-- What is still to be put into a text, as loops go on.
use Rattle.std.proofs.Common.{◌≡◌, ℕ, List, [], ◌++◌, sym, ap, ◌∙◌, append_assoc}
use Rattle.std.proofs.lemmas.List.{append-nil}
use Rattle.fmp_out.specs.Putting.{Adds, Owes, Putting}

-- one piece of what was left was put
pub one_put : (left piece rest all : List ℕ) (old between new : Putting) → left ≡ piece ++ rest → Owes left all old between → Adds piece between new
    → Owes rest all old new
one_put left piece rest all old between new is before put whole =
    let last = put whole in
    let first = before last.0 in (
      first.0,
      ap (λ (xs : List ℕ). xs ++ rest) last.1 ∙ append_assoc between.bytes piece rest ∙ ap (λ (xs : List ℕ). between.bytes ++ xs) (sym is) ∙ first.1,
    )

-- nothing had to be put
pub none_put : (left rest all : List ℕ) (old now : Putting) → left ≡ rest → Owes left all old now → Owes rest all old now
none_put left rest all old now is before whole =
    let so_far = before whole in
    (so_far.0, ap (λ (xs : List ℕ). now.bytes ++ xs) (sym is) ∙ so_far.1)

-- nothing is left
pub all_put : (left all : List ℕ) (old now : Putting) → left ≡ [] → Owes left all old now → Adds all old now
all_put left all old now is before whole =
    let so_far = before whole in
    (so_far.0, sym (append-nil now.bytes) ∙ ap (λ (xs : List ℕ). now.bytes ++ xs) (sym is) ∙ so_far.1)
