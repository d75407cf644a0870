-- One place, one signal or one kind more.
use Rattle.std.proofs.Common.{◌≡◌, ℕ, ◌+◌, suc, Bool, List, [], ◌∷◌, ◌++◌, add-one, refl, sym, ap, subst, ◌∙◌, append_assoc, append-nil}
use Rattle.fmp_out.specs.Putting.{Adds, Putting}
use Rattle.fmp_out.proofs.Puts.{both}
use Rattle.fmp_codes.specs.declared.kinds.ObjectKind.{ObjectKind}
use Rattle.fmp_setup.specs.Setup.{Setup}
use Rattle.fmp_run_view.specs.declared.signal.Signal.{Signal}
use Rattle.fmp_run_view.specs.declared.signal.TheConstants.{SIGNALS}
use Rattle.fmp_run_view.specs.Changes.{Change, change_if, changes_between, changes_over, changes_to, lines_of, lines_over, value_line}
use Rattle.fmp_run_view.specs.Moments.{Moment}
use Rattle.fmp_run_view.specs.Signals.{count}
use Rattle.fmp_run_view.specs.Setups.{object_line, objects_to}
use Rattle.fmp_run_view.specs.Values.{value_text}

-- what was written of the first n, and one line more
grown : (f : ℕ → List ℕ) (n : ℕ) (line : List ℕ) (old between new : Putting) → f (n + 1) ≡ f n ++ line → Adds (f n) old between → Adds line between new → Adds (f (n + 1)) old new
grown f n line old between new more before here = subst (λ (xs : List ℕ). Adds xs old new) (sym more) (both (f n) line old between new before here)

-- nothing was written of none
nothing : (f : ℕ → List ℕ) (old : Putting) → f 0 ≡ [] → Adds (f 0) old old
nothing f old none whole = (whole, sym (ap (λ (xs : List ℕ). old.bytes ++ xs) none ∙ append-nil old.bytes))

-- the lines of two lists of changes, one after the other
pub lines_append : (xs ys : List Change) → lines_of (xs ++ ys) ≡ lines_of xs ++ lines_of ys
lines_append [] ys = refl
lines_append (x ∷ xs) ys =
    ap (λ (zs : List ℕ). value_line x.signal x.place x.text ++ zs) (lines_append xs ys) ∙ sym (append_assoc (value_line x.signal x.place x.text) (lines_of xs) (lines_of ys))

module _ (c : Setup) (all : Bool) (before after : Moment) (signal : Signal) where
  none_changed : changes_to c all before after signal 0 ≡ []
  unfolding changes_to
  none_changed = refl

  changes_suc : (i : ℕ) → changes_to c all before after signal (suc i)
      ≡ changes_to c all before after signal i ++ change_if all signal i (value_text before signal i) (value_text after signal i)
  unfolding changes_to
  changes_suc i = refl

  lines_more : (i : ℕ) → lines_of (changes_to c all before after signal (i + 1))
      ≡ lines_of (changes_to c all before after signal i) ++ lines_of (change_if all signal i (value_text before signal i) (value_text after signal i))
  lines_more i =
      rw (add-one) (ap lines_of (changes_suc i) ∙ lines_append (changes_to c all before after signal i) (change_if all signal i (value_text before signal i) (value_text after signal i)))

  pub no_change_yet : (old : Putting) → Adds (lines_of (changes_to c all before after signal 0)) old old
  no_change_yet old = nothing (λ (n : ℕ). lines_of (changes_to c all before after signal n)) old (ap lines_of none_changed)

  pub change_line : (i : ℕ) (old between new : Putting) → Adds (lines_of (changes_to c all before after signal i)) old between
      → Adds (lines_of (change_if all signal i (value_text before signal i) (value_text after signal i))) between new → Adds (lines_of (changes_to c all before after signal (i + 1))) old new
  change_line i old between new so_far line = grown (λ (n : ℕ). lines_of (changes_to c all before after signal n)) i _ old between new (lines_more i) so_far line

module _ (c : Setup) (all : Bool) (before after : Moment) where
  over_lines : (signals : List Signal) → lines_over c all before after signals ≡ lines_of (changes_over c all before after signals)
  over_lines [] = refl
  over_lines (s ∷ signals) =
      ap (λ (xs : List ℕ). lines_of (changes_to c all before after s (count c s)) ++ xs) (over_lines signals)
      ∙ sym (lines_append (changes_to c all before after s (count c s)) (changes_over c all before after signals))

  pub all_lines : lines_over c all before after SIGNALS.now ≡ lines_of (changes_between c all before after)
  unfolding changes_between
  all_lines = over_lines SIGNALS.now

module _ (c : Setup) (kind : ObjectKind) where
  no_object : objects_to c kind 0 ≡ []
  unfolding objects_to
  no_object = refl

  objects_suc : (i : ℕ) → objects_to c kind (suc i) ≡ objects_to c kind i ++ object_line c kind i
  unfolding objects_to
  objects_suc i = refl

  objects_more : (i : ℕ) → objects_to c kind (i + 1) ≡ objects_to c kind i ++ object_line c kind i
  objects_more i = rw (add-one) (objects_suc i)

  pub no_object_yet : (old : Putting) → Adds (objects_to c kind 0) old old
  no_object_yet old = nothing (objects_to c kind) old no_object

  pub object_next : (i : ℕ) (old between new : Putting) → Adds (objects_to c kind i) old between → Adds (object_line c kind i) between new → Adds (objects_to c kind (i + 1)) old new
  object_next i old between new so_far line = grown (objects_to c kind) i _ old between new (objects_more i) so_far line
