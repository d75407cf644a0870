-- The positions after the releases of a record, one after the other.
use Rattle.std.proofs.Common.{◌≡◌, ℕ, zero, suc, ◌+◌, ◌<◌, ◌≤◌, ◌∙◌, List, [], ◌∷◌, length, drop, slice_get, Option, Some, None, refl, ap, sym, add-one, arith}
use Rattle.std.proofs.Math.Seq.{drop-cons}
use Rattle.std.proofs.lemmas.Option.{slice_get_within, get_or_from_slice_get}
use Rattle.fmp_codes.specs.declared.records.Release.{Release}
use Rattle.fmp_text_scripts.specs.Scripts.{Steps}
use Rattle.fmp_setup.specs.Setup.{Setup}
use Rattle.fmp_smp_histories.specs.Places.{released_task, released_tasks}

-- the releases from a place on
pub rest_is : (rs : List Release) (k : ℕ) (r : Release) → slice_get rs k ≡ Some r → drop k rs ≡ r ∷ drop (k + 1) rs
rest_is rs k r at =
    drop-cons rs k r (slice_get_within rs k r at) ∙ ap (λ (x : Release). x ∷ drop (suc k) rs) (get_or_from_slice_get rs k r r at) ∙ ap (λ (n : ℕ). r ∷ drop n rs) (sym (add-one k))

module _ (c : Setup) (scripts : List Steps) (whole : List ℕ) (ps : List ℕ) (rs : List Release) (k : ℕ) (so_far : whole ≡ released_tasks c scripts ps (drop k rs)) where
  pub release_more : (r : Release) → slice_get rs k ≡ Some r → whole ≡ released_tasks c scripts (released_task c scripts ps r) (drop (k + 1) rs)
  release_more r at = so_far ∙ ap (released_tasks c scripts ps) (rest_is rs k r at)

-- after the last release there is none
pub none_past : (rs : List Release) (k : ℕ) → slice_get rs k ≡ None → length rs ≤ k
none_past [] k none = omega arith
none_past (r ∷ rs) zero none = absurd cc
none_past (r ∷ rs) (suc k) none = omega (arith, none_past rs k none)
