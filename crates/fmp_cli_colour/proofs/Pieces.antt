-- What is written in two pieces.
use Rattle.std.proofs.Common.{◌≡◌, ◌∙◌, ℕ, List, ◌++◌, ap, append_assoc, Ok, Err, OnOk, OnErr}
use Rattle.std.specs.Prelude.{Result}
use Rattle.fmp_run_devices.specs.Devices.{BeginsWith}
use Rattle.fmp_run_devices.proofs.Begun.{begun_first, begun_second}

module _ {T E : Type 0} (r : Result T E) (old first second between new : List ℕ) where
  -- the first piece is out, and the second is or was begun
  pub both_ok : between ≡ old ++ first → OnOk r (new ≡ between ++ second) → OnOk r (new ≡ old ++ (first ++ second))
  both_ok first_out second_out = go r second_out
    where
      go : (r : Result T E) → OnOk r (new ≡ between ++ second) → OnOk r (new ≡ old ++ (first ++ second))
      go (Ok t) is = is ∙ ap (λ (bs : List ℕ). bs ++ second) first_out ∙ append_assoc old first second
      go (Err e) is = tt

  pub both_err : between ≡ old ++ first → OnErr r (BeginsWith between second new) → OnErr r (BeginsWith old (first ++ second) new)
  both_err first_out begun = go r begun
    where
      go : (r : Result T E) → OnErr r (BeginsWith between second new) → OnErr r (BeginsWith old (first ++ second) new)
      go (Ok t) is = tt
      go (Err e) is = begun_second old first second between new first_out is

  -- the first piece was begun
  pub first_err : BeginsWith old first new → OnErr r (BeginsWith old (first ++ second) new)
  first_err begun = go r
    where
      go : (r : Result T E) → OnErr r (BeginsWith old (first ++ second) new)
      go (Ok t) = tt
      go (Err e) = begun_first old first second new begun

  -- the first piece is out, and the second was begun
  pub begun_again : between ≡ old ++ first → BeginsWith between second new → OnErr r (BeginsWith old (first ++ second) new)
  begun_again first_out begun = go r
    where
      go : (r : Result T E) → OnErr r (BeginsWith old (first ++ second) new)
      go (Ok t) = tt
      go (Err e) = begun_second old first second between new first_out begun
