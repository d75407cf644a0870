-- Numbers below one more.
use Rattle.std.proofs.Common.{◌≡◌, ℕ, ◌+◌, Bool, true, false, [], ◌∷◌, ◌++◌, suc, refl, arith}
use Rattle.std.specs.Prelude.{nat_lt, slice_index}
use Rattle.std.proofs.lemmas.List.{append-nil}
use Rattle.fmp_cli_notes.specs.Left.{fewer}
use Rattle.fmp_cli_notes.specs.Unmade.{below}
use Rattle.fmp_run_explore.specs.declared.left.Left.{Left}

pub below_none : (p : ℕ → Bool) → below p 0 ≡ []
unfolding below
below_none p = refl

-- the number is so, and comes last
pub below_with : (p : ℕ → Bool) (n : ℕ) → p n ≡ true → below p (n + 1) ≡ below p n ++ (n ∷ [])
unfolding below
below_with p n so = let more : n + 1 ≡ suc n = omega arith in rw (more, so) refl

-- it is not
pub below_without : (p : ℕ → Bool) (n : ℕ) → p n ≡ false → below p (n + 1) ≡ below p n
unfolding below
below_without p n not_so = let more : n + 1 ≡ suc n = omega arith in rw (more, not_so) (append-nil (below p n))

-- likewise of things without which fewer places are left
pub fewer_none : (l : Left) → fewer l 0 ≡ []
unfolding fewer
fewer_none l = refl

pub fewer_with : (l : Left) (n : ℕ) → nat_lt (slice_index l.without.items n) l.places ≡ true → fewer l (n + 1) ≡ fewer l n ++ ((slice_index l.without.items n, n) ∷ [])
unfolding fewer
fewer_with l n so = let more : n + 1 ≡ suc n = omega arith in rw (more, so) refl

pub fewer_without : (l : Left) (n : ℕ) → nat_lt (slice_index l.without.items n) l.places ≡ false → fewer l (n + 1) ≡ fewer l n
unfolding fewer
fewer_without l n not_so = let more : n + 1 ≡ suc n = omega arith in rw (more, not_so) (append-nil (fewer l n))
