-- The texts of the numbers 1 to n, and one more.
use Rattle.std.proofs.Common.{◌≡◌, ℕ, zero, suc, ◌+◌, ◌-◌, ◌≤◌, List, [], ◌++◌, map, add-one, refl, sym, ap, ap₂, subst, ◌∙◌, append-nil, arith}
use Rattle.std.specs.List.{range_with_len}
use Rattle.std.proofs.lemmas.List.FromFn.{get_or-map-range_with_len, length-map-range_with_len}
use Rattle.fmp_out.specs.Putting.{Adds, Putting}
use Rattle.fmp_out.proofs.Puts.{both}
use Rattle.fmp_rules.specs.World.{item}
use Rattle.fmp_run_wave.specs.Changes.{told_of}
use Rattle.fmp_run_wave.specs.Listing.{each}

each-nil : (f : ℕ → List ℕ) → each f 0 ≡ []
unfolding each
each-nil f = refl

each-suc : (f : ℕ → List ℕ) (n : ℕ) → each f (suc n) ≡ each f n ++ f (suc n)
unfolding each
each-suc f n = refl

each-more : (f : ℕ → List ℕ) (n : ℕ) → each f (n + 1) ≡ each f n ++ f (n + 1)
each-more f n = rw (add-one) (each-suc f n)

-- nothing was written yet
pub nothing_yet : (f : ℕ → List ℕ) (old : Putting) → Adds (each f 0) old old
nothing_yet f old whole = (whole, sym (ap (λ (xs : List ℕ). old.bytes ++ xs) (each-nil f) ∙ append-nil old.bytes))

-- what was written of the first n, and the text of one more
pub grown : (f : ℕ → List ℕ) (n : ℕ) (old between new : Putting) → Adds (each f n) old between → Adds (f (n + 1)) between new → Adds (each f (n + 1)) old new
grown f n old between new before here = subst (λ (xs : List ℕ). Adds xs old new) (sym (each-more f n)) (both (each f n) (f (n + 1)) old between new before here)

-- texts that are the same one by one
each_same : (f g : ℕ → List ℕ) (n : ℕ) → ((k : ℕ) → 1 ≤ k → k ≤ n → f k ≡ g k) → each f n ≡ each g n
each_same f g zero same = each-nil f ∙ sym (each-nil g)
each_same f g (suc n) same =
    each-suc f n ∙ ap₂ (λ (xs ys : List ℕ). xs ++ ys) (each_same f g n (λ k least most. same k least (omega (arith, most)))) (same (suc n) (omega arith) (omega arith)) ∙ sym (each-suc g n)

module _ {X : Type 0} (told : ℕ → X → X → List ℕ) (blank : X) (f : ℕ → X) (old : List X) where
  -- what is told of one that is now what f says
  abbrev pub told_at : ℕ → List ℕ
  told_at n = told n (item blank old n) (f n)

  -- of one more
  pub told_more : (n : ℕ) (x : X) (out between new : Putting) → Adds (each told_at n) out between → Adds (told (n + 1) x (f (n + 1))) between new → x ≡ item blank old (n + 1)
      → Adds (each told_at (n + 1)) out new
  told_more n x out between new so_far here is = grown told_at n out between new so_far (subst (λ (y : X). Adds (told (n + 1) y (f (n + 1))) between new) is here)

  -- of all
  told_all : (n : ℕ) → each told_at n ≡ told_of told blank old (map f (range_with_len 1 n))
  told_all n =
      each_same told_at (λ (k : ℕ). told k (item blank old k) (item blank (map f (range_with_len 1 n)) k)) n
      (λ k least most. ap (told k (item blank old k)) (sym (get_or-map-range_with_len f 1 n (k - 1) k blank (omega (arith, least, most)) (omega (arith, least)))))
      ∙ ap (each (λ (k : ℕ). told k (item blank old k) (item blank (map f (range_with_len 1 n)) k))) (sym (length-map-range_with_len f 1 n))

  pub all_told : (n : ℕ) (out new : Putting) → Adds (each told_at n) out new → Adds (told_of told blank old (map f (range_with_len 1 n))) out new
  all_told n out new so_far = subst (λ (xs : List ℕ). Adds xs out new) (told_all n) so_far
