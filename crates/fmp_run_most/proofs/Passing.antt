-- Which figure is the first that is beyond its bound.
use Rattle.std.proofs.Common.{◌≡◌, ◌∙◌, ℕ, zero, suc, ◌+◌, ◌*◌, ◌<◌, ◌≤◌, Bool, true, false, cond, List, [], ◌∷◌, Some, refl, ap, sym, subst, arith}
use Rattle.std.specs.Prelude.{slice_get, slice_index}
use Rattle.fmp_rules.specs.World.{World}
use Rattle.fmp_run_most.specs.declared.figure.Figure.{Figure}
use Rattle.fmp_run_most.specs.Figures.{is_beyond, value}
use Rattle.fmp_run_most.specs.Gauged.{first_beyond}

module _ {Q : Type 0} (w : World Q) where
  -- no number of a figure is that of another
  pub value_few : (f : Figure) → value w f < 65536
  unfolding value
  value_few f = omega arith

  module _ (bs : List ℕ) where
    abbrev at : List Figure → ℕ → ℕ
    at fs k = first_beyond w fs bs k

    abbrev here : Figure → ℕ → Bool
    here f k = is_beyond f.measure (slice_index bs k) (value w f)

    low : (fs : List Figure) (k : ℕ) → k * 65536 ≤ at fs k
    low [] k = omega arith
    low (f ∷ fs) k = go (here f k) (low fs (k + 1))
      where
        go : (b : Bool) → (k + 1) * 65536 ≤ at fs (k + 1) → k * 65536 ≤ cond b (k * 65536 + value w f) (at fs (k + 1))
        go true more = omega arith
        go false more = omega (arith, more)

    -- what is told is the number of the figure whose place it says
    pub told_is : (fs : List Figure) (k j v : ℕ) (f : Figure) → slice_get fs j ≡ Some f → v < 65536 → at fs k ≡ (k + j) * 65536 + v → value w f ≡ v
    told_is [] k j v f is few e = cc
    told_is (g ∷ gs) k zero v f is few e = go (here g k) e
      where
        same : g ≡ f
        same = cc

        go : (b : Bool) → cond b (k * 65536 + value w g) (at gs (k + 1)) ≡ (k + 0) * 65536 + v → value w f ≡ v
        go true e' = let this : value w g ≡ v = omega (arith, e') in subst (λ (x : Figure). value w x ≡ v) same this
        go false e' = let more = low gs (k + 1) in absurd (omega (arith, more, e', few))
    told_is (g ∷ gs) k (suc j) v f is few e = go (here g k) (λ later. told_is gs (k + 1) j v f is few later) e
      where
        go : (b : Bool) → (at gs (k + 1) ≡ (k + 1 + j) * 65536 + v → value w f ≡ v) → cond b (k * 65536 + value w g) (at gs (k + 1)) ≡ (k + suc j) * 65536 + v → value w f ≡ v
        go true rest e' = let small = value_few g in absurd (omega (arith, small, e'))
        go false rest e' = let sum : (k + suc j) * 65536 + v ≡ (k + 1 + j) * 65536 + v = omega arith in rest (e' ∙ sum)

    -- the first figure that is beyond its bound, no later than this one
    pub record First (fs : List Figure) (k j : ℕ) : Type 0 where
      pub place : ℕ
      pub figure : Figure
      pub early : place ≤ j
      pub is : slice_get fs place ≡ Some figure
      pub past : here figure (k + place) ≡ true
      pub told : at fs k ≡ (k + place) * 65536 + value w figure

    pub first_of : (fs : List Figure) (k j : ℕ) (f : Figure) → slice_get fs j ≡ Some f → here f (k + j) ≡ true → First fs k j
    first_of [] k j f is past = cc
    first_of (g ∷ gs) k zero f is past =
        let same : g ≡ f = cc in
        let none : k + 0 ≡ k = omega arith in
        let this : here g k ≡ true = subst (λ (x : Figure). here x k ≡ true) (sym same) (subst (λ n. here f n ≡ true) none past) in
        record {
          place = 0;
          figure = g;
          early = omega arith;
          is = refl;
          past = subst (λ n. here g n ≡ true) (sym none) this;
          told = ap (λ b. cond b (k * 65536 + value w g) (at gs (k + 1))) this ∙ omega arith;
        }
    first_of (g ∷ gs) k (suc j) f is past = go (here g k) (λ later. first_of gs (k + 1) j f is later) refl
      where
        next : k + suc j ≡ (k + 1) + j
        next = omega arith

        go : (b : Bool) → (here f ((k + 1) + j) ≡ true → First gs (k + 1) j) → here g k ≡ b → First (g ∷ gs) k (suc j)
        go true rest this =
            let none : k + 0 ≡ k = omega arith in
            record {
              place = 0;
              figure = g;
              early = omega arith;
              is = refl;
              past = subst (λ n. here g n ≡ true) (sym none) this;
              told = ap (λ b. cond b (k * 65536 + value w g) (at gs (k + 1))) this ∙ omega arith;
            }
        go false rest this =
            let more = rest (subst (λ n. here f n ≡ true) next past) in
            let early = more.early in
            let sum : (k + 1) + more.place ≡ k + suc more.place = omega arith in
            record {
              place = suc more.place;
              figure = more.figure;
              early = omega (arith, early);
              is = more.is;
              past = subst (λ n. here more.figure n ≡ true) sum more.past;
              told = ap (λ b. cond b (k * 65536 + value w g) (at gs (k + 1))) this ∙ (more.told ∙ ap (λ n. n * 65536 + value w more.figure) sum);
            }
