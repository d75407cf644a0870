-- Tables: a value for each item, at its place.
use Rattle.std.proofs.Common.{◌≡◌, ℕ, ◌<◌, ◌==◌, Bool, cond, length, map, set, sym, ap, ◌∙◌, arith, ⊎_elim}
use Rattle.std.specs.Prelude.{slice_index_or}
use Rattle.std.proofs.lemmas.Bool.{cases_eq, eq-eqb, ne_eqb}
use Rattle.std.proofs.lemmas.List.{get_or-set_same, get_or-set_other, length-set, ext_get_or, get_or-map, length-map}
use Rattle.std.proofs.lemmas.List.FromFn.{get_or-map-range_with_len, length-map-range_with_len}
use Rattle.fmp_time.specs.Shown.{table}

module _ {X : Type 0} where
  pub at-table : (f : ℕ → X) (k : ℕ) (d : X) → k < 128 → slice_index_or (table f) k d ≡ f k
  unfolding table
  at-table f k d h = get_or-map-range_with_len f 0 128 k k d h (omega arith)

  pub length-table : (f : ℕ → X) → length (table f) ≡ 128
  unfolding table
  length-table f = length-map-range_with_len f 0 128

  pub table-same : (f g : ℕ → X) → ((k : ℕ) → k < 128 → f k ≡ g k) → table f ≡ table g
  table-same f g h =
      ext_get_or (f 0) (table f) (table g) (length-table f ∙ sym (length-table g))
      (λ k l. let low : k < 128 = omega (arith, l, length-table f) in at-table f k (f 0) low ∙ h k low ∙ sym (at-table g k (f 0) low))

  pub table-set : (f : ℕ → X) (k : ℕ) (v : X) → k < 128 → table (λ u. cond (u == k) v (f u)) ≡ set (table f) k v
  table-set f k v h =
      let g : ℕ → X = λ u. cond (u == k) v (f u) in
      ext_get_or v (table (λ u. cond (u == k) v (f u))) (set (table f) k v) (length-table g ∙ sym (length-set (table f) k v ∙ length-table f))
      (λ j l.
      let low : j < 128 = omega (arith, l, length-table g) in
      at-table g j v low
      ∙ ⊎_elim (λ (e : j ≡ k). ap (λ (b : Bool). cond b v (f j)) (eq-eqb j k e) ∙ sym (ap (λ (i : ℕ). slice_index_or (set (table f) k v) i v) e ∙ get_or-set_same (table f) k v v (omega (arith, h, length-table f))))
      (λ (e : j ≡ k → ⊥). ap (λ (b : Bool). cond b v (f j)) (ne_eqb j k e) ∙ sym (get_or-set_other (table f) k j v v e ∙ at-table f j v low))
      (cases_eq j k))

pub table-map : {X : Type 0} (h : X → X) (f : ℕ → X) → table (λ k. h (f k)) ≡ map h (table f)
table-map h f =
    ext_get_or (h (f 0)) (table (λ k. h (f k))) (map h (table f)) (length-table (λ k. h (f k)) ∙ sym (length-map (table f) h ∙ length-table f))
    (λ j l.
    let low : j < 128 = omega (arith, l, length-table (λ k. h (f k))) in
    at-table (λ k. h (f k)) j (h (f 0)) low ∙ ap h (sym (at-table f j (f 0) low))
    ∙ sym (get_or-map h (table f) j (f 0) (h (f 0)) (omega (arith, low, length-table f))))
