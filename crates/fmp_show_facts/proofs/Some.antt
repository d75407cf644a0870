-- One more of what is looked through.
use Rattle.std.proofs.Common.{◌≡◌, ◌∙◌, ℕ, suc, ◌+◌, ◌-◌, ◌<◌, ℤ, pos, Bool, true, false, ◌||◌, List, length, drop, get_or, map, ap, sym, refl, arith, Option, Some}
use Rattle.std.specs.Prelude.{slice_get}
use Rattle.std.specs.List.{list_any, range_with_len}
use Rattle.std.specs.Ordering.{int_eq}
use Rattle.std.proofs.lemmas.List.{drop_more}
use Rattle.std.proofs.lemmas.Option.{slice_get-get_or}
use Rattle.fmp_facts.specs.declared.facts.Kind.{Kind}
use Rattle.fmp_facts.specs.declared.facts.Thing.{Thing}
use Rattle.fmp_show_facts.specs.Facts.{is_value, thing_of}

or_true : (a b : Bool) → a ≡ true → (a || b) ≡ true
or_true true b is = refl
or_true false b is = cc

or_false : (a b : Bool) → a ≡ false → (a || b) ≡ b
or_false false b is = refl
or_false true b is = cc

-- ---- things of a kind

-- those of a kind that are left after the first i of n
abbrev pub left_of : Kind → ℕ → ℕ → List Thing
left_of k i n = map (thing_of k) (range_with_len (i + 1) (n - i))

module _ (f : Thing → Bool) (k : Kind) (i n : ℕ) (lt : i < n) where
  unrolled : list_any f (left_of k i n) ≡ (f (thing_of k (i + 1)) || list_any f (left_of k (i + 1) n))
  unrolled =
      let more : n - i ≡ suc (n - (i + 1)) = omega (arith, lt) in
      ap (λ m. list_any f (map (thing_of k) (range_with_len (i + 1) m))) more

  pub this_one : (x : Thing) (b whole : Bool) → x ≡ thing_of k (i + 1) → b ≡ f x → b ≡ true → list_any f (left_of k i n) ≡ whole → whole ≡ true
  this_one x b whole is has so before = sym before ∙ (unrolled ∙ or_true (f (thing_of k (i + 1))) (list_any f (left_of k (i + 1) n)) (ap f (sym is) ∙ (sym has ∙ so)))

  pub later_ones : (x : Thing) (b whole : Bool) → x ≡ thing_of k (i + 1) → b ≡ f x → b ≡ false → list_any f (left_of k i n) ≡ whole → list_any f (left_of k (i + 1) n) ≡ whole
  later_ones x b whole is has nay before = sym (unrolled ∙ or_false (f (thing_of k (i + 1))) (list_any f (left_of k (i + 1) n)) (ap f (sym is) ∙ (sym has ∙ nay))) ∙ before

-- ---- values of a data queue

module _ (v : ℤ) (vs : List ℤ) (i : ℕ) (lt : i < length vs) where
  value_here : list_any (int_eq v) (drop i vs) ≡ (int_eq v (get_or vs i (pos 0)) || list_any (int_eq v) (drop (i + 1) vs))
  value_here = ap (list_any (int_eq v)) (drop_more vs i (pos 0) lt)

  same_value : (o : Option ℤ) (b : Bool) → o ≡ slice_get vs i → b ≡ is_value v o → b ≡ int_eq v (get_or vs i (pos 0))
  same_value o b is has = has ∙ (ap (is_value v) (is ∙ slice_get-get_or vs i (pos 0) lt))

  pub this_value : (o : Option ℤ) (b whole : Bool) → o ≡ slice_get vs i → b ≡ is_value v o → b ≡ true → list_any (int_eq v) (drop i vs) ≡ whole → whole ≡ true
  this_value o b whole is has so before = sym before ∙ (value_here ∙ or_true (int_eq v (get_or vs i (pos 0))) _ (sym (same_value o b is has) ∙ so))

  pub later_value : (o : Option ℤ) (b whole : Bool) → o ≡ slice_get vs i → b ≡ is_value v o → b ≡ false → list_any (int_eq v) (drop i vs) ≡ whole
      → list_any (int_eq v) (drop (i + 1) vs) ≡ whole
  later_value o b whole is has nay before = sym (value_here ∙ or_false (int_eq v (get_or vs i (pos 0))) _ (sym (same_value o b is has) ∙ nay)) ∙ before
