-- Objects that become, one after the other, as those are that have given numbers among others.
use Rattle.std.proofs.Common.{◌≡◌, ◌∙◌, ℕ, zero, suc, ◌+◌, ◌<◌, ◌≤◌, List, [], ◌∷◌, length, take, slice_index_or, slice_set, refl, sym, ap, subst, arith}
use Rattle.std.specs.Prelude.{Some, slice_get}
use Rattle.std.proofs.lemmas.List.{get_or-set_same, get_or-set_other, length-set, take_all, take_more_same, take-set}
use Rattle.std.proofs.lemmas.Option.{same_Some}
use Rattle.fmp_interned.specs.Parts.{AreNumbersOf}
use Rattle.fmp_interned.proofs.Parts.{same_values}
use Rattle.fmp_kernel_objects.specs.Fitting.{AreFitting}

module _ {V : Type 0} where
  -- there are as many numbers as values
  pub numbers_long : (kept : List V) (numbers : List ℕ) (values : List V) → AreNumbersOf kept numbers values → length values ≡ length numbers
  numbers_long kept [] [] are = refl
  numbers_long kept [] (v ∷ vs) are = absurd are
  numbers_long kept (n ∷ ns) [] are = absurd are
  numbers_long kept (n ∷ ns) (v ∷ vs) are = ap suc (numbers_long kept ns vs are.1)

  -- the value of a number stands at its place
  pub numbers_at : (kept : List V) (numbers : List ℕ) (values : List V) (i : ℕ) (d : V) → AreNumbersOf kept numbers values → i < length numbers →
      slice_get kept (slice_index_or numbers i 0) ≡ Some (slice_index_or values i d)
  numbers_at kept [] vs i d are small = absurd (omega (arith, small))
  numbers_at kept (n ∷ ns) [] i d are small = absurd are
  numbers_at kept (n ∷ ns) (v ∷ vs) zero d are small = are.0
  numbers_at kept (n ∷ ns) (v ∷ vs) (suc i) d are small = numbers_at kept ns vs i d are.1 (omega (arith, small))

-- the first so many items have become the values of their numbers, and those after them have the memory to do so
pub record AreBecoming {V : Type 0} (fits : V → V → Type 0) (kept : List V) (numbers : List ℕ) (at : ℕ) (items : List V) : Type 0 where
  pub long : length items ≡ length numbers
  pub same : (xs : List V) → AreNumbersOf kept numbers xs → take at items ≡ take at xs
  pub fitting : (xs : List V) → AreNumbersOf kept numbers xs → (k : ℕ) (a b : V) → at ≤ k → k < length numbers → fits (slice_index_or items k a) (slice_index_or xs k b)

module _ {V : Type 0} (fits : V → V → Type 0) (kept : List V) (numbers : List ℕ) (items : List V) where
  pub becoming_first : (values : List V) → AreNumbersOf kept numbers values → AreFitting fits items values → AreBecoming fits kept numbers 0 items
  becoming_first values are fit = record {
    long = fit.long ∙ numbers_long kept numbers values are;
    same = λ xs others. refl;
    fitting = λ xs others k a b after small.
        let long = numbers_long kept numbers values are in
        subst (λ (vs : List V). fits (slice_index_or items k a) (slice_index_or vs k b)) (same_values kept numbers values xs are others)
        (fit.each k a b (omega (arith, long, small)));
  }

  -- the next one has the memory for its value
  pub becoming_fits : (values : List V) (at : ℕ) (a v : V) → AreNumbersOf kept numbers values → AreBecoming fits kept numbers at items → at < length numbers →
      a ≡ slice_index_or items at a → slice_get kept (slice_index_or numbers at 0) ≡ Some v → fits a v
  becoming_fits values at a v are becoming small here is =
      let same = same_Some v (slice_index_or values at v) (sym is ∙ numbers_at kept numbers values at v are small) in
      subst (λ (x : V). fits x v) (sym here)
      (subst (λ (x : V). fits (slice_index_or items at a) x) (sym same) (becoming.fitting values are at a v (omega arith) small))

  -- and becomes it
  pub becoming_next : (at : ℕ) (v : V) → AreBecoming fits kept numbers at items → at < length numbers → slice_get kept (slice_index_or numbers at 0) ≡ Some v →
      AreBecoming fits kept numbers (at + 1) (slice_set items at v)
  becoming_next at v becoming small is =
      let long = becoming.long in
      let set_long = length-set items at v in record {
        long = set_long ∙ long;
        same = λ xs are.
            let as_long = numbers_long kept numbers xs are in
            take_more_same (slice_set items at v) xs at v (omega (arith, set_long, long, small)) (omega (arith, as_long, small)) (take-set items at v ∙ becoming.same xs are)
            (get_or-set_same items at v v (omega (arith, long, small)) ∙ same_Some v (slice_index_or xs at v) (sym is ∙ numbers_at kept numbers xs at v are small));
        fitting = λ xs are k a b after low.
            subst (λ (x : V). fits x (slice_index_or xs k b)) (sym (get_or-set_other items at k v a (λ e. omega (arith, after, e))))
            (becoming.fitting xs are k a b (omega (arith, after)) low);
      }

  -- in the end all have
  pub becoming_last : (at : ℕ) (xs : List V) → AreBecoming fits kept numbers at items → length numbers ≤ at → AreNumbersOf kept numbers xs → items ≡ xs
  becoming_last at xs becoming past are =
      let long = becoming.long in
      let as_long = numbers_long kept numbers xs are in
      sym (take_all at items (omega (arith, long, past))) ∙ becoming.same xs are ∙ take_all at xs (omega (arith, as_long, past))

-- where nothing is needed of memory, as many fit
pub all_fitting : {V : Type 0} (fits : V → V → Type 0) (kept : List V) (numbers : List ℕ) (items values : List V) → ((a b : V) → fits a b) →
    length numbers ≡ length items → AreNumbersOf kept numbers values → AreFitting fits items values
all_fitting fits kept numbers items values any long are = record {
  long = sym (numbers_long kept numbers values are ∙ long);
  each = λ k a b small. any (slice_index_or items k a) (slice_index_or values k b);
}
