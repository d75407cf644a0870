-- Names are distinct, so no other object has the name of one.
use Rattle.std.proofs.Common.{◌≡◌, ◌∙◌, ℕ, ◌-◌, ◌<◌, ◌≤◌, cond, eqb, List, [], length, get_or, set, Option, Some, None, refl, sym, ap, subst, arith, length-set}
use Rattle.std.proofs.lemmas.List.{get_or-set_other}
use Rattle.std.proofs.lemmas.List.Sums.{get_or-le-sum_by, sum_by-set}
use Rattle.fmp_codes.specs.Kinds.{place_of}
use Rattle.fmp_codes.specs.declared.kinds.NameKind.TheVariants as name
use Rattle.fmp_codes.specs.declared.kinds.ObjectKind.{ObjectKind}
use Rattle.fmp_codes.specs.declared.kinds.ObjectKind.TheVariants as objects
use Rattle.fmp_names.specs.Names.{AreValid, NameLists, name_of, number_of, times}
use Rattle.fmp_names.proofs.Placed.{name_of-number_of, numbered, once_at}
use Rattle.fmp_names.proofs.Valid.{place_of-lt}
use Rattle.fmp_fact_words.specs.Told.{IsAlone, IsNamed}

-- ---- kinds have places of their own

abbrev kind_at : ℕ → ObjectKind
kind_at n =
    cond (eqb n 0) objects.Task (cond (eqb n 1) objects.Semaphore (cond (eqb n 2) objects.Eventflag (cond (eqb n 3) objects.DataQueue
    (cond (eqb n 4) objects.Pool (cond (eqb n 5) objects.Cyclic (cond (eqb n 6) objects.Alarm objects.SpinLock))))))

place_back : (k : ObjectKind) → kind_at (place_of k) ≡ k
place_back objects.Task = refl
place_back objects.Semaphore = refl
place_back objects.Eventflag = refl
place_back objects.DataQueue = refl
place_back objects.Pool = refl
place_back objects.Cyclic = refl
place_back objects.Alarm = refl
place_back objects.SpinLock = refl

places_differ : (a b : ObjectKind) → (a ≡ b → ⊥) → place_of a ≡ place_of b → ⊥
places_differ a b differ same = differ (sym (place_back a) ∙ ap kind_at same ∙ place_back b)

module _ (names : NameLists) (valid : AreValid names) where
  stands_in : (kind : ObjectKind) (n : ℕ) (word : List ℕ) → name_of names (name.Object kind) n ≡ Some word → 1 ≤ times word (get_or names.objects (place_of kind) [])
  stands_in kind n word is = once_at word (get_or names.objects (place_of kind) []) (n - 1) (numbered names (name.Object kind) n word is).1

  within : (kind : ObjectKind) → place_of kind < length names.objects
  within kind = omega (arith, valid.kinds, place_of-lt kind)

  not_twice : (kind other : ObjectKind) (n m : ℕ) (word : List ℕ) → name_of names (name.Object kind) n ≡ Some word → name_of names (name.Object other) m ≡ Some word → (other ≡ kind → ⊥) → ⊥
  not_twice kind other n m word is there differ =
      let i = place_of kind in
      let j = place_of other in
      let first = stands_in kind n word is in
      let second = subst (λ (l : List (List ℕ)). 1 ≤ times word l) (sym (get_or-set_other names.objects i j [] [] (places_differ other kind differ))) (stands_in other m word there) in
      let cut = sum_by-set (times word) names.objects i [] [] (within kind) in
      let long = length-set names.objects i [] in
      let least = get_or-le-sum_by (times word) (set names.objects i []) j [] (omega (arith, within other, long)) in
      omega (arith, first, second, cut, least, valid.distinct word)

  pub alone : (kind : ObjectKind) (n : ℕ) (it : IsNamed names kind n) → IsAlone names kind it.word
  alone kind n it other differ = by (number_of names (name.Object other) it.word) refl
    where
      by : (o : Option ℕ) → number_of names (name.Object other) it.word ≡ o → number_of names (name.Object other) it.word ≡ None
      by None is = is
      by (Some m) is = absurd (not_twice kind other n m it.word it.is (name_of-number_of names (name.Object other) m it.word is) differ)
