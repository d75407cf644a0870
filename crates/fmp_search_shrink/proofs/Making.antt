-- The calls of a runner in a list, one item after the other.
use Rattle.std.proofs.Common.{◌≡◌, ℕ, ◌+◌, ◌-◌, ◌<◌, ◌≤◌, true, false, ltb, inl, inr, List, [], ◌∷◌, ◌++◌, length, drop, get_or, refl, sym, ap, subst, ◌∙◌, arith, append_assoc}
use Rattle.std.proofs.lemmas.List.{append-nil, drop_all, drop_more}
use Rattle.std.proofs.lemmas.Option.{slice_get_cases, slice_get_read}
use Rattle.std.specs.Prelude.{◌↔◌, IfSome, IsTrue, Option, slice_get}
use Rattle.std.proofs.lemmas.Bool.{cases_Bool, lt-ltb, le-ltb}
use Rattle.fmp_codes.proofs.Same.{as_object-number, as_task-number}
use Rattle.fmp_codes.specs.declared.records.Record.{Record}
use Rattle.fmp_codes.specs.declared.records.Runner.{Runner}
use Rattle.fmp_codes.specs.declared.records.Runner.TheVariants as runners
use Rattle.fmp_search_shrink.specs.Runners.{IsPartOf, calls_by, is_same, made_by, made_in, runner_at}
use Rattle.fmp_search_shrink.specs.declared.made.Made.{Made}
use Rattle.fmp_search_shrink.proofs.Parts.{both_go, other_goes}

pub made_in-more : (rs : List Record) (r : Record) → made_in (rs ++ r ∷ []) ≡ made_in rs ++ made_by r.runner r.event
made_in-more [] r = append-nil (made_by r.runner r.event)
made_in-more (x ∷ rs) r = ap (λ (l : List Made). made_by x.runner x.event ++ l) (made_in-more rs r) ∙ sym (append_assoc (made_by x.runner x.event) (made_in rs) (made_by r.runner r.event))

module _ (runner : Runner) where
  -- the runner's calls, where the first item is its own and where it is not
  pub own_first : (m : Made) (made : List Made) → is_same runner m.runner ≡ true → calls_by runner (m ∷ made) ≡ m.call ∷ calls_by runner made
  own_first m made own = rw own refl

  other_first : (m : Made) (made : List Made) → is_same runner m.runner ≡ false → calls_by runner (m ∷ made) ≡ calls_by runner made
  other_first m made other = rw other refl

  -- its first call in the one list is the first item of the other, or it is not
  pub call_found : (m o : Made) (made given : List Made) → is_same runner m.runner ≡ true → is_same runner o.runner ≡ true → m.call ≡ o.call
      → IsPartOf (calls_by runner (m ∷ made)) (calls_by runner (o ∷ given)) ↔ IsPartOf (calls_by runner made) (calls_by runner given)
  call_found m o made given own theirs same =
      rw (own_first m made own, own_first o given theirs) (both_go m.call o.call (calls_by runner made) (calls_by runner given) same)

  pub call_passed : (m o : Made) (made given : List Made) → is_same runner m.runner ≡ true → ((is_same runner o.runner ≡ true) × (m.call ≡ o.call) → ⊥)
      → IsPartOf (calls_by runner (m ∷ made)) (calls_by runner (o ∷ given)) ↔ IsPartOf (calls_by runner (m ∷ made)) (calls_by runner given)
  call_passed m o made given own other =
      elim (cases_Bool (is_same runner o.runner)) [
        | inl t ↦ rw (own_first m made own, own_first o given t) (other_goes m.call o.call (calls_by runner made) (calls_by runner given) (λ same. other (t, same)))
        | inr f ↦ rw (other_first o given f) (λ part. part, λ part. part)
      ]

-- the item at a place stands before the rest
pub item_first : (made : List Made) (i : ℕ) (m : Made) → i < length made → m ≡ get_or made i m → drop i made ≡ m ∷ drop (i + 1) made
item_first made i m small is = drop_more made i m small ∙ ap (λ (x : Made). x ∷ drop (i + 1) made) (sym is)

-- ---- what is left of two lists, of which the one is looked for in the other

module _ (runner : Runner) (made given : List Made) where
  -- the rest of the one list, from one place on, is in the rest of the other
  abbrev pub RestIsPart : ℕ → ℕ → Type 0
  RestIsPart at passed = IsPartOf (calls_by runner (drop at made)) (calls_by runner (drop passed given))

  module _ (at passed : ℕ) (m : Made) (small : at < length made) (is : m ≡ get_or made at m) (own : IfSome (slice_get made at) (λ x. IsTrue (is_same runner x.runner))) where
    here : drop at made ≡ m ∷ drop (at + 1) made
    here = item_first made at m small is

    pub own_here : is_same runner m.runner ≡ true
    own_here = subst (λ (found : Option Made). IfSome found (λ x. IsTrue (is_same runner x.runner))) (slice_get_read made (length made) at m refl small is) own

    pub rest_found : (next : ℕ) (o : Made) → passed < length given → o ≡ get_or given passed o → is_same runner o.runner ≡ true → m.call ≡ o.call
        → calls_by runner (drop next made) ≡ calls_by runner (drop (at + 1) made) → RestIsPart at passed ↔ RestIsPart next (passed + 1)
    rest_found next o less item theirs same from =
        let there = item_first given passed o less item in
        rw (here, there, from) (call_found runner m o (drop (at + 1) made) (drop (passed + 1) given) own_here theirs same)

    pub rest_passed : (o : Made) → passed < length given → o ≡ get_or given passed o → ((is_same runner o.runner ≡ true) × (m.call ≡ o.call) → ⊥) → RestIsPart at passed ↔ RestIsPart at (passed + 1)
    rest_passed o less item other =
        let there = item_first given passed o less item in
        rw (here, there) (call_passed runner m o (drop (at + 1) made) (drop (passed + 1) given) own_here other)

  -- a call is left, and nothing to look for it in
  pub none_left : (at passed : ℕ) → at < length made → IfSome (slice_get made at) (λ x. IsTrue (is_same runner x.runner)) → length given ≤ passed → RestIsPart at passed → ⊥
  none_left at passed small own past part =
      elim (slice_get_cases made at).1 [
        | inl found ↦
            let m = found.0 in
            let first = item_first made at m small (sym found.3) in
            let mine : is_same runner m.runner ≡ true = subst (λ (o : Option Made). IfSome o (λ x. IsTrue (is_same runner x.runner))) found.2 own in
            let nothing = drop_all passed given past in
            let calls = own_first runner m (drop (at + 1) made) mine in
            (rw (first, nothing, calls) at part)
        | inr none ↦ absurd (let end = none.0 in omega (arith, end, small))
      ]

  -- no call is left
  pub all_found : (at passed : ℕ) → length made ≤ at → RestIsPart at passed
  all_found at passed past = let nothing = drop_all at made past in rw nothing tt

-- one step after the other
pub both_steps : {A B C : Type 0} → A ↔ B → B ↔ C → A ↔ C
both_steps f g = (λ a. g.0 (f.0 a), λ c. f.1 (g.1 c))

-- every runner has a number
pub has_number : (runner : Runner) → (n : ℕ) × (n < 128) × (runner_at n ≡ runner)
has_number (runners.Task t) =
    let least = t.least in let most = t.most in
    let low : ltb (t.number - 1) 64 ≡ true = lt-ltb (t.number - 1) 64 (omega (arith, least, most)) in
    let next : t.number - 1 + 1 ≡ t.number = omega (arith, least) in
    (t.number - 1, omega (arith, least, most), rw (low, next) (ap runners.Task (as_task-number t)))
has_number (runners.Alarm o) =
    let least = o.least in let most = o.most in
    let high : ltb (o.number + 63) 64 ≡ false = le-ltb (o.number + 63) 64 (omega (arith, least)) in
    let low : ltb (o.number + 63) 96 ≡ true = lt-ltb (o.number + 63) 96 (omega (arith, most)) in
    let same : o.number + 63 - 63 ≡ o.number = omega arith in
    (o.number + 63, omega (arith, most), rw (high, low, same) (ap runners.Alarm (as_object-number o)))
has_number (runners.Cyclic o) =
    let least = o.least in let most = o.most in
    let high : ltb (o.number + 95) 64 ≡ false = le-ltb (o.number + 95) 64 (omega (arith, least)) in
    let higher : ltb (o.number + 95) 96 ≡ false = le-ltb (o.number + 95) 96 (omega (arith, least)) in
    let same : o.number + 95 - 95 ≡ o.number = omega arith in
    (o.number + 95, omega (arith, most), rw (high, higher, same) (ap runners.Cyclic (as_object-number o)))
