-- The first of tasks in order is the one that leads each of them, and there is no other.
use Rattle.std.proofs.Common.{◌≡◌, ℕ, zero, suc, ◌+◌, ◌<◌, ◌≤◌, ◌==◌, ltb, Bool, true, false, not, ◌&&◌, ◌||◌, ◌⊎◌, inl, inr, List, Option, None, Some, if◌then◌else◌, refl, ap, sym, ◌∙◌, subst, arith}
use Rattle.std.proofs.lemmas.Bool.{cases_Bool, eqb-true, eqb-false}
use Rattle.fmp_codes.specs.Numbers.{as_task}
use Rattle.fmp_codes.specs.declared.numbers.Task.{Task}
use Rattle.fmp_codes.proofs.Same.{tasks_same}
use Rattle.fmp_rules.specs.World.{item, first}
use Rattle.fmp_rules.specs.Arrivals.{in_order, comes_before}
use Rattle.fmp_plain_machine.specs.Better.{better}
use Rattle.fmp_plain_machine.specs.Tops.{ahead, is_task}
use Rattle.fmp_plain_machine.proofs.First.{first_in_order}

-- Of two tasks with ranks a and b, the numbers i and j that tell when they became ready, and the numbers m and k: the one stands before
-- the other or is it.
pub Stands : ℕ → ℕ → ℕ → ℕ → ℕ → ℕ → Type 0
Stands a i m b j k = (a < b) ⊎ ((a ≡ b) × ((i < j) ⊎ ((i ≡ j) × (m ≤ k))))

-- it has the lesser rank and number
comes : ℕ → ℕ → ℕ → ℕ → Bool
comes a i b j = ltb a b || (a == b && ltb i j)

stands_self : (a i m : ℕ) → Stands a i m a i m
unfolding Stands
stands_self a i m = grind arith

stands_then : (a i m b j k c l o : ℕ) → Stands a i m b j k → Stands b j k c l o → Stands a i m c l o
unfolding Stands
stands_then a i m b j k c l o x y = grind arith

stands_both : (a i m b j k : ℕ) → Stands a i m b j k → Stands b j k a i m → m ≡ k
unfolding Stands
stands_both a i m b j k x y = grind arith

stands_first : (a i m b j k : ℕ) → comes a i b j ≡ true → Stands a i m b j k
unfolding Stands comes
stands_first a i m b j k x = grind arith

stands_after : (a i m b j k : ℕ) → comes a i b j ≡ false → k ≤ m → Stands b j k a i m
unfolding Stands comes
stands_after a i m b j k x less = grind arith

stands_ahead : (a i m b j k : ℕ) → (comes a i b j || (not (comes b j a i) && ltb m k)) ≡ true → Stands a i m b j k
unfolding Stands comes
stands_ahead a i m b j k x = grind arith

stands_not_ahead : (a i m b j k : ℕ) → (comes a i b j || (not (comes b j a i) && ltb m k)) ≡ false → Stands b j k a i m
unfolding Stands comes
stands_not_ahead a i m b j k x = grind arith

left_true : (b c : Bool) → (b && c) ≡ true → b ≡ true
left_true true c both = refl
left_true false c both = both

clash : (b : Bool) → b ≡ true → b ≡ false → ⊥
clash b x y = grind (arith, x, y)

near : (t u : Task) → (u ≡ t) ⊎ (u.number ≡ t.number → ⊥)
near t u =
    elim (cases_Bool (u.number == t.number)) [
      | inl b ↦ inl (tasks_same u t (eqb-true u.number t.number b))
      | inr b ↦ inr (eqb-false u.number t.number b)
    ]

-- one of the tasks 1 to n + 1 is the last of them, or one of 1 to n
within : (n : ℕ) (t u : Task) → t.number ≡ n + 1 → u.number ≤ n + 1 → (u ≡ t) ⊎ (u.number ≤ n)
within n t u here most =
    elim (near t u) [
      | inl e ↦ inl e
      | inr d ↦ inr (omega (arith, here, most, λ (e : u.number ≡ n + 1). d (e ∙ sym here)))
    ]

module _ (rank : Task → ℕ) (ns : List ℕ) where
  -- of two tasks the one stands before the other, or is it
  pub Leads : Task → Task → Type 0
  Leads t u = Stands (rank t) (item 0 ns t.number) t.number (rank u) (item 0 ns u.number) u.number

  -- what leads each of the tasks 1 to n that qualify, and is one of them; or there is none
  unfoldable pub IsLeast : (Task → Bool) → ℕ → Option Task → Type 0
  IsLeast q n None = (v : Task) → v.number ≤ n → q v ≡ false
  IsLeast q n (Some u) = (u.number ≤ n) × ((q u ≡ true) × ((v : Task) → v.number ≤ n → q v ≡ true → Leads u v))

  leads_self : (t : Task) → Leads t t
  unfolding Leads
  leads_self t = stands_self (rank t) (item 0 ns t.number) t.number

  leads_then : (t u v : Task) → Leads t u → Leads u v → Leads t v
  unfolding Leads
  leads_then t u v x y = stands_then (rank t) (item 0 ns t.number) t.number (rank u) (item 0 ns u.number) u.number (rank v) (item 0 ns v.number) v.number x y

  before : Task → Task → Bool
  before = comes_before rank ns

  leads_first : (t u : Task) → comes_before rank ns t u ≡ true → Leads t u
  unfolding Leads comes
  leads_first t u x = stands_first (rank t) (item 0 ns t.number) t.number (rank u) (item 0 ns u.number) u.number x

  leads_after : (t u : Task) → comes_before rank ns t u ≡ false → u.number ≤ t.number → Leads u t
  unfolding Leads comes
  leads_after t u x less = stands_after (rank t) (item 0 ns t.number) t.number (rank u) (item 0 ns u.number) u.number x less

  -- one more task that does not qualify
  least_kept : (q : Task → Bool) (n : ℕ) (o : Option Task) (t : Task) → t.number ≡ n + 1 → q t ≡ false → IsLeast q n o → IsLeast q (n + 1) o
  unfolding IsLeast
  least_kept q n None t here out so_far = λ v most. elim (within n t v here most) [ inl e ↦ ap q e ∙ out | inr less ↦ so_far v less ]
  least_kept q n (Some u) t here out so_far = (
    omega (arith, so_far.0),
    (
      so_far.1.0,
      λ v most in_it.
          elim (within n t v here most) [
            | inl e ↦ absurd (clash (q v) in_it (ap q e ∙ out))
            | inr less ↦ so_far.1.1 v less in_it
          ],
    ),
  )

  -- one more task that does
  least_more : (q : Task → Bool) (n : ℕ) (o : Option Task) (t : Task) → t.number ≡ n + 1 → q t ≡ true → IsLeast q n o
      → IsLeast q (n + 1) (better (comes_before rank ns) t o)
  unfolding IsLeast
  least_more q n None t here it_is so_far = (
    omega (arith, here),
    (
      it_is,
      λ v most in_it.
          elim (within n t v here most) [
            | inl e ↦ subst (λ (x : Task). Leads t x) (sym e) (leads_self t)
            | inr less ↦ absurd (clash (q v) in_it (so_far v less))
          ],
    ),
  )
  least_more q n (Some u) t here it_is so_far =
      elim (cases_Bool (comes_before rank ns t u)) [
        | inl b ↦ rw b (
          omega (arith, here),
          (
            it_is,
            λ v most in_it.
                elim (within n t v here most) [
                  | inl e ↦ subst (λ (x : Task). Leads t x) (sym e) (leads_self t)
                  | inr less ↦ leads_then t u v (leads_first t u b) (so_far.1.1 v less in_it)
                ],
          ),
        )
        | inr b ↦ rw b (
          omega (arith, so_far.0),
          (
            so_far.1.0,
            λ v most in_it.
                elim (within n t v here most) [
                  | inl e ↦ subst (λ (x : Task). Leads u x) (sym e) (leads_after t u b (omega (arith, here, so_far.0)))
                  | inr less ↦ so_far.1.1 v less in_it
                ],
          ),
        )
      ]

  least_step : (q : Task → Bool) (n : ℕ) (o : Option Task) (t : Task) → t.number ≡ n + 1 → IsLeast q n o
      → IsLeast q (n + 1) (if q t then better (comes_before rank ns) t o else o)
  least_step q n o t here so_far =
      elim (cases_Bool (q t)) [
        | inl b ↦ rw b (least_more q n o t here b so_far)
        | inr b ↦ rw b (least_kept q n o t here b so_far)
      ]

  pub least_first : (q : Task → Bool) (n : ℕ) → n ≤ 64 → IsLeast q n (first (in_order q (comes_before rank ns) n))
  unfolding IsLeast
  least_first q zero few = λ v most. absurd (omega (arith, v.least, most))
  least_first q (suc n) few =
      let t : Task = as_task (n + 1) in
      let here : t.number ≡ n + 1 = omega (arith, few) in
      let so_far : IsLeast q n (first (in_order q (comes_before rank ns) n)) = least_first q n (omega (arith, few)) in
      let e : n + 1 ≡ suc n = omega arith in
      subst (λ (k : ℕ). IsLeast q k (first (in_order q (comes_before rank ns) k))) e
      (subst (λ (o : Option Task). IsLeast q (n + 1) o) (sym (first_in_order q (comes_before rank ns) n)) (least_step q n _ t here so_far))

  pub least_same : (q : Task → Bool) (n : ℕ) (o o' : Option Task) → IsLeast q n o → IsLeast q n o' → o ≡ o'
  unfolding IsLeast Leads
  least_same q n None None x y = refl
  least_same q n None (Some v) x y = absurd (clash (q v) y.1.0 (x v y.0))
  least_same q n (Some u) None x y = absurd (clash (q u) x.1.0 (y u x.0))
  least_same q n (Some u) (Some v) x y =
      ap Some (tasks_same u v (stands_both (rank u) (item 0 ns u.number) u.number (rank v) (item 0 ns v.number) v.number (x.1.1 v y.0 y.1.0) (y.1.1 u x.0 x.1.0)))

  -- the first of those that qualify is the first of those that pass a test besides, where it passes it
  least_among : (q test : Task → Bool) (n : ℕ) (u : Task) → test u ≡ true → IsLeast q n (Some u) → IsLeast (λ t. q t && test t) n (Some u)
  unfolding IsLeast
  least_among q test n u passes least = (
    least.0,
    (rw (least.1.0, passes) refl, λ v most in_it. least.1.1 v most (left_true (q v) (test v) in_it)),
  )

  pub first_among : (q test : Task → Bool) (n : ℕ) (u : Task) → n ≤ 64 → first (in_order q (comes_before rank ns) n) ≡ Some u → test u ≡ true
      → first (in_order (λ t. q t && test t) (comes_before rank ns) n) ≡ Some u
  first_among q test n u few is passes =
      least_same (λ t. q t && test t) n _ (Some u) (least_first (λ t. q t && test t) n few)
      (least_among q test n u passes (subst (λ (o : Option Task). IsLeast q n o) is (least_first q n few)))

-- what a task says of its place
unfoldable pub Alike : (rank rank' : Task → ℕ) (ns ns' : List ℕ) (q q' : Task → Bool) → Task → Type 0
Alike rank rank' ns ns' q q' v = (q' v ≡ q v) × ((rank' v ≡ rank v) × (item 0 ns' v.number ≡ item 0 ns v.number))

-- one task changes, which was not the first
module _ (rank rank' : Task → ℕ) (ns ns' : List ℕ) (q q' : Task → Bool) (n : ℕ) (t : Task) (others : (v : Task) → (v.number ≡ t.number → ⊥) → Alike rank rank' ns ns' q q' v) where
  leads_still : (u v : Task) → (u.number ≡ t.number → ⊥) → (v.number ≡ t.number → ⊥) → Leads rank ns u v → Leads rank' ns' u v
  unfolding Leads Alike
  leads_still u v x y leads =
      let a = others u x in
      let b = others v y in
      rw (a.1.0, a.1.1, b.1.0, b.1.1) leads

  was : (v : Task) → (v.number ≡ t.number → ⊥) → q' v ≡ true → q v ≡ true
  unfolding Alike
  was v d in_it = sym (others v d).0 ∙ in_it

  least_without : (o : Option Task) → is_task t o ≡ false → q' t ≡ false → IsLeast rank ns q n o → IsLeast rank' ns' q' n o
  unfolding IsLeast Alike
  least_without None other out least = λ v most. elim (near t v) [ inl e ↦ ap q' e ∙ out | inr d ↦ (others v d).0 ∙ least v most ]
  least_without (Some u) other out least =
      let d : u.number ≡ t.number → ⊥ = eqb-false u.number t.number other in (
        least.0,
        (
          (others u d).0 ∙ least.1.0,
          λ v most in_it.
              elim (near t v) [
                | inl e ↦ absurd (clash (q' v) in_it (ap q' e ∙ out))
                | inr f ↦ leads_still u v d f (least.1.1 v most (was v f in_it))
              ],
        ),
      )

  least_with : (o : Option Task) → is_task t o ≡ false → q' t ≡ true → t.number ≤ n → IsLeast rank ns q n o → IsLeast rank' ns' q' n (ahead (comes_before rank' ns') t o)
  unfolding IsLeast Alike Leads comes
  least_with None other it_is there least = (
    there,
    (
      it_is,
      λ v most in_it.
          elim (near t v) [
            | inl e ↦ subst (λ (x : Task). Leads rank' ns' t x) (sym e) (leads_self rank' ns' t)
            | inr f ↦ absurd (clash (q v) (was v f in_it) (least v most))
          ],
    ),
  )
  least_with (Some u) other it_is there least =
      let d : u.number ≡ t.number → ⊥ = eqb-false u.number t.number other in
      elim (cases_Bool (comes_before rank' ns' t u || (not (comes_before rank' ns' u t) && ltb t.number u.number))) [
        | inl b ↦ rw b (
          there,
          (
            it_is,
            λ v most in_it.
                elim (near t v) [
                  | inl e ↦ subst (λ (x : Task). Leads rank' ns' t x) (sym e) (leads_self rank' ns' t)
                  | inr f ↦ leads_then rank' ns' t u v
                      (stands_ahead (rank' t) (item 0 ns' t.number) t.number (rank' u) (item 0 ns' u.number) u.number b)
                      (leads_still u v d f (least.1.1 v most (was v f in_it)))
                ],
          ),
        )
        | inr b ↦ rw b (
          least.0,
          (
            (others u d).0 ∙ least.1.0,
            λ v most in_it.
                elim (near t v) [
                  | inl e ↦ subst (λ (x : Task). Leads rank' ns' u x) (sym e)
                      (stands_not_ahead (rank' t) (item 0 ns' t.number) t.number (rank' u) (item 0 ns' u.number) u.number b)
                  | inr f ↦ leads_still u v d f (least.1.1 v most (was v f in_it))
                ],
          ),
        )
      ]

  pub least_changed : (o : Option Task) → is_task t o ≡ false → (q' t ≡ true → t.number ≤ n) → IsLeast rank ns q n o
      → IsLeast rank' ns' q' n (if q' t then ahead (comes_before rank' ns') t o else o)
  least_changed o other there least =
      elim (cases_Bool (q' t)) [
        | inl b ↦ rw b (least_with o other b (there b) least)
        | inr b ↦ rw b (least_without o other b least)
      ]
