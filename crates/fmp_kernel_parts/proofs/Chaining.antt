-- What a change of links does to a chain.
use Rattle.std.proofs.Common.{◌≡◌, ℕ, zero, suc, ◌<◌, ◌≤◌, true, false, List, [], ◌∷◌, ◌++◌, length, refl, sym, ap, ◌∙◌, subst, arith, ⊎_elim}
use Rattle.std.proofs.lemmas.Bool.{cases_eq, cases_lt, eq-eqb, ne_eqb, lt-ltb, le-ltb}
use Rattle.std.specs.Prelude.{IfSome}
use Rattle.fmp_kernel_parts.specs.Lists.{has, without, inserted, AreDistinct, first_of}
use Rattle.fmp_kernel_parts.specs.Rings.{IsChain, walk, item_at}
use Rattle.fmp_kernel_parts.proofs.Having.{has_here, has_there, has_after, has_as, has_wider, has_narrower, lacks, lacks_first, lacks_after, ne, without_lacking}

-- t is put before b
pub record Linked (n p m q : ℕ → ℕ) (b t : ℕ) : Type 0 where
  pub before : m (p b) ≡ t
  pub next : m t ≡ b
  pub prev : q t ≡ p b
  pub following : q b ≡ t
  pub next_rest : (k : ℕ) → (k ≡ p b → ⊥) → (k ≡ t → ⊥) → m k ≡ n k
  pub prev_rest : (k : ℕ) → (k ≡ t → ⊥) → (k ≡ b → ⊥) → q k ≡ p k

-- t is left out
pub record Unlinked (n p m q : ℕ → ℕ) (t : ℕ) : Type 0 where
  pub over : m (p t) ≡ n t
  pub back : q (n t) ≡ p t
  pub next_rest : (k : ℕ) → (k ≡ p t → ⊥) → (k ≡ t → ⊥) → m k ≡ n k
  pub prev_rest : (k : ℕ) → (k ≡ n t → ⊥) → q k ≡ p k

-- a chain whose links stay
pub frame : (n p m q : ℕ → ℕ) (a : ℕ) (xs : List ℕ) (z : ℕ) → ((k : ℕ) → has k (a ∷ xs) ≡ true → m k ≡ n k) → ((k : ℕ) → has k (z ∷ xs) ≡ true → q k ≡ p k) →
    IsChain n p a xs z → IsChain m q a xs z
frame n p m q a [] z f g c = (f a (has_here a []) ∙ c.0, g z (has_here z []) ∙ c.1)
frame n p m q a (x ∷ xs) z f g c = (
  f a (has_here a (x ∷ xs)) ∙ c.0,
  g x (has_there x z (x ∷ xs) (has_here x xs)) ∙ c.1,
  frame n p m q x xs z (λ k e. f k (has_there k a (x ∷ xs) e)) (λ k e. g k (has_wider k z x xs e)) c.2,
)

-- who stands before one that is there, and after one
pub prev_there : (n p : ℕ → ℕ) (a : ℕ) (xs : List ℕ) (z b : ℕ) → IsChain n p a xs z → has b (z ∷ xs) ≡ true → has (p b) (a ∷ xs) ≡ true
prev_there n p a [] z b c h =
    ⊎_elim (λ (e : b ≡ z). has_as (p b) a (a ∷ []) (ap p e ∙ c.1) (has_here a [])) (λ (e : b ≡ z → ⊥). let out : false ≡ true = has_after b z [] e h in cc) (cases_eq b z)
prev_there n p a (x ∷ xs) z b c h =
    ⊎_elim (λ (e : b ≡ x). has_as (p b) a (a ∷ x ∷ xs) (ap p e ∙ c.1) (has_here a (x ∷ xs)))
    (λ (e : b ≡ x → ⊥). has_there (p b) a (x ∷ xs) (prev_there n p x xs z b c.2 (has_narrower b z x xs e h))) (cases_eq b x)

pub next_there : (n p : ℕ → ℕ) (a : ℕ) (xs : List ℕ) (z b : ℕ) → IsChain n p a xs z → has b (a ∷ xs) ≡ true → has (n b) (z ∷ xs) ≡ true
next_there n p a [] z b c h =
    ⊎_elim (λ (e : b ≡ a). has_as (n b) z (z ∷ []) (ap n e ∙ c.0) (has_here z [])) (λ (e : b ≡ a → ⊥). let out : false ≡ true = has_after b a [] e h in cc) (cases_eq b a)
next_there n p a (x ∷ xs) z b c h =
    ⊎_elim (λ (e : b ≡ a). has_as (n b) x (z ∷ x ∷ xs) (ap n e ∙ c.0) (has_there x z (x ∷ xs) (has_here x xs)))
    (λ (e : b ≡ a → ⊥). has_wider (n b) z x xs (next_there n p x xs z b c.2 (has_after b a (x ∷ xs) e h))) (cases_eq b a)

-- no item of a ring stands before itself
pub prev_other : (n p : ℕ → ℕ) (a : ℕ) (xs : List ℕ) (z t : ℕ) → IsChain n p a xs z → AreDistinct (a ∷ xs) → has t xs ≡ true → p t ≡ t → ⊥
prev_other n p a [] z t c d h e = cc
prev_other n p a (x ∷ xs) z t c d h e =
    ⊎_elim (λ (f : t ≡ x). lacks_first a x xs d.0 (sym (sym e ∙ ap p f ∙ c.1) ∙ f)) (λ (f : t ≡ x → ⊥). prev_other n p x xs z t c.2 d.1 (has_after t x xs f h) e) (cases_eq t x)

-- where two chains have the same items, the links ahead are the same
pub chain_same : (n p m q : ℕ → ℕ) (a : ℕ) (xs : List ℕ) (z k : ℕ) → IsChain n p a xs z → IsChain m q a xs z → has k (a ∷ xs) ≡ true → n k ≡ m k
chain_same n p m q a [] z k c d h =
    ⊎_elim (λ (e : k ≡ a). ap n e ∙ c.0 ∙ sym d.0 ∙ ap m (sym e)) (λ (e : k ≡ a → ⊥). let out : false ≡ true = has_after k a [] e h in cc) (cases_eq k a)
chain_same n p m q a (x ∷ xs) z k c d h =
    ⊎_elim (λ (e : k ≡ a). ap n e ∙ c.0 ∙ sym d.0 ∙ ap m (sym e)) (λ (e : k ≡ a → ⊥). chain_same n p m q x xs z k c.2 d.2 (has_after k a (x ∷ xs) e h)) (cases_eq k a)

pub chain_insert : (n p m q : ℕ → ℕ) (b t a : ℕ) (xs : List ℕ) (z : ℕ) → Linked n p m q b t → IsChain n p a xs z → has b (z ∷ xs) ≡ true →
    AreDistinct (a ∷ xs) → has z xs ≡ false → has t (a ∷ xs) ≡ false → (t ≡ z → ⊥) → IsChain m q a (inserted b t xs) z
chain_insert n p m q b t a [] z l c h d e out nz =
    let same : b ≡ z = only b z h in
    let from : p b ≡ a = ap p same ∙ c.1 in
    (ap m (sym from) ∙ l.before, l.prev ∙ from, (l.next ∙ same, ap q (sym same) ∙ l.following))
  where
    only : (b z : ℕ) → has b (z ∷ []) ≡ true → b ≡ z
    only b z h = ⊎_elim (λ (f : b ≡ z). f) (λ (f : b ≡ z → ⊥). let x : false ≡ true = has_after b z [] f h in cc) (cases_eq b z)
chain_insert n p m q b t a (x ∷ xs) z l c h d e out nz =
    ⊎_elim (λ (f : x ≡ b).
    let from : p b ≡ a = ap p (sym f) ∙ c.1 in
    rw (eq-eqb x b f) (
      ap m (sym from) ∙ l.before,
      l.prev ∙ from,
      (
        l.next ∙ sym f,
        ap q f ∙ l.following,
        frame n p m q x xs z
            (λ k i. l.next_rest k (λ (g : k ≡ p b). ne k a (x ∷ xs) i d.0 (g ∙ from)) (λ (g : k ≡ t). ne k t (x ∷ xs) i (lacks_after t a (x ∷ xs) out) g))
            (λ k i. l.prev_rest k (λ (g : k ≡ t). ne k t (z ∷ xs) i (lacks t z xs nz (lacks_after t x xs (lacks_after t a (x ∷ xs) out))) g)
            (λ (g : k ≡ b). ne k x (z ∷ xs) i (lacks x z xs (λ (y : x ≡ z). lacks_first z x xs e (sym y)) d.1.0) (g ∙ sym f)))
            c.2,
      ),
    ))
    (λ (f : x ≡ b → ⊥).
    let there : has b (z ∷ xs) ≡ true = has_narrower b z x xs (λ (g : b ≡ x). f (sym g)) h in
    let back : has (p b) (x ∷ xs) ≡ true = prev_there n p x xs z b c.2 there in
    rw (ne_eqb x b f) (
      l.next_rest a (λ (g : a ≡ p b). ne (p b) a (x ∷ xs) back d.0 (sym g)) (λ (g : a ≡ t). lacks_first t a (x ∷ xs) out (sym g)) ∙ c.0,
      l.prev_rest x (λ (g : x ≡ t). lacks_first t x xs (lacks_after t a (x ∷ xs) out) (sym g)) f ∙ c.1,
      chain_insert n p m q b t x xs z l c.2 there d.1 (lacks_after z x xs e) (lacks_after t a (x ∷ xs) out) nz,
    ))
    (cases_eq x b)

pub chain_without : (n p m q : ℕ → ℕ) (t a : ℕ) (xs : List ℕ) (z : ℕ) → Unlinked n p m q t → IsChain n p a xs z → has t xs ≡ true →
    AreDistinct (a ∷ xs) → has z xs ≡ false → IsChain m q a (without t xs) z
chain_without n p m q t a [] z u c h d e = cc
chain_without n p m q t a (x ∷ xs) z u c h d e =
    ⊎_elim (λ (f : x ≡ t).
    let from : p t ≡ a = ap p (sym f) ∙ c.1 in
    let lack : has t xs ≡ false = subst (λ y. has y xs ≡ false) f d.1.0 in
    let rest : IsChain n p t xs z = subst (λ y. IsChain n p y xs z) f c.2 in
    rw (eq-eqb x t f, without_lacking t xs lack) (bridge xs from rest (lacks_after a x xs d.0) lack d.1.1 (lacks_after z x xs e)))
    (λ (f : x ≡ t → ⊥).
    let there : has t xs ≡ true = has_after t x xs (λ (g : t ≡ x). f (sym g)) h in
    let back : has (p t) (x ∷ xs) ≡ true = prev_there n p x xs z t c.2 (has_there t z xs there) in
    let on : has (n t) (z ∷ xs) ≡ true = next_there n p x xs z t c.2 (has_there t x xs there) in
    rw (ne_eqb x t f) (
      u.next_rest a (λ (g : a ≡ p t). ne (p t) a (x ∷ xs) back d.0 (sym g)) (λ (g : a ≡ t). ne t a (x ∷ xs) (has_there t x xs there) d.0 (sym g)) ∙ c.0,
      u.prev_rest x (λ (g : x ≡ n t). ne (n t) x (z ∷ xs) on (lacks x z xs (λ (y : x ≡ z). lacks_first z x xs e (sym y)) d.1.0) (sym g)) ∙ c.1,
      chain_without n p m q t x xs z u c.2 there d.1 (lacks_after z x xs e),
    ))
    (cases_eq x t)
  where
    bridge : (ys : List ℕ) → p t ≡ a → IsChain n p t ys z → has a ys ≡ false → has t ys ≡ false → AreDistinct ys → has z ys ≡ false → IsChain m q a ys z
    bridge [] from c out lack d e = (ap m (sym from) ∙ u.over ∙ c.0, ap q (sym c.0) ∙ u.back ∙ from)
    bridge (y ∷ ys) from c out lack d e = (
      ap m (sym from) ∙ u.over ∙ c.0,
      ap q (sym c.0) ∙ u.back ∙ from,
      frame n p m q y ys z (λ k i. u.next_rest k (λ (g : k ≡ p t). ne k a (y ∷ ys) i out (g ∙ from)) (ne k t (y ∷ ys) i lack))
          (λ k i. u.prev_rest k (λ (g : k ≡ n t). ne k y (z ∷ ys) i (lacks y z ys (λ (w : y ≡ z). lacks_first z y ys e (sym w)) d.0) (g ∙ c.0))) c.2,
    )

-- the walk along a chain gives its items
pub walk_is : (n p : ℕ → ℕ) (items fuel a : ℕ) (xs : List ℕ) (z : ℕ) → IsChain n p a xs z → ((u : ℕ) → has u xs ≡ true → u < items) → items ≤ z → length xs ≤ fuel →
    walk n items fuel (n a) ≡ xs
unfolding walk
walk_is n p items zero a [] z c below far room = refl
walk_is n p items (suc fuel) a [] z c below far room =
    let end : items ≤ n a = rw c.0 far in rw (le-ltb (n a) items (omega arith)) refl
walk_is n p items zero a (x ∷ xs) z c below far room = absurd (omega arith)
walk_is n p items (suc fuel) a (x ∷ xs) z c below far room =
    rw (c.0, lt-ltb x items (below x (has_here x xs)))
    (ap (λ ys. x ∷ ys) (walk_is n p items fuel x xs z c.2 (λ u h. below u (has_there u x xs h)) far (omega arith)))

pub chain_first : (n p : ℕ → ℕ) (items a : ℕ) (xs : List ℕ) (z : ℕ) → IsChain n p a xs z → ((u : ℕ) → has u xs ≡ true → u < items) → items ≤ z →
    item_at items (n a) ≡ first_of xs
chain_first n p items a [] z c below far = rw (c.0, le-ltb z items far) refl
chain_first n p items a (x ∷ xs) z c below far = rw (c.0, lt-ltb x items (below x (has_here x xs))) refl

-- what is behind an item
pub chain_next : (n p : ℕ → ℕ) (items a : ℕ) (xs : List ℕ) (t : ℕ) (ys : List ℕ) (z : ℕ) → IsChain n p a (xs ++ t ∷ ys) z → ((u : ℕ) → has u (xs ++ t ∷ ys) ≡ true → u < items) → items ≤ z →
    item_at items (n t) ≡ first_of ys
chain_next n p items a [] t ys z c below far = chain_first n p items t ys z c.2 (λ u h. below u (has_there u t ys h)) far
chain_next n p items a (x ∷ xs) t ys z c below far = chain_next n p items x xs t ys z c.2 (λ u h. below u (has_there u x (xs ++ t ∷ ys) h)) far

pub item_at-low : (items node : ℕ) → IfSome (item_at items node) (λ t. t < items)
item_at-low items node =
    ⊎_elim (λ (h : node < items). rw (lt-ltb node items h) h) (λ (h : items ≤ node). rw (le-ltb node items h) tt) (cases_lt node items)
