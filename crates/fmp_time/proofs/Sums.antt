-- What a change of the stored numbers does to the sums.
use Rattle.std.proofs.Common.{◌≡◌, ℕ, ◌+◌, ◌-◌, ◌<◌, ◌≤◌, Bool, true, false, cond, Some, None, List, [], ◌∷◌, ◌++◌, refl, sym, ap, ◌∙◌, subst, arith, ⊎_elim}
use Rattle.std.proofs.lemmas.Bool.{cases_eq, cases_lt, eq-eqb, ne_eqb, lt-ltb, le-ltb}
use Rattle.fmp_kernel_parts.specs.Lists.{has, inserted, AreDistinct, first_of}
use Rattle.fmp_kernel_parts.proofs.Having.{has_here, has_there, lacks_first, lacks_after, ne}
use Rattle.fmp_time.specs.Differences.{Entry, sorted_in, without, lowered, entries_from, sum_of, spot_in, rest_in, first_adding}

pub frame : (d e : ℕ → ℕ) (s : ℕ) (xs : List ℕ) → ((u : ℕ) → has u xs ≡ true → e u ≡ d u) → entries_from e s xs ≡ entries_from d s xs
frame d e s [] h = refl
frame d e s (x ∷ xs) h = rw (h x (has_here x xs)) (ap (λ (r : List Entry). (x, s + d x) ∷ r) (frame d e (s + d x) xs (λ u g. h u (has_there u x xs g))))

pub frame_sum : (d e : ℕ → ℕ) (xs : List ℕ) → ((u : ℕ) → has u xs ≡ true → e u ≡ d u) → sum_of e xs ≡ sum_of d xs
frame_sum d e [] h = refl
frame_sum d e (x ∷ xs) h = rw (h x (has_here x xs)) (ap (λ (r : ℕ). d x + r) (frame_sum d e xs (λ u g. h u (has_there u x xs g))))

-- the item of the spot is there
pub spot_there : (d : ℕ → ℕ) (r : ℕ) (xs : List ℕ) (b : ℕ) → spot_in d r xs ≡ Some b → has b xs ≡ true
spot_there d r [] b e = cc
spot_there d r (x ∷ xs) b e =
    ⊎_elim (λ (l : r < d x). let same : Some x ≡ Some b = sym (ap (λ (c : Bool). cond c (Some x) (spot_in d (r - d x) xs)) (lt-ltb r (d x) l)) ∙ e in
    let at : x ≡ b = cc in subst (λ (y : ℕ). has y (x ∷ xs) ≡ true) at (has_here x xs))
    (λ (l : d x ≤ r). has_there b x xs (spot_there d (r - d x) xs b (sym (ap (λ (c : Bool). cond c (Some x) (spot_in d (r - d x) xs)) (le-ltb r (d x) l)) ∙ e)))
    (cases_lt r (d x))

-- k is put before b, where it belongs
pub insert_some : (d e : ℕ → ℕ) (k b s r : ℕ) (xs : List ℕ) → spot_in d r xs ≡ Some b → e k ≡ rest_in d r xs → e b ≡ d b - rest_in d r xs → ((u : ℕ) → (u ≡ k → ⊥) → (u ≡ b → ⊥) → e u ≡ d u) →
    has k xs ≡ false → AreDistinct xs → entries_from e s (inserted b k xs) ≡ sorted_in k (s + r) (entries_from d s xs)
insert_some d e k b s r [] spot own more others out apart = cc
insert_some d e k b s r (x ∷ xs) spot own more others out apart =
    ⊎_elim (λ (l : r < d x).
    let same : Some x ≡ Some b = sym (ap (λ (c : Bool). cond c (Some x) (spot_in d (r - d x) xs)) (lt-ltb r (d x) l)) ∙ spot in
    let at : x ≡ b = cc in
    let rest : rest_in d r (x ∷ xs) ≡ r = ap (λ (c : Bool). cond c r (rest_in d (r - d x) xs)) (lt-ltb r (d x) l) in
    let mine : e k ≡ r = own ∙ rest in
    let its : e x ≡ d x - r = ap e at ∙ more ∙ ap (λ (y : ℕ). d y - rest_in d r (x ∷ xs)) (sym at) ∙ ap (λ (m : ℕ). d x - m) rest in
    let sum : s + r + (d x - r) ≡ s + d x = omega (arith, l) in
    rw (eq-eqb x b at, lt-ltb (s + r) (s + d x) (omega (arith, l)), mine, its, sum)
    (ap (λ (es : List Entry). (k, s + r) ∷ (x, s + d x) ∷ es)
    (frame d e (s + d x) xs (λ u g. others u (λ (f : u ≡ k). ne u k xs g (lacks_after k x xs out) f) (λ (f : u ≡ b). ne u x xs g apart.0 (f ∙ sym at))))))
    (λ (l : d x ≤ r).
    let on : spot_in d (r - d x) xs ≡ Some b = sym (ap (λ (c : Bool). cond c (Some x) (spot_in d (r - d x) xs)) (le-ltb r (d x) l)) ∙ spot in
    let rest : rest_in d r (x ∷ xs) ≡ rest_in d (r - d x) xs = ap (λ (c : Bool). cond c r (rest_in d (r - d x) xs)) (le-ltb r (d x) l) in
    let other : x ≡ b → ⊥ = λ f. ne b x xs (spot_there d (r - d x) xs b on) apart.0 (sym f) in
    let same : e x ≡ d x = others x (λ (f : x ≡ k). lacks_first k x xs out (sym f)) other in
    let sum : s + d x + (r - d x) ≡ s + r = omega (arith, l) in
    rw (ne_eqb x b other, le-ltb (s + r) (s + d x) (omega (arith, l)), same)
    (ap (λ (es : List Entry). (x, s + d x) ∷ es)
    (insert_some d e k b (s + d x) (r - d x) xs on (own ∙ rest) (more ∙ ap (λ (m : ℕ). d b - m) rest) others (lacks_after k x xs out) apart.1
    ∙ ap (λ (m : ℕ). sorted_in k m (entries_from d (s + d x) xs)) sum)))
    (cases_lt r (d x))

pub insert_none : (d e : ℕ → ℕ) (k s r : ℕ) (xs : List ℕ) → spot_in d r xs ≡ None → e k ≡ rest_in d r xs → ((u : ℕ) → (u ≡ k → ⊥) → e u ≡ d u) →
    has k xs ≡ false → entries_from e s (xs ++ k ∷ []) ≡ sorted_in k (s + r) (entries_from d s xs)
insert_none d e k s r [] spot own others out = rw own refl
insert_none d e k s r (x ∷ xs) spot own others out =
    ⊎_elim (λ (l : r < d x). let bad : Some x ≡ None = sym (ap (λ (c : Bool). cond c (Some x) (spot_in d (r - d x) xs)) (lt-ltb r (d x) l)) ∙ spot in cc)
    (λ (l : d x ≤ r).
    let on : spot_in d (r - d x) xs ≡ None = sym (ap (λ (c : Bool). cond c (Some x) (spot_in d (r - d x) xs)) (le-ltb r (d x) l)) ∙ spot in
    let rest : rest_in d r (x ∷ xs) ≡ rest_in d (r - d x) xs = ap (λ (c : Bool). cond c r (rest_in d (r - d x) xs)) (le-ltb r (d x) l) in
    let same : e x ≡ d x = others x (λ (f : x ≡ k). lacks_first k x xs out (sym f)) in
    let sum : s + d x + (r - d x) ≡ s + r = omega (arith, l) in
    rw (le-ltb (s + r) (s + d x) (omega (arith, l)), same)
    (ap (λ (es : List Entry). (x, s + d x) ∷ es)
    (insert_none d e k (s + d x) (r - d x) xs on (own ∙ rest) others (lacks_after k x xs out) ∙ ap (λ (m : ℕ). sorted_in k m (entries_from d (s + d x) xs)) sum)))
    (cases_lt r (d x))

pub without_lacking : (d : ℕ → ℕ) (k s : ℕ) (xs : List ℕ) → has k xs ≡ false → without k (entries_from d s xs) ≡ entries_from d s xs
without_lacking d k s [] out = refl
without_lacking d k s (x ∷ xs) out =
    rw (ne_eqb x k (λ (f : x ≡ k). lacks_first k x xs out (sym f))) (ap (λ (es : List Entry). (x, s + d x) ∷ es) (without_lacking d k (s + d x) xs (lacks_after k x xs out)))

-- k is taken out, and the one after it gains what k has added
pub remove_sums : (d e : ℕ → ℕ) (k s : ℕ) (before following : List ℕ) → ((b : ℕ) → first_of following ≡ Some b → e b ≡ d b + d k) → ((u : ℕ) → (first_of following ≡ Some u → ⊥) → e u ≡ d u) →
    AreDistinct (before ++ k ∷ following) → entries_from e s (before ++ following) ≡ without k (entries_from d s (before ++ k ∷ following))
remove_sums d e k s [] [] gain others apart = rw (eq-eqb k k refl) refl
remove_sums d e k s [] (b ∷ ys) gain others apart =
    let more : e b ≡ d b + d k = gain b refl in
    let sum : s + (d b + d k) ≡ s + d k + d b = omega arith in
    rw (eq-eqb k k refl, without_lacking d k (s + d k) (b ∷ ys) apart.0, more, sum)
    (ap (λ (es : List Entry). (b, s + d k + d b) ∷ es) (frame d e (s + d k + d b) ys (λ u g. others u (λ (f : Some b ≡ Some u). let same : b ≡ u = cc in ne u b ys g apart.1.0 (sym same)))))
remove_sums d e k s (x ∷ before) following gain others apart =
    let same : e x ≡ d x = others x (λ (f : first_of following ≡ Some x). ne x x (before ++ k ∷ following) (later x (k ∷ following) before (has_there x k following (first_has following f))) apart.0 refl) in
    let other : x ≡ k → ⊥ = λ f. ne k x (before ++ k ∷ following) (later k (k ∷ following) before (has_here k following)) apart.0 (sym f) in
    rw (ne_eqb x k other, same) (ap (λ (es : List Entry). (x, s + d x) ∷ es) (remove_sums d e k (s + d x) before following gain others apart.1))
  where
    first_has : (ys : List ℕ) → first_of ys ≡ Some x → has x ys ≡ true
    first_has [] f = cc
    first_has (y ∷ ys) f = let same : y ≡ x = cc in subst (λ (z : ℕ). has x (z ∷ ys) ≡ true) (sym same) (has_here x ys)

    later : (u : ℕ) (ys xs : List ℕ) → has u ys ≡ true → has u (xs ++ ys) ≡ true
    later u ys [] h = h
    later u ys (z ∷ xs) h = has_there u z (xs ++ ys) (later u ys xs h)

-- a sum one less is a tick less for each
shifted : (d : ℕ → ℕ) (s : ℕ) (xs : List ℕ) → 1 ≤ s → entries_from d (s - 1) xs ≡ lowered (entries_from d s xs)
shifted d s [] h = refl
shifted d s (x ∷ xs) h =
    let sum : s - 1 + d x ≡ s + d x - 1 = omega (arith, h) in
    rw sum (ap (λ (es : List Entry). (x, s + d x - 1) ∷ es) (shifted d (s + d x) xs (omega (arith, h))))

-- the first one lowered alone is a tick less for each
pub lower_first : (d e : ℕ → ℕ) (x : ℕ) (xs : List ℕ) → 1 ≤ d x → e x ≡ d x - 1 → ((u : ℕ) → (u ≡ x → ⊥) → e u ≡ d u) → has x xs ≡ false →
    entries_from e 0 (x ∷ xs) ≡ lowered (entries_from d 0 (x ∷ xs))
lower_first d e x xs h less others out =
    let first : 0 + e x ≡ 0 + d x - 1 = omega (arith, less) in
    rw first (ap (λ (es : List Entry). (x, 0 + d x - 1) ∷ es)
    (frame d e (0 + d x - 1) xs (λ u g. others u (λ (f : u ≡ x). ne u x xs g out f)) ∙ shifted d (0 + d x) xs (omega (arith, h))))

-- the first one that adds something
pub adding_there : (d : ℕ → ℕ) (xs : List ℕ) (b : ℕ) → first_adding d xs ≡ Some b → has b xs ≡ true
adding_there d [] b f = cc
adding_there d (x ∷ xs) b f =
    ⊎_elim (λ (z : d x ≡ 0). has_there b x xs (adding_there d xs b (sym (ap (λ (c : Bool). cond c (first_adding d xs) (Some x)) (eq-eqb (d x) 0 z)) ∙ f)))
    (λ (z : d x ≡ 0 → ⊥). let same : Some x ≡ Some b = sym (ap (λ (c : Bool). cond c (first_adding d xs) (Some x)) (ne_eqb (d x) 0 z)) ∙ f in
    let at : x ≡ b = cc in subst (λ (y : ℕ). has y (x ∷ xs) ≡ true) at (has_here x xs))
    (cases_eq (d x) 0)

pub adding_adds : (d : ℕ → ℕ) (xs : List ℕ) (b : ℕ) → first_adding d xs ≡ Some b → 1 ≤ d b
adding_adds d [] b f = cc
adding_adds d (x ∷ xs) b f =
    ⊎_elim (λ (z : d x ≡ 0). adding_adds d xs b (sym (ap (λ (c : Bool). cond c (first_adding d xs) (Some x)) (eq-eqb (d x) 0 z)) ∙ f))
    (λ (z : d x ≡ 0 → ⊥). let same : Some x ≡ Some b = sym (ap (λ (c : Bool). cond c (first_adding d xs) (Some x)) (ne_eqb (d x) 0 z)) ∙ f in
    let at : x ≡ b = cc in subst (λ (y : ℕ). 1 ≤ d y) at (omega (arith, z)))
    (cases_eq (d x) 0)

-- that one lowered alone is a tick less for each that has one
pub lower_adding : (d e : ℕ → ℕ) (xs : List ℕ) (b : ℕ) → first_adding d xs ≡ Some b → e b ≡ d b - 1 → ((u : ℕ) → (u ≡ b → ⊥) → e u ≡ d u) → AreDistinct xs →
    entries_from e 0 xs ≡ lowered (entries_from d 0 xs)
lower_adding d e [] b f less others apart = cc
lower_adding d e (x ∷ xs) b f less others apart =
    ⊎_elim (λ (z : d x ≡ 0).
    let on : first_adding d xs ≡ Some b = sym (ap (λ (c : Bool). cond c (first_adding d xs) (Some x)) (eq-eqb (d x) 0 z)) ∙ f in
    let same : e x ≡ d x = others x (λ (g : x ≡ b). ne b x xs (adding_there d xs b on) apart.0 (sym g)) in
    let now : 0 + e x ≡ 0 = omega (arith, same, z) in
    let before : 0 + d x ≡ 0 = omega (arith, z) in
    rw (now, before) (ap (λ (es : List Entry). (x, 0) ∷ es) (lower_adding d e xs b on less others apart.1)))
    (λ (z : d x ≡ 0 → ⊥).
    let same : Some x ≡ Some b = sym (ap (λ (c : Bool). cond c (first_adding d xs) (Some x)) (ne_eqb (d x) 0 z)) ∙ f in
    let at : x ≡ b = cc in
    lower_first d e x xs (omega (arith, z)) (subst (λ (y : ℕ). e y ≡ d y - 1) (sym at) less) (λ u n. others u (λ (g : u ≡ b). n (g ∙ sym at))) apart.0)
    (cases_eq (d x) 0)

-- where none adds anything, nothing is lowered
pub lower_none : (d : ℕ → ℕ) (xs : List ℕ) → first_adding d xs ≡ None → lowered (entries_from d 0 xs) ≡ entries_from d 0 xs
lower_none d [] f = refl
lower_none d (x ∷ xs) f =
    ⊎_elim (λ (z : d x ≡ 0).
    let before : 0 + d x ≡ 0 = omega (arith, z) in
    rw before (ap (λ (es : List Entry). (x, 0) ∷ es) (lower_none d xs (sym (ap (λ (c : Bool). cond c (first_adding d xs) (Some x)) (eq-eqb (d x) 0 z)) ∙ f))))
    (λ (z : d x ≡ 0 → ⊥). let bad : Some x ≡ None = sym (ap (λ (c : Bool). cond c (first_adding d xs) (Some x)) (ne_eqb (d x) 0 z)) ∙ f in cc)
    (cases_eq (d x) 0)

pub fewer_total : (d e : ℕ → ℕ) (xs : List ℕ) → ((u : ℕ) → e u ≤ d u) → sum_of e xs ≤ sum_of d xs
fewer_total d e [] h = omega arith
fewer_total d e (x ∷ xs) h = omega (arith, h x, fewer_total d e xs h)

-- what is left over is less than what the item of the spot adds
pub spot_less : (d : ℕ → ℕ) (r : ℕ) (xs : List ℕ) (b : ℕ) → spot_in d r xs ≡ Some b → rest_in d r xs < d b
spot_less d r [] b e = cc
spot_less d r (x ∷ xs) b e =
    ⊎_elim (λ (l : r < d x). let same : Some x ≡ Some b = sym (ap (λ (c : Bool). cond c (Some x) (spot_in d (r - d x) xs)) (lt-ltb r (d x) l)) ∙ e in
    let at : x ≡ b = cc in rw (lt-ltb r (d x) l) (subst (λ (y : ℕ). r < d y) at l))
    (λ (l : d x ≤ r). rw (le-ltb r (d x) l) (spot_less d (r - d x) xs b (sym (ap (λ (c : Bool). cond c (Some x) (spot_in d (r - d x) xs)) (le-ltb r (d x) l)) ∙ e)))
    (cases_lt r (d x))

pub insert_some_total : (d e : ℕ → ℕ) (k b r : ℕ) (xs : List ℕ) → spot_in d r xs ≡ Some b → e k ≡ rest_in d r xs → e b ≡ d b - rest_in d r xs → ((u : ℕ) → (u ≡ k → ⊥) → (u ≡ b → ⊥) → e u ≡ d u) →
    has k xs ≡ false → AreDistinct xs → sum_of e (inserted b k xs) ≡ sum_of d xs
insert_some_total d e k b r [] spot own more others out apart = cc
insert_some_total d e k b r (x ∷ xs) spot own more others out apart =
    ⊎_elim (λ (l : r < d x).
    let same : Some x ≡ Some b = sym (ap (λ (c : Bool). cond c (Some x) (spot_in d (r - d x) xs)) (lt-ltb r (d x) l)) ∙ spot in
    let at : x ≡ b = cc in
    let rest : rest_in d r (x ∷ xs) ≡ r = ap (λ (c : Bool). cond c r (rest_in d (r - d x) xs)) (lt-ltb r (d x) l) in
    let mine : e k ≡ r = own ∙ rest in
    let its : e x ≡ d x - r = ap e at ∙ more ∙ ap (λ (y : ℕ). d y - rest_in d r (x ∷ xs)) (sym at) ∙ ap (λ (m : ℕ). d x - m) rest in
    let rests = frame_sum d e xs (λ u g. others u (λ (f : u ≡ k). ne u k xs g (lacks_after k x xs out) f) (λ (f : u ≡ b). ne u x xs g apart.0 (f ∙ sym at))) in
    rw (eq-eqb x b at) (omega (arith, l, mine, its, rests)))
    (λ (l : d x ≤ r).
    let on : spot_in d (r - d x) xs ≡ Some b = sym (ap (λ (c : Bool). cond c (Some x) (spot_in d (r - d x) xs)) (le-ltb r (d x) l)) ∙ spot in
    let rest : rest_in d r (x ∷ xs) ≡ rest_in d (r - d x) xs = ap (λ (c : Bool). cond c r (rest_in d (r - d x) xs)) (le-ltb r (d x) l) in
    let other : x ≡ b → ⊥ = λ f. ne b x xs (spot_there d (r - d x) xs b on) apart.0 (sym f) in
    let same : e x ≡ d x = others x (λ (f : x ≡ k). lacks_first k x xs out (sym f)) other in
    let ih = insert_some_total d e k b (r - d x) xs on (own ∙ rest) (more ∙ ap (λ (m : ℕ). d b - m) rest) others (lacks_after k x xs out) apart.1 in
    rw (ne_eqb x b other) (omega (arith, same, ih)))
    (cases_lt r (d x))

pub insert_none_total : (d e : ℕ → ℕ) (k r : ℕ) (xs : List ℕ) → spot_in d r xs ≡ None → e k ≡ rest_in d r xs → ((u : ℕ) → (u ≡ k → ⊥) → e u ≡ d u) →
    has k xs ≡ false → sum_of e (xs ++ k ∷ []) ≡ r
insert_none_total d e k r [] spot own others out = omega (arith, own)
insert_none_total d e k r (x ∷ xs) spot own others out =
    ⊎_elim (λ (l : r < d x). let bad : Some x ≡ None = sym (ap (λ (c : Bool). cond c (Some x) (spot_in d (r - d x) xs)) (lt-ltb r (d x) l)) ∙ spot in cc)
    (λ (l : d x ≤ r).
    let on : spot_in d (r - d x) xs ≡ None = sym (ap (λ (c : Bool). cond c (Some x) (spot_in d (r - d x) xs)) (le-ltb r (d x) l)) ∙ spot in
    let rest : rest_in d r (x ∷ xs) ≡ rest_in d (r - d x) xs = ap (λ (c : Bool). cond c r (rest_in d (r - d x) xs)) (le-ltb r (d x) l) in
    let same : e x ≡ d x = others x (λ (f : x ≡ k). lacks_first k x xs out (sym f)) in
    omega (arith, l, same, insert_none_total d e k (r - d x) xs on (own ∙ rest) others (lacks_after k x xs out)))
    (cases_lt r (d x))
