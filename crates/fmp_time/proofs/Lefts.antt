-- What each change of the lists does to what they say of an item.
use Rattle.std.proofs.Common.{◌≡◌, ℕ, zero, suc, ◌+◌, ◌-◌, ◌<◌, ◌≤◌, ◌==◌, ◌&&◌, ◌||◌, Bool, true, false, not, cond, Option, Some, None, List, [], ◌∷◌, length, set, refl, sym, ap, ◌∙◌, subst, arith, ⊎_elim}
use Rattle.std.specs.Prelude.{nat_lt, is_some}
use Rattle.std.specs.List.{list_any}
use Rattle.std.specs.Coded.{le_prop}
use Rattle.std.proofs.lemmas.Bool.{cases_eq, eq-eqb, ne_eqb, false_from_ne_true}
use Rattle.std.proofs.lemmas.List.{get_or-set_same, get_or-set_other, length-set}
use Rattle.std.proofs.Math.Bool.{or-false}
use Rattle.fmp_codes.specs.Numbers.{as_proc}
use Rattle.fmp_codes.specs.declared.numbers.Proc.{Proc}
use Rattle.fmp_kernel_parts.specs.Lists as links
use Rattle.fmp_kernel_parts.specs.Lists.{has}
use Rattle.fmp_time.specs.Differences.{Entry, entries_at, has_entry, sorted_in, without, take_out, ticks_in, lowered, due, not_due, items_of}
use Rattle.fmp_time.specs.Left.{Left, left_on, left_from, left_in, is_over, AreDisjoint}
use Rattle.fmp_time.specs.Times.{ticks_on, is_due, lowered_on, counted_down}
use Rattle.fmp_time.proofs.Found.{has_ticks, no_ticks, left_nowhere, left_there}

-- Processors.

proc_made : (n k : ℕ) → n ≡ k → (l : 1 ≤ n) (m : n ≤ 8) (l' : 1 ≤ k) (m' : k ≤ 8) →
    ◌≡◌ {A = Proc} (record { number = n; least = l; most = m }) (record { number = k; least = l'; most = m' })
proc_made n k e l m =
    let make : (n : ℕ) → 1 ≤ n → n ≤ 8 → Proc = λ n l m. record { number = n; least = l; most = m } in
    let P : ℕ → Type 0 = λ k. (l' : 1 ≤ k) (m' : k ≤ 8) → make n l m ≡ make k l' m' in
    subst P e (λ l' m'. ap (λ x. make n x m) (le_prop l l') ∙ ap (λ x. make n l' x) (le_prop m m'))

-- the processor at the place of p
pub proc_is : (p : Proc) → as_proc (p.number - 1 + 1) ≡ p
proc_is p =
    let low = p.least in
    let high = p.most in
    proc_made (as_proc (p.number - 1 + 1)).number p.number (omega (arith, low, high)) (as_proc (p.number - 1 + 1)).least (as_proc (p.number - 1 + 1)).most p.least p.most

-- One list of entries.

ticks_without : (k : ℕ) (es : List Entry) (u : ℕ) → ticks_in (without k es) u ≡ cond (u == k) None (ticks_in es u)
ticks_without k [] u = elim (u == k) as (λ (b : Bool). ◌≡◌ {A = Option ℕ} None (cond b None None)) [ true ↦ refl | false ↦ refl ]
ticks_without k (e ∷ es) u =
    let ih = ticks_without k es u in
    ⊎_elim (λ (f : e.0 ≡ k).
    rw (eq-eqb e.0 k f) (ih ∙ ⊎_elim (λ (g : u ≡ k). rw (eq-eqb u k g) refl) (λ (g : u ≡ k → ⊥). rw (ne_eqb u k g, ne_eqb e.0 u (λ h. g (sym h ∙ f))) refl) (cases_eq u k)))
    (λ (f : e.0 ≡ k → ⊥).
    rw (ne_eqb e.0 k f)
    (⊎_elim (λ (g : e.0 ≡ u). rw (eq-eqb e.0 u g, ne_eqb u k (λ h. f (g ∙ h))) refl) (λ (g : e.0 ≡ u → ⊥). rw (ne_eqb e.0 u g) ih) (cases_eq e.0 u)))
    (cases_eq e.0 k)

ticks_sorted : (k n : ℕ) (es : List Entry) (u : ℕ) → ticks_in es k ≡ None → ticks_in (sorted_in k n es) u ≡ cond (u == k) (Some n) (ticks_in es u)
ticks_sorted k n [] u h =
    ⊎_elim (λ (f : u ≡ k). rw (eq-eqb u k f, eq-eqb k u (sym f)) refl) (λ (f : u ≡ k → ⊥). rw (ne_eqb u k f, ne_eqb k u (λ g. f (sym g))) refl) (cases_eq u k)
ticks_sorted k n (e ∷ es) u h =
    let other : e.0 ≡ k → ⊥ = λ f. let bad : Some e.1 ≡ None = sym (ap (λ (b : Bool). cond b (Some e.1) (ticks_in es k)) (eq-eqb e.0 k f)) ∙ h in cc in
    let rest : ticks_in es k ≡ None = sym (ap (λ (b : Bool). cond b (Some e.1) (ticks_in es k)) (ne_eqb e.0 k other)) ∙ h in
    let ih = ticks_sorted k n es u rest in
    elim (nat_lt n e.1) as (λ (b : Bool). ticks_in (cond b ((k, n) ∷ e ∷ es) (e ∷ sorted_in k n es)) u ≡ cond (u == k) (Some n) (ticks_in (e ∷ es) u)) [
      | true ↦ ⊎_elim (λ (f : u ≡ k). rw (eq-eqb u k f, eq-eqb k u (sym f)) refl) (λ (f : u ≡ k → ⊥). rw (ne_eqb u k f, ne_eqb k u (λ g. f (sym g))) refl) (cases_eq u k)
      | false ↦ ⊎_elim (λ (g : e.0 ≡ u). rw (eq-eqb e.0 u g, ne_eqb u k (λ h. other (g ∙ h))) refl) (λ (g : e.0 ≡ u → ⊥). rw (ne_eqb e.0 u g) ih) (cases_eq e.0 u)
    ]

pub has_items : (k : ℕ) (es : List Entry) → has k (items_of es) ≡ has_entry k es
has_items k [] = refl
has_items k (e ∷ es) = rw (has_items k es) refl

-- ticks after a tick
abbrev ticks_after : Option ℕ → Option ℕ
ticks_after None = None
ticks_after (Some n) = cond ((n - 1) == 0) None (Some (n - 1))

abbrev are_over : Option ℕ → Bool
are_over None = false
are_over (Some n) = (n - 1) == 0

ticks_ticked : (k : ℕ) (es : List Entry) → links.AreDistinct (items_of es) → ticks_in (not_due (lowered es)) k ≡ ticks_after (ticks_in es k)
ticks_ticked k [] d = refl
ticks_ticked k (e ∷ es) d =
    let ih = ticks_ticked k es d.1 in
    ⊎_elim (λ (f : e.0 ≡ k).
    let none : ticks_in es k ≡ None = no_ticks k es (sym (has_items k es) ∙ ap (λ (u : ℕ). has u (items_of es)) (sym f) ∙ d.0) in
    rw (eq-eqb e.0 k f)
    (elim ((e.1 - 1) == 0) as (λ (b : Bool). ticks_in (cond (not b) ((e.0, e.1 - 1) ∷ not_due (lowered es)) (not_due (lowered es))) k ≡ cond b None (Some (e.1 - 1))) [
      | true ↦ ih ∙ ap ticks_after none
      | false ↦ rw (eq-eqb e.0 k f) refl
    ]))
    (λ (f : e.0 ≡ k → ⊥).
    rw (ne_eqb e.0 k f)
    (elim ((e.1 - 1) == 0) as (λ (b : Bool). ticks_in (cond (not b) ((e.0, e.1 - 1) ∷ not_due (lowered es)) (not_due (lowered es))) k ≡ ticks_after (ticks_in es k)) [
      | true ↦ ih
      | false ↦ rw (ne_eqb e.0 k f) ih
    ]))
    (cases_eq e.0 k)

-- ticks after they were lowered
abbrev less_one : Option ℕ → Option ℕ
less_one None = None
less_one (Some n) = Some (n - 1)

ticks_lowered : (k : ℕ) (es : List Entry) → ticks_in (lowered es) k ≡ less_one (ticks_in es k)
ticks_lowered k [] = refl
ticks_lowered k (e ∷ es) =
    elim (e.0 == k) as (λ (b : Bool). cond b (Some (e.1 - 1)) (ticks_in (lowered es) k) ≡ less_one (cond b (Some e.1) (ticks_in es k))) [
      | true ↦ refl
      | false ↦ ticks_lowered k es
    ]

abbrev zero_left : Option ℕ → Bool
zero_left None = false
zero_left (Some n) = n == 0

has_over : (k : ℕ) (es : List Entry) → links.AreDistinct (items_of es) → has k (items_of (due es)) ≡ zero_left (ticks_in es k)
has_over k [] d = refl
has_over k (e ∷ es) d =
    let ih = has_over k es d.1 in
    ⊎_elim (λ (f : e.0 ≡ k).
    let none : ticks_in es k ≡ None = no_ticks k es (sym (has_items k es) ∙ ap (λ (u : ℕ). has u (items_of es)) (sym f) ∙ d.0) in
    rw (eq-eqb e.0 k f)
    (elim (e.1 == 0) as (λ (b : Bool). has k (items_of (cond b (e ∷ due es) (due es))) ≡ b) [
      | true ↦ rw (eq-eqb k e.0 (sym f)) refl
      | false ↦ ih ∙ ap zero_left none
    ]))
    (λ (f : e.0 ≡ k → ⊥).
    rw (ne_eqb e.0 k f)
    (elim (e.1 == 0) as (λ (b : Bool). has k (items_of (cond b (e ∷ due es) (due es))) ≡ zero_left (ticks_in es k)) [
      | true ↦ rw (ne_eqb k e.0 (λ g. f (sym g))) ih
      | false ↦ ih
    ]))
    (cases_eq e.0 k)

has_due : (k : ℕ) (es : List Entry) → links.AreDistinct (items_of es) → has k (items_of (due (lowered es))) ≡ are_over (ticks_in es k)
has_due k [] d = refl
has_due k (e ∷ es) d =
    let ih = has_due k es d.1 in
    ⊎_elim (λ (f : e.0 ≡ k).
    let none : ticks_in es k ≡ None = no_ticks k es (sym (has_items k es) ∙ ap (λ (u : ℕ). has u (items_of es)) (sym f) ∙ d.0) in
    rw (eq-eqb e.0 k f)
    (elim ((e.1 - 1) == 0) as (λ (b : Bool). has k (items_of (cond b ((e.0, e.1 - 1) ∷ due (lowered es)) (due (lowered es)))) ≡ b) [
      | true ↦ rw (eq-eqb k e.0 (sym f)) refl
      | false ↦ ih ∙ ap are_over none
    ]))
    (λ (f : e.0 ≡ k → ⊥).
    rw (ne_eqb e.0 k f)
    (elim ((e.1 - 1) == 0) as (λ (b : Bool). has k (items_of (cond b ((e.0, e.1 - 1) ∷ due (lowered es)) (due (lowered es)))) ≡ are_over (ticks_in es k)) [
      | true ↦ rw (ne_eqb k e.0 (λ g. f (sym g))) ih
      | false ↦ ih
    ]))
    (cases_eq e.0 k)

-- All lists.

pub left-take_out : (i : ℕ) (q : List (List Entry)) (k u : ℕ) → left_from i (take_out q k) u ≡ cond (u == k) None (left_from i q u)
left-take_out i [] k u = elim (u == k) as (λ (b : Bool). ◌≡◌ {A = Option Left} None (cond b None None)) [ true ↦ refl | false ↦ refl ]
left-take_out i (es ∷ q) k u =
    ap (λ (o : Option ℕ). left_on (as_proc (i + 1)) o (left_from (i + 1) (take_out q k) u)) (ticks_without k es u)
    ∙ ap (left_on (as_proc (i + 1)) (cond (u == k) None (ticks_in es u))) (left-take_out (i + 1) q k u)
    ∙ elim (u == k) as (λ (b : Bool). left_on (as_proc (i + 1)) (cond b None (ticks_in es u)) (cond b None (left_from (i + 1) q u)) ≡ cond b None (left_on (as_proc (i + 1)) (ticks_in es u) (left_from (i + 1) q u)))
    [ true ↦ refl | false ↦ refl ]

left_put : (i : ℕ) (q : List (List Entry)) (p k n u : ℕ) → p < length q → ((j : ℕ) → has_entry k (entries_at q j) ≡ false) →
    left_from i (set q p (sorted_in k n (entries_at q p))) u ≡ cond (u == k) (Some (record { processor = as_proc (i + p + 1); ticks = n })) (left_from i q u)
left_put i [] p k n u h out = absurd (omega arith)
left_put i (es ∷ q) zero k n u h out =
    let here : i + zero + 1 ≡ i + 1 = omega arith in
    ap (λ (o : Option ℕ). left_on (as_proc (i + 1)) o (left_from (i + 1) q u)) (ticks_sorted k n es u (no_ticks k es (out 0)))
    ∙ elim (u == k) as (λ (b : Bool). left_on (as_proc (i + 1)) (cond b (Some n) (ticks_in es u)) (left_from (i + 1) q u) ≡ cond b (Some (record { processor = as_proc (i + 1); ticks = n })) (left_from i (es ∷ q) u))
    [ true ↦ refl | false ↦ refl ]
    ∙ ap (λ (m : ℕ). cond (u == k) (Some (record { processor = as_proc m; ticks = n })) (left_from i (es ∷ q) u)) (sym here)
left_put i (es ∷ q) (suc p) k n u h out =
    let here : i + 1 + p + 1 ≡ i + suc p + 1 = omega arith in
    ap (left_on (as_proc (i + 1)) (ticks_in es u)) (left_put (i + 1) q p k n u (omega arith) (λ j. out (suc j)))
    ∙ ⊎_elim (λ (f : u ≡ k).
    rw (eq-eqb u k f) (ap (λ (o : Option ℕ). left_on (as_proc (i + 1)) o (Some (record { processor = as_proc (i + 1 + p + 1); ticks = n }))) (ap (ticks_in es) f ∙ no_ticks k es (out 0))
    ∙ ap (λ (m : ℕ). Some (record { processor = as_proc m; ticks = n })) here))
    (λ (f : u ≡ k → ⊥). rw (ne_eqb u k f) refl)
    (cases_eq u k)

-- an item that stood nowhere is put into the list of a processor
pub left-insert : (q : List (List Entry)) (p : Proc) (k n u : ℕ) → length q ≡ 8 → ((j : ℕ) → has_entry k (entries_at q j) ≡ false) →
    left_in (set q (p.number - 1) (sorted_in k n (entries_at q (p.number - 1)))) u ≡ cond (u == k) (Some (record { processor = p; ticks = n })) (left_in q u)
left-insert q p k n u count out =
    let high = p.most in
    let low = p.least in
    let place : 0 + (p.number - 1) + 1 ≡ p.number - 1 + 1 = omega arith in
    left_put 0 q (p.number - 1) k n u (omega (arith, high, low, count)) out
    ∙ ap (λ (r : Proc). cond (u == k) (Some (record { processor = r; ticks = n })) (left_in q u)) (ap as_proc place ∙ proc_is p)

left_same : (i : ℕ) (q r : List (List Entry)) (k : ℕ) → length q ≡ length r → ((j : ℕ) → ticks_in (entries_at q j) k ≡ ticks_in (entries_at r j) k) → left_from i q k ≡ left_from i r k
left_same i [] [] k l h = refl
left_same i [] (es ∷ r) k l h = absurd (omega (arith, l))
left_same i (es ∷ q) [] k l h = absurd (omega (arith, l))
left_same i (es ∷ q) (fs ∷ r) k l h =
    ap (λ (o : Option ℕ). left_on (as_proc (i + 1)) o (left_from (i + 1) q k)) (h 0)
    ∙ ap (left_on (as_proc (i + 1)) (ticks_in fs k)) (left_same (i + 1) q r k (omega (arith, l)) (λ j. h (suc j)))

abbrev is_on : Proc → Option Left → Bool
is_on p None = false
is_on p (Some l) = l.processor.number == p.number

off : (i : ℕ) (q : List (List Entry)) (p : Proc) (k : ℕ) → i + length q ≤ 8 → ((j : ℕ) → i + j ≡ p.number - 1 → ticks_in (entries_at q j) k ≡ None) → is_on p (left_from i q k) ≡ false
off i [] p k l h = refl
off i (es ∷ q) p k l h = by (ticks_in es k) refl (off (i + 1) q p k (omega (arith, l)) (λ j f. h (suc j) (omega (arith, f))))
  where
    by : (o : Option ℕ) → ticks_in es k ≡ o → is_on p (left_from (i + 1) q k) ≡ false → is_on p (left_on (as_proc (i + 1)) o (left_from (i + 1) q k)) ≡ false
    by None e further = further
    by (Some n) e further = ne_eqb (as_proc (i + 1)).number p.number (λ (f : (as_proc (i + 1)).number ≡ p.number).
        let here : i + 0 ≡ p.number - 1 = omega (arith, f, l) in
        let none : ticks_in es k ≡ None = h 0 here in
        let bad : Some n ≡ None = sym e ∙ none in cc)

off_ticks : (p : Proc) (l : Option Left) → is_on p l ≡ false → ticks_on p l ≡ None
off_ticks p None e = refl
off_ticks p (Some l) e = ap (λ (b : Bool). cond b (Some l.ticks) None) e

off_due : (p : Proc) (l : Option Left) → is_on p l ≡ false → is_due p l ≡ false
off_due p None e = refl
off_due p (Some l) e = ap (λ (b : Bool). b && ((l.ticks - 1) == 0)) e

off_lowered : (p : Proc) (l : Option Left) → is_on p l ≡ false → lowered_on p l ≡ l
off_lowered p None e = refl
off_lowered p (Some l) e = ap (λ (b : Bool). cond b (Some (record { processor = l.processor; ticks = l.ticks - 1 })) (Some l)) e

off_stays : (p : Proc) (l : Option Left) → is_on p l ≡ false → counted_down p l ≡ l
off_stays p l e = ap (λ (b : Bool). cond b None (lowered_on p l)) (off_due p l e) ∙ off_lowered p l e

-- what the list of a processor has counts there
module _ (q : List (List Entry)) (d : AreDisjoint q) (p : Proc) where
  is_off : (k : ℕ) → ticks_in (entries_at q (p.number - 1)) k ≡ None → is_on p (left_in q k) ≡ false
  is_off k e = off 0 q p k (omega (arith, d.count)) (λ j f. ap (λ (i : ℕ). ticks_in (entries_at q i) k) (let g : j ≡ p.number - 1 = omega (arith, f) in g) ∙ e)

  alone : (k n : ℕ) → ticks_in (entries_at q (p.number - 1)) k ≡ Some n → (j : ℕ) → (j ≡ p.number - 1 → ⊥) → has_entry k (entries_at q j) ≡ false
  alone k n e j f = by (has_entry k (entries_at q j)) refl
    where
      by : (b : Bool) → has_entry k (entries_at q j) ≡ b → has_entry k (entries_at q j) ≡ false
      by false g = g
      by true g = absurd (f (d.one j (p.number - 1) k g (has_ticks k (entries_at q (p.number - 1)) ∙ ap is_some e)))

  place_in : p.number - 1 < length q
  place_in =
      let high = p.most in
      let low = p.least in
      omega (arith, high, low, d.count)

  pub left-on : (k n : ℕ) → ticks_in (entries_at q (p.number - 1)) k ≡ Some n → left_in q k ≡ Some (record { processor = p; ticks = n })
  left-on k n e =
      let place : 0 + (p.number - 1) + 1 ≡ p.number - 1 + 1 = omega arith in
      left_there 0 q k (p.number - 1) n e (alone k n e) ∙ ap (λ (r : Proc). Some (record { processor = r; ticks = n })) (ap as_proc place ∙ proc_is p)

  pub ticks_on-left : (k : ℕ) → ticks_on p (left_in q k) ≡ ticks_in (entries_at q (p.number - 1)) k
  ticks_on-left k = by (ticks_in (entries_at q (p.number - 1)) k) refl
    where
      by : (o : Option ℕ) → ticks_in (entries_at q (p.number - 1)) k ≡ o → ticks_on p (left_in q k) ≡ ticks_in (entries_at q (p.number - 1)) k
      by None e = off_ticks p (left_in q k) (is_off k e) ∙ sym e
      by (Some n) e = ap (ticks_on p) (left-on k n e) ∙ ap (λ (b : Bool). cond b (Some n) None) (eq-eqb p.number p.number refl) ∙ sym e

  pub due-left : (k : ℕ) → is_due p (left_in q k) ≡ has k (items_of (due (lowered (entries_at q (p.number - 1)))))
  due-left k = by (ticks_in (entries_at q (p.number - 1)) k) refl ∙ sym (has_due k (entries_at q (p.number - 1)) (d.apart (p.number - 1)))
    where
      by : (o : Option ℕ) → ticks_in (entries_at q (p.number - 1)) k ≡ o → is_due p (left_in q k) ≡ are_over (ticks_in (entries_at q (p.number - 1)) k)
      by None e = off_due p (left_in q k) (is_off k e) ∙ sym (ap are_over e)
      by (Some n) e = ap (is_due p) (left-on k n e) ∙ ap (λ (b : Bool). b && ((n - 1) == 0)) (eq-eqb p.number p.number refl) ∙ sym (ap are_over e)

  pub left-tick : (k : ℕ) → left_in (set q (p.number - 1) (not_due (lowered (entries_at q (p.number - 1))))) k ≡ counted_down p (left_in q k)
  left-tick k = by (ticks_in (entries_at q (p.number - 1)) k) refl
    where
      fs : List Entry
      fs = not_due (lowered (entries_at q (p.number - 1)))

      r : List (List Entry)
      r = set q (p.number - 1) fs

      at : ticks_in (entries_at (set q (p.number - 1) (not_due (lowered (entries_at q (p.number - 1))))) (p.number - 1)) k ≡ ticks_after (ticks_in (entries_at q (p.number - 1)) k)
      at = ap (λ (es : List Entry). ticks_in es k) (get_or-set_same q (p.number - 1) (not_due (lowered (entries_at q (p.number - 1)))) [] place_in)
          ∙ ticks_ticked k (entries_at q (p.number - 1)) (d.apart (p.number - 1))

      rest : (j : ℕ) → (j ≡ p.number - 1 → ⊥) → entries_at (set q (p.number - 1) (not_due (lowered (entries_at q (p.number - 1))))) j ≡ entries_at q j
      rest j f = get_or-set_other q (p.number - 1) j (not_due (lowered (entries_at q (p.number - 1)))) [] f

      same : ticks_in (entries_at q (p.number - 1)) k ≡ None → (j : ℕ) → ticks_in (entries_at (set q (p.number - 1) (not_due (lowered (entries_at q (p.number - 1))))) j) k ≡ ticks_in (entries_at q j) k
      same e j =
          ⊎_elim (λ (f : j ≡ p.number - 1). ap (λ (i : ℕ). ticks_in (entries_at r i) k) f ∙ at ∙ ap ticks_after e ∙ sym e ∙ ap (λ (i : ℕ). ticks_in (entries_at q i) k) (sym f))
          (λ (f : j ≡ p.number - 1 → ⊥). ap (λ (es : List Entry). ticks_in es k) (rest j f)) (cases_eq j (p.number - 1))

      others : (n : ℕ) → ticks_in (entries_at q (p.number - 1)) k ≡ Some n → (j : ℕ) → (j ≡ p.number - 1 → ⊥) → has_entry k (entries_at (set q (p.number - 1) (not_due (lowered (entries_at q (p.number - 1))))) j) ≡ false
      others n e j f = ap (has_entry k) (rest j f) ∙ alone k n e j f

      nowhere : (n : ℕ) → ticks_in (entries_at q (p.number - 1)) k ≡ Some n → n - 1 ≡ 0 → (j : ℕ) → has_entry k (entries_at (set q (p.number - 1) (not_due (lowered (entries_at q (p.number - 1))))) j) ≡ false
      nowhere n e z j =
          ⊎_elim (λ (f : j ≡ p.number - 1). ap (λ (i : ℕ). has_entry k (entries_at r i)) f ∙ has_ticks k (entries_at r (p.number - 1))
          ∙ ap is_some (at ∙ ap ticks_after e ∙ ap (λ (b : Bool). cond b None (Some (n - 1))) (eq-eqb (n - 1) 0 z)))
          (others n e j) (cases_eq j (p.number - 1))

      over : (n : ℕ) → counted_down p (Some (record { processor = p; ticks = n })) ≡ cond ((n - 1) == 0) None (Some (record { processor = p; ticks = n - 1 }))
      over n = rw (eq-eqb p.number p.number refl) refl

      by : (o : Option ℕ) → ticks_in (entries_at q (p.number - 1)) k ≡ o → left_in (set q (p.number - 1) (not_due (lowered (entries_at q (p.number - 1))))) k ≡ counted_down p (left_in q k)
      by None e = left_same 0 r q k (length-set q (p.number - 1) fs) (same e) ∙ sym (off_stays p (left_in q k) (is_off k e))
      by (Some n) e =
          ⊎_elim (λ (z : n - 1 ≡ 0). left_nowhere 0 r k (nowhere n e z)
          ∙ sym (ap (counted_down p) (left-on k n e) ∙ over n ∙ ap (λ (b : Bool). cond b None (Some (record { processor = p; ticks = n - 1 }))) (eq-eqb (n - 1) 0 z)))
          (λ (z : n - 1 ≡ 0 → ⊥).
          let place : 0 + (p.number - 1) + 1 ≡ p.number - 1 + 1 = omega arith in
          left_there 0 r k (p.number - 1) (n - 1) (at ∙ ap ticks_after e ∙ ap (λ (b : Bool). cond b None (Some (n - 1))) (ne_eqb (n - 1) 0 z)) (others n e)
          ∙ ap (λ (s : Proc). Some (record { processor = s; ticks = n - 1 })) (ap as_proc place ∙ proc_is p)
          ∙ sym (ap (counted_down p) (left-on k n e) ∙ over n ∙ ap (λ (b : Bool). cond b None (Some (record { processor = p; ticks = n - 1 }))) (ne_eqb (n - 1) 0 z)))
          (cases_eq (n - 1) 0)

  pub left-lower : (k : ℕ) → left_in (set q (p.number - 1) (lowered (entries_at q (p.number - 1)))) k ≡ lowered_on p (left_in q k)
  left-lower k = by (ticks_in (entries_at q (p.number - 1)) k) refl
    where
      r : List (List Entry)
      r = set q (p.number - 1) (lowered (entries_at q (p.number - 1)))

      at : ticks_in (entries_at (set q (p.number - 1) (lowered (entries_at q (p.number - 1)))) (p.number - 1)) k ≡ less_one (ticks_in (entries_at q (p.number - 1)) k)
      at = ap (λ (es : List Entry). ticks_in es k) (get_or-set_same q (p.number - 1) (lowered (entries_at q (p.number - 1))) [] place_in)
          ∙ ticks_lowered k (entries_at q (p.number - 1))

      rest : (j : ℕ) → (j ≡ p.number - 1 → ⊥) → entries_at (set q (p.number - 1) (lowered (entries_at q (p.number - 1)))) j ≡ entries_at q j
      rest j f = get_or-set_other q (p.number - 1) j (lowered (entries_at q (p.number - 1))) [] f

      same : ticks_in (entries_at q (p.number - 1)) k ≡ None → (j : ℕ) → ticks_in (entries_at (set q (p.number - 1) (lowered (entries_at q (p.number - 1)))) j) k ≡ ticks_in (entries_at q j) k
      same e j =
          ⊎_elim (λ (f : j ≡ p.number - 1). ap (λ (i : ℕ). ticks_in (entries_at r i) k) f ∙ at ∙ ap less_one e ∙ sym e ∙ ap (λ (i : ℕ). ticks_in (entries_at q i) k) (sym f))
          (λ (f : j ≡ p.number - 1 → ⊥). ap (λ (es : List Entry). ticks_in es k) (rest j f)) (cases_eq j (p.number - 1))

      others : (n : ℕ) → ticks_in (entries_at q (p.number - 1)) k ≡ Some n → (j : ℕ) → (j ≡ p.number - 1 → ⊥) → has_entry k (entries_at (set q (p.number - 1) (lowered (entries_at q (p.number - 1)))) j) ≡ false
      others n e j f = ap (has_entry k) (rest j f) ∙ alone k n e j f

      by : (o : Option ℕ) → ticks_in (entries_at q (p.number - 1)) k ≡ o → left_in (set q (p.number - 1) (lowered (entries_at q (p.number - 1)))) k ≡ lowered_on p (left_in q k)
      by None e = left_same 0 r q k (length-set q (p.number - 1) (lowered (entries_at q (p.number - 1)))) (same e) ∙ sym (off_lowered p (left_in q k) (is_off k e))
      by (Some n) e =
          let place : 0 + (p.number - 1) + 1 ≡ p.number - 1 + 1 = omega arith in
          left_there 0 r k (p.number - 1) (n - 1) (at ∙ ap less_one e) (others n e)
          ∙ ap (λ (s : Proc). Some (record { processor = s; ticks = n - 1 })) (ap as_proc place ∙ proc_is p)
          ∙ sym (ap (lowered_on p) (left-on k n e)
          ∙ ap (λ (b : Bool). cond b (Some (record { processor = p; ticks = n - 1 })) (Some (record { processor = p; ticks = n }))) (eq-eqb p.number p.number refl))

abbrev some_over : ℕ → List (List Entry) → Bool
some_over k q = list_any (λ es. has k (items_of (due es))) q

over_step : (i : ℕ) (es : List Entry) (q : List (List Entry)) (k : ℕ) (o : Option ℕ) → links.AreDistinct (items_of es) → ((j : ℕ) → is_some o ≡ true → has_entry k (entries_at q j) ≡ false) → ticks_in es k ≡ o →
    some_over k q ≡ is_over (left_from (i + 1) q k) → (has k (items_of (due es)) || some_over k q) ≡ is_over (left_from i (es ∷ q) k)
over_step i es q k None apart out e ih =
    ap (λ (b : Bool). b || some_over k q) (has_over k es apart ∙ ap zero_left e) ∙ ih
    ∙ ap (λ (o : Option ℕ). is_over (left_on (as_proc (i + 1)) o (left_from (i + 1) q k))) (sym e)
over_step i es q k (Some n) apart out e ih =
    ap (λ (b : Bool). b || some_over k q) (has_over k es apart ∙ ap zero_left e)
    ∙ ap (λ (b : Bool). (n == 0) || b) (ih ∙ ap is_over (left_nowhere (i + 1) q k (λ j. out j refl))) ∙ or-false (n == 0)
    ∙ ap (λ (o : Option ℕ). is_over (left_on (as_proc (i + 1)) o (left_from (i + 1) q k))) (sym e)

-- an item has no ticks left where a list has it among those that are due
over_from : (i : ℕ) (q : List (List Entry)) (k : ℕ) → ((j : ℕ) → links.AreDistinct (items_of (entries_at q j))) → ((j l : ℕ) → has_entry k (entries_at q j) ≡ true → has_entry k (entries_at q l) ≡ true → j ≡ l) →
    some_over k q ≡ is_over (left_from i q k)
over_from i [] k apart one = refl
over_from i (es ∷ q) k apart one =
    over_step i es q k (ticks_in es k) (apart 0)
    (λ j h. false_from_ne_true (has_entry k (entries_at q j)) (λ f. let bad = one 0 (suc j) (has_ticks k es ∙ h) f in omega (arith, bad)))
    refl (over_from (i + 1) q k (λ j. apart (suc j)) (λ j l e f. let next = one (suc j) (suc l) e f in omega (arith, next)))

pub over-left : (q : List (List Entry)) (k : ℕ) → AreDisjoint q → list_any (λ es. has k (items_of (due es))) q ≡ is_over (left_in q k)
over-left q k d = over_from 0 q k d.apart (λ j l. d.one j l k)
