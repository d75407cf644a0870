-- What the comparison of lists says of their views.
use Rattle.std.proofs.Common.{◌≡◌, ℕ, suc, ◌<◌, Bool, ◌&&◌, List, [], ◌∷◌, length, map, get_or, slice_index_or, refl, sym, ap, ◌∙◌, arith, rules, eqb, Decides}
use Rattle.std.specs.Cmp.Lexicographic.{pointwise}
use Rattle.std.specs.Global.{Vec}
use Rattle.std.proofs.lemmas.Slice.Eq.{slice_eq-Decides}
use Rattle.std.proofs.lemmas.Bool.Decides.{Decides-like, Decides-and}
use Rattle.std.proofs.lemmas.List.{get_or-map}

-- where `E` decides that two views are equal, element by element it decides that the lists of views are
pub views_decide : {A B : Type 0} (E : A → A → Bool) (view : A → B) → ((a b : A) → Decides (E a b) (view a ≡ view b))
    → (xs ys : List A) → Decides (pointwise E xs ys) (map view xs ≡ map view ys)
views_decide E view each [] [] = (λ _. refl, λ _. refl)
views_decide E view each [] (y ∷ ys) = (λ t. cc, λ e. cc)
views_decide E view each (x ∷ xs) [] = (λ t. cc, λ e. cc)
views_decide E view each (x ∷ xs) (y ∷ ys) =
    Decides-like _ (λ p. let a = p.0 in let b = p.1 in cc) (λ e. (cc, cc)) (Decides-and _ _ (each x y) (views_decide E view each xs ys))

-- lists of equal length whose views are equal at each place
pub same_views : {A B : Type 0} (view : A → B) (xs ys : List A) → length xs ≡ length ys
    → ((i : ℕ) (d e : A) → i < length xs → view (slice_index_or xs i d) ≡ view (slice_index_or ys i e)) → map view xs ≡ map view ys
same_views view [] [] long at = refl
same_views view [] (y ∷ ys) long at = absurd (omega (arith, long))
same_views view (x ∷ xs) [] long at = absurd (omega (arith, long))
same_views view (x ∷ xs) (y ∷ ys) long at =
    let first : view x ≡ view y = at 0 x y (omega arith) in
    let rest : map view xs ≡ map view ys = same_views view xs ys (omega (arith, long)) (λ i d e small. at (suc i) d e (omega (arith, small))) in
    cc

-- equal lists of views have equal ones at each place
pub view_at : {A B : Type 0} (view : A → B) (xs ys : List A) (i : ℕ) (d e : A) → i < length xs → i < length ys → map view xs ≡ map view ys
    → view (slice_index_or xs i d) ≡ view (slice_index_or ys i e)
view_at view xs ys i d e here there same =
    sym (get_or-map view xs i d (view d) here) ∙ ap (λ l. get_or l i (view d)) same ∙ get_or-map view ys i e (view d) there

-- a name's bytes with its number
abbrev pub entry_of : Vec ℕ × ℕ → List ℕ × ℕ
entry_of e = (e.0.items, e.1)

-- where a name's bytes and its number are equal, its entry is
pub entry_decides : (a b : Vec ℕ × ℕ) → Decides (pointwise eqb a.0.items b.0.items && eqb a.1 b.1) (entry_of a ≡ entry_of b)
entry_decides a b =
    Decides-like _ (λ p. ap (λ (items : List ℕ). (items, a.1)) p.0 ∙ ap (λ (number : ℕ). (b.0.items, number)) p.1) (λ e. (ap (λ (p : List ℕ × ℕ). p.0) e, ap (λ (p : List ℕ × ℕ). p.1) e))
    (Decides-and _ _ (slice_eq-Decides (λ x y. search rules) a.0.items b.0.items _ refl) (search rules))
