-- What a data queue has after its oldest value is taken out.
use Rattle.std.proofs.Common.{◌≡◌, ◌<◌, ◌≤◌, ℕ, ℤ, ◌-◌, List, [], ◌∷◌, ◌++◌, length, get_or, refl, ◌∙◌, sym, ap, arith}
use Rattle.std.proofs.Math.ListN.{set}
use Rattle.std.proofs.Math.Logic.{⊎_elim}
use Rattle.std.proofs.lemmas.Bool.{cases_lt}
use Rattle.std.proofs.lemmas.List.{get_or-set_same, get_or_past, set_past, set-set}
use Rattle.fmp_codes.specs.declared.numbers.Object.{Object}
use Rattle.fmp_rules.specs.World.{World, rest}
use Rattle.fmp_rules.specs.Objects.{values}
use Rattle.fmp_rules.specs.BufferCalls.{with_values}

-- the list of a number after its first item was taken out, also where there is no list of this number
pub values_left : {X : Type 0} → (xss : List (List X)) (i : ℕ) → get_or (set xss i (rest (get_or xss i []))) i [] ≡ rest (get_or xss i [])
values_left {X} xss i =
    ⊎_elim
    (λ (h : i < length xss). get_or-set_same xss i (rest (get_or xss i [])) [] h)
    (λ (h : length xss ≤ i).
    let past : get_or xss i [] ≡ [] = get_or_past xss i [] h in
    ap (λ ys. get_or ys i []) (set_past xss i (rest (get_or xss i [])) h) ∙ past ∙ sym (ap rest past))
    (cases_lt i (length xss))

pub length_left : {X : Type 0} → (xs : List X) → length (rest xs) ≡ length xs - 1
length_left [] = refl
length_left (x ∷ xs) = omega arith

-- the oldest value is taken out, and another one is put last
pub shifted : {Q : Type 0} (w v : World Q) (d : Object) (x : ℤ) → v ≡ with_values w d (rest (values w d)) → with_values v d (values v d ++ x ∷ []) ≡ with_values w d (rest (values w d) ++ x ∷ [])
shifted w v d x e =
    let i = d.number - 1 in
    let left = set w.contents i (rest (values w d)) in
    rw e (ap (λ (cs : List (List ℤ)). record w { contents = cs }) (set-set w.contents i (rest (values w d)) (get_or left i [] ++ x ∷ []) ∙ ap (λ (vs : List ℤ). set w.contents i (vs ++ x ∷ [])) (values_left w.contents i)))
