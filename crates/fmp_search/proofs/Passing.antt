-- One edge more that marks passed.
use Rattle.std.proofs.Common.{◌≡◌, ◌⊎◌, inl, inr, ℕ, ◌+◌, ◌-◌, ◌<◌, ◌≤◌, Bool, true, false, ◌||◌, List, ◌∷◌, length, Some, refl, ◌∙◌, sym, subst, arith, rules}
use Rattle.std.specs.Prelude.{slice_get}
use Rattle.std.proofs.Math.Nat.{eq-or-lt_of_le}
use Rattle.std.proofs.lemmas.Option.{same_Some}
use Rattle.fmp_search.specs.declared.edges.Edge.{Edge}
use Rattle.fmp_search.specs.Forever.{mark_at}
use Rattle.fmp_search.specs.Spreads.{AreDue, AreWithin, HasWay}

-- where neither of two is so, the one is not, and the other is not
pub neither : (a b : Bool) → (a || b) ≡ false → (a ≡ false) × (b ≡ false)
neither false b h = (refl, h)
neither true b h = absurd (search rules)

next_or_earlier :
    (edges : List Edge) (marks : List Bool) (n at : ℕ) (one : Edge) → slice_get edges (n - 1 - at) ≡ Some one →
    ((k : ℕ) (e : Edge) → n ≤ k + at → slice_get edges k ≡ Some e → mark_at marks e.to ≡ true → mark_at marks e.from ≡ true) →
    (mark_at marks one.to ≡ true → mark_at marks one.from ≡ true) →
    (k : ℕ) (e : Edge) → (n ≡ k + (at + 1)) ⊎ (n < k + (at + 1)) → slice_get edges k ≡ Some e → mark_at marks e.to ≡ true → mark_at marks e.from ≡ true
next_or_earlier edges marks n at one is_one earlier next k e (inl is) get to =
    let number : k ≡ n - 1 - at = omega (arith, is) in
    let same : one ≡ e = same_Some one e (sym is_one ∙ subst (λ m. slice_get edges m ≡ Some e) number get) in
    subst (λ (x : Edge). mark_at marks x.from ≡ true) same (next (subst (λ (x : Edge). mark_at marks x.to ≡ true) (sym same) to))
next_or_earlier edges marks n at one is_one earlier next k e (inr lt) get to = earlier k e (omega (arith, lt)) get to

-- the edges after one that changed nothing, and that one
pub passed_more :
    (edges : List Edge) (marks new : List Bool) (n at : ℕ) (one : Edge) → slice_get edges (n - 1 - at) ≡ Some one → new ≡ marks →
    ((k : ℕ) (e : Edge) → n ≤ k + at → slice_get edges k ≡ Some e → mark_at marks e.to ≡ true → mark_at marks e.from ≡ true) →
    (mark_at marks one.to ≡ true → mark_at new one.from ≡ true) →
    (k : ℕ) (e : Edge) → n ≤ k + (at + 1) → slice_get edges k ≡ Some e → mark_at new e.to ≡ true → mark_at new e.from ≡ true
passed_more edges marks new n at one is_one same earlier next k e le get to =
    let next' = subst (λ (m : List Bool). mark_at marks one.to ≡ true → mark_at m one.from ≡ true) same next in
    let to' = subst (λ (m : List Bool). mark_at m e.to ≡ true) same to in
    subst (λ (m : List Bool). mark_at m e.from ≡ true) (sym same) (next_or_earlier edges marks n at one is_one earlier next' k e (eq-or-lt_of_le le) get to')

over_one :
    (edges : List Edge) (start old : List Bool) (one : Edge) (n : ℕ) → slice_get edges n ≡ Some one → one.to < length old → AreDue edges start old →
    (i : ℕ) → i < length old → (mark_at old i ≡ true) ⊎ ((i ≡ one.from) × (mark_at old one.to ≡ true)) → HasWay edges start i
over_one edges start old one n is_one to due i lt (inl marked) = due i lt marked
over_one edges start old one n is_one to due i lt (inr there) =
    let way = due one.to to there.1 in
    record {
      over = one.to ∷ way.over;
      to = way.to;
      goes = (record { number = n; edge = one; is_one = is_one; leaves = sym there.0; comes = refl }, way.goes);
      marked = way.marked;
    }

-- a mark that passed over an edge has a way, as the mark where the edge leads
pub due_more :
    (edges : List Edge) (start old new : List Bool) (n : ℕ) (one : Edge) → slice_get edges n ≡ Some one → AreWithin edges (length old) → length new ≡ length old → AreDue edges start old →
    ((i : ℕ) → mark_at new i ≡ true → (mark_at old i ≡ true) ⊎ ((i ≡ one.from) × (mark_at old one.to ≡ true))) → AreDue edges start new
due_more edges start old new n one is_one within long due passed i lt marked =
    over_one edges start old one n is_one (within n one is_one).1 due i (subst (λ m. i < m) long lt) (passed i marked)
