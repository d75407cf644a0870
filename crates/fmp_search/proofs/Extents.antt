-- How many steps lead to each place that was found.
use Rattle.std.proofs.Common.{◌≡◌, ◌∙◌, ◌⊎◌, ℕ, ◌+◌, ◌<◌, ◌≤◌, Bool, Option, List, [], ◌∷◌, ◌++◌, length, get_or, max, inl, inr, ap, sym, subst, arith}
use Rattle.std.specs.Prelude.{slice_index_or}
use Rattle.std.proofs.Math.Nat.{eq-or-lt_of_le}
use Rattle.std.proofs.Math.ListN.{get_or-append}
use Rattle.std.proofs.Math.Seq.{get_or-append_seam}
use Rattle.std.proofs.lemmas.Bool.{cases_lt}
use Rattle.std.proofs.lemmas.Grind.{common_steps}
use Rattle.fmp_search.specs.declared.nodes.Node.{Node}
use Rattle.fmp_search.specs.declared.extent.Extent.{Extent}
use Rattle.fmp_search.specs.Trees.{AreDistinct, IsTree}
use Rattle.fmp_search.specs.Answers.{AreOpened, Explored}
use Rattle.fmp_search.specs.Forever.{AreNearest}
use Rattle.fmp_search.specs.Steps.{path_at, AreAfter}
use Rattle.fmp_search.specs.Extents.{IsExtent, HasGone}
use Rattle.fmp_search.proofs.Branches.{path-step}
use Rattle.fmp_search.proofs.Layers.{complete-all}

-- what is so below a number and of it
pub this_too : (Fact : ℕ → Type 0) (n : ℕ) → ((i : ℕ) → i ≤ n → Fact i) → Fact (n + 1) → (i : ℕ) → i ≤ n + 1 → Fact i
this_too Fact n below this i le = elim (eq-or-lt_of_le le) [
  | inl is ↦ subst Fact (sym is) this
  | inr lt ↦ below i (omega (arith, lt))
]

-- the greater of two numbers is one of them
pub one_of_two : (f x m : ℕ) → m ≡ max f x → (m ≡ f) ⊎ (m ≡ x)
one_of_two f x m is = elim (cases_lt f x) [
  | inl lt ↦ inr (omega (arith, is, lt))
  | inr le ↦ inl (omega (arith, is, le))
]

module _ (nodes : List Node) (at : ℕ) (d : Node) (following : AreAfter nodes) (lt : at < length nodes) where
  -- one step more leads to a place than to the one before it
  pub next_long : length (path_at nodes (at + 1)) ≡ length (path_at nodes (slice_index_or nodes at d).parent) + 1
  next_long = ap (λ (xs : List ℕ). length xs) (path-step nodes at d following lt) ∙ grind (arith, common_steps)

-- the numbers of steps with one more
pub are_more : (nodes : List Node) (old new : List ℕ) (at x : ℕ) → length old ≡ at + 1 → new ≡ old ++ x ∷ [] → x ≡ length (path_at nodes (at + 1)) →
    ((i d : ℕ) → i ≤ at → slice_index_or old i d ≡ length (path_at nodes i)) → (i d : ℕ) → i ≤ at + 1 → slice_index_or new i d ≡ length (path_at nodes i)
are_more nodes old new at x long is last are i d =
    this_too (λ k. slice_index_or new k d ≡ length (path_at nodes k)) at
    (λ k le. ap (λ (xs : List ℕ). get_or xs k d) is ∙ get_or-append old (x ∷ []) d k (omega (arith, le, long)) ∙ are k d le)
    (ap (λ (xs : List ℕ). get_or xs (at + 1) d) is ∙ ap (λ n. get_or (old ++ x ∷ []) n d) (sym long) ∙ get_or-append_seam old x [] d ∙ last)
    i

-- the farthest with one more
pub far_more : (nodes : List Node) (at x f m : ℕ) → m ≡ max f x → x ≡ length (path_at nodes (at + 1)) →
    (i : ℕ) × (i ≤ at) × (length (path_at nodes i) ≡ f) → (i : ℕ) × (i ≤ at + 1) × (length (path_at nodes i) ≡ m)
far_more nodes at x f m is last far = elim (one_of_two f x m is) [
  | inl before ↦ let le = far.1 in (far.0, omega (arith, le), far.2 ∙ sym before)
  | inr here ↦ (at + 1, omega arith, sym last ∙ sym here)
]

module _ {P : Type 0} (after : P → ℕ → Option P) (q : P) where
  -- how far a search went by these places
  pub gone : (nodes list : List Node) (e : Extent) → IsTree after q nodes → AreDistinct after q nodes → list ≡ nodes → IsExtent list e → HasGone after q nodes e
  gone nodes list e tree distinct same extent = record { tree = tree; distinct = distinct; extent = subst (λ (ns : List Node). IsExtent ns e) same extent }

  -- where all places were opened every run leads to one of them
  pub all_near : (wanted : P → Bool) (ns : List Node) (n first : ℕ) → Explored after wanted q ns n (length ns + 1) first → first ≡ length ns + 1 → AreNearest after q ns
  all_near wanted ns n first x is steps r leads =
      let opened : AreOpened after q ns (length ns + 1) = subst (λ k. AreOpened after q ns k) is x.all_opened in
      let got = complete-all after wanted q ns n x.complete opened x.depths (length steps) steps r (omega arith) leads in
      let low = got.1 in
      (got.0, omega (arith, low), got.2, got.3)
