-- Where not all places were opened, a run of so many steps leads to one to which no shorter run leads.
use Rattle.std.proofs.Common.{◌≡◌, ◌⊎◌, inl, inr, ℕ, ◌+◌, ◌<◌, ◌≤◌, Bool, Option, Some, List, length, refl, subst, sym, arith}
use Rattle.std.proofs.Math.Nat.{eq-or-lt_of_le}
use Rattle.std.proofs.lemmas.Bool.{cases_lt}
use Rattle.fmp_search.specs.declared.nodes.Node.{Node}
use Rattle.fmp_search.specs.Answers.{Explored, GoesOn, HasMore, StopsAt}
use Rattle.fmp_search.specs.Growth.{AreFound}
use Rattle.fmp_search.specs.Runs.{run}
use Rattle.fmp_search.specs.Steps.{path_at}
use Rattle.fmp_search.specs.Surveys.{IsPassed, IsThrough}
use Rattle.fmp_search.specs.Trees.{found_at}
use Rattle.fmp_search.proofs.Branches.{path_leads, path_long}
use Rattle.fmp_search.proofs.Extents.{all_near}

module _ {P : Type 0} (after : P → ℕ → Option P) (wanted : P → Bool) (q : P) (nodes : List Node) (n opened turns : ℕ) (x : Explored after wanted q nodes n (length nodes + 1) opened)
    (passed : IsPassed after q nodes turns opened) (few : opened ≤ length nodes) where
  -- no shorter run leads to the first place that was not opened
  none_shorter : (others : List ℕ) → run after q others ≡ Some (found_at after q nodes opened).place → turns ≤ length others
  none_shorter others on = elim (cases_lt (length others) turns) [
    | inl lt ↦ let got = passed.through others _ lt on in absurd (x.distinct got.0 opened got.1 few got.2)
    | inr le ↦ le
  ]

  pub goes_farther : n ≡ turns → GoesOn after q turns
  goes_farther last =
      let count = path_long after q nodes opened x.tree few in
      let deep = x.near opened (omega (arith, few)) in
      let leads = path_leads after q nodes opened x.tree few in
      let least = none_shorter (path_at nodes opened) leads in
      record { steps = path_at nodes opened; place = (found_at after q nodes opened).place; count = omega (arith, count, deep, least, last); leads = leads; nearest = none_shorter }

-- where all places were opened, and all were found by fewer steps than these, no run of so many leads to one to which no shorter run leads
pub not_farther : {P : Type 0} (after : P → ℕ → Option P) (wanted : P → Bool) (q : P) (nodes : List Node) (n turns : ℕ) → Explored after wanted q nodes n (length nodes + 1) (length nodes + 1) →
    ((i : ℕ) → i ≤ length nodes → (found_at after q nodes i).depth < turns) → GoesOn after q turns → ⊥
not_farther after wanted q nodes n turns x near on =
    let got = all_near after q wanted nodes n (length nodes + 1) x refl on.steps on.place on.leads in
    let low = got.1 in
    let leads = path_leads after q nodes got.0 x.tree low in
    let short = on.nearest (path_at nodes got.0) (subst (λ r. run after q (path_at nodes got.0) ≡ Some r) got.2 leads) in
    let long = path_long after q nodes got.0 x.tree low in
    let deep = near got.0 low in
    omega (arith, short, long, deep)

-- the other of two that may be so
other_of : {A B : Type 0} → A ⊎ B → (A → ⊥) → B
other_of (inl a) not = absurd (not a)
other_of (inr b) not = b

module _ {P : Type 0} (after : P → ℕ → Option P) (q : P) (nodes : List Node) (n turns : ℕ) where
  -- a search stops where all room is used up
  pub stops_full : (room : ℕ) → AreFound after q n nodes → n < turns → length nodes ≡ room → HasMore after q nodes (n + 1) → StopsAt after q turns room n
  stops_full room all lt full beyond = (
    omega (arith, lt),
    λ less. record { nodes = nodes; tree = all.tree; all = full; near = all.near; distinct = all.distinct; beyond = beyond },
    λ same. absurd (omega (arith, lt, same)),
  )

  -- or where it went through all steps that were asked for, and not all places were opened
  pub stops_last : (wanted : P → Bool) (room opened : ℕ) → IsThrough after wanted q turns nodes n opened → (opened ≡ length nodes + 1 → ⊥) → StopsAt after q turns room n
  stops_last wanted room opened through not_all =
      let last : n ≡ turns = other_of through.ended not_all in
      let few = through.passed.few in
      let low : opened ≤ length nodes = elim (eq-or-lt_of_le few) [ inl all ↦ absurd (not_all all) | inr lt ↦ omega (arith, lt) ] in (
        through.within,
        λ lt. absurd (omega (arith, lt, last)),
        λ same. subst (λ k. GoesOn after q k) (sym last) (goes_farther after wanted q nodes n opened turns through.explored through.passed low last),
      )
