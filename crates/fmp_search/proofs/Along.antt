-- Runs whose first steps are given, and the graph of these.
use Rattle.std.proofs.Common.{◌≡◌, ℕ, zero, suc, ◌+◌, ◌≤◌, Bool, true, false, ◌&&◌, cond, Option, None, Some, List, [], ◌∷◌, drop, length, refl, ap, sym, subst, ◌∙◌, arith, rules}
use Rattle.std.specs.Prelude.{nat_lt}
use Rattle.std.proofs.Math.Numerals.{suc-eq-add-one}
use Rattle.std.proofs.lemmas.Grind.{common_steps}
use Rattle.std.specs.Option.{option_map, option_and_then}
use Rattle.fmp_search.specs.declared.guided.Choice.{Choice}
use Rattle.fmp_search.specs.declared.space.Noted.{Noted}
use Rattle.fmp_search.specs.declared.exploring.Answer.{Answer}
use Rattle.fmp_search.specs.declared.exploring.Answer.TheVariants as answer
use Rattle.fmp_search.specs.Runs.{run, Goes, Watches}
use Rattle.fmp_search.specs.Answers.{Says, NoneWithin, NoneEver, IsShortest}
use Rattle.fmp_search.specs.Guides.{is_of, Follows, SaysAlong, NoneWithinAlong, NoneEverAlong, IsShortestAlong, Guide, may_choose, guide, guided_after, is_empty, guided_wanted}

-- ---- lists of choices

drop_next : (n : ℕ) (cs : List Choice) → drop 1 (drop n cs) ≡ drop (suc n) cs
drop_next zero [] = refl
drop_next zero (c ∷ cs) = refl
drop_next (suc n) [] = refl
drop_next (suc n) (c ∷ cs) = drop_next n cs

drop_past : (n : ℕ) (cs : List Choice) → length cs ≤ n → drop n cs ≡ []
drop_past zero [] le = refl
drop_past zero (c ∷ cs) le = absurd (grind (arith, common_steps, le))
drop_past (suc n) [] le = refl
drop_past (suc n) (c ∷ cs) le = drop_past n cs (grind (arith, common_steps, le))

-- what has to be chosen still, where one choice more was made
pub drop_one : (n : ℕ) (cs : List Choice) → drop 1 (drop n cs) ≡ drop (cond (nat_lt n (length cs)) (n + 1) n) cs
drop_one n cs = go (nat_lt n (length cs)) refl
  where
    go : (b : Bool) → nat_lt n (length cs) ≡ b → drop 1 (drop n cs) ≡ drop (cond b (n + 1) n) cs
    go true is = drop_next n cs ∙ ap (λ k. drop k cs) (suc-eq-add-one n)
    go false is =
        let le : length cs ≤ n = search (rules, is) in
        let none = drop_past n cs le in
        ap (drop 1) none ∙ sym none

module _ {P : Type 0} (after : P → ℕ → Option P) where
  -- ---- along a run of guided places

  -- a guided run is a run that begins so
  pub guided_leads : (steps : List ℕ) (q : P) (cs : List Choice) (w : Guide P) → run (guided_after after) (guide cs q) steps ≡ Some w → is_empty w.choices ≡ true →
      (run after q steps ≡ Some w.place) × Follows cs steps
  guided_leads [] q [] w on end = let same : guide [] q ≡ w = cc in (ap Some (ap (λ (x : Guide P). x.place) same), tt)
  guided_leads [] q (c ∷ cs) w on end =
      let same : guide (c ∷ cs) q ≡ w = cc in
      let bad : false ≡ true = subst (λ (x : Guide P). is_empty x.choices ≡ true) (sym same) end in
      absurd (search (rules, bad))
  guided_leads (s ∷ steps) q [] w on end = go (λ r on'. guided_leads steps r [] w on' end) (after q s) on
    where
      go : ((r : P) → run (guided_after after) (guide [] r) steps ≡ Some w → (run after r steps ≡ Some w.place) × Follows [] steps) → (o : Option P) → option_and_then (λ r. run (guided_after after) r steps) (option_map (guide []) o) ≡ Some w →
          (option_and_then (λ r. run after r steps) o ≡ Some w.place) × Follows [] (s ∷ steps)
      go more None on' = absurd (search (rules, on'))
      go more (Some r) on' = ((more r on').0, tt)
  guided_leads (s ∷ steps) q (c ∷ cs) w on end = go (λ r on'. guided_leads steps r cs w on' end) (is_of c s) refl (after q s) on
    where
      go : ((r : P) → run (guided_after after) (guide cs r) steps ≡ Some w → (run after r steps ≡ Some w.place) × Follows cs steps) → (b : Bool) → is_of c s ≡ b → (o : Option P) →
          option_and_then (λ r. run (guided_after after) r steps) (cond b (option_map (guide cs) o) None) ≡ Some w →
          (option_and_then (λ r. run after r steps) o ≡ Some w.place) × Follows (c ∷ cs) (s ∷ steps)
      go more false is o on' = absurd (search (rules, on'))
      go more true is None on' = absurd (search (rules, on'))
      go more true is (Some r) on' = let rest = more r on' in (rest.0, (is, rest.1))

  -- and a run that begins so is a guided one
  pub leads_guided : (steps : List ℕ) (q r : P) (cs : List Choice) → run after q steps ≡ Some r → Follows cs steps →
      run (guided_after after) (guide cs q) steps ≡ Some (guide [] r)
  leads_guided [] q r [] on so = let same : q ≡ r = cc in ap (λ x. Some (guide [] x)) same
  leads_guided [] q r (c ∷ cs) on so = absurd so
  leads_guided (s ∷ steps) q r [] on so = go (λ p on'. leads_guided steps p r [] on' tt) (after q s) on
    where
      go : ((p : P) → run after p steps ≡ Some r → run (guided_after after) (guide [] p) steps ≡ Some (guide [] r)) → (o : Option P) → option_and_then (λ x. run after x steps) o ≡ Some r →
          option_and_then (λ x. run (guided_after after) x steps) (option_map (guide []) o) ≡ Some (guide [] r)
      go more None on' = absurd (search (rules, on'))
      go more (Some p) on' = more p on'
  leads_guided (s ∷ steps) q r (c ∷ cs) on so = rw so.0 (go (λ p on'. leads_guided steps p r cs on' so.1) (after q s) on)
    where
      go : ((p : P) → run after p steps ≡ Some r → run (guided_after after) (guide cs p) steps ≡ Some (guide [] r)) → (o : Option P) → option_and_then (λ x. run after x steps) o ≡ Some r →
          option_and_then (λ x. run (guided_after after) x steps) (option_map (guide cs) o) ≡ Some (guide [] r)
      go more None on' = absurd (search (rules, on'))
      go more (Some p) on' = more p on'

  -- ---- one step

  -- a step that may be chosen is told as it was
  pub watches_guided : (q r : P) (cs : List Choice) (s : ℕ) (told : Noted) (report : Option Noted) → may_choose cs s ≡ true → Watches (after q s) told report r →
      Watches (guided_after after (guide cs q) s) told report (guide (drop 1 cs) r)
  watches_guided q r cs s told report may watches = rw may (go (after q s) watches)
    where
      go : (o : Option P) → Watches o told report r → Watches (option_map (guide (drop 1 cs)) o) told report (guide (drop 1 cs) r)
      go None h = h
      go (Some x) h = (h.0, ap (guide (drop 1 cs)) h.1)

  -- a step that may be chosen goes where it went
  pub goes_guided : (q r : P) (cs : List Choice) (s : ℕ) (made : Bool) → may_choose cs s ≡ true → Goes (after q s) made r →
      Goes (guided_after after (guide cs q) s) made (guide (drop 1 cs) r)
  goes_guided q r cs s made may goes = rw may (go (after q s) goes)
    where
      go : (o : Option P) → Goes o made r → Goes (option_map (guide (drop 1 cs)) o) made (guide (drop 1 cs) r)
      go None h = h
      go (Some x) h = (h.0, ap (guide (drop 1 cs)) h.1)

  -- ---- answers
  module _ (wanted : P → Bool) (q : P) (cs : List Choice) where
    wanted_there : (w : Guide P) → guided_wanted wanted w ≡ true → (is_empty w.choices ≡ true) × (wanted w.place ≡ true)
    wanted_there w h = go (is_empty w.choices) refl h
      where
        go : (b : Bool) → is_empty w.choices ≡ b → (b && wanted w.place) ≡ true → (is_empty w.choices ≡ true) × (wanted w.place ≡ true)
        go true e h' = (e, h')
        go false e h' = absurd (search (rules, h'))

    along_ever : NoneEver (guided_after after) (guided_wanted wanted) (guide cs q) → NoneEverAlong after wanted q cs
    along_ever none steps r so leads = none steps (guide [] r) (leads_guided steps q r cs leads so)

    along_within : (n : ℕ) → NoneWithin (guided_after after) (guided_wanted wanted) (guide cs q) n → NoneWithinAlong after wanted q cs n
    along_within n none steps r so few leads = none steps (guide [] r) few (leads_guided steps q r cs leads so)

    along_shortest : (steps : List ℕ) → IsShortest (guided_after after) (guided_wanted wanted) (guide cs q) steps → IsShortestAlong after wanted q cs steps
    along_shortest steps found =
        let there = wanted_there found.place found.is_wanted in
        let leads = guided_leads steps q cs found.place found.leads there.0 in
        record {
          place = found.place.place;
          follows = leads.1;
          leads = leads.0;
          is_wanted = there.1;
          shortest = λ others r so on is. found.shortest others (guide [] r) (leads_guided others q r cs on so) is;
        }

    pub says_along : (most room : ℕ) (a : Answer) → Says (guided_after after) (guided_wanted wanted) (guide cs q) most room a → SaysAlong after wanted q cs most room a
    says_along most room (answer.Found steps) says = (says.0, along_shortest steps.items says.1)
    says_along most room answer.Never says = along_ever says
    says_along most room (answer.NotWithin n) says = (along_within n says.0, says.1)
    says_along most room (answer.Wanting n) says = (says.0, along_within n says.1)
    says_along most room (answer.Ended n) says = (says.0, along_within n says.1)
