-- What marks say of all runs.
use Rattle.std.proofs.Common.{◌≡◌, ℕ, ◌+◌, ◌≤◌, Bool, true, false, Option, None, Some, List, [], ◌∷◌, ◌++◌, length, refl, ap, sym, subst, ◌∙◌, arith, rules}
use Rattle.std.specs.Option.{option_and_then}
use Rattle.std.proofs.lemmas.Bool.{false≢true}
use Rattle.std.proofs.lemmas.Grind.{common_steps}
use Rattle.std.proofs.lemmas.Option.{same_Some}
use Rattle.fmp_search.specs.declared.nodes.Node.{Node}
use Rattle.fmp_search.specs.Runs.{run}
use Rattle.fmp_search.specs.Trees.{found_at}
use Rattle.fmp_search.specs.Forever.{ForEver, EndsForEver, NoneForEver, IsShortestForEver, mark_at, AreClosed, AreEarned, AreNearest, Enters, MarksSay}
use Rattle.fmp_search.proofs.Trees.{run-append}

-- one of two, whether a mark is there
pub data Marked (b : Bool) : Type 0 where
  yes : b ≡ true → Marked b
  no : b ≡ false → Marked b

pub is_marked : (b : Bool) → Marked b
is_marked true = yes refl
is_marked false = no refl

module _ {P : Type 0} (after : P → ℕ → Option P) where
  -- a run of a first step and others
  first_step : (o : Option P) (t : P) (ss : List ℕ) → option_and_then (λ r. run after r ss) o ≡ Some t → (r : P) × (o ≡ Some r) × (run after r ss ≡ Some t)
  first_step None t ss h = absurd (search rules)
  first_step (Some r) t ss h = (r, refl, h)

  module _ (test : P → ℕ → Bool) (q : P) (nodes : List Node) (marks : List Bool) where
    stays :
        AreClosed after test q nodes marks → (steps : List ℕ) (i : ℕ) (t u : P) (s : ℕ) → mark_at marks i ≡ false →
        run after (found_at after q nodes i).place steps ≡ Some t → after t s ≡ Some u → test t s ≡ true
    stays closed [] i t u s free leads goes =
        let there = same_Some _ _ leads in
        subst (λ (x : P). test x s ≡ true) there (closed i s u free (subst (λ (x : P). after x s ≡ Some u) (sym there) goes)).0
    stays closed (a ∷ rest) i t u s free leads goes =
        let one = first_step (after (found_at after q nodes i).place a) t rest leads in
        let next = (closed i a one.0 free one.1).1 in
        stays closed rest next.0 t u s next.1 (subst (λ (x : P). run after x rest ≡ Some t) (sym next.2) one.2) goes

    pub sound : AreClosed after test q nodes marks → (i : ℕ) → mark_at marks i ≡ false → ForEver after test (found_at after q nodes i).place
    sound closed i free steps t u s leads goes = stays closed steps i t u s free leads goes

    pub complete :
        AreEarned after test q nodes marks → (i : ℕ) → i ≤ length nodes → mark_at marks i ≡ true → ForEver after test (found_at after q nodes i).place → ⊥
    complete earned i few marked for_ever =
        let out = earned i few marked in
        false≢true (sym out.fails ∙ for_ever out.steps out.place out.next out.step out.leads out.goes)

    -- a place from where on the test is passed for ever has no mark
    pub free_there : AreEarned after test q nodes marks → (i : ℕ) → i ≤ length nodes → ForEver after test (found_at after q nodes i).place → Marked (mark_at marks i) → mark_at marks i ≡ false
    free_there earned i few for_ever (yes marked) = absurd (complete earned i few marked for_ever)
    free_there earned i few for_ever (no none) = none

    -- a run of some steps and one more
    longer_run : (before : List ℕ) (last : ℕ) (p r : P) → run after q before ≡ Some p → after p last ≡ Some r → run after q (before ++ last ∷ []) ≡ Some r
    longer_run before last p r leads goes = rw (run-append after q before (last ∷ [])) (rw leads (rw goes refl))

    -- where a run ends for ever, the step from the place to which it leads before its last one enters such a place
    pub record EntersNear (others : List ℕ) : Type 0 where
      pub place : ℕ
      pub step : ℕ
      pub enters : Enters after test q nodes marks place step
      pub near : (found_at after q nodes place).depth + 1 ≤ length others

    pub enters_near : AreEarned after test q nodes marks → AreNearest after q nodes → (others : List ℕ) → EndsForEver after test q others → EntersNear others
    enters_near earned nearest others ends =
        let at = nearest ends.before ends.place ends.leads in
        let next = nearest (ends.before ++ ends.last ∷ []) ends.next (longer_run ends.before ends.last ends.place ends.next ends.leads ends.goes) in
        let there : ForEver after test (found_at after q nodes next.0).place = subst (λ (x : P). ForEver after test x) (sym next.2) ends.for_ever in
        let long : length others ≡ length ends.before + 1 = ap length ends.is ∙ grind (arith, common_steps) in
        let near = at.3 in
        record {
          place = at.0;
          step = ends.last;
          enters = record {
            few = at.1;
            next = next.0;
            near = next.1;
            goes = subst (λ (x : P). after x ends.last ≡ Some (found_at after q nodes next.0).place) (sym at.2) (ends.goes ∙ ap (λ (x : P). Some x) (sym next.2));
            passes = subst (λ (x : P). test x ends.last ≡ true) (sym at.2) ends.passes;
            free = free_there earned next.0 next.1 there (is_marked (mark_at marks next.0));
          };
          near = omega (arith, long, near);
        }

    pub never :
        AreEarned after test q nodes marks → AreNearest after q nodes → ((i s : ℕ) → Enters after test q nodes marks i s → ⊥) → NoneForEver after test q
    never earned nearest none steps ends =
        let it = enters_near earned nearest steps ends in
        none it.place it.step it.enters

    pub found :
        AreClosed after test q nodes marks → (i s : ℕ) (steps : List ℕ) → Enters after test q nodes marks i s →
        run after q steps ≡ Some (found_at after q nodes i).place → EndsForEver after test q (steps ++ s ∷ [])
    found closed i s steps enters leads = record {
      before = steps;
      last = s;
      is = refl;
      place = (found_at after q nodes i).place;
      next = (found_at after q nodes enters.next).place;
      leads = leads;
      goes = enters.goes;
      passes = enters.passes;
      for_ever = sound closed enters.next enters.free;
    }

    pub shortest :
        AreClosed after test q nodes marks → AreEarned after test q nodes marks → AreNearest after q nodes →
        (i s : ℕ) (steps : List ℕ) → Enters after test q nodes marks i s → run after q steps ≡ Some (found_at after q nodes i).place →
        ((j t : ℕ) → Enters after test q nodes marks j t → length steps ≤ (found_at after q nodes j).depth) → IsShortestForEver after test q (steps ++ s ∷ [])
    shortest closed earned nearest i s steps enters leads least = record {
      ends = found closed i s steps enters leads;
      shortest = λ others ends.
          let it = enters_near earned nearest others ends in
          let low = least it.place it.step it.enters in
          let near = it.near in
          let long : length (steps ++ s ∷ []) ≡ length steps + 1 = grind (arith, common_steps) in
          omega (arith, low, near, long);
    }

    pub marks_say : MarksSay after test q nodes marks
    marks_say = record { sound = sound; complete = complete; never = never; found = found; shortest = shortest }
