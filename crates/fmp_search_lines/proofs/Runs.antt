-- Orders and runs.
use Rattle.std.proofs.Common.{◌≡◌, ◌⊎◌, ℕ, ◌+◌, ◌-◌, ◌<◌, ◌≤◌, ltb, leb, Bool, true, false, ◌&&◌, Option, None, Some, List, [], ◌∷◌, ◌++◌, length, slice_get}
use Rattle.std.proofs.Common.{if◌then◌else◌, refl, ap, sym, subst, ◌∙◌, inl, inr, arith, rules}
use Rattle.std.specs.Option.{option_map, option_and_then}
use Rattle.std.proofs.lemmas.Bool.{and_parts, and_from, cases_Bool, cases_eq, cases_lt, le-leb, ltb-true, lt-ltb, le-ltb}
use Rattle.std.proofs.lemmas.Grind.{common_steps}
use Rattle.fmp_search.specs.Runs.{run}
use Rattle.fmp_search_lines.specs.Orders.{has, numbers_from, most, MayFollow, AreWithin, AreApart, FewOpen}
use Rattle.fmp_search_lines.specs.Places.{may_pass, without, IsTaken, PlacesSay, Place, StepsAre, moved, take_pending, take_new, may_leave, after, line_of}
use Rattle.fmp_search_lines.specs.Places.{lines_from, lines_of, top_after, pending_after, origin}
use Rattle.fmp_search_lines.proofs.Sets.{either, has-nil, has-here, has-later, has-cases, has-append, has-left, has-right, has-numbers, numbers-have}
use Rattle.fmp_search_lines.proofs.Sets.{length-numbers, may_pass-all, all-may_pass, without-less, less-without, at-has, has-at, not_both, to_false}
use Rattle.fmp_search_lines.proofs.Sets.{length-without, apart-without, apart-append}
use Rattle.fmp_search_lines.proofs.Crowds.{no_more}

some_same : {A : Type 0} (a b : A) → Some a ≡ Some b → a ≡ b
some_same a b h = search rules

-- what is so of a place after some lines
pub record Stands (last : ℕ → ℕ) (count : ℕ) (taken : List ℕ) (top : ℕ) (pending : List ℕ) : Type 0 where
  pub few : top ≤ count
  pub gone : (i : ℕ) → has taken i ≡ true → (i < top) × (has pending i ≡ false)
  pub all : (i : ℕ) → i < top → has pending i ≡ false → has taken i ≡ true
  pub below : (i : ℕ) → has pending i ≡ true → i < top
  pub late : (i : ℕ) → has pending i ≡ true → top ≤ last i + 1

module _ (last : ℕ → ℕ) (count : ℕ) (taken : List ℕ) (top : ℕ) (pending : List ℕ) (stands : Stands last count taken top pending) where
  -- a pending line may follow
  pub pending_follows : (j : ℕ) → has pending j ≡ true → MayFollow last count taken j
  pending_follows j there =
      let under = stands.below j there in
      let enough = stands.few in
      let late = stands.late j there in
      record {
        line = omega (arith, under, enough);
        new = to_false (has taken j) (λ t. not_both (has pending j) there (stands.gone j t).1);
        closed = λ i before bound.
            stands.all i (omega (arith, before, under)) (to_false (has pending i) (λ t. let up = stands.late i t in absurd (omega (arith, up, bound, under))));
      }

  -- and then
  pub pending_stands : (j : ℕ) → has pending j ≡ true → Stands last count (j ∷ taken) top (without j pending)
  pending_stands j there = record {
    few = stands.few;
    gone = λ i h. either
        (λ e. (subst (λ (x : ℕ). x < top) e (stands.below j there), to_false (has (without j pending) i) (λ t. (without-less j i pending t).1 (sym e))))
        (λ t. ((stands.gone i t).0, to_false (has (without j pending) i) (λ u. not_both (has pending i) (without-less j i pending u).0 (stands.gone i t).1)))
        (has-cases j i taken h);
    all = λ i under h. either
        (λ e. subst (λ (x : ℕ). has (x ∷ taken) i ≡ true) (sym e) (has-here i taken))
        (λ other. has-later j i taken (stands.all i under (to_false (has pending i) (λ t.
        not_both (has (without j pending) i) (less-without j i pending t (λ e. other (sym e))) h))))
        (cases_eq j i);
    below = λ i t. stands.below i (without-less j i pending t).0;
    late = λ i t. stands.late i (without-less j i pending t).0;
  }

  module _ (k : ℕ) (line : top + k < count) (passes : may_pass last (top + k) (pending ++ numbers_from top k) ≡ true) where
    left_or_gone : (i : ℕ) → i < top + k → (has (pending ++ numbers_from top k) i ≡ true) ⊎ (has taken i ≡ true)
    left_or_gone i under = either
        (λ low. either
        (λ t. inl (has-left pending (numbers_from top k) i t))
        (λ f. inr (stands.all i low f))
        (cases_Bool (has pending i)))
        (λ high. inl (has-right pending (numbers_from top k) i (numbers-have top k i high under)))
        (cases_lt i top)

    -- the line after so many that are left pending may follow
    pub new_follows : MayFollow last count taken (top + k)
    new_follows = record {
      line = line;
      new = to_false (has taken (top + k)) (λ t. let under = (stands.gone (top + k) t).0 in absurd (omega (arith, under)));
      closed = λ i before bound. either
          (λ t. let up = may_pass-all last (top + k) (pending ++ numbers_from top k) passes i t in absurd (omega (arith, up, bound)))
          (λ t. t)
          (left_or_gone i before);
    }

    is_left : (i : ℕ) → has (pending ++ numbers_from top k) i ≡ true → i < top + k
    is_left i t = either
        (λ a. let under = stands.below i a in omega (arith, under))
        (λ b. (has-numbers top k i b).1)
        (has-append pending (numbers_from top k) i t)

    pub new_stands : Stands last count ((top + k) ∷ taken) (top + k + 1) (pending ++ numbers_from top k)
    new_stands = record {
      few = omega (arith, line);
      gone = λ i h. either
          (λ e. (omega (arith, e), to_false (has (pending ++ numbers_from top k) i) (λ t. let under = is_left i t in absurd (omega (arith, under, e)))))
          (λ t. let under = (stands.gone i t).0 in (
            omega (arith, under),
            to_false (has (pending ++ numbers_from top k) i) (λ u. either
                (λ a. not_both (has pending i) a (stands.gone i t).1)
                (λ b. let low = (has-numbers top k i b).0 in absurd (omega (arith, low, under)))
                (has-append pending (numbers_from top k) i u)),
          ))
          (has-cases (top + k) i taken h);
      all = λ i under h. either
          (λ e. subst (λ (x : ℕ). has (x ∷ taken) i ≡ true) (sym e) (has-here i taken))
          (λ other. either
          (λ t. absurd (not_both (has (pending ++ numbers_from top k) i) t h))
          (λ t. has-later (top + k) i taken t)
          (left_or_gone i (omega (arith, under, other))))
          (cases_eq (top + k) i);
      below = λ i t. let under = is_left i t in omega (arith, under);
      late = λ i t. let up = may_pass-all last (top + k) (pending ++ numbers_from top k) passes i t in omega (arith, up);
    }

mapped : {A B : Type 0} (f : A → B) (o : Option A) (r : B) → option_map f o ≡ Some r → (t : A) × (o ≡ Some t) × (f t ≡ r)
mapped f None r h = absurd (search rules)
mapped f (Some t) r h = (t, refl, some_same _ _ h)

-- lines were taken after others
took : List ℕ → List ℕ → List ℕ
took taken [] = taken
took taken (j ∷ js) = took (j ∷ taken) js

module _ {S : Type 0} (play : S → ℕ → Option S) (last : ℕ → ℕ) (count : ℕ) where
  -- a step takes a line that may follow
  record Takes (taken : List ℕ) (q r : Place S) (s : ℕ) : Type 0 where
    line : ℕ
    is_line : line_of last count q.top q.pending s ≡ Some line
    top : r.top ≡ top_after q.top s
    pending : r.pending ≡ pending_after q.top q.pending line s
    follows : MayFollow last count taken line
    right : play q.state line ≡ Some r.state
    stands : Stands last count (line ∷ taken) r.top r.pending

  takes_pending : (taken : List ℕ) (q r : Place S) (s : ℕ) (o : Option ℕ) → ltb s most ≡ true → Stands last count taken q.top q.pending →
      slice_get q.pending s ≡ o → take_pending play last count q o ≡ Some r → Takes taken q r s
  takes_pending taken q r s None low stands e h = absurd (search rules)
  takes_pending taken q r s (Some j) low stands e h =
      let p = mapped (λ (t : S). record { top = q.top; pending = without j q.pending; state = t }) (play q.state j) r h in
      let there = at-has q.pending s j e in
      record {
        line = j;
        is_line = rw low e;
        top = rw low (ap (λ (x : Place S). x.top) (sym p.2));
        pending = rw low (ap (λ (x : Place S). x.pending) (sym p.2));
        follows = pending_follows last count taken q.top q.pending stands j there;
        right = p.1 ∙ ap (λ (x : Place S). Some x.state) p.2;
        stands = subst (λ (x : Place S). Stands last count (j ∷ taken) x.top x.pending) p.2 (pending_stands last count taken q.top q.pending stands j there);
      }

  takes_new : (taken : List ℕ) (q r : Place S) (s k : ℕ) → ltb s most ≡ false → s - most ≡ k → Stands last count taken q.top q.pending →
      may_leave last count q.top q.pending k ≡ true →
      moved play last count q.state (q.top + k) (q.top + k + 1) (q.pending ++ numbers_from q.top k) ≡ Some r → Takes taken q r s
  takes_new taken q r s k high is stands may h =
      let p = mapped (λ (t : S). record { top = q.top + k + 1; pending = q.pending ++ numbers_from q.top k; state = t }) (play q.state (q.top + k)) r h in
      let parts = and_parts (ltb (q.top + k) count) (may_pass last (q.top + k) (q.pending ++ numbers_from q.top k) && leb (length q.pending + k) most) may in
      let line = ltb-true (q.top + k) count parts.0 in
      let passes = (and_parts (may_pass last (q.top + k) (q.pending ++ numbers_from q.top k)) (leb (length q.pending + k) most) parts.1).0 in
      record {
        line = q.top + k;
        is_line = rw (high, is, may) refl;
        top = rw (high, is) (ap (λ (x : Place S). x.top) (sym p.2));
        pending = rw (high, is) (ap (λ (x : Place S). x.pending) (sym p.2));
        follows = new_follows last count taken q.top q.pending stands k line passes;
        right = p.1 ∙ ap (λ (x : Place S). Some x.state) p.2;
        stands = subst (λ (x : Place S). Stands last count ((q.top + k) ∷ taken) x.top x.pending) p.2
            (new_stands last count taken q.top q.pending stands k line passes);
      }

  takes_if_new : (taken : List ℕ) (q r : Place S) (s : ℕ) → ltb s most ≡ false → Stands last count taken q.top q.pending →
      take_new play last count q (s - most) ≡ Some r → Takes taken q r s
  takes_if_new taken q r s high stands h = either
      (λ e. takes_new taken q r s (s - most) high refl stands e (rw e at h))
      (λ e. let none : None ≡ Some r = rw e at h in absurd (search rules))
      (cases_Bool (may_leave last count q.top q.pending (s - most)))

  takes : (taken : List ℕ) (q r : Place S) (s : ℕ) → Stands last count taken q.top q.pending → after play last count q s ≡ Some r → Takes taken q r s
  unfolding after
  takes taken q r s stands h = either
      (λ e. takes_pending taken q r s (slice_get q.pending s) e stands refl (rw e at h))
      (λ e. takes_if_new taken q r s e stands (rw e at h))
      (cases_Bool (ltb s most))

  first_step : (o : Option (Place S)) (r : Place S) (ss : List ℕ) → option_and_then (λ p. run (after play last count) p ss) o ≡ Some r →
      (p : Place S) × (o ≡ Some p) × (run (after play last count) p ss ≡ Some r)
  first_step None r ss h = absurd (search rules)
  first_step (Some p) r ss h = (p, refl, h)

  -- so do all steps of a run
  record TakesAll (taken : List ℕ) (q r : Place S) (order : List ℕ) : Type 0 where
    within : AreWithin last count taken order
    right : run play q.state order ≡ Some r.state
    stands : Stands last count (took taken order) r.top r.pending

  takes_first : (taken : List ℕ) (q p r : Place S) (s : ℕ) (ss : List ℕ) (first : Takes taken q p s) →
      TakesAll (first.line ∷ taken) p r (lines_from last count p.top p.pending ss) → TakesAll taken q r (lines_from last count q.top q.pending (s ∷ ss))
  unfolding took lines_from
  takes_first taken q p r s ss first rest =
      let right = first.right in
      let lines : lines_from last count q.top q.pending (s ∷ ss) ≡ first.line ∷ lines_from last count p.top p.pending ss =
      rw (first.is_line, first.top, first.pending) refl in
      subst (TakesAll taken q r) (sym lines) (record {
        within = (first.follows, rest.within);
        right = rw right rest.right;
        stands = rest.stands;
      })

  takes_all : (steps : List ℕ) (taken : List ℕ) (q r : Place S) → Stands last count taken q.top q.pending → run (after play last count) q steps ≡ Some r →
      TakesAll taken q r (lines_from last count q.top q.pending steps)
  unfolding took lines_from
  takes_all [] taken q r stands h =
      let same : q ≡ r = some_same _ _ h in
      record {
        within = tt;
        right = ap (λ (x : Place S). Some x.state) same;
        stands = subst (λ (x : Place S). Stands last count taken x.top x.pending) same stands;
      }
  takes_all (s ∷ ss) taken q r stands h =
      let one = first_step (after play last count q s) r ss h in
      let first = takes taken q one.0 s stands one.1 in
      takes_first taken q one.0 r s ss first (takes_all ss (first.line ∷ taken) one.0 r first.stands one.2)

  -- each step of a run takes a line
  as_long : (steps : List ℕ) (taken : List ℕ) (q r : Place S) → Stands last count taken q.top q.pending → run (after play last count) q steps ≡ Some r →
      length (lines_from last count q.top q.pending steps) ≡ length steps
  unfolding lines_from
  as_long [] taken q r stands h = refl
  as_long (s ∷ ss) taken q r stands h =
      let one = first_step (after play last count q s) r ss h in
      let first = takes taken q one.0 s stands one.1 in
      let rest = as_long ss (first.line ∷ taken) one.0 r first.stands one.2 in
      let lines : lines_from last count q.top q.pending (s ∷ ss) ≡ first.line ∷ lines_from last count one.0.top one.0.pending ss =
      rw (first.is_line, first.top, first.pending) refl in
      let long = ap (λ (xs : List ℕ). length xs) lines in
      omega (arith, long, rest)

  -- a pending list that is short, without a line twice
  record Neat (pending : List ℕ) : Type 0 where
    short : length pending ≤ most
    apart : AreApart pending

  -- a line that may follow is taken by a step
  record Reaches (taken : List ℕ) (q : Place S) (j : ℕ) (t : S) : Type 0 where
    step : ℕ
    place : Place S
    goes : after play last count q step ≡ Some place
    state : place.state ≡ t
    stands : Stands last count (j ∷ taken) place.top place.pending
    neat : Neat place.pending

  module _ (taken : List ℕ) (q : Place S) (stands : Stands last count taken q.top q.pending) (neat : Neat q.pending) (few : FewOpen last count) (t : S) where
    reaches_pending : (j : ℕ) → has q.pending j ≡ true → play q.state j ≡ Some t → Reaches taken q j t
    unfolding after
    reaches_pending j there right =
        let at = has-at q.pending j there in
        let short = neat.short in
        let under = at.1 in
        let is_low = lt-ltb at.0 most (omega (arith, under, short)) in
        let is_at = at.2 in
        let less = length-without j q.pending in
        record {
          step = at.0;
          place = record { top = q.top; pending = without j q.pending; state = t };
          goes = rw is_low (rw is_at (rw right refl));
          state = refl;
          stands = pending_stands last count taken q.top q.pending stands j there;
          neat = record { short = omega (arith, less, short); apart = apart-without j q.pending neat.apart };
        }

    reaches_new : (k : ℕ) → MayFollow last count taken (q.top + k) → play q.state (q.top + k) ≡ Some t → Reaches taken q (q.top + k) t
    unfolding after
    reaches_new k follows right =
        let ps = q.pending ++ numbers_from q.top k in
        let before : (i : ℕ) → has ps i ≡ true → i < q.top + k = λ i there. either
        (λ a. let under = stands.below i a in omega (arith, under))
        (λ b. (has-numbers q.top k i b).1)
        (has-append q.pending (numbers_from q.top k) i there) in
        let late : (i : ℕ) → has ps i ≡ true → q.top + k ≤ last i = λ i there. either
        (λ low. let gone = stands.gone i (follows.closed i (before i there) low) in either
        (λ a. absurd (not_both (has q.pending i) a gone.1))
        (λ b. let up = (has-numbers q.top k i b).0 in let down = gone.0 in absurd (omega (arith, up, down)))
        (has-append q.pending (numbers_from q.top k) i there))
        (λ high. high)
        (cases_lt (last i) (q.top + k)) in
        let apart = apart-append q.top k q.pending neat.apart stands.below in
        let all = few (q.top + k) ps follows.line (record { apart = apart; before = before; bound = late }) in
        let long : length ps ≡ length q.pending + k = let a = length-numbers q.top k in grind (arith, common_steps, a) in
        let line = lt-ltb (q.top + k) count follows.line in
        let passes = all-may_pass last (q.top + k) ps late in
        let short = le-leb (length q.pending + k) most (omega (arith, all, long)) in
        let is_new = le-ltb (most + k) most (omega arith) in
        let may : may_leave last count q.top q.pending k ≡ true =
        and_from (ltb (q.top + k) count) (may_pass last (q.top + k) ps && leb (length q.pending + k) most) line
        (and_from (may_pass last (q.top + k) ps) (leb (length q.pending + k) most) passes short) in
        let same : most + k - most ≡ k = omega arith in
        record {
          step = most + k;
          place = record { top = q.top + k + 1; pending = ps; state = t };
          goes = rw is_new (rw same (rw may (rw right refl)));
          state = refl;
          stands = new_stands last count taken q.top q.pending stands k (follows.line) passes;
          neat = record { short = omega (arith, all); apart = apart };
        }

    reaches : (j : ℕ) → MayFollow last count taken j → play q.state j ≡ Some t → Reaches taken q j t
    reaches j follows right = either
        (λ low. either
        (λ there. reaches_pending j there right)
        (λ none. absurd (not_both (has taken j) (stands.all j low none) follows.new))
        (cases_Bool (has q.pending j)))
        (λ high.
        let same : q.top + (j - q.top) ≡ j = omega (arith, high) in
        subst (λ (x : ℕ). Reaches taken q x t) same
        (reaches_new (j - q.top) (subst (MayFollow last count taken) (sym same) follows) (subst (λ (x : ℕ). play q.state x ≡ Some t) (sym same) right)))
        (cases_lt j q.top)

  -- so are the lines of an order, one after the other
  record ReachesAll (taken : List ℕ) (q : Place S) (order : List ℕ) (t : S) : Type 0 where
    steps : List ℕ
    place : Place S
    leads : run (after play last count) q steps ≡ Some place
    state : place.state ≡ t
    stands : Stands last count (took taken order) place.top place.pending

  first_line : (o : Option S) (t : S) (js : List ℕ) → option_and_then (λ u. run play u js) o ≡ Some t → (u : S) × (o ≡ Some u) × (run play u js ≡ Some t)
  first_line None t js h = absurd (search rules)
  first_line (Some u) t js h = (u, refl, h)

  reaches_all : FewOpen last count → (order : List ℕ) (taken : List ℕ) (q : Place S) (t : S) → Stands last count taken q.top q.pending → Neat q.pending →
      AreWithin last count taken order → run play q.state order ≡ Some t → ReachesAll taken q order t
  unfolding took
  reaches_all few [] taken q t stands neat within right = record {
    steps = [];
    place = q;
    leads = refl;
    state = some_same _ _ right;
    stands = stands;
  }
  reaches_all few (j ∷ js) taken q t stands neat within right =
      let one = first_line (play q.state j) t js right in
      let first = reaches taken q stands neat few one.0 j within.0 one.1 in
      let there : run play first.place.state js ≡ Some t = subst (λ (x : S). run play x js ≡ Some t) (sym first.state) one.2 in
      let rest = reaches_all few js (j ∷ taken) first.place t first.stands first.neat within.1 there in
      let goes = first.goes in
      record {
        steps = first.step ∷ rest.steps;
        place = rest.place;
        leads = rw goes rest.leads;
        state = rest.state;
        stands = rest.stands;
      }

-- lines that were taken one after the other are those before and these
has-took : (order taken : List ℕ) (i : ℕ) → has (took taken order) i ≡ true → (has order i ≡ true) ⊎ (has taken i ≡ true)
unfolding took
has-took [] taken i h = inr h
has-took (j ∷ js) taken i h = either
    (λ a. inl (has-later j i js a))
    (λ b. either
    (λ e. inl (subst (λ (x : ℕ). has (x ∷ js) i ≡ true) (sym e) (has-here i js)))
    (λ c. inr c)
    (has-cases j i taken b))
    (has-took js (j ∷ taken) i h)

took-has : (order taken : List ℕ) (i : ℕ) → (has order i ≡ true) ⊎ (has taken i ≡ true) → has (took taken order) i ≡ true
unfolding took
took-has [] taken i h = either (λ a. absurd (has-nil i a)) (λ b. b) h
took-has (j ∷ js) taken i h = took-has js (j ∷ taken) i (either
    (λ a. either
    (λ e. inr (subst (λ (x : ℕ). has (x ∷ taken) i ≡ true) (sym e) (has-here i taken)))
    (λ c. inl c)
    (has-cases j i js a))
    (λ b. inr (has-later j i taken b))
    h)

-- lines that were taken, and those of an order after them, are no more than there are
few_taken : (last : ℕ → ℕ) (count : ℕ) (taken order : List ℕ) → AreApart taken → ((i : ℕ) → has taken i ≡ true → i < count) → AreWithin last count taken order →
    length taken + length order ≤ count
few_taken last count taken [] apart low within =
    let few = no_more taken (numbers_from 0 count) apart (λ i t. let under = low i t in numbers-have 0 count i (omega arith) (omega (arith, under))) in
    let long = length-numbers 0 count in
    omega (arith, few, long)
few_taken last count taken (j ∷ js) apart low within =
    let rest = few_taken last count (j ∷ taken) js (within.0.new, apart)
    (λ i t. either (λ e. subst (λ (x : ℕ). x < count) e within.0.line) (λ there. low i there) (has-cases j i taken t)) within.1 in
    omega (arith, rest)

-- an order of lines has no more of them than there are
pub few_within : (last : ℕ → ℕ) (count : ℕ) (order : List ℕ) → AreWithin last count [] order → length order ≤ count
few_within last count order within =
    let few = few_taken last count [] order tt (λ i t. absurd (has-nil i t)) within in
    omega (arith, few)

at_origin : (last : ℕ → ℕ) (count : ℕ) → Stands last count [] 0 []
at_origin last count = record {
  few = omega arith;
  gone = λ i h. absurd (has-nil i h);
  all = λ i under h. absurd (omega (arith, under));
  below = λ i h. absurd (has-nil i h);
  late = λ i h. absurd (has-nil i h);
}

module _ {S : Type 0} (play : S → ℕ → Option S) (last : ℕ → ℕ) (count : ℕ) (s : S) where
  is_taken : (steps : List ℕ) (r : Place S) → run (after play last count) (origin s) steps ≡ Some r → IsTaken play last count s (lines_of last count steps) r
  is_taken steps r h =
      let order = lines_of last count steps in
      let all = takes_all play last count steps [] (origin s) r (at_origin last count) h in
      record {
        within = all.within;
        right = all.right;
        all = λ i under free. either (λ a. a) (λ b. absurd (has-nil i b)) (has-took order [] i (all.stands.all i under free));
        no_more = λ i t. all.stands.gone i (took-has order [] i (inl t));
      }

  -- no run has more steps than there are lines
  pub short_run : (steps : List ℕ) (r : Place S) → run (after play last count) (origin s) steps ≡ Some r → length steps ≤ count
  short_run steps r h =
      let long = as_long play last count steps [] (origin s) r (at_origin last count) h in
      let few = few_within last count (lines_of last count steps) (is_taken steps r h).within in
      omega (arith, long, few)

  pub places_say : PlacesSay play last count s
  places_say = record {
    sound = is_taken;
    complete = λ few order t within right.
        let all = reaches_all play last count few order [] (origin s) t (at_origin last count) (record { short = omega arith; apart = tt }) within right in
        (all.steps, all.place, all.leads, all.state, λ i h. all.stands.gone i (took-has order [] i (inl h)));
  }

module _ {S : Type 0} (play : S → ℕ → Option S) (last : ℕ → ℕ) (count : ℕ) where
  pending_step : (q : Place S) (s : ℕ) (o : Option ℕ) →
      take_pending play last count q o ≡ option_and_then (λ j. moved play last count q.state j q.top (without j q.pending)) o
  pending_step q s None = refl
  pending_step q s (Some j) = refl

  new_step : (q : Place S) (k : ℕ) (b : Bool) → may_leave last count q.top q.pending k ≡ b →
      take_new play last count q k ≡
      option_and_then (λ j. moved play last count q.state j (q.top + k + 1) (q.pending ++ numbers_from q.top k)) (if b then Some (q.top + k) else None)
  new_step q k true e = rw e refl
  new_step q k false e = rw e refl

  pub steps_are : StepsAre play last count
  unfolding after
  steps_are q s = either
      (λ e. rw e (pending_step q s (slice_get q.pending s)))
      (λ e. rw e (new_step q (s - most) (may_leave last count q.top q.pending (s - most)) refl))
      (cases_Bool (ltb s most))
