-- What a search for the lines before a goal says.
use Rattle.std.proofs.Common.{◌≡◌, ℕ, ◌+◌, ◌<◌, Bool, Option, List, [], length, refl, sym, subst, arith}
use Rattle.std.proofs.lemmas.Bool.{cases_lt}
use Rattle.fmp_search.specs.declared.exploring.Answer.{Answer}
use Rattle.fmp_search.specs.declared.exploring.Answer.TheVariants as answer
use Rattle.fmp_search.specs.Answers.{Says}
use Rattle.fmp_search_lines.specs.Goals.{EndsMusts, SaysGoal}
use Rattle.fmp_search_lines.specs.Held.{Held, held, is_reached, next, TakersSay}
use Rattle.fmp_search_lines.specs.Lasts.{last_at, must_at}
use Rattle.fmp_search_lines.specs.Orders.{HasAll, IsBeginning, IsRight}
use Rattle.fmp_search_lines.specs.Places.{lines_of}
use Rattle.fmp_search_lines.proofs.Filled.{is_full}
use Rattle.fmp_search_lines.proofs.Held.{takers_say}
use Rattle.fmp_search_lines.proofs.Sets.{either, not_both}

module _ (must : ℕ → Bool) (goal end : ℕ) (ends : EndsMusts must goal end) where
  has_more : (order : List ℕ) → HasAll must end order → HasAll must goal order
  has_more order all i under m = either
      (λ low. all i low m)
      (λ high. absurd (not_both (must i) m (ends.free i high under)))
      (cases_lt i end)

  has_less : (order : List ℕ) → HasAll must goal order → HasAll must end order
  has_less order all i under m = let few = ends.few in all i (omega (arith, under, few)) m

module _ {S : Type 0} (plays : S → ℕ → Option S) (lasts : List ℕ) (musts : List Bool) (goal end : ℕ) (s : S) (ends : EndsMusts (must_at musts) goal end) where
  say : TakersSay plays (held lasts musts (length lasts) end 0 [] s) s
  say = takers_say plays (held lasts musts (length lasts) end 0 [] s) s ends.ends

  right_goal : (order : List ℕ) → IsRight plays (last_at lasts) (length lasts) (must_at musts) end s order →
      IsRight plays (last_at lasts) (length lasts) (must_at musts) goal s order
  right_goal order is = record {
    after_it = is.after_it;
    within = is.within;
    right = is.right;
    all = has_more (must_at musts) goal end ends order is.all;
  }

  beginning_end : IsBeginning plays (last_at lasts) (length lasts) (must_at musts) goal s →
      IsBeginning plays (last_at lasts) (length lasts) (must_at musts) end s
  beginning_end is = record {
    order = is.order;
    after_it = is.after_it;
    within = is.within;
    right = is.right;
    all = has_less (must_at musts) goal end ends is.order is.all;
  }

  pub says_goal : (turns room : ℕ) (a : Answer) → turns ≡ length lasts + 1 → Says (next plays) is_reached (held lasts musts (length lasts) end 0 [] s) turns room a →
      SaysGoal plays (last_at lasts) (length lasts) (must_at musts) s goal room a
  says_goal turns room (answer.Found steps) long h =
      right_goal (lines_of (last_at lasts) (length lasts) steps.items) (say.found steps.items h.1.place h.1.leads h.1.is_wanted)
  says_goal turns room answer.Never long none = λ few begins. say.never few none (beginning_end begins)
  says_goal turns room (answer.NotWithin n) long h =
      is_full plays (held lasts musts (length lasts) end 0 [] s) s turns room n long h.1
  says_goal turns room (answer.Wanting n) long h = tt
  says_goal turns room (answer.Ended n) long h = tt

-- what a search of one who begins there says
pub told_goal : {S : Type 0} (plays : S → ℕ → Option S) (lasts : List ℕ) (musts : List Bool) (goal end : ℕ) (s : S) → EndsMusts (must_at musts) goal end →
    (h : Held S) → h ≡ held lasts musts (length lasts) end 0 [] s → (turns room : ℕ) (a : Answer) → turns ≡ length lasts + 1 →
    Says (next plays) is_reached h turns room a → SaysGoal plays (last_at lasts) (length lasts) (must_at musts) s goal room a
told_goal plays lasts musts goal end s ends h e turns room a long said =
    says_goal plays lasts musts goal end s ends turns room a long (subst (λ (q : Held _). Says (next plays) is_reached q turns room a) e said)

-- the order without a line
pub starts : {S : Type 0} (plays : S → ℕ → Option S) (last : ℕ → ℕ) (count : ℕ) (must : ℕ → Bool) (s : S) → IsRight plays last count must 0 s []
starts plays last count must s = record {
  after_it = s;
  within = tt;
  right = refl;
  all = λ i under m. absurd (omega (arith, under));
}

-- an order that is right is a beginning
pub right_begins : {S : Type 0} (plays : S → ℕ → Option S) (last : ℕ → ℕ) (count : ℕ) (must : ℕ → Bool) (goal : ℕ) (s : S) (order : List ℕ) →
    IsRight plays last count must goal s order → IsBeginning plays last count must goal s
right_begins plays last count must goal s order is = record { order = order; after_it = is.after_it; within = is.within; right = is.right; all = is.all }

begins : {S : Type 0} (plays : S → ℕ → Option S) (last : ℕ → ℕ) (count : ℕ) (must : ℕ → Bool) (s : S) → IsBeginning plays last count must 0 s
begins plays last count must s = right_begins plays last count must 0 s [] (starts plays last count must s)

-- where no right order has all lines there is a line at least
pub some_line : {S : Type 0} (plays : S → ℕ → Option S) (last : ℕ → ℕ) (count : ℕ) (must : ℕ → Bool) (s : S) →
    (IsBeginning plays last count must count s → ⊥) → 0 < count
some_line plays last count must s none = either
    (λ low. low)
    (λ high.
    let zero : count ≡ 0 = omega (arith, high) in
    absurd (none (subst (λ (n : ℕ). IsBeginning plays last count must n s) (sym zero) (begins plays last count must s))))
    (cases_lt 0 count)
