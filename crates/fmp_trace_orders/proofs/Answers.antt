-- What is known of the orders for one machine is known for another that finds the same lines right.
use Rattle.std.proofs.Common.{◌≡◌, ℕ, ◌+◌, Bool, true, List, Option, Some, None, is_some, refl, sym, ap, ◌∙◌}
use Rattle.fmp_search.specs.Runs.{run}
use Rattle.fmp_search_lines.specs.Answers.{SaysOrders}
use Rattle.fmp_search_lines.specs.Orders.{IsBeginning, IsFirstWithout, IsRight}
use Rattle.fmp_search_lines.specs.declared.searching.Orders.{Orders}
use Rattle.fmp_search_lines.specs.declared.searching.Orders.TheVariants as orders

some_is : {T : Type 0} (o : Option T) → is_some o ≡ true → (x : T) × (o ≡ Some x)
some_is (Some x) some = (x, refl)
some_is None some = absurd cc

-- the same lists of lines are right
abbrev pub SameRuns : {S T : Type 0} → (S → ℕ → Option S) → (T → ℕ → Option T) → S → T → Type 0
SameRuns p q s t = (order : List ℕ) → is_some (run p s order) ≡ is_some (run q t order)

leads : {S T : Type 0} (p : S → ℕ → Option S) (q : T → ℕ → Option T) (s : S) (t : T) (order : List ℕ) (x : S) → SameRuns p q s t →
    run p s order ≡ Some x → (y : T) × (run q t order ≡ Some y)
leads p q s t order x same right = some_is (run q t order) (sym (same order) ∙ ap is_some right)

module _ {S T : Type 0} (p : S → ℕ → Option S) (q : T → ℕ → Option T) (s : S) (t : T) (last : ℕ → ℕ) (count : ℕ) (must : ℕ → Bool)
    (same : SameRuns p q s t) where
  right_over : (goal : ℕ) (order : List ℕ) → IsRight p last count must goal s order → IsRight q last count must goal t order
  right_over goal order known =
      let there = leads p q s t order known.after_it same known.right in
      record { after_it = there.0; within = known.within; right = there.1; all = known.all }

  beginning_over : (goal : ℕ) → IsBeginning p last count must goal s → IsBeginning q last count must goal t
  beginning_over goal known =
      let there = leads p q s t known.order known.after_it same known.right in
      record { order = known.order; after_it = there.0; within = known.within; right = there.1; all = known.all }

without_over : {S T : Type 0} (p : S → ℕ → Option S) (q : T → ℕ → Option T) (s : S) (t : T) (last : ℕ → ℕ) (count : ℕ) (must : ℕ → Bool)
    (n : ℕ) → SameRuns p q s t → IsFirstWithout p last count must s n → IsFirstWithout q last count must t n
without_over p q s t last count must n same known =
    let back : SameRuns q p t s = λ order. sym (same order) in
    record {
      before = beginning_over p q s t last count must same n known.before;
      none = λ other. known.none (beginning_over q p t s last count must back (n + 1) other);
    }

pub answer_over : {S T : Type 0} (p : S → ℕ → Option S) (q : T → ℕ → Option T) (s : S) (t : T) (last : ℕ → ℕ) (count : ℕ)
    (must : ℕ → Bool) → SameRuns p q s t → (answer : Orders) → SaysOrders p last count must s answer → SaysOrders q last count must t answer
answer_over p q s t last count must same (orders.Right order) known = right_over p q s t last count must same count order.items known
answer_over p q s t last count must same (orders.Without n order) known =
    (known.0, without_over p q s t last count must n same known.1, right_over p q s t last count must same n order.items known.2)
answer_over p q s t last count must same (orders.Crowded j) known = known
answer_over p q s t last count must same orders.NotKnown known = known
