-- A list that is made in an order is in it, and so are the releases of its tasks.
use Rattle.std.proofs.Common.{◌≡◌, ℕ, zero, suc, Bool, true, false, List, [], ◌∷◌, filter, sym, ◌∙◌}
use Rattle.std.specs.Prelude.{All}
use Rattle.std.proofs.lemmas.Bool.{cond_both, both_ways, false_from_ne_true}
use Rattle.std.proofs.lemmas.List.Elements.{All-nil, All-cons, All-head, All-tail, All-filter}
use Rattle.fmp_codes.specs.Numbers.{as_task}
use Rattle.fmp_codes.specs.declared.numbers.Task.{Task}
use Rattle.fmp_codes.specs.declared.numbers.Object.{Object}
use Rattle.fmp_codes.specs.declared.records.Release.{Release}
use Rattle.fmp_rules.specs.World.{task}
use Rattle.fmp_rules.specs.Arrivals.{State, numbered, inserted, inserted_if, in_order}
use Rattle.fmp_rules.specs.Tasks.{make_ready}
use Rattle.fmp_rules.specs.SyncCalls.{is_met, cleared, served}
use Rattle.fmp_rules.specs.Tick.{released}
use Rattle.fmp_law_safety.specs.First.{IsStrict}
use Rattle.fmp_law_records.specs.Served.{AreInOrder}
use Rattle.fmp_law_records.proofs.Joins.{served_all}

-- none of these comes before one that stands before it
abbrev pub IsSorted : (Task → Task → Bool) → List Task → Type 0
IsSorted before [] = Unit {0}
IsSorted before (t ∷ ts) = All (λ u. before u t ≡ false) ts × IsSorted before ts

module _ (before : Task → Task → Bool) (s : IsStrict before) where
  all_inserted : (P : Task → Type 0) (t : Task) (us : List Task) → P t → All P us → All P (inserted before t us)
  all_inserted P t [] this all = All-cons P t [] this all
  all_inserted P t (u ∷ us) this all =
      cond_both (before t u) (t ∷ u ∷ us) (u ∷ inserted before t us) (All P) (λ _. All-cons P t (u ∷ us) this all)
      (λ _. All-cons P u (inserted before t us) (All-head P u us all) (all_inserted P t us this (All-tail P u us all)))

  -- what does not come before u does not come before t, which does
  not_before : (t u v : Task) → before t u ≡ true → before v u ≡ false → before v t ≡ false
  not_before t u v first late = false_from_ne_true _ (λ (e : before v t ≡ true). both_ways _ late (s.transitive v t u e first))

  sorted_inserted : (t : Task) (us : List Task) → IsSorted before us → IsSorted before (inserted before t us)
  sorted_inserted t [] h = (All-nil (λ u. before u t ≡ false), tt)
  sorted_inserted t (u ∷ us) h =
      cond_both (before t u) (t ∷ u ∷ us) (u ∷ inserted before t us) (IsSorted before)
      (λ first. (All-cons (λ v. before v t ≡ false) u us (not_before t u u first (s.irreflexive u)) (λ i d l. not_before t u _ first (h.0 i d l)), h))
      (λ later. (all_inserted (λ v. before v u ≡ false) t us later h.0, sorted_inserted t us h.1))

  sorted_if : (b : Bool) (t : Task) (us : List Task) → IsSorted before us → IsSorted before (inserted_if b before t us)
  sorted_if true t us h = sorted_inserted t us h
  sorted_if false t us h = h

  pub in_order_sorted : (qualifies : Task → Bool) (n : ℕ) → IsSorted before (in_order qualifies before n)
  in_order_sorted qualifies zero = tt
  in_order_sorted qualifies (suc n) = sorted_if (qualifies (as_task (suc n))) (as_task (suc n)) (in_order qualifies before n) (in_order_sorted qualifies n)

pub sorted_filter : (before : Task → Task → Bool) (test : Task → Bool) (ts : List Task) → IsSorted before ts → IsSorted before (filter test ts)
sorted_filter before test [] h = tt
sorted_filter before test (t ∷ ts) h =
    cond_both (test t) (t ∷ filter test ts) (filter test ts) (IsSorted before) (λ _. (All-filter test (λ u. before u t ≡ false) ts h.0, sorted_filter before test ts h.1)) (λ _. sorted_filter before test ts h.1)

-- The releases of tasks that stand so.

pub released_all : (P : Task → Type 0) (v : State) (ts : List Task) → All P ts → All (λ (r : Release). P r.task) (released numbered v ts).1
released_all P v [] all = All-nil (λ (r : Release). P r.task)
released_all P v (t ∷ ts) all = All-cons (λ (r : Release). P r.task) _ _ (All-head P t ts all) (released_all P (make_ready numbered v t) ts (All-tail P t ts all))

pub released_sorted : (before : Task → Task → Bool) (v : State) (ts : List Task) → IsSorted before ts → AreInOrder before (released numbered v ts).1
released_sorted before v [] h = tt
released_sorted before v (t ∷ ts) h = (released_all (λ u. before u t ≡ false) (make_ready numbered v t) ts h.0, released_sorted before (make_ready numbered v t) ts h.1)

pub served_sorted : (before : Task → Task → Bool) (v : State) (f : Object) (x : ℕ) (us : List Task) → IsSorted before us → AreInOrder before (served numbered v f x us).1
served_sorted before v f x [] h = tt
served_sorted before v f x (u ∷ us) h =
    cond_both (is_met x (task v u).wait) _ _ (λ (did : State × List Release). AreInOrder before did.1)
    (λ _. (served_all (λ t. before t u ≡ false) (make_ready numbered v u) f (cleared v f x) us h.0, served_sorted before (make_ready numbered v u) f (cleared v f x) us h.1)) (λ _. served_sorted before v f x us h.1)

-- two orders that agree on these tasks
pub same_order : (a b : Task → Task → Bool) (P : Task → Type 0) → ((t u : Task) → P t → P u → a t u ≡ b t u) → (rs : List Release) → All (λ (r : Release). P r.task) rs → AreInOrder a rs → AreInOrder b rs
same_order a b P same [] all h = tt
same_order a b P same (r ∷ rs) all h =
    let here : P r.task = All-head (λ (x : Release). P x.task) r rs all in
    let rest : All (λ (x : Release). P x.task) rs = All-tail (λ (x : Release). P x.task) r rs all in
    ((λ i d l. sym (same _ r.task (rest i d l) here) ∙ h.0 i d l), same_order a b P same rs rest h.1)
