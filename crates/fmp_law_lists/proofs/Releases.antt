-- Several tasks are released in one event.
use Rattle.std.proofs.Common.{◌≡◌, ℕ, ◌≤◌, Bool, List, [], ◌∷◌, length, filter, refl, sym, ap, subst, None}
use Rattle.std.proofs.lemmas.Bool.{cond_both, or_left, or_right}
use Rattle.std.proofs.lemmas.List.{length-set}
use Rattle.fmp_codes.specs.declared.numbers.Task.{Task}
use Rattle.fmp_codes.specs.declared.codes.Code.TheVariants as code
use Rattle.fmp_codes.specs.declared.records.Release.{Release}
use Rattle.fmp_rules.specs.World.{World}
use Rattle.fmp_rules.specs.Arrivals.{State, numbered}
use Rattle.fmp_rules.specs.Tasks.{make_ready}
use Rattle.fmp_rules.specs.Rows.{and_release}
use Rattle.fmp_kernel_order.specs.Queues.{Queues, listed}
use Rattle.fmp_law_lists.specs.Stands.{with_order, AreListsOf, Stands}
use Rattle.fmp_law_lists.proofs.Listings.{In, itself}
use Rattle.fmp_law_lists.proofs.Matching.{released}

-- the states stand for one another, and the same tasks were released
pub record Frees (a : World Queues × List Release) (b : State × List Release) : Type 0 where
  pub stands : Stands a.0 b.0
  pub releases : a.1 ≡ b.1

-- nobody is released
pub frees_none : (m : State) (q : Queues) → AreListsOf q m → Frees (with_order m q, []) (m, [])
frees_none m q s = record { stands = record { same = refl; order = s }; releases = refl }

pub frees_and : (r : Release) (a : World Queues × List Release) (b : State × List Release) → Frees a b → Frees (and_release r a) (and_release r b)
frees_and r a b f = record { stands = f.stands; releases = ap (λ rs. r ∷ rs) f.releases }

-- tasks that are there
abbrev pub AllWithin : ℕ → List Task → Type 0
AllWithin n [] = Unit {0}
AllWithin n (t ∷ ts) = (t.number ≤ n) × AllWithin n ts

pub all_within : (n : ℕ) (ts : List Task) → ((t : Task) → In t ts → t.number ≤ n) → AllWithin n ts
all_within n [] h = tt
all_within n (t ∷ ts) h = (h t (or_left _ _ (itself t)), all_within n ts (λ u i. h u (or_right _ _ i)))

pub filtered_within : (n : ℕ) (f : Task → Bool) (ts : List Task) → AllWithin n ts → AllWithin n (filter f ts)
filtered_within n f [] a = tt
filtered_within n f (t ∷ ts) a =
    cond_both (f t) (t ∷ filter f ts) (filter f ts) (AllWithin n) (λ _. (a.0, filtered_within n f ts a.1)) (λ _. filtered_within n f ts a.1)

-- the order after a release, and the tasks that are there then
pub freed : (m : State) (q : Queues) → AreListsOf q m → (t : Task) → t.number ≤ length m.tasks → AreListsOf (make_ready listed (with_order m q) t).order (make_ready numbered m t)
freed m q s t within = (released m q s t within code.Accepted None).stands.order

pub still_within : (m : State) (t : Task) (ts : List Task) → AllWithin (length m.tasks) ts → AllWithin (length (make_ready numbered m t).tasks) ts
still_within m t ts a = subst (λ n. AllWithin n ts) (sym (length-set m.tasks _ _)) a
