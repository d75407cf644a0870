-- One queue: a waiter leaves, and joins.
use Rattle.std.proofs.Common.{◌≡◌, ℕ, ◌<◌, ◌≤◌, nat_lt, Bool, true, false, not, List, [], ◌∷◌, cond, map, refl, sym, ap, ◌∙◌, subst, arith, ⊎_elim}
use Rattle.std.proofs.lemmas.Bool.{cases_lt, cond_both, or_left, or_right, ltb-true, ltb-false}
use Rattle.fmp_codes.specs.declared.numbers.Task.{Task}
use Rattle.fmp_setup.specs.declared.setup.Order.{Order}
use Rattle.fmp_setup.specs.declared.setup.Order.TheVariants as order
use Rattle.fmp_rules.specs.declared.machine.TaskRecord.{TaskRecord}
use Rattle.fmp_rules.specs.World.{item}
use Rattle.fmp_rules.specs.Arrivals.{inserted, comes_before, rank_in}
use Rattle.fmp_law_safety.proofs.First.{comes_before_is_strict}
use Rattle.fmp_kernel_parts.specs.Tasks.{without}
use Rattle.fmp_waitq.specs.Queue.{Waiter, task_of, rank_of, left_by, put_ranked, joined_by}
use Rattle.fmp_law_lists.specs.Listing.{is_task, all_but, IsListOf}
use Rattle.fmp_law_lists.specs.Stands.{record_in, AreRanked}
use Rattle.fmp_law_lists.proofs.Listings.{In, itself, listing_agree, listing_same, listing_out, listing_gone, listing_in}
use Rattle.fmp_law_lists.proofs.Numbering.{before_agree, lower_comes_before, later_comes_after}

-- The ranks of waiters.

pub rank_is : (i : Order) (tasks : List TaskRecord) (t : Task) → rank_in i tasks t ≡ rank_of i (record_in tasks t).priority
rank_is order.First tasks t = refl
rank_is order.Priority tasks t = refl

map_left : (u : Task) (es : List Waiter) → map task_of (left_by u es) ≡ without u (map task_of es)
map_left u [] = refl
map_left u (e ∷ es) =
    elim (not (is_task e.task u)) as (λ b. map task_of (cond b (e ∷ left_by u es) (left_by u es)) ≡ cond b (e.task ∷ rest) rest)
    [ true ↦ ap (λ ts. e.task ∷ ts) (map_left u es) | false ↦ map_left u es ]
  where
    rest : List Task
    rest = without u (map task_of es)

ranked_left : (rank : Task → ℕ) (u : Task) (es : List Waiter) → AreRanked rank es → AreRanked rank (left_by u es)
ranked_left rank u [] a = tt
ranked_left rank u (e ∷ es) a =
    cond_both (not (is_task e.task u)) (e ∷ left_by u es) (left_by u es) (AreRanked rank) (λ _. (a.0, ranked_left rank u es a.1)) (λ _. ranked_left rank u es a.1)

map_put : (rank : Task → ℕ) (x : Waiter) (es : List Waiter) → AreRanked rank es →
    map task_of (put_ranked x es) ≡ inserted (λ _ t. nat_lt x.rank (rank t)) x.task (map task_of es)
map_put rank x [] a = refl
map_put rank x (e ∷ es) a =
    rw (← a.0) (elim (nat_lt x.rank e.rank) as (λ b. map task_of (cond b (x ∷ e ∷ es) (e ∷ put_ranked x es)) ≡ cond b (x.task ∷ e.task ∷ map task_of es) (e.task ∷ further))
    [ true ↦ refl | false ↦ ap (λ ts. e.task ∷ ts) (map_put rank x es a.1) ])
  where
    further : List Task
    further = inserted (λ _ t. nat_lt x.rank (rank t)) x.task (map task_of es)

ranked_put : (rank : Task → ℕ) (x : Waiter) (es : List Waiter) → x.rank ≡ rank x.task → AreRanked rank es → AreRanked rank (put_ranked x es)
ranked_put rank x [] e a = (e, tt)
ranked_put rank x (y ∷ es) e a =
    cond_both (nat_lt x.rank y.rank) (x ∷ y ∷ es) (y ∷ put_ranked x es) (AreRanked rank) (λ _. (e, a)) (λ _. (a.0, ranked_put rank x es e a.1))

-- ranks that are the same for all that stand in a queue
ranked_agree : (rank other : Task → ℕ) (es : List Waiter) → ((t : Task) → In t (map task_of es) → rank t ≡ other t) → AreRanked rank es → AreRanked other es
ranked_agree rank other [] h a = tt
ranked_agree rank other (e ∷ es) h a = (a.0 ∙ h e.task (or_left _ _ (itself e.task)), ranked_agree rank other es (λ t i. h t (or_right _ _ i)) a.1)

-- A queue of the tasks that qualify, with their ranks.

pub record IsQueueOf (q : Task → Bool) (rank : Task → ℕ) (ns : List ℕ) (es : List Waiter) : Type 0 where
  pub listing : IsListOf q (comes_before rank ns) (map task_of es)
  pub ranked : AreRanked rank es

pub queue_same : {p q : Task → Bool} {rank : Task → ℕ} {ns : List ℕ} {es : List Waiter} → ((t : Task) → p t ≡ q t) → IsQueueOf p rank ns es → IsQueueOf q rank ns es
queue_same same a = record { listing = listing_same same a.listing; ranked = a.ranked }

pub queue_agree : (p q : Task → Bool) (rank other : Task → ℕ) (ns ms : List ℕ) (es : List Waiter) →
    ((t : Task) → p t ≡ q t) → ((t : Task) → q t ≡ true → rank t ≡ other t) → ((t : Task) → q t ≡ true → item 0 ns t.number ≡ item 0 ms t.number) →
    IsQueueOf p rank ns es → IsQueueOf q other ms es
queue_agree p q rank other ns ms es same ranks numbers a = record {
  listing = listing_agree same (λ t u e f. before_agree rank other ns ms t u (ranks t e) (ranks u f) (numbers t e) (numbers u f)) a.listing;
  ranked = ranked_agree rank other es (λ t i. ranks t (sym (a.listing.members t ∙ same t) ∙ i)) a.ranked;
}

pub queue_out : (u : Task) (q : Task → Bool) (rank : Task → ℕ) (ns : List ℕ) (es : List Waiter) →
    IsQueueOf q rank ns es → IsQueueOf (all_but u q) rank ns (left_by u es)
queue_out u q rank ns es a = record {
  listing = subst (IsListOf (all_but u q) (comes_before rank ns)) (sym (map_left u es)) (listing_out u a.listing);
  ranked = ranked_left rank u es a.ranked;
}

-- a task joins that began to wait after all others
pub queue_in : (u : Task) (q : Task → Bool) (rank : Task → ℕ) (ns : List ℕ) (es : List Waiter) (n : ℕ) → n ≡ rank u → q u ≡ true →
    ((t : Task) → is_task t u ≡ false → q t ≡ true → item 0 ns t.number < item 0 ns u.number) →
    IsQueueOf (all_but u q) rank ns es → IsQueueOf q rank ns (joined_by (record { task = u; rank = n }) es)
queue_in u q rank ns es n e mine last a = record {
  listing = subst (IsListOf q before) (sym (map_put rank x rest ranks))
      (listing_in u q before (comes_before_is_strict rank ns) (λ _ t. nat_lt n (rank t)) (map task_of rest) mine first later
      (subst (IsListOf (all_but u q) before) (sym (map_left u es)) (listing_gone u q a.listing)));
  ranked = ranked_put rank x rest e ranks;
}
  where
    x : Waiter
    x = record { task = u; rank = n }

    rest : List Waiter
    rest = left_by u es

    before : Task → Task → Bool
    before = comes_before rank ns

    ranks : AreRanked rank rest
    ranks = ranked_left rank u es a.ranked

    first : (t : Task) → is_task t u ≡ false → q t ≡ true → nat_lt n (rank t) ≡ true → before u t ≡ true
    first t d h g = let l = ltb-true n (rank t) g in lower_comes_before rank ns u t (omega (arith, l, e))

    later : (t : Task) → is_task t u ≡ false → q t ≡ true → nat_lt n (rank t) ≡ false → before t u ≡ true
    later t d h g =
        let l = ltb-false n (rank t) g in
        ⊎_elim (λ (m : rank t < rank u). lower_comes_before rank ns t u m)
        (λ (m : rank u ≤ rank t). later_comes_after rank ns t u (omega (arith, l, m, e)) (last t d h)) (cases_lt (rank t) (rank u))
