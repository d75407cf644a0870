-- The end of an event: which processors are sent a request, and what is written of each.
use Rattle.std.proofs.Common.{◌≡◌, ℕ, zero, suc, ◌+◌, ◌-◌, ◌<◌, ◌≤◌, ◌==◌, Bool, true, false, ◌||◌, ◌&&◌, List, [], ◌∷◌, length, map, refl, sym, ap, ◌∙◌, subst, arith, Option, Some, None, ⊎_elim}
use Rattle.std.specs.Prelude.{if◌then◌else◌, slice_index_or}
use Rattle.std.specs.List.{range_with_len, list_any}
use Rattle.std.proofs.lemmas.Bool.{cases_eq, eq-eqb, eqb-true, ne_eqb, or_left, or_right, cond_both}
use Rattle.std.proofs.lemmas.List.{length-set, get_or-map}
use Rattle.std.proofs.lemmas.List.FromFn.{get_or-map-range_with_len, length-map-range_with_len}
use Rattle.std.proofs.lemmas.Map.Views.{any-filter_same}
use Rattle.std.proofs.Math.Bool.{or-false}
use Rattle.fmp_codes.specs.Numbers.{as_proc, within}
use Rattle.fmp_codes.specs.declared.numbers.Proc.{Proc}
use Rattle.fmp_codes.specs.declared.numbers.Task.{Task}
use Rattle.fmp_codes.proofs.Same.{processors_same}
use Rattle.fmp_rules.specs.declared.machine.Processor.{Processor}
use Rattle.fmp_rules.specs.World.{World, no_processor, item, with_item, task, processor, with_processor, is_held, processors_to, processors_of}
use Rattle.fmp_rules.specs.Ordering.{Ordering, top}
use Rattle.fmp_rules.specs.Step.{tops, is_requested, requests, latched, dispatched, settle}
use Rattle.fmp_law_safety.specs.Safe.{IsNumberOf, may_run_on}
use Rattle.fmp_law_safety.proofs.Items.{item_after, item_same, item_other}

-- the first task of a processor may run there
abbrev pub TopsMayRun : {Q : Type 0} → Ordering Q → World Q → Type 0
TopsMayRun k w = (p : Proc) (t : Task) → top k w p ≡ Some t → may_run_on p (task w t) ≡ true

abbrev pub is_number : Proc → Proc → Bool
is_number p q = p.number == q.number

-- Which processors are sent a request.

as_proc_same : (p : Proc) (n : ℕ) → p.number ≡ n → as_proc n ≡ p
as_proc_same p n e = let number : within 8 n ≡ p.number = omega (arith, e, p.least, p.most) in processors_same (as_proc n) p number

pub among : (p : Proc) (a n : ℕ) → a ≤ p.number → p.number < a + n → list_any (is_number p) (map as_proc (range_with_len a n)) ≡ true
among p a zero l h = absurd (omega (arith, l, h))
among p a (suc n) l h =
    ⊎_elim
    (λ (e : p.number ≡ a). let here : p.number ≡ within 8 a = omega (arith, e, p.least, p.most) in or_left _ _ (eq-eqb p.number (within 8 a) here))
    (λ (d : p.number ≡ a → ⊥). or_right _ _ (among p (a + 1) n (omega (arith, l, d)) (omega (arith, h)))) (cases_eq p.number a)

module _ {Q : Type 0} (k : Ordering Q) (w : World Q) where
  pub top_before : (p : Proc) → IsNumberOf w.processors p.number → item None (tops k w) p.number ≡ top k w p
  top_before p h =
      let n : ℕ = length w.processors in
      let below : p.number - 1 < n = omega (arith, h.0, h.1) in
      let counted : p.number - 1 < length (processors_to n) = rw (length-map-range_with_len as_proc 1 n) below in
      get_or-map (top k w) (processors_to n) (p.number - 1) p None counted
      ∙ ap (top k w) (get_or-map-range_with_len as_proc 1 n (p.number - 1) p.number p below (omega (arith, h.0)) ∙ as_proc_same p p.number refl)

  pub requested : (before : List (Option Task)) (q p : Proc) → IsNumberOf w.processors p.number →
      list_any (is_number p) (requests k before w q) ≡ is_requested k before w q p
  requested before q p h =
      any-filter_same (is_number p) (is_requested k before w q) (is_requested k before w q p)
      (λ r e. ap (is_requested k before w q) (sym (processors_same p r (eqb-true p.number r.number e)))) (processors_of w)
      ∙ rw (among p 1 (length w.processors) h.0 (omega (arith, h.1))) (and_true (is_requested k before w q p))
    where
      and_true : (b : Bool) → (b && true) ≡ b
      and_true true = refl
      and_true false = refl

-- A change of some processors, one after another.

module _ (change : Proc → Processor → Processor) where
  abbrev pub with_each : List Processor → List Proc → List Processor
  with_each cs [] = cs
  with_each cs (p ∷ ps) = with_each (with_item cs p.number (change p (item no_processor cs p.number))) ps

  pub length_each : (cs : List Processor) (ps : List Proc) → length (with_each cs ps) ≡ length cs
  length_each cs [] = refl
  length_each cs (p ∷ ps) = length_each (with_item cs p.number (change p (item no_processor cs p.number))) ps ∙ length-set cs _ _

  -- what one change leaves, where it does nothing twice
  pub each_at : ((p : Proc) (c : Processor) → change p (change p c) ≡ change p c) → (cs : List Processor) (ps : List Proc) (p : Proc) → p.number ≤ length cs →
      item no_processor (with_each cs ps) p.number ≡ (if list_any (is_number p) ps then change p (item no_processor cs p.number) else item no_processor cs p.number)
  each_at once cs [] p h = refl
  each_at once cs (r ∷ ps) p h =
      each_at once (changed r) ps p (rw (length-set cs (r.number - 1) (change r (item no_processor cs r.number))) h)
      ∙ ⊎_elim
      (λ (e : p.number ≡ r.number). subst (λ (q : Proc). (if list_any (is_number p) ps then change p (item no_processor (changed q) p.number) else item no_processor (changed q) p.number) ≡ (if is_number p q || list_any (is_number p) ps then change p (item no_processor cs p.number) else item no_processor cs p.number)) (processors_same p r e) here)
      (λ (d : p.number ≡ r.number → ⊥). rw (ne_eqb p.number r.number d, item_other no_processor cs r.number (change r (item no_processor cs r.number)) p.number p.least r.least d) refl)
      (cases_eq p.number r.number)
    where
      changed : Proc → List Processor
      changed q = with_item cs q.number (change q (item no_processor cs q.number))

      here : (if list_any (is_number p) ps then change p (item no_processor (changed p) p.number) else item no_processor (changed p) p.number) ≡ (if is_number p p || list_any (is_number p) ps then change p (item no_processor cs p.number) else item no_processor cs p.number)
      here =
          rw (eq-eqb p.number p.number refl, item_same no_processor cs p.number (change p (item no_processor cs p.number)) p.least h)
          (cond_both (list_any (is_number p) ps) (change p (change p (item no_processor cs p.number))) (change p (item no_processor cs p.number)) (λ (c : Processor). c ≡ change p (item no_processor cs p.number)) (λ _. once p (item no_processor cs p.number)) (λ _. refl))

  -- who is CPU-locked stays so
  pub locked_each : ((p : Proc) (c : Processor) → c.locked ≡ true → (change p c).locked ≡ true) → (cs : List Processor) (ps : List Proc) (n : ℕ) →
      (item no_processor cs n).locked ≡ true → (item no_processor (with_each cs ps) n).locked ≡ true
  locked_each keeps cs [] n e = e
  locked_each keeps cs (p ∷ ps) n e =
      locked_each keeps (with_item cs p.number (change p (item no_processor cs p.number))) ps n
      (item_after no_processor cs p.number _ (λ (c : Processor). c.locked ≡ true) n (λ i. keeps p _ (subst (λ j. (slice_index_or cs j no_processor).locked ≡ true) i e)) e)

-- The latches after requests.

abbrev pub with_latches : List Processor → List Proc → List Processor
with_latches = with_each (λ p c. record c { latch = true })

latched_is : {Q : Type 0} (w : World Q) (ps : List Proc) → latched w ps ≡ record w { processors = with_latches w.processors ps }
latched_is w [] = refl
latched_is w (p ∷ ps) = latched_is (with_processor w p (record (processor w p) { latch = true })) ps

-- a processor whose latch is also set where there is a request
abbrev pub or_latched : Bool → Processor → Processor
or_latched b c = record c { latch = c.latch || b }

latch_or : (b : Bool) (c : Processor) → (if b then record c { latch = true } else c) ≡ or_latched b c
latch_or true c = ap (λ l. record c { latch = l }) (sym (or_right c.latch true refl))
latch_or false c = ap (λ l. record c { latch = l }) (sym (or-false c.latch))

pub latches_at : (cs : List Processor) (ps : List Proc) (p : Proc) → p.number ≤ length cs →
    item no_processor (with_latches cs ps) p.number ≡ or_latched (list_any (is_number p) ps) (item no_processor cs p.number)
latches_at cs ps p h = each_at (λ p c. record c { latch = true }) (λ p c. refl) cs ps p h ∙ latch_or (list_any (is_number p) ps) (item no_processor cs p.number)

-- The processors at the end of an event.

abbrev pub with_dispatch : List Processor → Bool → Option Task → Proc → List Processor
with_dispatch cs held first q = if held then cs else with_item cs q.number (record (item no_processor cs q.number) { running = first; latch = false })

abbrev pub at_end : {Q : Type 0} → Ordering Q → World Q → List Processor → Proc → List Processor
at_end k v cs q = with_dispatch cs (is_held (record v { processors = cs }) q) (top k v q) q

choice : {Q : Type 0} (v : World Q) (b : Bool) (cs ds : List Processor) →
    (if b then record v { processors = cs } else record v { processors = ds }) ≡ record v { processors = if b then cs else ds }
choice v true cs ds = refl
choice v false cs ds = refl

pub settle_is : {Q : Type 0} (k : Ordering Q) (before : List (Option Task)) (v : World Q) (q : Proc) →
    settle k before v q ≡ record v { processors = at_end k v (with_latches v.processors (requests k before v q)) q }
settle_is k before v q =
    ap (λ u. dispatched k u q) (latched_is v (requests k before v q))
    ∙ choice v (is_held (record v { processors = with_latches v.processors (requests k before v q) }) q) (with_latches v.processors (requests k before v q)) _
