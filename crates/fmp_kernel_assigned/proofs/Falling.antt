-- The ticks left fall.
use Rattle.std.proofs.Common.{◌≡◌, ℕ, zero, suc, ◌+◌, ◌-◌, ◌<◌, ◌≤◌, ◌==◌, Bool, true, false, cond, Option, Some, None, List, [], ◌∷◌, length, map, get_or, refl, sym, ap, ◌∙◌, arith, ⊎_elim}
use Rattle.std.specs.Prelude.{option_map}
use Rattle.std.proofs.lemmas.Bool.{cases_lt, lt-ltb, le-ltb, cases_eq, eq-eqb, ne_eqb}
use Rattle.std.proofs.lemmas.List.{get_or-map, length-map, ext_get_or}
use Rattle.fmp_codes.specs.declared.numbers.Proc.{Proc}
use Rattle.fmp_setup.specs.declared.setup.Timer.{Timer}
use Rattle.fmp_setup.specs.declared.setup.Timer.TheVariants as timer
use Rattle.fmp_rules.specs.declared.machine.TaskRecord.{TaskRecord}
use Rattle.fmp_rules.specs.declared.machine.Cyclic.{Cyclic}
use Rattle.fmp_rules.specs.declared.machine.Alarm.{Alarm}
use Rattle.fmp_setup.specs.Setup.{counts_for}
use Rattle.fmp_rules.specs.Tick.{lowered, one_less}
use Rattle.fmp_rules.specs.World.{no_task}
use Rattle.fmp_time.specs.Left.{Left, ticks_of}
use Rattle.fmp_time.specs.Times.{Times, lowered_on}
use Rattle.fmp_kernel_assigned.specs.Assignments.{assignments_of, lefts, blank_cyclic, blank_alarm}
use Rattle.fmp_kernel_assigned.specs.Counting.{IsAt, AreAt, IsUnseen, AreInStep, less_one, less_below, fallen}
use Rattle.fmp_kernel_assigned.proofs.Lefts.{length-lefts, lefts-at}
use Rattle.fmp_kernel_assigned.proofs.Standing.{at-map, none-map, unseen-map}
use Rattle.fmp_kernel_assigned.proofs.Changes.{made}

-- One processor after the other.

map_same : (f g : Option Left → Option Left) (ls : List (Option Left)) → ((l : Option Left) → f l ≡ g l) → map f ls ≡ map g ls
map_same f g [] h = refl
map_same f g (l ∷ ls) h = rw (h l) (ap (λ (r : List (Option Left)). g l ∷ r) (map_same f g ls h))

map_still : (f : Option Left → Option Left) (ls : List (Option Left)) → ((l : Option Left) → f l ≡ l) → map f ls ≡ ls
map_still f [] h = refl
map_still f (l ∷ ls) h = rw (h l) (ap (λ (r : List (Option Left)). l ∷ r) (map_still f ls h))

map_after : (f g : Option Left → Option Left) (ls : List (Option Left)) → map f (map g ls) ≡ map (λ l. f (g l)) ls
map_after f g [] = refl
map_after f g (l ∷ ls) = ap (λ (r : List (Option Left)). f (g l) ∷ r) (map_after f g ls)

none_below : (l : Option Left) → less_below 0 l ≡ l
none_below None = refl
none_below (Some l) = ap (λ (b : Bool). cond b (less_one (Some l)) (Some l)) (le-ltb (l.processor.number - 1) 0 (omega arith))

pub below_none : (ls : List (Option Left)) → map (less_below 0) ls ≡ ls
below_none ls = map_still (less_below 0) ls none_below

one_below : (i : ℕ) (p : Proc) → p.number ≡ i + 1 → (l : Option Left) → lowered_on p (less_below i l) ≡ less_below (i + 1) l
one_below i p e None = refl
one_below i p e (Some l) =
    let low = l.processor.least in
    ⊎_elim (λ (f : l.processor.number ≡ p.number).
    rw (le-ltb (l.processor.number - 1) i (omega (arith, e, f, low)), lt-ltb (l.processor.number - 1) (i + 1) (omega (arith, e, f, low)), eq-eqb l.processor.number p.number f) refl)
    (λ (f : l.processor.number ≡ p.number → ⊥).
    ⊎_elim (λ (g : l.processor.number - 1 < i).
    rw (lt-ltb (l.processor.number - 1) i g, lt-ltb (l.processor.number - 1) (i + 1) (omega (arith, g)), ne_eqb l.processor.number p.number f) refl)
    (λ (g : i ≤ l.processor.number - 1).
    rw (le-ltb (l.processor.number - 1) i g, le-ltb (l.processor.number - 1) (i + 1) (omega (arith, g, f, e, low)), ne_eqb l.processor.number p.number f) refl)
    (cases_lt (l.processor.number - 1) i))
    (cases_eq l.processor.number p.number)

pub below_more : (i : ℕ) (p : Proc) (ls : List (Option Left)) → p.number ≡ i + 1 → map (lowered_on p) (map (less_below i) ls) ≡ map (less_below (i + 1)) ls
below_more i p ls e = map_after (lowered_on p) (less_below i) ls ∙ map_same _ (less_below (i + 1)) ls (one_below i p e)

all_below : (l : Option Left) → less_below 8 l ≡ less_one l
all_below None = refl
all_below (Some l) =
    let high = l.processor.most in
    let low = l.processor.least in
    ap (λ (b : Bool). cond b (less_one (Some l)) (Some l)) (lt-ltb (l.processor.number - 1) 8 (omega (arith, high, low)))

pub below_all : (i : ℕ) (ls : List (Option Left)) → i ≡ 8 → map (less_below i) ls ≡ map less_one ls
below_all i ls e = ap (λ (n : ℕ). map (less_below n) ls) e ∙ map_same (less_below 8) less_one ls all_below

-- By the timer.

local_same : (p : Proc) (l : Option Left) → lowered_on p l ≡ fallen timer.Local p l
local_same p None = refl
local_same p (Some l) = refl

pub fallen_local : (p : Proc) (ls : List (Option Left)) → map (lowered_on p) ls ≡ map (fallen timer.Local p) ls
fallen_local p ls = map_same (lowered_on p) (fallen timer.Local p) ls (local_same p)

master_same : (master p : Proc) → p.number ≡ master.number → (l : Option Left) → less_one l ≡ fallen (timer.Global master) p l
master_same master p e None = refl
master_same master p e (Some l) = sym (ap (λ (b : Bool). cond b (less_one (Some l)) (Some l)) (eq-eqb p.number master.number e))

pub fallen_master : (master p : Proc) (ls : List (Option Left)) → p.number ≡ master.number → map less_one ls ≡ map (fallen (timer.Global master) p) ls
fallen_master master p ls e = map_same less_one (fallen (timer.Global master) p) ls (master_same master p e)

other_same : (master p : Proc) → (p.number ≡ master.number → ⊥) → (l : Option Left) → fallen (timer.Global master) p l ≡ l
other_same master p e None = refl
other_same master p e (Some l) = ap (λ (b : Bool). cond b (less_one (Some l)) (Some l)) (ne_eqb p.number master.number e)

pub fallen_other : (master p : Proc) (ls : List (Option Left)) → (p.number ≡ master.number → ⊥) → ls ≡ map (fallen (timer.Global master) p) ls
fallen_other master p ls e = sym (map_still (fallen (timer.Global master) p) ls (other_same master p e))

-- The counts of the items of a kind.

module _ {X : Type 0} (falls : X → Bool) (d : X) where
  length-lowered : (xs : List X) (counts : List (Option ℕ)) → length counts ≡ length xs → length (lowered falls xs counts) ≡ length xs
  length-lowered [] counts e = e
  length-lowered (x ∷ xs) [] e = absurd (omega (arith, e))
  length-lowered (x ∷ xs) (n ∷ ns) e = let ih = length-lowered xs ns (omega (arith, e)) in omega (arith, ih)

  lowered-at : (xs : List X) (counts : List (Option ℕ)) (i : ℕ) → i < length xs → length counts ≡ length xs →
      get_or (lowered falls xs counts) i None ≡ cond (falls (get_or xs i d)) (one_less (get_or counts i None)) (get_or counts i None)
  lowered-at [] counts i h e = absurd (omega (arith, h))
  lowered-at (x ∷ xs) [] i h e = absurd (omega (arith, e))
  lowered-at (x ∷ xs) (n ∷ ns) zero h e = refl
  lowered-at (x ∷ xs) (n ∷ ns) (suc i) h e = lowered-at xs ns i (omega (arith, h)) (omega (arith, e))

pub counts_same : (t : Timer) (p q r : Proc) → q.number ≡ r.number → counts_for t p q ≡ counts_for t p r
counts_same timer.Local p q r e = ap (λ (n : ℕ). n == p.number) e
counts_same (timer.Global master) p q r e = refl

fallen_ticks : (t : Timer) (p q : Proc) (l : Option Left) → IsAt q l → option_map ticks_of (fallen t p l) ≡ cond (counts_for t p q) (one_less (option_map ticks_of l)) (option_map ticks_of l)
fallen_ticks t p q None h = elim (counts_for t p q) as (λ (b : Bool). ◌≡◌ {A = Option ℕ} None (cond b None None)) [ true ↦ refl | false ↦ refl ]
fallen_ticks t p q (Some l) h =
    ap (λ (b : Bool). option_map ticks_of (cond b (less_one (Some l)) (Some l))) (counts_same t p l.processor q h)
    ∙ elim (counts_for t p q) as (λ (b : Bool). option_map ticks_of (cond b (less_one (Some l)) (Some l)) ≡ cond b (Some (l.ticks - 1)) (Some l.ticks)) [ true ↦ refl | false ↦ refl ]

pub lefts-fallen : {X : Type 0} (assigned : X → Proc) (d : X) (xs : List X) (left : List (Option Left)) (place : ℕ) (t : Timer) (p : Proc) → AreAt assigned d xs left place → place + length xs ≤ length left →
    lefts (map (fallen t p) left) place (length xs) ≡ lowered (λ x. counts_for t p (assigned x)) xs (lefts left place (length xs))
lefts-fallen assigned d xs left place t p at few =
    let counts = lefts left place (length xs) in
    let count : length (lefts left place (length xs)) ≡ length xs = length-lefts left place (length xs) in
    ext_get_or None (lefts (map (fallen t p) left) place (length xs)) (lowered (λ x. counts_for t p (assigned x)) xs (lefts left place (length xs)))
    (length-lefts (map (fallen t p) left) place (length xs) ∙ sym (length-lowered (λ x. counts_for t p (assigned x)) d xs counts count))
    (λ i h.
    let low : i < length xs = omega (arith, h, length-lefts (map (fallen t p) left) place (length xs)) in
    lefts-at (map (fallen t p) left) place (length xs) i low
    ∙ ap (option_map ticks_of) (get_or-map (fallen t p) left (place + i) None None (omega (arith, low, few)))
    ∙ fallen_ticks t p (assigned (get_or xs i d)) (get_or left (place + i) None) (at i low)
    ∙ ap (λ (n : Option ℕ). cond (counts_for t p (assigned (get_or xs i d))) (one_less n) n) (sym (lefts-at left place (length xs) i low))
    ∙ sym (lowered-at (λ x. counts_for t p (assigned x)) d xs counts i low count))

fallen_at : (t : Timer) (p q : Proc) (l : Option Left) → IsAt q l → IsAt q (fallen t p l)
fallen_at t p q None h = tt
fallen_at t p q (Some l) h = elim (counts_for t p l.processor) as (λ (b : Bool). IsAt q (cond b (less_one (Some l)) (Some l))) [ true ↦ h | false ↦ h ]

fallen_unseen : (t : Timer) (p : Proc) (l : Option Left) → IsUnseen l → IsUnseen (fallen t p l)
fallen_unseen t p None h = tt
fallen_unseen t p (Some l) h = elim (counts_for t p l.processor) as (λ (b : Bool). IsUnseen (cond b (less_one (Some l)) (Some l)))
    [ true ↦ (h.0, omega (arith, h.1)) | false ↦ h ]

module _ (t : Timer) (tasks : List TaskRecord) (cyclics : List Cyclic) (alarms : List Alarm) (m : Times) (s : AreInStep tasks cyclics alarms m.left) (p : Proc) where
  pub fallen_is : assignments_of t tasks cyclics alarms (record { left = map (fallen t p) m.left; waits = m.waits })
      ≡ record (assignments_of t tasks cyclics alarms m) {
        waits_left = lowered (λ r. counts_for t p r.assigned) tasks (lefts m.left 0 (length tasks));
        cyclics_left = lowered (λ c. counts_for t p c.assigned) cyclics (lefts m.left 96 (length cyclics));
        alarms_left = lowered (λ a. counts_for t p a.assigned) alarms (lefts m.left 64 (length alarms));
      }
  fallen_is = made t tasks cyclics alarms _ _ _ _ _ _ _ _
      (lefts-fallen (λ r. r.assigned) no_task tasks m.left 0 t p s.tasks_at (omega (arith, s.few_tasks, s.all))) refl
      (lefts-fallen (λ c. c.assigned) blank_cyclic cyclics m.left 96 t p s.cyclics_at (omega (arith, s.few_cyclics, s.all)))
      (lefts-fallen (λ a. a.assigned) blank_alarm alarms m.left 64 t p s.alarms_at (omega (arith, s.few_alarms, s.all)))

  pub fallen_step : AreInStep tasks cyclics alarms (map (fallen t p) m.left)
  fallen_step = record {
    tasks_at = at-map (λ r. r.assigned) no_task tasks m.left 0 s.tasks_at (fallen t p) (λ q l. fallen_at t p q l) (omega (arith, s.few_tasks, s.all));
    cyclics_at = at-map (λ c. c.assigned) blank_cyclic cyclics m.left 96 s.cyclics_at (fallen t p) (λ q l. fallen_at t p q l) (omega (arith, s.few_cyclics, s.all));
    alarms_at = at-map (λ a. a.assigned) blank_alarm alarms m.left 64 s.alarms_at (fallen t p) (λ q l. fallen_at t p q l) (omega (arith, s.few_alarms, s.all));
    no_tasks = unseen-map m.left (length tasks) 64 (fallen t p) (omega (arith, s.all)) (fallen_unseen t p) s.no_tasks;
    no_cyclics = none-map m.left (96 + length cyclics) 128 (fallen t p) (omega (arith, s.all)) refl s.no_cyclics;
    no_alarms = none-map m.left (64 + length alarms) 96 (fallen t p) (omega (arith, s.all)) refl s.no_alarms;
    few_tasks = s.few_tasks;
    few_cyclics = s.few_cyclics;
    few_alarms = s.few_alarms;
    all = length-map m.left (fallen t p) ∙ s.all;
  }
