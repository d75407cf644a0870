-- All releases together are no more than the events: each ends a wait that an event of its own began.
use Rattle.std.proofs.Common.{◌≡◌, ℕ, ◌+◌, ◌≤◌, ◌==◌, Bool, true, false, ◌&&◌, eqb, inl, inr, List, [], ◌∷◌, length, Option, Some, None, refl, ap, sym, ◌∙◌, arith}
use Rattle.std.specs.Prelude.{All, if◌then◌else◌, option_map}
use Rattle.std.specs.List.{list_any, sum_by}
use Rattle.std.specs.Option.{option_or}
use Rattle.std.proofs.lemmas.Bool.{cases_Bool, and_parts, or_parts, eqb-true, eq-eqb, ne_eqb, false≢true}
use Rattle.std.proofs.lemmas.List.Elements.{All-head, All-tail}
use Rattle.std.proofs.lemmas.List.Sums.{sum_by-cons}
use Rattle.fmp_codes.specs.declared.numbers.Task.{Task}
use Rattle.fmp_codes.specs.declared.records.Event.{Event}
use Rattle.fmp_codes.specs.declared.records.Event.TheVariants as event
use Rattle.fmp_codes.specs.declared.records.Record.{Record}
use Rattle.fmp_codes.specs.declared.records.Release.{Release}
use Rattle.fmp_codes.specs.declared.records.Runner.{Runner}
use Rattle.fmp_codes.specs.declared.records.Runner.TheVariants as runner
use Rattle.fmp_setup.specs.Setup.{Setup}
use Rattle.fmp_setup.specs.Valid.{IsValid}
use Rattle.fmp_rules.specs.Arrivals.{numbered}
use Rattle.fmp_rules.specs.Step.{answers}
use Rattle.fmp_rules.specs.Boot.{booted}
use Rattle.fmp_rules.proofs.Replays.{length-answers}
use Rattle.fmp_law_safety.specs.Runs.{AreOn}
use Rattle.fmp_law_balance.specs.Queues.{is_call_of}
use Rattle.fmp_law_balance.specs.Waits.Asked.{OpenWait}
use Rattle.fmp_law_balance.specs.Waits.Waits.{OpenWaits, after_record, begins, ends, is_released, is_waiting, lasts, nobody_waits}
use Rattle.fmp_law_balance.specs.Waits.Releases.{EachReleaseFits, EndsOpenWait, NoneTwice}
use Rattle.fmp_law_balance.proofs.waits.Booted.{releases_fit}

-- ---- lists of the numbers of tasks

abbrev has : ℕ → List ℕ → Bool
has n numbers = list_any (λ m. m == n) numbers

-- these numbers without the first that is n
abbrev without : ℕ → List ℕ → List ℕ
without n [] = []
without n (m ∷ ms) = if m == n then ms else m ∷ without n ms

length-without : (n : ℕ) (ms : List ℕ) → has n ms ≡ true → length (without n ms) + 1 ≡ length ms
length-without n [] there = absurd (false≢true there)
length-without n (m ∷ ms) there =
    elim (cases_Bool (eqb m n)) [
      | inl t ↦ rw t (omega arith)
      | inr f ↦ let rest = length-without n ms (rw f at there) in rw f (omega (arith, rest))
    ]

has-without : (n other : ℕ) (ms : List ℕ) → eqb n other ≡ false → has other ms ≡ true → has other (without n ms) ≡ true
has-without n other [] apart there = there
has-without n other (m ∷ ms) apart there =
    elim (cases_Bool (eqb m n)) [
      | inl t ↦
          let same = eqb-true m n t in
          let apart_too : eqb m other ≡ false = ap (λ k. eqb k other) same ∙ apart in
          rw t (rw apart_too at there)
      | inr f ↦
          elim (cases_Bool (eqb m other)) [
            | inl here ↦ rw (f, here) refl
            | inr differs ↦ rw (f, differs) (has-without n other ms apart (rw differs at there))
          ]
    ]

-- ---- the releases of one record

abbrev AreIn : List ℕ → List Release → Type 0
AreIn numbers [] = Unit {0}
AreIn numbers (x ∷ xs) = (has x.task.number numbers ≡ true) × AreIn numbers xs

still_in : (n : ℕ) (numbers : List ℕ) (xs : List Release) → list_any (λ (x : Release). x.task.number == n) xs ≡ false → AreIn numbers xs → AreIn (without n numbers) xs
still_in n numbers [] none all = tt
still_in n numbers (x ∷ xs) none all =
    let p = or_parts (eqb x.task.number n) (list_any (λ (y : Release). y.task.number == n) xs) none in
    let apart : eqb n x.task.number ≡ false = ne_eqb n x.task.number (λ e. false≢true (sym p.0 ∙ eq-eqb x.task.number n (sym e))) in
    (has-without n x.task.number numbers apart all.0, still_in n numbers xs p.1 all.1)

-- these numbers without those of the released tasks
abbrev left : List ℕ → List Release → List ℕ
left numbers [] = numbers
left numbers (x ∷ xs) = left (without x.task.number numbers) xs

length-left : (numbers : List ℕ) (xs : List Release) → NoneTwice xs → AreIn numbers xs → length (left numbers xs) + length xs ≡ length numbers
length-left numbers [] once all = omega arith
length-left numbers (x ∷ xs) once all =
    let one = length-without x.task.number numbers all.0 in
    let rest = length-left (without x.task.number numbers) xs once.1 (still_in x.task.number numbers xs once.0 all.1) in
    omega (arith, one, rest)

has-left : (n : ℕ) (numbers : List ℕ) (xs : List Release) → list_any (λ (x : Release). x.task.number == n) xs ≡ false → has n numbers ≡ true → has n (left numbers xs) ≡ true
has-left n numbers [] none there = there
has-left n numbers (x ∷ xs) none there =
    let p = or_parts (eqb x.task.number n) (list_any (λ (y : Release). y.task.number == n) xs) none in
    has-left n (without x.task.number numbers) xs p.1 (has-without x.task.number n numbers p.0 there)

-- ---- the tasks that wait

-- every open wait is of a task with one of these numbers
abbrev Cover : OpenWaits → List ℕ → Type 0
Cover pending numbers = (t : Task) (o : OpenWait) → pending t ≡ Some o → has t.number numbers ≡ true

abbrev caller_number : Option Runner → ℕ
caller_number (Some (runner.Task u)) = u.number
caller_number other = 0

caller_is : (t : Task) (r : Option Runner) (e : Event) → is_call_of t r e ≡ true → eqb (caller_number r) t.number ≡ true
caller_is t (Some (runner.Task u)) (event.Call p c) is = eq-eqb u.number t.number (sym (eqb-true t.number u.number is))
caller_is t (Some (runner.Alarm a)) (event.Call p c) is = absurd (false≢true is)
caller_is t (Some (runner.Cyclic a)) (event.Call p c) is = absurd (false≢true is)
caller_is t None (event.Call p c) is = absurd (false≢true is)
caller_is t r (event.Tick p) is = absurd (false≢true is)
caller_is t r (event.Ipi p) is = absurd (false≢true is)

has-more : (m n : ℕ) (numbers : List ℕ) → has n numbers ≡ true → has n (m ∷ numbers) ≡ true
has-more m n numbers there = elim (cases_Bool (eqb m n)) [ inl t ↦ rw t refl | inr f ↦ rw f there ]

all_in : (c : Setup) (pending : OpenWaits) (r : Record) (m : ℕ) (numbers : List ℕ) (xs : List Release) → Cover pending numbers → All (EndsOpenWait c pending r) xs → AreIn (m ∷ numbers) xs
all_in c pending r m numbers [] cover all = tt
all_in c pending r m numbers (x ∷ xs) cover all =
    let one = All-head (EndsOpenWait c pending r) x xs all in
    (has-more m x.task.number numbers (cover x.task one.0 one.1), all_in c pending r m numbers xs cover (All-tail (EndsOpenWait c pending r) x xs all))

module _ (c : Setup) (pending : OpenWaits) (r : Record) (numbers : List ℕ) (cover : Cover pending numbers) where
  -- a task that waits after the record waited before, or made the call
  waited : (t : Task) (o : OpenWait) (begun before : Option OpenWait) → begins t r ≡ begun → pending t ≡ before → option_or begun (option_map (lasts c t r) before) ≡ Some o
      → has t.number (caller_number r.runner ∷ numbers) ≡ true
  waited t o None None b p is = absurd cc
  waited t o None (Some w) b p is = has-more (caller_number r.runner) t.number numbers (cover t w p)
  waited t o (Some w) before b p is =
      elim (cases_Bool (is_waiting r.answer && is_call_of t r.runner r.event)) [
        | inl made ↦ let here = caller_is t r.runner r.event (and_parts (is_waiting r.answer) (is_call_of t r.runner r.event) made).1 in rw here refl
        | inr none ↦ absurd (let bad = rw none at b in cc)
      ]

  cover_after : Cover (after_record c pending r) (left (caller_number r.runner ∷ numbers) r.releases)
  cover_after t o is =
      elim (cases_Bool (ends t r)) [
        | inl ended ↦ absurd (let bad = rw ended at is in cc)
        | inr lasting ↦
            has-left t.number (caller_number r.runner ∷ numbers) r.releases (or_parts (is_released t r.releases) _ lasting).0
            (waited t o (begins t r) (pending t) refl refl (rw lasting at is))
      ]

few_after : (c : Setup) (pending : OpenWaits) (rs : List Record) (numbers : List ℕ) → Cover pending numbers → EachReleaseFits c pending rs
    → sum_by (λ (r : Record). length r.releases) rs ≤ length numbers + length rs
few_after c pending [] numbers cover fit = omega arith
few_after c pending (r ∷ rs) numbers cover fit =
    let here = length-left (caller_number r.runner ∷ numbers) r.releases fit.0.once (all_in c pending r (caller_number r.runner) numbers r.releases cover fit.0.fit) in
    let rest = few_after c (after_record c pending r) rs (left (caller_number r.runner ∷ numbers) r.releases) (cover_after c pending r numbers cover) fit.1 in
    omega (arith, here, rest, sum_by-cons (λ (x : Record). length x.releases) r rs)

pub few_releases : (c : Setup) (es : List Event) → IsValid c → AreOn c.processors es → sum_by (λ (r : Record). length r.releases) (answers numbered (booted c) es) ≤ length es
few_releases c es valid on =
    let few = few_after c nobody_waits (answers numbered (booted c) es) [] (λ t o is. absurd cc) (releases_fit c valid es on) in
    omega (arith, few, length-answers (booted c) es)
