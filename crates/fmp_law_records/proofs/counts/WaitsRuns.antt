-- A wait ends by time at its last tick.
use Rattle.std.proofs.Common.{◌≡◌, ℕ, ◌+◌, ◌-◌, ◌≤◌, ◌==◌, ◌++◌, Bool, true, false, ◌&&◌, ◌||◌, List, [], ◌∷◌, length, refl, sym, ap, ◌∙◌, subst, arith, Option, Some, None, ⊎_elim}
use Rattle.std.specs.Prelude.{All, if◌then◌else◌, option_map}
use Rattle.std.specs.Option.{option_or}
use Rattle.std.proofs.lemmas.Bool.{cond-true, cond-false, eqb-true, both_ways, false≢true}
use Rattle.std.proofs.lemmas.Option.{none-some, same_Some}
use Rattle.std.proofs.lemmas.List.Elements.{All-head, All-tail}
use Rattle.fmp_codes.specs.declared.numbers.Proc.{Proc}
use Rattle.fmp_codes.specs.declared.numbers.Task.{Task}
use Rattle.fmp_codes.specs.declared.records.Answer.{Answer}
use Rattle.fmp_codes.specs.declared.records.Answer.TheVariants as answer
use Rattle.fmp_codes.specs.declared.records.Event.{Event}
use Rattle.fmp_codes.specs.declared.records.Event.TheVariants as event
use Rattle.fmp_codes.specs.declared.records.Record.{Record}
use Rattle.fmp_codes.specs.declared.records.Release.{Release}
use Rattle.fmp_codes.proofs.Same.{tasks_same}
use Rattle.fmp_setup.specs.Setup.{Setup, counts_for}
use Rattle.fmp_setup.specs.Valid.{IsValid}
use Rattle.fmp_rules.specs.declared.machine.Wait.{Wait}
use Rattle.fmp_rules.specs.World.{World, item, task}
use Rattle.fmp_rules.specs.Ordering.{Ordering}
use Rattle.fmp_rules.specs.Arrivals.{State, numbered}
use Rattle.fmp_rules.specs.Tick.{one_less, tick, ticked, counted_down, released, tasks_expired}
use Rattle.fmp_rules.specs.Step.{step, replay, answers}
use Rattle.fmp_rules.specs.Boot.{booted}
use Rattle.fmp_law_safety.specs.Runs.{AreOn}
use Rattle.fmp_law_safety.specs.Safe.{TicksInRange, Safe}
use Rattle.fmp_law_safety.proofs.Listed.{numbered_lists}
use Rattle.fmp_law_safety.proofs.Queues.{Lists}
use Rattle.fmp_law_safety.proofs.TickCounts.{in_range_fallen, lowered_item, served_task, waits_served}
use Rattle.fmp_law_balance.specs.Accepted.{is_accepted, one_if}
use Rattle.fmp_law_balance.specs.Queues.{is_call_of}
use Rattle.fmp_law_balance.specs.Waits.Asked.{OpenWait, asked_by}
use Rattle.fmp_law_balance.specs.Waits.Waits.{OpenWaits, nobody_waits, after_record, after_records, begins, ends, lasts, terminates, is_released, is_tick_for, is_waiting}
use Rattle.fmp_law_balance.specs.Waits.Releases.{EndsOpenWait, IsServed, IsBrokenOff, IsOver}
use Rattle.fmp_law_balance.specs.Waits.Laws.{Waits, left_of}
use Rattle.fmp_law_balance.proofs.waits.Follows.{Follows}
use Rattle.fmp_law_balance.proofs.waits.Ticks.{handlers_beside}
use Rattle.fmp_law_balance.specs.Waits.Meanings.{after_tick}
use Rattle.fmp_law_balance.proofs.Words.{clock_counts}
use Rattle.fmp_law_records.specs.Counts.Waits.{ReleasesInTime, EndsInTime, EndsAtLastTick, ticks_for, GoesOn}
use Rattle.fmp_law_balance.proofs.waits.Events.{event_reported, tick_state, untaken}
use Rattle.fmp_law_records.proofs.counts.Ready.{Ready, followed, ready_next, ready_later, ready_end, ready_at_boot, ready_after}

-- after a tick what is left of each wait is in range
waits_in_range : {Q : Type 0} (k : Ordering Q) → ((v : World Q) → Lists k v) → (w : World Q) → Safe k w → (p : Proc) (t : Task) → TicksInRange (item None (tick k w p).0.waits_left t.number)
unfolding counted_down ticked
waits_in_range k lists w s p t =
    let v : World _ = counted_down w p in
    let timed : List Task = k.timed v.order v.waits_left in
    let us : List Task = tasks_expired v.waits_left timed in
    subst (λ (ns : List (Option ℕ)). TicksInRange (item None ns t.number)) (sym (handlers_beside p (released k v us).0).1)
    (waits_served p k v us t
    (served_task v.waits_left timed t
    (⊎_elim (in_range_fallen (item None v.waits_left t.number)) (λ f. f.1) (lowered_item (λ x. counts_for w.timer p x.assigned) w.tasks w.waits_left (t.number - 1) (s.counts.waits t)))
    ((lists v).timed t)))

-- the release of a task that is released, and what holds of it as of all
released_one : (P : Release → Type 0) (t : Task) (xs : List Release) → All P xs → is_released t xs ≡ true → (x : Release) × (x.task ≡ t) × P x
released_one P t [] all e = absurd (false≢true e)
released_one P t (x ∷ xs) all e = go (x.task.number == t.number) refl (λ later. released_one P t xs (All-tail P x xs all) later)
  where
    go : (b : Bool) → (x.task.number == t.number) ≡ b → (is_released t xs ≡ true → (y : Release) × (y.task ≡ t) × P y) → (y : Release) × (y.task ≡ t) × P y
    go true same among = (x, tasks_same x.task t (eqb-true x.task.number t.number same), All-head P x xs all)
    go false other among = among (sym (ap (λ b. b || is_released t xs) other) ∙ e)

-- where an open wait is told, the task is assigned as it says
assigned_reported : (pending : Option OpenWait) (now : Option Wait) (ticks : Option ℕ) (q : Proc) → Waits pending now ticks q → (o : OpenWait) → pending ≡ Some o → q ≡ o.assigned
assigned_reported None now ticks q h o e = absurd (none-some o e)
assigned_reported (Some x) now ticks q h o e = h.assigned ∙ ap (λ (y : OpenWait). y.assigned) (same_Some x o e)

-- a wait of which so many ticks are left
open_with : (pending : Option OpenWait) (n : ℕ) → left_of pending ≡ Some n → (o : OpenWait) × (pending ≡ Some o) × (o.left ≡ Some n)
open_with None n e = absurd (none-some n e)
open_with (Some o) n e = (o, refl, e)

waiting_is : (a : Answer) → is_waiting a ≡ true → a ≡ answer.Wait
waiting_is answer.Wait e = refl
waiting_is a e = absurd (false≢true e)

one_fewer : (b : Bool) (n : ℕ) → (if b then one_less (Some n) else Some n) ≡ Some (n - one_if b)
one_fewer true n = refl
one_fewer false n = ap Some (omega arith)

module _ (c : Setup) (t : Task) (pending : OpenWaits) (r : Record) where
  -- a wait that a record neither begins nor ends lasts
  lasts_on : (o : OpenWait) → pending t ≡ Some o → begins t r ≡ None → ends t r ≡ false → after_record c pending r t ≡ Some (lasts c t r o)
  lasts_on o is no_begin no_end =
      cond-false (ends t r) None (option_or (begins t r) (option_map (lasts c t r) (pending t))) no_end
      ∙ ap (λ x. option_or x (option_map (lasts c t r) (pending t))) no_begin ∙ ap (option_map (lasts c t r)) is

  -- a record that accepts no call ends a wait where it releases the task
  ends_not : is_accepted r.answer ≡ false → is_released t r.releases ≡ false → ends t r ≡ false
  ends_not refused none = ap (λ b. b || (is_accepted r.answer && terminates t r.event)) none ∙ ap (λ b. b && terminates t r.event) refused

  module _ (fits : All (EndsOpenWait c pending r) r.releases) where
    -- such a record releases by a tick alone
    over : is_accepted r.answer ≡ false → is_released t r.releases ≡ true → (o : OpenWait) × (pending t ≡ Some o) × (o.left ≡ Some 1) × (is_tick_for c.timer o.assigned r.answer r.event ≡ true)
    over refused e =
        let one = released_one (EndsOpenWait c pending r) t r.releases fits e in
        let o : OpenWait = one.2.0 in
        let x : Release = one.0 in
        let last : IsOver c o r.event r.answer x =
        ⊎_elim (λ (served : IsServed o r.event r.answer x). absurd (both_ways (is_accepted r.answer) refused served.accepted))
        (⊎_elim (λ (broken : IsBrokenOff o r.event r.answer x). absurd (both_ways (is_accepted r.answer) refused broken.accepted)) (λ (over : IsOver c o r.event r.answer x). over)) one.2.2 in
        (o, ap pending (sym one.1) ∙ one.2.1, last.last, last.counts)

    -- a wait that begins is open then
    begun_open : (n : ℕ) → left_of (begins t r) ≡ Some n → (o : OpenWait) × (after_record c pending r t ≡ Some o) × (o.left ≡ Some n)
    begun_open n left =
        let begun = open_with (begins t r) n left in
        let waits : r.answer ≡ answer.Wait = waiting_is r.answer (waiting (is_waiting r.answer) refl begun.1) in
        let refused : is_accepted r.answer ≡ false = ap is_accepted waits in (
          begun.0,
          cond-false (ends t r) None (option_or (begins t r) (option_map (lasts c t r) (pending t))) (ends_not refused (go (is_released t r.releases) refl waits refused))
              ∙ ap (λ x. option_or x (option_map (lasts c t r) (pending t))) begun.1,
          begun.2,
        )
      where
        waiting : (b : Bool) → is_waiting r.answer ≡ b → {o : OpenWait} → begins t r ≡ Some o → is_waiting r.answer ≡ true
        waiting true e is = e
        waiting false e {o} is = absurd (none-some o (sym (ap (λ b. if b && is_call_of t r.runner r.event then asked_by r.event else None) e) ∙ is))

        go : (b : Bool) → is_released t r.releases ≡ b → r.answer ≡ answer.Wait → is_accepted r.answer ≡ false → is_released t r.releases ≡ false
        go false e waits refused = e
        go true e waits refused =
            let o = over refused e in absurd (both_ways _ (ap (λ a. is_tick_for c.timer o.0.assigned a r.event) waits ∙ untaken c.timer o.0.assigned answer.Wait r.event refl) o.3)

module _ (c : Setup) (t : Task) where
  module _ (pending : OpenWaits) (m : State) (es : List Event) (h : Ready c pending m es) where
    -- a tick counts by the open wait as it does by the state
    same_counts : (o : OpenWait) → pending t ≡ Some o → (a : Answer) (e : Event) → is_tick_for c.timer o.assigned a e ≡ is_tick_for m.timer (task m t).assigned a e
    same_counts o is a e =
        ap (λ q. is_tick_for c.timer q a e) (sym (assigned_reported (pending t) _ _ _ (h.report t).0 o is)) ∙ ap (λ timer. is_tick_for timer (task m t).assigned a e) (sym h.sound.timer)

    -- a tick that is taken releases the task just where one tick is left, and it counts
    tick_releases : (p : Proc) → (step numbered m (event.Tick p)).1.answer ≡ answer.Taken →
        ReleasesInTime t (left_of (pending t)) (counts_for m.timer p (task m t).assigned) (step numbered m (event.Tick p)).1.releases
    tick_releases p taken = (
      λ e.
          let last = over c t pending r f.fits (ap is_accepted taken) e in
          (ap left_of last.1 ∙ last.2, sym (counts last.0 last.1) ∙ last.3),
      λ both. go both (is_released t r.releases) refl,
    )
      where
        r : Record
        r = (step numbered m (event.Tick p)).1

        f : Follows c m pending (step numbered m (event.Tick p)).0 (step numbered m (event.Tick p)).1
        f = followed c pending m es h (event.Tick p)

        counts : (o : OpenWait) → pending t ≡ Some o → is_tick_for c.timer o.assigned r.answer r.event ≡ counts_for m.timer p (task m t).assigned
        counts o is =
            same_counts o is r.answer r.event ∙ ap (is_tick_for m.timer (task m t).assigned r.answer) (event_reported numbered m (event.Tick p))
            ∙ ap (λ a. is_tick_for m.timer (task m t).assigned a (event.Tick p)) taken ∙ clock_counts m.timer p (task m t).assigned

        go : (left_of (pending t) ≡ Some 1) × (counts_for m.timer p (task m t).assigned ≡ true) → (b : Bool) → is_released t r.releases ≡ b → is_released t r.releases ≡ true
        go both true e = e
        go both false e =
            let o = open_with (pending t) 1 both.0 in
            let no_begin : begins t r ≡ None = cond-false (is_waiting r.answer && is_call_of t r.runner r.event) (asked_by r.event) None (ap (λ a. is_waiting a && is_call_of t r.runner r.event) taken) in
            let after : after_record c pending r t ≡ Some (lasts c t r o.0) = lasts_on c t pending r o.0 o.1 no_begin (ends_not c t pending r (ap is_accepted taken) e) in
            let fell : (lasts c t r o.0).left ≡ Some 0 =
            cond-true (is_tick_for c.timer o.0.assigned r.answer r.event) (after_tick o.0.left) o.0.left (counts o.0 o.1 ∙ both.1) ∙ ap after_tick o.2 in
            let range = tick_state numbered m p (λ (v : State). TicksInRange (item None v.waits_left t.number)) (λ v cs d. d) (waits_in_range numbered numbered_lists m h.safe p t) taken in
            let least = (subst TicksInRange ((f.report t).0.left ∙ ap left_of after ∙ fell) range).0 in
            absurd (omega (arith, least))

  -- a wait that goes on has as many ticks fewer as counted for it
  left_later : (pending : OpenWaits) (m : State) (es : List Event) (o : OpenWait) (n : ℕ) → Ready c pending m es → pending t ≡ Some o → o.left ≡ Some n → GoesOn t (answers numbered m es) →
      left_of (after_records c pending (answers numbered m es) t) ≡ Some (n - ticks_for t m es)
  left_later pending m [] o n h is left goes = ap left_of is ∙ left ∙ ap Some (omega arith)
  left_later pending m (e ∷ es) o n h is left goes =
      let v : State = (step numbered m e).0 in
      let r : Record = (step numbered m e).1 in
      let P : Record → Type 0 = λ x. (begins t x ≡ None) × (ends t x ≡ false) in
      let first = All-head P r (answers numbered v es) goes in
      let counts : Bool = is_tick_for m.timer (task m t).assigned r.answer r.event in
      let now : (lasts c t r o).left ≡ Some (n - one_if counts) =
      ap (λ b. if b then after_tick o.left else o.left) (same_counts pending m (e ∷ es) h o is r.answer r.event) ∙ ap (λ l. if counts then after_tick l else l) left ∙ one_fewer counts n in
      left_later (after_record c pending r) v es (lasts c t r o) (n - one_if counts) (ready_next c pending m e es h) (lasts_on c t pending r o is first.0 first.1) now (All-tail P r (answers numbered v es) goes)
      ∙ ap Some (omega arith)

pub waits_end_in_time : (c : Setup) (events : List Event) → IsValid c → AreOn c.processors events → (p : Proc) (t : Task) → t.number ≤ length c.tasks → EndsInTime c events p t
waits_end_in_time c events valid on p t here =
    tick_releases c t (after_records c nobody_waits (answers numbered (booted c) events)) (replay numbered (booted c) events) []
    (ready_after c valid events on) p

pub waits_end_at_last_tick : (c : Setup) (earlier : List Event) (e : Event) (later : List Event) → IsValid c → AreOn c.processors (earlier ++ e ∷ later) → (p : Proc) (t : Task) (n : ℕ) → t.number ≤ length c.tasks →
    EndsAtLastTick c earlier e later p t n
waits_end_at_last_tick c earlier e later valid on p t n here begun goes taken counts =
    let m : State = replay numbered (booted c) earlier in
    let v : State = (step numbered m e).0 in
    let first : OpenWaits = after_records c nobody_waits (answers numbered (booted c) earlier) in
    let second : OpenWaits = after_record c first (step numbered m e).1 in
    let ready : Ready c first m (e ∷ later) = ready_later c nobody_waits (booted c) earlier (e ∷ later) (ready_at_boot c valid (earlier ++ e ∷ later) on) in
    let next : Ready c second v later = ready_next c first m e later ready in
    let o = begun_open c t first (step numbered m e).1 (followed c first m (e ∷ later) ready e).fits (n + 1) begun in
    let left = left_later c t second v later o.0 (n + 1) next o.1 o.2 goes in
    let law = tick_releases c t (after_records c second (answers numbered v later)) (replay numbered v later) [] (ready_end c second v later next) p taken in (
      λ x. let one : n + 1 - ticks_for t v later ≡ 1 = same_Some _ 1 (sym left ∙ (law.0 x).0) in omega (arith, one),
      λ same. let one : n + 1 - ticks_for t v later ≡ 1 = omega (arith, same) in law.1 (left ∙ ap Some one, counts),
    )
