-- A history that is one event longer, and the place to which it leads.
use Rattle.std.proofs.Common.{◌≡◌, ℕ, zero, suc, ◌+◌, ◌-◌, ◌<◌, ◌≤◌, ◌==◌, ◌≢◌, ◌∙◌, Bool, true, false, ◌&&◌, ◌||◌, not, cond, List, [], ◌∷◌, ◌++◌, length, take, Option, Some, None, ◌⊎◌, inl, inr, refl, ap, sym, subst, arith, slice_index, slice_set, slice_get, length-append, append_assoc, append-nil, map}
use Rattle.std.specs.Prelude.{is_none, is_some, nat_lt}
use Rattle.std.specs.List.{count_by}
use Rattle.std.proofs.lemmas.List.Sums.{sum_by-append}
use Rattle.std.proofs.Math.Bool.{and-false}
use Rattle.std.proofs.lemmas.Bool.{and_parts, eqb-true, eqb-false, ltb-true}
use Rattle.std.proofs.lemmas.Grind.{common_steps}
use Rattle.std.proofs.lemmas.List.{get_or-set_same, get_or-set_other, length-map, length-set, take-append-le}
use Rattle.std.proofs.Math.Seq.{take-length, take-append_seam}
use Rattle.fmp_codes.specs.Records.{processor_of, is_taken}
use Rattle.fmp_codes.specs.declared.numbers.Proc.{Proc}
use Rattle.fmp_codes.specs.declared.numbers.Task.{Task}
use Rattle.fmp_codes.specs.declared.records.Answer.{Answer}
use Rattle.fmp_codes.specs.declared.records.Event.{Event}
use Rattle.fmp_codes.specs.declared.records.Event.TheVariants as event
use Rattle.fmp_codes.specs.declared.records.Record.{Record}
use Rattle.fmp_text_scripts.specs.Scripts.{Steps}
use Rattle.fmp_setup.specs.Setup.{Setup, has_time}
use Rattle.fmp_setup.specs.Valid.{IsValid}
use Rattle.fmp_rules.specs.World.{World, processor, runner_of, is_held}
use Rattle.fmp_rules.specs.Arrivals.{State, numbered}
use Rattle.fmp_rules.specs.Step.{step, replay}
use Rattle.fmp_rules.specs.Boot.{booted}
use Rattle.fmp_rules.proofs.Replays.{step_event}
use Rattle.fmp_law_safety.specs.Safe.{Safe}
use Rattle.fmp_law_safety.proofs.Booted.{runs_safe}
use Rattle.fmp_kernel_order.specs.Queues.{Queues, listed}
use Rattle.fmp_law_lists.specs.Stands.{Stands, StepsMatch}
use Rattle.fmp_law_lists.proofs.Steps.{lists_refine}
use Rattle.fmp_smp_histories.specs.Histories.{events_of, state_after, IsRunOf}
use Rattle.fmp_smp_histories.specs.Positions.{is_tick_of}
use Rattle.fmp_smp_histories.specs.Places.{renewed, released_tasks, moved_tasks, moved_handlers}
use Rattle.fmp_smp_histories.specs.Counted.{taken, is_taken_tick, TasksAre, HandlersAre}
use Rattle.fmp_smp_histories.proofs.Histories.{after_more, run_more, count_after}
use Rattle.fmp_smp_histories.proofs.Advancing.{tasks_moved, handlers_moved, called_long, released_long}
use Rattle.fmp_search_pattern.specs.declared.question.Step.{Step}
use Rattle.fmp_search_pattern.specs.Questions.{allows, seen}
use Rattle.fmp_search_orders.specs.declared.rules.Rules.{Rules}
use Rattle.fmp_search_orders.specs.Orders.{counts_ticks, counted, each, is_busy, idled_next, idled_after, idled_by, MayHappen, AreInOrder}
use Rattle.fmp_search_orders.specs.Sights.{sight}
use Rattle.fmp_search_orders.specs.Shown.{last_sight, IsMarked}
use Rattle.fmp_search_orders.specs.Places.{Place, count_at, moved_taken, is_busy_at, lowered, moved_idled, went, sight_at}
use Rattle.fmp_search_orders.specs.Laws.{TakenAre, TicksAre, IdledAre, LeadsTo}
use Rattle.fmp_search_orders.proofs.Alike.{AreShifted, each_at, sight_shifted}

-- ---- lengths

pub renewed_long : (ps : List ℕ) (o : Option Task) → length (renewed ps o) ≡ length ps
renewed_long ps None = refl
renewed_long ps (Some t) = length-set ps _ _

moved_long : (b : Bool) (ns ms : List ℕ) → length ms ≡ length ns → length (cond b ms ns) ≡ length ns
moved_long true ns ms h = h
moved_long false ns ms h = refl

pub taken_long : (rs : Rules) (ns : List ℕ) (e : Event) (a : Answer) → length (moved_taken rs ns e a) ≡ length ns
taken_long rs ns (event.Tick p) a = moved_long (counts_ticks rs && is_taken a) ns _ (length-set ns _ _)
taken_long rs ns (event.Call p c) a = refl
taken_long rs ns (event.Ipi p) a = refl

-- ---- counts over a list that is one longer

pub count_more : {A : Type 0} (test : A → Bool) (xs : List A) (x : A) → count_by test (xs ++ x ∷ []) ≡ count_by test xs + cond (test x) 1 0
count_more test xs x = let e = sum_by-append (λ y. cond (test y) 1 0) xs (x ∷ []) in omega (arith, e)

pub seen_next : (m : Bool) (n : ℕ) → cond m (n + 1) n ≡ n + cond m 1 0
seen_next true n = refl
seen_next false n = omega arith

pub seen_more : (marks : List Bool) (m : Bool) → seen (marks ++ m ∷ []) ≡ cond m (seen marks + 1) (seen marks)
seen_more marks m = count_more (λ b. b) marks m ∙ sym (seen_next m (seen marks))

-- ---- the ticks that were taken

ticked : (ns : List ℕ) (p i : ℕ) (b here : Bool) → 1 ≤ p → i < length ns → (p == i + 1) ≡ here →
    slice_index (cond b (slice_set ns (p - 1) (slice_index ns (p - 1) + 1)) ns) i ≡ slice_index ns i + cond (here && b) 1 0
ticked ns p i false here least small is = rw (and-false here) (omega arith)
ticked ns p i true true least small is =
    let same : i ≡ p - 1 = omega (arith, eqb-true p (i + 1) is) in
    rw same (get_or-set_same ns (p - 1) _ 0 (omega (arith, same, small)))
ticked ns p i true false least small is =
    let ne : i ≢ p - 1 = λ q. eqb-false p (i + 1) is (omega (arith, q, least)) in
    get_or-set_other ns (p - 1) i _ 0 ne ∙ omega arith

counted_if : (b : Bool) (n : ℕ) (h : List Record) (r : Record) →
    cond b (taken n (h ++ r ∷ [])) 0 ≡ cond b (taken n h) 0 + cond (is_tick_of n r.event && (b && is_taken r.answer)) 1 0
counted_if true n h r = count_more (is_taken_tick n) h r
counted_if false n h r = rw (and-false (is_tick_of n r.event)) (omega arith)

module _ (rs : Rules) (ns : List ℕ) (h : List Record) (r : Record) where
  moved_at : (i : ℕ) → i < length ns → (e : Event) →
      slice_index (moved_taken rs ns e r.answer) i ≡ slice_index ns i + cond (is_tick_of (i + 1) e && (counts_ticks rs && is_taken r.answer)) 1 0
  moved_at i small (event.Call p c) = omega arith
  moved_at i small (event.Ipi p) = omega arith
  moved_at i small (event.Tick p) = ticked ns p.number i (counts_ticks rs && is_taken r.answer) (p.number == i + 1) p.least small refl

  pub taken_moved : TakenAre rs ns h → length ns ≡ 8 → TakenAre rs (moved_taken rs ns r.event r.answer) (h ++ r ∷ [])
  taken_moved are long = λ i small.
      moved_at i (omega (arith, long, small)) r.event
      ∙ ap (λ n. n + cond (is_tick_of (i + 1) r.event && (counts_ticks rs && is_taken r.answer)) 1 0) (are i small)
      ∙ sym (counted_if (counts_ticks rs) (i + 1) h r)

-- the counts of a place, by processors
pub counts_same : (rs : Rules) (w : Place) (h : List Record) → TakenAre rs w.taken h → (p : Proc) → count_at w p.number ≡ counted rs h p.number
counts_same rs w h are p =
    let least = p.least in
    let most = p.most in
    let back : p.number - 1 + 1 ≡ p.number = omega (arith, least) in
    are (p.number - 1) (omega (arith, least, most)) ∙ ap (counted rs h) back

-- ---- the ticks without a limit

pub lowered_long : (c : Setup) (rs : Rules) (ns : List ℕ) → length (lowered c rs ns) ≡ length ns
lowered_long c rs ns = moved_long (is_none rs.ticks && each (λ q. not (has_time c.timer q) || nat_lt 0 (slice_index ns (q.number - 1))) c.processors) ns _ (length-map ns (λ n. n - 1))

pub one_less : (ns : List ℕ) (i : ℕ) → slice_index (map (λ n. n - 1) ns) i ≡ slice_index ns i - 1
one_less [] i = refl
one_less (n ∷ ns) zero = refl
one_less (n ∷ ns) (suc i) = one_less ns i

none_limited : (o : Option ℕ) → is_none o ≡ true → is_some o ≡ true → ⊥
none_limited None none some = cc
none_limited (Some n) none some = cc

module _ (c : Setup) (rs : Rules) (ns : List ℕ) (h : List Record) where
  abbrev is_ticked : Proc → Bool
  is_ticked q = not (has_time c.timer q) || nat_lt 0 (slice_index ns (q.number - 1))

  ticked_there : (q : Proc) → has_time c.timer q ≡ true → is_ticked q ≡ true → 0 < slice_index ns (q.number - 1)
  ticked_there q time is = let some = rw time at is in ltb-true 0 (slice_index ns (q.number - 1)) some

  pub lowered_are : TicksAre c rs ns h → TicksAre c rs (lowered c rs ns) h
  lowered_are are = by (is_none rs.ticks && each is_ticked c.processors) refl
    where
      by : (b : Bool) → (is_none rs.ticks && each is_ticked c.processors) ≡ b → TicksAre c rs (cond b (map (λ n. n - 1) ns) ns) h
      by false is = are
      by true is =
          let parts = and_parts (is_none rs.ticks) (each is_ticked c.processors) is in
          record {
            less = are.less + 1;
            limited = λ some. absurd (none_limited rs.ticks parts.0 some);
            are = λ p here time.
                let some = ticked_there p time (each_at is_ticked c.processors parts.1 p here) in
                let old = are.are p here time in
                let less = one_less ns (p.number - 1) in
                omega (arith, some, old, less);
          }

-- one record more
ticks_moved : (c : Setup) (rs : Rules) (ns : List ℕ) (h : List Record) (r : Record) → TicksAre c rs ns h → length ns ≡ 8 → TicksAre c rs (moved_taken rs ns r.event r.answer) (h ++ r ∷ [])
ticks_moved c rs ns h r old long = record {
  less = old.less;
  limited = old.limited;
  are = λ p here time.
      let least = p.least in
      let most = p.most in
      let back : p.number - 1 + 1 ≡ p.number = omega (arith, least) in
      let was = old.are p here time in
      let moved = ap (λ n. slice_index ns (p.number - 1) + cond (is_tick_of n r.event && (counts_ticks rs && is_taken r.answer)) 1 0) back in
      let now = moved_at rs ns h r (p.number - 1) (omega (arith, long, least, most)) r.event ∙ moved in
      let more = counted_if (counts_ticks rs) p.number h r in
      omega (arith, was, now, more);
}

-- ---- the ticks of busy processors

pub same_busy : (w : Place) (m : State) → Stands w.machine m → (p : Proc) → is_busy_at w p ≡ is_busy m p
same_busy w m stands p = ap (λ (x : World Queues). is_some (runner_of x p) || ((processor x p).latch && not (is_held x p))) stands.same

idled_more : (c : Setup) (n : ℕ) (before h : List Record) (r : Record) (k : ℕ) → idled_by c n before (h ++ r ∷ []) k ≡ idled_after (state_after c (before ++ h)) n r (idled_by c n before h k)
idled_more c n before [] r k = ap (λ (g : List Record). idled_after (state_after c g) n r k) (sym (append-nil before))
idled_more c n before (x ∷ h) r k =
    let next = idled_after (state_after c before) n x k in
    idled_more c n (before ++ x ∷ []) h r next
    ∙ ap (λ (g : List Record). idled_after (state_after c g) n r (idled_by c n (before ++ x ∷ []) h next)) (append_assoc before (x ∷ []) h)

idled_if : (b : Bool) (c : Setup) (n : ℕ) (h : List Record) (r : Record) → cond b (idled_by c n [] (h ++ r ∷ []) 0) 0 ≡ cond b (idled_after (state_after c h) n r (cond b (idled_by c n [] h 0) 0)) 0
idled_if true c n h r = idled_more c n [] h r 0
idled_if false c n h r = refl

pub idled_long : (rs : Rules) (busy : Bool) (ns : List ℕ) (r : Record) → length (moved_idled rs busy ns r) ≡ length ns
idled_long rs busy ns r = moved_long (is_some rs.pace) ns _ (length-set ns _ _)

module _ (c : Setup) (rs : Rules) (ns : List ℕ) (h : List Record) (r : Record) where
  abbrev own : ℕ → ℕ
  own = idled_next (is_busy (state_after c h) (processor_of r.event)) r.event r.answer

  set_at : (p i n : ℕ) (b here : Bool) → 1 ≤ p → i < length ns → (p == i + 1) ≡ here → slice_index ns i ≡ cond b n 0 →
      slice_index (cond b (slice_set ns (p - 1) (own (slice_index ns (p - 1)))) ns) i ≡ cond b (cond here (own (cond b n 0)) (cond b n 0)) 0
  set_at p i n false here least small is at = at
  set_at p i n true true least small is at =
      let same : i ≡ p - 1 = omega (arith, eqb-true p (i + 1) is) in
      ap (slice_index (slice_set ns (p - 1) (own (slice_index ns (p - 1))))) same ∙ get_or-set_same ns (p - 1) _ 0 (omega (arith, same, small))
      ∙ ap (λ k. own (slice_index ns k)) (sym same) ∙ ap own at
  set_at p i n true false least small is at =
      let ne : i ≢ p - 1 = λ q. eqb-false p (i + 1) is (omega (arith, q, least)) in
      get_or-set_other ns (p - 1) i _ 0 ne ∙ at

  idled_moved : IdledAre c rs ns h → length ns ≡ 8 → IdledAre c rs (moved_idled rs (is_busy (state_after c h) (processor_of r.event)) ns r) (h ++ r ∷ [])
  idled_moved are long = λ i small.
      set_at (processor_of r.event).number i (idled_by c (i + 1) [] h 0) (is_some rs.pace) ((processor_of r.event).number == i + 1) (processor_of r.event).least
      (omega (arith, long, small)) refl (are i small)
      ∙ sym (idled_if (is_some rs.pace) c (i + 1) h r)

pub counts_shifted : (c : Setup) (rs : Rules) (w : Place) (h : List Record) → TicksAre c rs w.taken h → AreShifted c rs (count_at w) (counted rs h)
counts_shifted c rs w h are = record { less = are.less; limited = are.limited; are = are.are }

-- ---- what stands in a list that is one longer

here_or_last : {A : Type 0} (k : ℕ) (xs : List A) (y x : A) → slice_get (xs ++ y ∷ []) k ≡ Some x →
    ((k < length xs) × (slice_get xs k ≡ Some x)) ⊎ ((k ≡ length xs) × (x ≡ y))
here_or_last zero [] y x at = inr (refl, cc)
here_or_last (suc k) [] y x at = cc
here_or_last zero (z ∷ xs) y x at = inl (omega arith, at)
here_or_last (suc k) (z ∷ xs) y x at = elim (here_or_last k xs y x at) [
  | inl here ↦ inl (omega (arith, here.0), here.1)
  | inr last ↦ inr (ap suc last.0, last.1)
]

take_here : {A : Type 0} (k : ℕ) (xs : List A) (y : A) → k ≤ length xs → take k (xs ++ y ∷ []) ≡ take k xs
take_here k xs y le = take-append-le k xs (y ∷ []) le

take_last : {A : Type 0} (k : ℕ) (xs : List A) (y : A) → k ≡ length xs → take k (xs ++ y ∷ []) ≡ xs
take_last k xs y is = ap (λ n. take n (xs ++ y ∷ [])) is ∙ take-append_seam xs (y ∷ [])

take_whole : {A : Type 0} (k : ℕ) (xs : List A) (y : A) → k ≡ length xs → take (suc k) (xs ++ y ∷ []) ≡ xs ++ y ∷ []
take_whole k xs y is =
    let long : suc k ≡ length (xs ++ y ∷ []) = rw is (grind (arith, common_steps)) in
    ap (λ n. take n (xs ++ y ∷ [])) long ∙ take-length (xs ++ y ∷ [])

pub order_more : (c : Setup) (scripts : List Steps) (rs : Rules) (h : List Record) (r : Record) →
    AreInOrder c scripts rs h → MayHappen c scripts rs h r.event → AreInOrder c scripts rs (h ++ r ∷ [])
order_more c scripts rs h r all last = λ k x at.
    elim (here_or_last k h r x at) [
      | inl here ↦ let before = take_here k h r (omega (arith, here.0)) in rw before (all k x here.1)
      | inr end ↦ let before = take_last k h r end.0 in rw (before, end.1) last
    ]

pub marked_more : (c : Setup) (rs : Rules) (question : List Step) (h : List Record) (r : Record) (marks : List Bool) (m : Bool) →
    IsMarked c rs question h marks → allows question (seen marks) m (last_sight c rs (h ++ r ∷ []) r) ≡ true → IsMarked c rs question (h ++ r ∷ []) (marks ++ m ∷ [])
marked_more c rs question h r marks m marked last = record {
  as_many = let many = marked.as_many in length-append marks (m ∷ []) ∙ ap (λ n. n + 1) many ∙ sym (length-append h (r ∷ []));
  allowed = λ k x n at mark_at. here_too k x n (here_or_last k h r x at) (here_or_last k marks m n mark_at);
} where
  here_too : (k : ℕ) (x : Record) (n : Bool) →
      ((k < length h) × (slice_get h k ≡ Some x)) ⊎ ((k ≡ length h) × (x ≡ r)) → ((k < length marks) × (slice_get marks k ≡ Some n)) ⊎ ((k ≡ length marks) × (n ≡ m)) →
      allows question (seen (take k (marks ++ m ∷ []))) n (last_sight c rs (take (suc k) (h ++ r ∷ [])) x) ≡ true
  here_too k x n (inl here) (inl mark) =
      let before = take_here (suc k) h r (omega (arith, here.0)) in
      let marked_before = take_here k marks m (omega (arith, mark.0)) in
      rw (before, marked_before) (marked.allowed k x n here.1 mark.1)
  here_too k x n (inl here) (inr mark) = absurd (let many = marked.as_many in let low = here.0 in let high = mark.0 in omega (arith, many, low, high))
  here_too k x n (inr here) (inl mark) = absurd (let many = marked.as_many in let high = here.0 in let low = mark.0 in omega (arith, many, low, high))
  here_too k x n (inr here) (inr mark) =
      let whole = take_whole k h r here.0 in
      let marked_before = take_last k marks m mark.0 in
      rw (whole, marked_before, here.1, mark.1) last

-- ---- the state after a run is safe

safe_after : (c : Setup) (h : List Record) → IsValid c → IsRunOf c h → Safe numbered (state_after c h)
unfolding state_after
safe_after c h valid run =
    let all : take (length (events_of h)) (events_of h) ≡ events_of h = take-length (events_of h) in
    subst (λ es. Safe numbered (replay numbered (booted c) es)) all (runs_safe c (events_of h) valid run.on (length (events_of h)))

-- ---- the place after one event more

module _ (c : Setup) (scripts : List Steps) (rs : Rules) (question : List Step) (valid : IsValid c) (w : Place) (h : List Record) (marks : List Bool)
    (leads : LeadsTo c scripts rs question w h marks) (e : Event) (may : MayHappen c scripts rs h e) where
  abbrev did : World Queues × Record
  did = step listed w.machine e

  both_match : StepsMatch did (step numbered (state_after c h) e)
  both_match =
      let m = state_after c h in
      let here : (processor_of e).number ≤ length m.processors = rw (count_after c h valid leads.order.run) may.0 in
      lists_refine w.machine m e leads.stands (safe_after c h valid leads.order.run) ((processor_of e).least, here)

  -- what is told of an event that may happen is what the model tells
  pub same_record : did.1 ≡ (step numbered (state_after c h) e).1
  same_record = both_match.same

  same_event : did.1.event ≡ e
  same_event = ap (λ (r : Record). r.event) same_record ∙ step_event (state_after c h) e

  stands_more : Stands did.0 (state_after c (h ++ did.1 ∷ []))
  stands_more = rw (after_more c h e did.1 same_event) both_match.stands

  taken_more : TicksAre c rs (lowered w.config w.rules (moved_taken w.rules w.taken did.1.event did.1.answer)) (h ++ did.1 ∷ [])
  taken_more =
      subst (λ (x : Rules). TicksAre c rs (lowered w.config x (moved_taken x w.taken did.1.event did.1.answer)) (h ++ did.1 ∷ [])) (sym leads.rules_are)
      (subst (λ (x : Setup). TicksAre c rs (lowered x rs (moved_taken rs w.taken did.1.event did.1.answer)) (h ++ did.1 ∷ [])) (sym leads.config_is)
      (lowered_are c rs (moved_taken rs w.taken did.1.event did.1.answer) (h ++ did.1 ∷ []) (ticks_moved c rs w.taken h did.1 leads.taken_are leads.sized.2)))

  idled_now : IdledAre c rs (moved_idled w.rules (is_busy_at w (processor_of did.1.event)) w.idled did.1) (h ++ did.1 ∷ [])
  idled_now =
      subst (λ (x : Rules). IdledAre c rs (moved_idled x (is_busy_at w (processor_of did.1.event)) w.idled did.1) (h ++ did.1 ∷ [])) (sym leads.rules_are)
      (subst (λ (b : Bool). IdledAre c rs (moved_idled rs b w.idled did.1) (h ++ did.1 ∷ [])) (sym (same_busy w (state_after c h) leads.stands (processor_of did.1.event)))
      (idled_moved c rs w.idled h did.1 leads.idled_are leads.sized.3))

  pub same_sight : (m : Bool) → sight_at (went w m did) did.1 ≡ last_sight c rs (h ++ did.1 ∷ []) did.1
  same_sight m =
      let v = went w m did in
      ap (λ (x : Setup). sight x w.rules (count_at v) did.0 did.1) leads.config_is
      ∙ ap (λ (x : Rules). sight c x (count_at v) did.0 did.1) leads.rules_are
      ∙ sight_shifted c rs (count_at v) (counted rs (h ++ did.1 ∷ [])) (counts_shifted c rs v (h ++ did.1 ∷ []) taken_more) did.0 (state_after c (h ++ did.1 ∷ [])) did.1 stands_more

  -- the place allows a mark where the question does
  pub same_allowed : (m : Bool) → allows w.question w.seen m (sight_at (went w m did) did.1) ≡ allows question (seen marks) m (last_sight c rs (h ++ did.1 ∷ []) did.1)
  same_allowed m =
      ap (λ (q : List Step). allows q w.seen m (sight_at (went w m did) did.1)) leads.question_is
      ∙ ap (λ n. allows question n m (sight_at (went w m did) did.1)) leads.seen_is
      ∙ ap (allows question (seen marks) m) (same_sight m)

  pub leads_more : (m : Bool) → allows question (seen marks) m (last_sight c rs (h ++ did.1 ∷ []) did.1) ≡ true →
      LeadsTo c scripts rs question (went w m did) (h ++ did.1 ∷ []) (marks ++ m ∷ [])
  leads_more m allowed = record {
    config_is = leads.config_is;
    scripts_are = leads.scripts_are;
    rules_are = leads.rules_are;
    question_is = leads.question_is;
    order = record {
      run = run_more c h e did.1 leads.order.run same_record same_event may.0;
      in_order = order_more c scripts rs h did.1 leads.order.in_order (subst (λ x. MayHappen c scripts rs h x) (sym same_event) may);
    };
    marked = marked_more c rs question h did.1 marks m leads.marked allowed;
    stands = stands_more;
    tasks_placed = subst (λ (x : Setup). TasksAre c scripts (moved_tasks x w.scripts w.tasks did.1) (h ++ did.1 ∷ [])) (sym leads.config_is)
        (subst (λ (x : List Steps). TasksAre c scripts (moved_tasks c x w.tasks did.1) (h ++ did.1 ∷ [])) (sym leads.scripts_are)
        (tasks_moved c scripts w.tasks h did.1 leads.tasks_placed leads.sized.0));
    handlers_placed = subst (λ (x : Setup). HandlersAre c scripts (moved_handlers x w.scripts w.handlers did.1) (h ++ did.1 ∷ [])) (sym leads.config_is)
        (subst (λ (x : List Steps). HandlersAre c scripts (moved_handlers c x w.handlers did.1) (h ++ did.1 ∷ [])) (sym leads.scripts_are)
        (handlers_moved c scripts w.handlers h did.1 leads.handlers_placed leads.sized.1));
    taken_are = taken_more;
    idled_are = idled_now;
    seen_is = ap (λ n. cond m (n + 1) n) leads.seen_is ∙ sym (seen_more marks m);
    sized = (
      renewed_long _ _ ∙ called_long w.config w.scripts (released_tasks w.config w.scripts w.tasks did.1.releases) did.1.runner did.1.event did.1.answer
          ∙ released_long w.config w.scripts w.tasks did.1.releases ∙ leads.sized.0,
      length-set w.handlers _ _ ∙ leads.sized.1,
      lowered_long w.config w.rules _ ∙ taken_long w.rules w.taken did.1.event did.1.answer ∙ leads.sized.2,
      idled_long w.rules _ w.idled did.1 ∙ leads.sized.3,
    );
  }
