-- Positions and ticks taken grow by one a step at most, or positions are those of a jump.
use Rattle.std.proofs.Common.{◌≡◌, ℕ, ◌+◌, ◌-◌, ◌<◌, ◌≤◌, ◌==◌, ◌≢◌, ◌∙◌, ◌^◌, Bool, true, false, ◌&&◌, ◌||◌, not, cond, List, [], ◌∷◌, length, Option, Some, None, refl, arith, slice_index, slice_set}
use Rattle.std.specs.Prelude.{is_none, is_some, map, nat_lt, replicate}
use Rattle.std.proofs.lemmas.Bool.{eqb-true, eqb-false}
use Rattle.std.proofs.lemmas.List.{get_or-set_same, get_or-set_other, length-set}
use Rattle.fmp_codes.specs.Records.{processor_of, is_gone, is_taken}
use Rattle.fmp_codes.specs.declared.numbers.Task.{Task}
use Rattle.fmp_codes.specs.declared.records.Answer.{Answer}
use Rattle.fmp_codes.specs.declared.records.Event.{Event}
use Rattle.fmp_codes.specs.declared.records.Event.TheVariants as event
use Rattle.fmp_codes.specs.declared.records.Runner.{Runner}
use Rattle.fmp_codes.specs.declared.records.Runner.TheVariants as runner
use Rattle.fmp_codes.proofs.Counters.{zeros}
use Rattle.fmp_codes.specs.declared.records.Record.{Record}
use Rattle.fmp_codes.specs.declared.records.Release.{Release}
use Rattle.fmp_text_scripts.specs.declared.ways.Way.{Way}
use Rattle.fmp_text_scripts.specs.Scripts.{Steps}
use Rattle.fmp_setup.specs.Setup.{Setup, has_time}
use Rattle.fmp_smp_histories.specs.Positions.{is_return, terminated, ways_of_task, ways_of_runner}
use Rattle.fmp_smp_histories.specs.Places.{called_tasks, released_task, released_tasks, renewed, moved_tasks, handler_moved, moved_handlers}
use Rattle.fmp_smp_histories.proofs.Advancing.{called_long, released_long, either_le, called_le, onward_le}
use Rattle.fmp_search_orders.specs.declared.rules.Rules.{Rules}
use Rattle.fmp_search_orders.specs.Orders.{counts_ticks, each, idled_next}
use Rattle.fmp_search_orders.specs.Places.{moved_taken, lowered, moved_idled}
use Rattle.fmp_search_orders.proofs.Longer.{renewed_long, taken_long, lowered_long, one_less, idled_long}
use Rattle.fmp_search_kernel.specs.Walked.{AreBounded, IsRoomy}

-- each number of a list is at most one more than that of another, or one of a step
abbrev pub IsNear : List ℕ → List ℕ → Type 0
IsNear ns ms = (i x : ℕ) → slice_index ns i ≤ x → 256 ≤ x → slice_index ms i ≤ x + 1

set_near : (ns : List ℕ) (at n : ℕ) → at < length ns → ((x : ℕ) → slice_index ns at ≤ x → 256 ≤ x → n ≤ x + 1) → IsNear ns (slice_set ns at n)
set_near ns at n small le i x here most = go (i == at) refl
  where
    go : (b : Bool) → (i == at) ≡ b → slice_index (slice_set ns at n) i ≤ x + 1
    go true e = let same : i ≡ at = eqb-true i at e in rw same (rw (get_or-set_same ns at n 0 small) (le x (rw same at here) most))
    go false e =
        let other : i ≢ at = λ q. eqb-false i at e q in
        rw (get_or-set_other ns at i n 0 other) (omega (arith, here))

same_near : (ns : List ℕ) → IsNear ns ns
same_near ns i x here most = omega (arith, here)

called_near : (c : Setup) (scripts : List Steps) (ps : List ℕ) (o : Option Runner) (e : Event) (a : Answer) → length ps ≡ 64 → IsNear ps (called_tasks c scripts ps o e a)
called_near c scripts ps None e a long = same_near ps
called_near c scripts ps (Some (runner.Task t)) e a long =
    let least = t.least in
    let most = t.most in
    set_near ps (t.number - 1) _ (omega (arith, least, most, long)) (λ x here big. either_le (is_gone a) _ (x + 1) (called_le (ways_of_task c scripts t.number) _ a _ x here big))
called_near c scripts ps (Some (runner.Alarm x)) e a long = same_near ps
called_near c scripts ps (Some (runner.Cyclic y)) e a long = same_near ps

-- releases make no position greater than one of a step
released_near : (c : Setup) (scripts : List Steps) (ps : List ℕ) (rs : List Release) → length ps ≡ 64 → (i x : ℕ) → slice_index ps i ≤ x → 256 ≤ x → slice_index (released_tasks c scripts ps rs) i ≤ x
released_near c scripts ps [] long i x here most = here
released_near c scripts ps (r ∷ rs) long i x here most =
    let place = r.task.number - 1 in
    released_near c scripts (released_task c scripts ps r) rs (length-set ps _ _ ∙ long) i x (go (i == place) refl) most
  where
    go : (b : Bool) → (i == r.task.number - 1) ≡ b → slice_index (released_task c scripts ps r) i ≤ x
    go true e =
        let least = r.task.least in
        let greatest = r.task.most in
        let same : i ≡ r.task.number - 1 = eqb-true i (r.task.number - 1) e in
        rw same (rw (get_or-set_same ps (r.task.number - 1) _ 0 (omega (arith, least, greatest, long)))
        (onward_le (ways_of_task c scripts r.task.number) (slice_index ps (r.task.number - 1)) x r.code r.value (rw same at here) most))
    go false e =
        let other : i ≢ r.task.number - 1 = λ q. eqb-false i (r.task.number - 1) e q in
        rw (get_or-set_other ps (r.task.number - 1) i _ 0 other) here

-- a renewed position is 0
renewed_le : (ps : List ℕ) (o : Option Task) → length ps ≡ 64 → (i : ℕ) → slice_index (renewed ps o) i ≤ slice_index ps i
renewed_le ps None long i = omega arith
renewed_le ps (Some t) long i = go (i == t.number - 1) refl
  where
    go : (b : Bool) → (i == t.number - 1) ≡ b → slice_index (slice_set ps (t.number - 1) 0) i ≤ slice_index ps i
    go true e =
        let least = t.least in
        let most = t.most in
        let same : i ≡ t.number - 1 = eqb-true i (t.number - 1) e in
        rw same (rw (get_or-set_same ps (t.number - 1) 0 0 (omega (arith, least, most, long))) (omega arith))
    go false e =
        let other : i ≢ t.number - 1 = λ q. eqb-false i (t.number - 1) e q in
        rw (get_or-set_other ps (t.number - 1) i 0 0 other) (omega arith)

tasks_near : (c : Setup) (scripts : List Steps) (ps : List ℕ) (r : Record) → length ps ≡ 64 → IsNear ps (moved_tasks c scripts ps r)
tasks_near c scripts ps r long i x here most =
    let freed : List ℕ = released_tasks c scripts ps r.releases in
    let freed_long : length (released_tasks c scripts ps r.releases) ≡ 64 = released_long c scripts ps r.releases ∙ long in
    let lower = renewed_le (called_tasks c scripts freed r.runner r.event r.answer) (terminated r.event r.answer) (called_long c scripts freed r.runner r.event r.answer ∙ freed_long) i in
    let near = called_near c scripts freed r.runner r.event r.answer freed_long i x (released_near c scripts ps r.releases long i x here most) most in
    omega (arith, lower, near)

handler_le : (ways : List Way) (o : Option Runner) (e : Event) (a : Answer) (n x : ℕ) → n ≤ x → 256 ≤ x → handler_moved ways o e a n ≤ x + 1
handler_le ways o (event.Call p call) a n x here most = either_le (is_return call) _ (x + 1) (called_le ways _ a n x here most)
handler_le ways o (event.Tick p) a n x here most = either_le (is_taken a) n (x + 1) (omega (arith, here))
handler_le ways o (event.Ipi p) a n x here most = omega (arith, here)

handlers_near : (c : Setup) (scripts : List Steps) (ps : List ℕ) (r : Record) → length ps ≡ 8 → IsNear ps (moved_handlers c scripts ps r)
handlers_near c scripts ps r long =
    let least = (processor_of r.event).least in
    let most = (processor_of r.event).most in
    set_near ps ((processor_of r.event).number - 1) _ (omega (arith, least, most, long)) (λ x here big. handler_le (ways_of_runner c scripts r.runner) r.runner r.event r.answer _ x here big)

taken_near : (rules : Rules) (ns : List ℕ) (e : Event) (a : Answer) → length ns ≡ 8 → IsNear ns (moved_taken rules ns e a)
taken_near rules ns (event.Call p c) a long = same_near ns
taken_near rules ns (event.Ipi p) a long = same_near ns
taken_near rules ns (event.Tick p) a long = go (counts_ticks rules && is_taken a)
  where
    go : (b : Bool) → IsNear ns (cond b (slice_set ns (p.number - 1) (slice_index ns (p.number - 1) + 1)) ns)
    go true =
        let least = p.least in
        let most = p.most in
        set_near ns (p.number - 1) _ (omega (arith, least, most, long)) (λ x here big. omega (arith, here))
    go false = same_near ns

lowered_le : (c : Setup) (rules : Rules) (ns : List ℕ) (i : ℕ) → slice_index (lowered c rules ns) i ≤ slice_index ns i
lowered_le c rules ns i = go (is_none rules.ticks && each (λ q. not (has_time c.timer q) || nat_lt 0 (slice_index ns (q.number - 1))) c.processors)
  where
    go : (b : Bool) → slice_index (cond b (map (λ n. n - 1) ns) ns) i ≤ slice_index ns i
    go true = let less = one_less ns i in omega (arith, less)
    go false = omega arith

-- after a tick, and with the differences alone
ticks_near : (c : Setup) (rules : Rules) (ns : List ℕ) (e : Event) (a : Answer) → length ns ≡ 8 → IsNear ns (lowered c rules (moved_taken rules ns e a))
ticks_near c rules ns e a long i x here most =
    let less = lowered_le c rules (moved_taken rules ns e a) i in
    let near = taken_near rules ns e a long i x here most in
    omega (arith, less, near)

idled_le : (busy : Bool) (e : Event) (a : Answer) (x : ℕ) → idled_next busy e a x ≤ x + 1
idled_le busy (event.Call p c) a x = omega arith
idled_le busy (event.Ipi p) a x = go (is_taken a)
  where
    go : (b : Bool) → cond b 0 x ≤ x + 1
    go true = omega arith
    go false = omega arith
idled_le busy (event.Tick p) a x = go (is_taken a) busy
  where
    go : (b s : Bool) → cond b (cond s (x + 1) 0) x ≤ x + 1
    go true true = omega arith
    go true false = omega arith
    go false s = omega arith

idled_near : (rules : Rules) (busy : Bool) (ns : List ℕ) (r : Record) → length ns ≡ 8 → IsNear ns (moved_idled rules busy ns r)
idled_near rules busy ns r long = go (is_some rules.pace)
  where
    at : ℕ
    at = (processor_of r.event).number - 1

    go : (b : Bool) → IsNear ns (cond b (slice_set ns at (idled_next busy r.event r.answer (slice_index ns at))) ns)
    go true =
        let least = (processor_of r.event).least in
        let most = (processor_of r.event).most in
        set_near ns at _ (omega (arith, least, most, long)) (λ x here big. let le = idled_le busy r.event r.answer (slice_index ns at) in omega (arith, here, le))
    go false = same_near ns

bounded_less : (n : ℕ) (ns ms : List ℕ) (left : ℕ) → 0 < left → left ≤ 2 ^ 31 → AreBounded n ns left → IsNear ns ms → AreBounded n ms (left - 1)
bounded_less n ns ms left some most bounded near i small =
    let b = bounded i small in
    let c = near i (2 ^ 31 + 256 - left) (omega (arith, b)) (omega (arith, most)) in
    omega (arith, some, most, b, c)

-- after one step there is room for one less
module _ (c : Setup) (scripts : List Steps) (rules : Rules) (tasks handlers taken idled : List ℕ) (busy : Bool) (seen left : ℕ) (made : Record) where
  pub roomy_less : 0 < left → IsRoomy tasks handlers taken idled seen left → (next : ℕ) → next ≤ seen + 1 →
      IsRoomy (moved_tasks c scripts tasks made) (moved_handlers c scripts handlers made) (lowered c rules (moved_taken rules taken made.event made.answer)) (moved_idled rules busy idled made) next (left - 1)
  roomy_less some r next le =
      let b = r.seen_bounded in
      let most : left ≤ 2 ^ 31 = omega (arith, b) in
      record {
        tasks_bounded = bounded_less 64 tasks _ left some most r.tasks_bounded (tasks_near c scripts tasks made r.tasks_sized);
        handlers_bounded = bounded_less 8 handlers _ left some most r.handlers_bounded (handlers_near c scripts handlers made r.handlers_sized);
        taken_bounded = bounded_less 8 taken _ left some most r.taken_bounded (ticks_near c rules taken made.event made.answer r.taken_sized);
        idled_bounded = bounded_less 8 idled _ left some most r.idled_bounded (idled_near rules busy idled made r.idled_sized);
        seen_bounded = omega (arith, some, b, le);
        tasks_sized = renewed_long _ _ ∙ called_long c scripts (released_tasks c scripts tasks made.releases) made.runner made.event made.answer ∙ released_long c scripts tasks made.releases ∙ r.tasks_sized;
        handlers_sized = length-set handlers _ _ ∙ r.handlers_sized;
        taken_sized = lowered_long c rules _ ∙ taken_long rules taken made.event made.answer ∙ r.taken_sized;
        idled_sized = idled_long rules busy idled made ∙ r.idled_sized;
      }

-- at the start there is all room
pub roomy_start : (left : ℕ) → left ≤ 2 ^ 31 → IsRoomy (replicate 64 0) (replicate 8 0) (replicate 8 0) (replicate 8 0) 0 left
roomy_start left le = record {
  tasks_bounded = λ i small. rw (zeros 64 i) (omega (arith, le));
  handlers_bounded = λ i small. rw (zeros 8 i) (omega (arith, le));
  taken_bounded = λ i small. rw (zeros 8 i) (omega (arith, le));
  idled_bounded = λ i small. rw (zeros 8 i) (omega (arith, le));
  seen_bounded = omega (arith, le);
  tasks_sized = refl;
  handlers_sized = refl;
  taken_sized = refl;
  idled_sized = refl;
}
