-- Steps of the judge's loops, and what its answers say.
use Rattle.std.proofs.Common.{◌≡◌, ℕ, ◌+◌, ◌≤◌, ◌↔◌, ◌⊎◌, Bool, true, false, ◌&&◌, nat_lt, cond, List, length, refl, arith, below_more, IsTrue, Option, Some, None, IsSome, IfSome, Decides}
use Rattle.fmp_world.specs.declared.finishing.Ended.{Ended}
use Rattle.fmp_world.specs.declared.finishing.Ended.TheVariants.{Quiet, Limit}
use Rattle.fmp_text_scripts.specs.Scripts.{Steps}
use Rattle.fmp_codes.specs.Numbers.{as_proc}
use Rattle.fmp_setup.specs.declared.setup.Timer.{Timer}
use Rattle.fmp_setup.specs.Setup.{Setup, has_time}
use Rattle.fmp_codes.specs.declared.records.Record.{Record}
use Rattle.std.proofs.lemmas.Bool.Decides.{nat_tests}
use Rattle.std.proofs.lemmas.Bool.{and_parts}
use Rattle.fmp_world.specs.Turns.{is_full}
use Rattle.fmp_world.specs.Views.{Seat, ClockSeat, History}
use Rattle.fmp_world.specs.Ends.{TicksWithin, TicksAre, EndsQuiet, AreSeats, IsWhole}
use Rattle.fmp_smp_histories.specs.Counted.{taken}

-- what is known of each i below n, and of n
pub within_more : (n ticks : ℕ) (h : List Record) → TicksWithin n ticks h → taken (n + 1) h ≤ ticks → TicksWithin (n + 1) ticks h
within_more n ticks h below here = below_more (λ i. taken (i + 1) h ≤ ticks) n below here

pub are_more : (timer : Timer) (n ticks : ℕ) (h : List Record) → TicksAre timer n ticks h → (has_time timer (as_proc (n + 1)) ≡ true → taken (n + 1) h ≡ ticks) → TicksAre timer (n + 1) ticks h
are_more timer n ticks h below here = below_more (λ i. has_time timer (as_proc (i + 1)) ≡ true → taken (i + 1) h ≡ ticks) n below here

pub are_less : (timer : Timer) (n ticks : ℕ) (h : List Record) → TicksAre timer (n + 1) ticks h → TicksAre timer n ticks h
are_less timer n ticks h all = λ i small. all i (omega arith)

-- all ticks so far, after one more processor that owes none, and after one that owes some
pub all_more : (all : Bool) (timer : Timer) (n ticks : ℕ) (h : List Record) → (has_time timer (as_proc (n + 1)) && nat_lt (taken (n + 1) h) ticks) ≡ false
    → taken (n + 1) h ≤ ticks → IsTrue all ↔ TicksAre timer n ticks h → IsTrue all ↔ TicksAre timer (n + 1) ticks h
all_more all timer n ticks h owes within same =
    let here : has_time timer (as_proc (n + 1)) ≡ true → taken (n + 1) h ≡ ticks = λ counts. let less = rw counts at owes in grind (arith, nat_tests) in
    (λ t. are_more timer n ticks h (same.0 t) here, λ e. same.1 (are_less timer n ticks h e))

pub none_more : (timer : Timer) (n ticks : ℕ) (h : List Record) → (has_time timer (as_proc (n + 1)) && nat_lt (taken (n + 1) h) ticks) ≡ true
    → IsTrue false ↔ TicksAre timer (n + 1) ticks h
none_more timer n ticks h owes =
    let parts = and_parts _ _ owes in
    (λ t. cc, λ e. let at = e n (omega arith) parts.0 in let less = parts.1 in absurd (grind (arith, nat_tests)))

pub fullness : (w : History) → Decides (is_full w) (w.turns ≤ length w.records)
fullness w = (λ t. grind (arith, nat_tests), λ f. grind (arith, nat_tests))

-- an answer that is `Limit` where b holds, and else none
pub limit_some : (b : Bool) (o : Option Ended) (F : Type 0) → Decides b F → o ≡ cond b (Some Limit) None → IsSome o → F
limit_some true o F d is some = d.0 refl
limit_some false o F d is some = let none = rw is at some in cc

pub some_limit : (b : Bool) (o : Option Ended) (F : Type 0) → Decides b F → o ≡ cond b (Some Limit) None → F → IsSome o
some_limit true o F d is f = rw is refl
some_limit false o F d is f = let t = d.1 f in cc

pub limit_quiet : (b : Bool) (o : Option Ended) (E : Type 0) → ¬ E → o ≡ cond b (Some Limit) None → IfSome o (λ e. (e ≡ Quiet) ↔ E)
limit_quiet true o E never is = rw is (λ e. cc, λ e. absurd (never e))
limit_quiet false o E never is = rw is tt

-- what the parts of the judge find, together
pub whole_is : (w : History) (cpus : List Seat) (clock : ClockSeat) (c : Setup) (s : List Steps) (ticks turns : ℕ) → (w.config ≡ c) × (w.scripts ≡ s) × (w.turns ≡ turns) → AreSeats (w.config.processors) cpus clock w.records → TicksWithin (w.config.processors) ticks w.records × (EndsQuiet w.config ticks w.records ⊎ (w.turns ≤ length w.records)) → IsWhole w cpus clock c s ticks turns
whole_is w cpus clock c s ticks turns is fit ends = record {
  config = is.0;
  scripted = is.1;
  room = is.2;
  seats = rw is.0 at fit;
  taken_within = rw is.0 at ends.0;
  ended = rw (is.0, is.2) at ends.1;
}

pub whole_fits : (w : History) (cpus : List Seat) (clock : ClockSeat) (c : Setup) (s : List Steps) (ticks turns : ℕ) → IsWhole w cpus clock c s ticks turns → AreSeats (w.config.processors) cpus clock w.records
whole_fits w cpus clock c s ticks turns all = rw all.config all.seats

pub whole_ends : (w : History) (cpus : List Seat) (clock : ClockSeat) (c : Setup) (s : List Steps) (ticks turns : ℕ) → IsWhole w cpus clock c s ticks turns → TicksWithin (w.config.processors) ticks w.records × (EndsQuiet w.config ticks w.records ⊎ (w.turns ≤ length w.records))
whole_ends w cpus clock c s ticks turns all = rw (all.config, all.room) (all.taken_within, all.ended)
