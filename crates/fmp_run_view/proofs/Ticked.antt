-- No processor takes more ticks than there are events, and what is left of any count fits beside them.
use Rattle.std.proofs.Common.{ℕ, zero, suc, ◌+◌, ◌-◌, ◌≤◌, ◌^◌, List, [], ◌∷◌, Option, None, Some, IfSome, arith}
use Rattle.std.specs.Prelude.{slice_index_or, slice_set}
use Rattle.fmp_codes.specs.declared.records.Answer.{Answer}
use Rattle.fmp_codes.specs.declared.records.Answer.TheVariants as answers
use Rattle.fmp_codes.specs.declared.records.Event.{Event}
use Rattle.fmp_codes.specs.declared.records.Event.TheVariants as events
use Rattle.fmp_rules.specs.World.{item}
use Rattle.fmp_law_safety.specs.Safe.{TicksInRange}
use Rattle.fmp_run_view.specs.Moments.{ticked}

-- numbers that are at most n, with another one that is
set_within : (xs : List ℕ) (i v n : ℕ) → ((k : ℕ) → slice_index_or xs k 0 ≤ n) → v ≤ n → (k : ℕ) → slice_index_or (slice_set xs i v) k 0 ≤ n
set_within [] i v n within few k = within k
set_within (x ∷ xs) zero v n within few zero = few
set_within (x ∷ xs) zero v n within few (suc k) = within (suc k)
set_within (x ∷ xs) (suc i) v n within few zero = within zero
set_within (x ∷ xs) (suc i) v n within few (suc k) = set_within xs i v n (λ j. within (suc j)) few k

more : (xs : List ℕ) (n : ℕ) → ((k : ℕ) → slice_index_or xs k 0 ≤ n) → (k : ℕ) → slice_index_or xs k 0 ≤ n + 1
more xs n within k = let here = within k in omega arith

pub ticked_within : (ticks : List ℕ) (e : Event) (a : Answer) (n : ℕ) → ((k : ℕ) → slice_index_or ticks k 0 ≤ n) → (k : ℕ) → slice_index_or (ticked ticks e a) k 0 ≤ n + 1
ticked_within ticks (events.Tick p) answers.Taken n within k =
    let here = within (p.number - 1) in
    let few : item 0 ticks p.number + 1 ≤ n + 1 = omega arith in
    set_within ticks (p.number - 1) (item 0 ticks p.number + 1) (n + 1) (more ticks n within) few k
ticked_within ticks e a n within k = more ticks n within k

-- the ticks left of a wait or a handler are few
pub few_left : (left : Option ℕ) → TicksInRange left → IfSome left (λ n. n ≤ 2 ^ 31)
few_left None range = tt
few_left (Some n) range = let most : n ≤ 2147483648 = range.1 in omega arith
