-- What may happen next after a history, and histories that are made of that.
use Rattle.std.specs.Prelude.{◌≡◌, ℕ, zero, suc, ◌+◌, ◌≤◌, ◌==◌, Bool, true, false, not, ◌&&◌, ◌||◌, nat_lt, is_some, List, [], ◌∷◌, ◌++◌, take, Option, None, Some}
use Rattle.std.specs.Prelude.{if◌then◌else◌, slice_get}
use Rattle.fmp_codes.specs.Numbers.{as_proc}
use Rattle.fmp_codes.specs.Records.{processor_of, is_taken}
use Rattle.fmp_codes.specs.declared.numbers.Proc.{Proc}
use Rattle.fmp_codes.specs.declared.records.Answer.{Answer}
use Rattle.fmp_codes.specs.declared.records.Event.{Event}
use Rattle.fmp_codes.specs.declared.records.Event.TheVariants as event
use Rattle.fmp_codes.specs.declared.records.Record.{Record}
use Rattle.fmp_text_scripts.specs.Scripts.{Steps}
use Rattle.fmp_setup.specs.Setup.{Setup, has_time}
use Rattle.fmp_rules.specs.World.{runner_of}
use Rattle.fmp_rules.specs.Arrivals.{State}
use Rattle.fmp_smp_histories.specs.Histories.{state_after, IsRunOf}
use Rattle.fmp_smp_histories.specs.Scripted.{next_call, is_asked}
use Rattle.fmp_smp_histories.specs.Counted.{taken}
use Rattle.fmp_search_orders.specs.declared.rules.Rules.{Rules}

-- each of the processors 1 to n passes the test
abbrev pub each : (Proc → Bool) → ℕ → Bool
each test zero = true
each test (suc n) = each test n && test (as_proc (suc n))

-- ---- ticks

-- ticks are counted where a rule asks for their number
abbrev pub counts_ticks : Rules → Bool
counts_ticks rules = is_some rules.ticks || is_some rules.drift

-- how many ticks the processor of a number has taken, where they are counted
abbrev pub counted : Rules → List Record → ℕ → ℕ
counted rules h n = if counts_ticks rules then taken n h else 0

-- one who has taken so many may take another
abbrev pub is_left : Option ℕ → ℕ → Bool
is_left None n = true
is_left (Some most) n = nat_lt n most

-- one more is not too many beside what each other processor has taken whose ticks count
abbrev pub is_near : Setup → Option ℕ → (ℕ → ℕ) → ℕ → Bool
is_near c None count n = true
is_near c (Some drift) count n = each (λ q. not (has_time c.timer q) || nat_lt n (count q.number + drift)) c.processors

-- a processor may take a tick, where each has taken so many
abbrev pub may_tick : Setup → Rules → (ℕ → ℕ) → Proc → Bool
may_tick c rules count p = has_time c.timer p && (is_left rules.ticks (count p.number) && is_near c rules.drift count (count p.number))

-- ---- the pace of tasks and ticks

-- a processor has something to do: a call of who runs there, or the interrupt of a request that nothing holds back
abbrev pub is_busy : State → Proc → Bool
is_busy m p = is_some (runner_of m p) || is_asked m p

-- what an event makes of the number of ticks that its processor has taken in a row while it was busy, where it was so before the event or not
abbrev pub idled_next : Bool → Event → Answer → ℕ → ℕ
idled_next busy (event.Call p call) a n = 0
idled_next busy (event.Tick p) a n = if is_taken a then (if busy then n + 1 else 0) else n
idled_next busy (event.Ipi p) a n = if is_taken a then 0 else n

-- and of that number of the processor p, from this state
abbrev pub idled_after : State → ℕ → Record → ℕ → ℕ
idled_after m p r n = if (processor_of r.event).number == p then idled_next (is_busy m (processor_of r.event)) r.event r.answer n else n

-- what the records after some history make of it
abbrev pub idled_by : Setup → ℕ → List Record → List Record → ℕ → ℕ
idled_by c p before [] n = n
idled_by c p before (r ∷ rs) n = idled_by c p (before ++ r ∷ []) rs (idled_after (state_after c before) p r n)

-- how many ticks the processor of a number has taken so at the end of a history, where a rule asks for it
abbrev pub idled : Setup → Rules → List Record → ℕ → ℕ
idled c rules h p = if is_some rules.pace then idled_by c p [] h 0 else 0

-- another tick is not too many before a busy processor does something
abbrev pub keeps_pace : Option ℕ → Bool → ℕ → Bool
keeps_pace None busy n = true
keeps_pace (Some most) busy n = not busy || nat_lt n most

-- ---- what may happen

-- what may happen on a processor after a history: the call that is next in the script of who runs there, also while a request is
-- pending, unless it has to be taken promptly; an interrupt for which a request is pending, and which nothing holds back, or any, where
-- interrupts may be spurious; a tick
abbrev pub Happens : Setup → List Steps → Rules → List Record → Event → Type 0
Happens c scripts rules h (event.Call p call) =
    ((rules.prompt && is_asked (state_after c h) p) ≡ false)
    × (next_call c scripts h p (runner_of (state_after c h) p) ≡ Some (event.Call p call))
Happens c scripts rules h (event.Ipi p) = (rules.spurious || is_asked (state_after c h) p) ≡ true
Happens c scripts rules h (event.Tick p) =
    (may_tick c rules (counted rules h) p && keeps_pace rules.pace (is_busy (state_after c h) p) (idled c rules h p.number)) ≡ true

abbrev pub MayHappen : Setup → List Steps → Rules → List Record → Event → Type 0
MayHappen c scripts rules h e = ((processor_of e).number ≤ c.processors) × Happens c scripts rules h e

-- each record is of an event that may happen after those before it
abbrev pub AreInOrder : Setup → List Steps → Rules → List Record → Type 0
AreInOrder c scripts rules h = (k : ℕ) (r : Record) → slice_get h k ≡ Some r → MayHappen c scripts rules (take k h) r.event

-- one of all orders: a run of the machine whose events may happen
pub record IsOrder (c : Setup) (scripts : List Steps) (rules : Rules) (h : List Record) : Type 0 where
  pub run : IsRunOf c h
  pub in_order : AreInOrder c scripts rules h
