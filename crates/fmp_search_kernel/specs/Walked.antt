-- What contracts see of a walker, and what its type keeps.
use Rattle.std.specs.Prelude.{◌≡◌, ℕ, ◌+◌, ◌-◌, ◌<◌, ◌≤◌, ◌^◌, Bool, true, false, not, ◌&&◌, ◌||◌, nat_lt, is_none, List, length, slice_index}
use Rattle.std.specs.Int.{bit_at}
use Rattle.fmp_codes.specs.declared.numbers.Proc.{Proc}
use Rattle.fmp_setup.specs.Setup.{Setup, has_time}
use Rattle.fmp_codes.specs.declared.records.Record.{Record}
use Rattle.fmp_rules.specs.World.{World, processor, runner_of}
use Rattle.fmp_kernel_order.specs.Queues.{Queues}
use Rattle.fmp_text_scripts.specs.Ways.{most_steps}
use Rattle.fmp_search_orders.specs.declared.rules.Rules.{Rules}
use Rattle.fmp_search_orders.specs.Orders.{is_left}
use Rattle.fmp_search_orders.specs.Places.{Place, is_marked, origin, sight_at}
use Rattle.fmp_search_pattern.specs.Questions.{allows}
use Rattle.fmp_search_orders.specs.Watched.{Watched}

pub record Walked : Type 0 where
  pub place : Place  -- where it stands
  pub left : ℕ  -- for how many steps more there is room
  pub made : Record  -- what the last event was told to have done

-- one who watches, and for how many steps more there is room
pub record Watching : Type 0 where
  pub place : Watched
  pub left : ℕ

-- how many ticks the processor of a number has taken
abbrev pub count_in : List ℕ → ℕ → ℕ
count_in taken n = slice_index taken (n - 1)

-- a tick more than n is not too many beside what a processor has taken, if its ticks count
abbrev pub is_beside : Setup → ℕ → List ℕ → ℕ → Proc → Bool
is_beside c drift taken n q = not (has_time c.timer q) || nat_lt n (count_in taken q.number + drift)

-- the ticks of a processor do not count, or it may take none any more
abbrev pub is_out : Setup → Rules → List ℕ → Proc → Bool
is_out c rules taken p = not (has_time c.timer p && is_left rules.ticks (count_in taken p.number))

-- a processor has taken a tick, or its ticks do not count
abbrev pub is_ticked : Setup → List ℕ → Proc → Bool
is_ticked c taken q = not (has_time c.timer q) || nat_lt 0 (count_in taken q.number)

-- on a processor no handler is due, no task runs and no request is pending
abbrev pub is_idle_on : World Queues → Proc → Bool
is_idle_on w p = is_none (runner_of w p) && not (processor w p).latch

-- each of the first numbers has room for so many more, and for a jump
abbrev pub AreBounded : ℕ → List ℕ → ℕ → Type 0
AreBounded n ns left = (i : ℕ) → i < n → slice_index ns i + left ≤ 2 ^ 31 + most_steps

pub record IsRoomy (tasks handlers taken idled : List ℕ) (seen left : ℕ) : Type 0 where
  pub tasks_bounded : AreBounded 64 tasks left
  pub handlers_bounded : AreBounded 8 handlers left
  pub taken_bounded : AreBounded 8 taken left
  pub idled_bounded : AreBounded 8 idled left
  pub seen_bounded : seen + left ≤ 2 ^ 31
  pub tasks_sized : length tasks ≡ 64
  pub handlers_sized : length handlers ≡ 8
  pub taken_sized : length taken ≡ 8
  pub idled_sized : length idled ≡ 8

-- where all its runs begin
abbrev pub origin_of : Place → Place
origin_of w = origin w.config w.scripts w.rules w.question

-- a bit was added for no step but the one that gives a mark to the event of another, which led to a place and may have none there. So many
-- steps of the question were seen before it
abbrev pub ClosesMark : Place → Record → ℕ → ℕ → ℕ → ℕ → Type 0
ClosesMark w r seen step old new = (s : ℕ) → bit_at old s ≡ 0 → bit_at new s ≡ 1 →
    (s ≡ step + 3) × (is_marked step ≡ false) × (allows w.question seen true (sight_at w r) ≡ false)
