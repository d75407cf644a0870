-- The order that the numbers of a seed draw among all orders: who makes its next event, and what that is.
use Rattle.std.specs.Prelude.{◌≡◌, ℕ, zero, suc, ◌+◌, ◌-◌, ◌*◌, ◌/◌, ◌%◌, ◌≤◌, ◌==◌, Bool, false, not, ◌&&◌, nat_lt, is_some, List, [], ◌∷◌, ◌++◌, length, filter, Option}
use Rattle.std.specs.Prelude.{None, Some, slice_get, if◌then◌else◌}
use Rattle.std.specs.Option.{option_and_then, option_map_or}
use Rattle.fmp_codes.specs.declared.records.Event.{Event}
use Rattle.fmp_codes.specs.declared.records.Record.{Record}
use Rattle.fmp_rules.specs.Step.{step}
use Rattle.fmp_setup.specs.Setup.{Setup}
use Rattle.fmp_text_scripts.specs.Scripts.{Steps}
use Rattle.fmp_kernel_order.specs.Queues.{listed}
use Rattle.fmp_smp_histories.specs.Histories.{events_of}
use Rattle.fmp_search_orders.specs.declared.rules.Rules.{Rules}
use Rattle.fmp_search_orders.specs.Orders.{IsOrder}
use Rattle.fmp_search_orders.specs.Places.{Place, origin, event_of, went}
use Rattle.fmp_search_random.specs.declared.drawing.Drawing.{Drawing}
use Rattle.fmp_search_random.specs.declared.drawing.Draws.{Draws}
use Rattle.fmp_search_random.specs.declared.drawing.Stall.{Stall}
use Rattle.rand_xoshiro.specs.SplitMix64.{mix_u64, next_state}

-- the rules of the orders: so many ticks each, and a request is taken before its processor's next call unless it may come late
abbrev pub rules_of : Drawing → ℕ → Rules
rules_of drawing ticks = record { ticks = Some ticks; prompt = not drawing.late; drift = None; pace = None; spurious = false }

-- ---- a processor that stands still

-- who stands still at an event, by its first number: who did at the one before, if for more than that one; where nobody does so, now and then
-- one begins to
abbrev pub stall_after : Bool → ℕ → ℕ → Stall → Stall
stall_after stalls processors number s =
    if nat_lt 1 s.left then record { processor = s.processor; left = s.left - 1 }
    else if stalls && (number % 32 == 0) then record { processor = number / 32 % processors; left = number / 4096 % 128 + 1 }
    else record { processor = s.processor; left = 0 }

-- a step is one of the processor that stands still
abbrev pub is_still : Stall → ℕ → Bool
is_still s k = nat_lt 0 s.left && (k / 6 == s.processor)

-- ---- what may happen next

-- the steps without a mark: of each processor its call, its interrupt and its tick
abbrev pub unmarked : ℕ → ℕ
unmarked n = n / 3 * 6 + n % 3

-- such a step, if its event may happen
abbrev pub choice_at : Place → ℕ → List ℕ
choice_at w k = if is_some (event_of w k) then (k ∷ []) else []

-- those of the first n of them
unfoldable pub choices_of : Place → ℕ → List ℕ
choices_of w zero = []
choices_of w (suc n) = choices_of w n ++ choice_at w (unmarked n)

abbrev pub choices : Place → List ℕ
choices w = choices_of w 24

-- those whose processor does not stand still
unfoldable pub awake : Stall → List ℕ → List ℕ
awake s steps = filter (λ k. not (is_still s k)) steps

-- of these one is drawn, or where there are none, of all
abbrev pub offered : Stall → List ℕ → List ℕ
offered s steps = if length (awake s steps) == 0 then steps else awake s steps

-- the one at the place that a number gives, modulo the length of the list
unfoldable pub drawn : List ℕ → ℕ → Option ℕ
drawn steps number = slice_get steps (number % length steps)

-- ---- one event after another

-- nobody stands still at first
abbrev pub first : Bool → ℕ → Draws
first stalls seed = record { numbers = seed; stalls = stalls; stall = record { processor = 0; left = 0 } }

abbrev pub stall_of : Draws → Place → Stall
stall_of d w = stall_after d.stalls w.config.processors (mix_u64 d.numbers).0 d.stall

-- the step that is drawn at a place, if there is one, and its event
abbrev pub next_step : Draws → Place → Option ℕ
next_step d w = drawn (offered (stall_of d w) (choices w)) (mix_u64 (next_state d.numbers)).0

abbrev pub next_event : Draws → Place → Option Event
next_event d w = option_and_then (event_of w) (next_step d w)

-- the numbers after it
abbrev pub after_step : Draws → Place → Draws
after_step d w = record d { numbers = next_state (next_state d.numbers); stall = stall_of d w }

-- the place after an event
abbrev pub gone : Place → Event → Place
gone w e = went w false (step listed w.machine e)

-- at most n events from a place, each of which is drawn where those before it have led, and the place to which they lead
unfoldable pub walk : ℕ → Draws → Place → List Event × Place
walk zero d w = ([], w)
walk (suc n) d w = option_map_or (λ e. let rest = walk n (after_step d w) (gone w e) in (e ∷ rest.0, rest.1)) (next_event d w) ([], w)

-- this event was drawn and happened; or there were as many as there may be, or none can happen
abbrev pub GoesOn : Place → Draws → ℕ → Option Event → Place → Draws → Type 0
GoesOn w d left (Some e) w' d' = (1 ≤ left) × (next_event d w ≡ Some e) × (w' ≡ gone w e) × (d' ≡ after_step d w)
GoesOn w d left None w' d' = (walk left d w ≡ ([], w)) × (w' ≡ w)

-- these events are those of the order that the seed draws, one of all orders by its rules, and it is told whether nothing may happen after them
pub record IsDrawn (drawing : Drawing) (seed : ℕ) (c : Setup) (scripts : List Steps) (ticks turns : ℕ) (events : List Event) (quiet : Bool) : Type 0 where
  pub place : Place
  pub records : List Record
  pub walked : walk turns (first drawing.stalls seed) (origin c scripts (rules_of drawing ticks) []) ≡ (events, place)
  pub order : IsOrder c scripts (rules_of drawing ticks) records
  pub events_are : events ≡ events_of records
  pub within : length events ≤ turns
  pub quiet_is : quiet ≡ (length (choices place) == 0)
