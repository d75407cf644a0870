-- What a run is going on from: the places of all orders, which forget how they were come to. The order of tasks is kept by lists,
-- which have no numbers of arrivals.
use Rattle.std.specs.Prelude.{ℕ, zero, suc, ◌+◌, ◌-◌, ◌/◌, ◌%◌, ◌&&◌, ◌||◌, not, Bool, nat_lt, nat_le, is_none, is_some, List, map, [], ◌∷◌, ◌++◌, Option, None, Some}
use Rattle.std.specs.Prelude.{replicate, slice_index, slice_set, if◌then◌else◌}
use Rattle.std.specs.Option.{option_map_or}
use Rattle.fmp_codes.specs.Numbers.{as_proc}
use Rattle.fmp_codes.specs.declared.numbers.Proc.{Proc}
use Rattle.fmp_codes.specs.declared.records.Answer.{Answer}
use Rattle.fmp_codes.specs.declared.records.Event.{Event}
use Rattle.fmp_codes.specs.declared.records.Event.TheVariants as event
use Rattle.fmp_codes.specs.declared.records.Runner.{Runner}
use Rattle.fmp_codes.specs.declared.records.Runner.TheVariants as runner
use Rattle.fmp_codes.specs.declared.records.Record.{Record}
use Rattle.fmp_codes.specs.Records.{is_taken, processor_of}
use Rattle.fmp_text_scripts.specs.Scripts.{Steps}
use Rattle.fmp_setup.specs.Setup.{Setup, has_time}
use Rattle.fmp_rules.specs.World.{World, processor, runner_of, is_held}
use Rattle.fmp_rules.specs.Step.{step}
use Rattle.fmp_rules.specs.Boot.{boot}
use Rattle.fmp_kernel_order.specs.Queues.{Queues, listed, no_queues}
use Rattle.fmp_smp_histories.specs.Places.{moved_tasks, moved_handlers}
use Rattle.fmp_smp_histories.specs.Scripted.{asked_at}
use Rattle.fmp_search_pattern.specs.declared.question.Step.{Step}
use Rattle.fmp_search_pattern.specs.Questions.{allows}
use Rattle.fmp_search_pattern.specs.Sights.{Sight}
use Rattle.fmp_search_orders.specs.declared.rules.Rules.{Rules}
use Rattle.fmp_search_orders.specs.Orders.{counts_ticks, each, idled_next, keeps_pace, may_tick}
use Rattle.fmp_search_orders.specs.Sights.{sight}

pub record Place : Type 0 where
  pub config : Setup
  pub scripts : List Steps
  pub rules : Rules
  pub question : List Step
  pub machine : World Queues
  pub tasks : List ℕ  -- where the scripts of the tasks have come to
  pub handlers : List ℕ  -- and those of the handlers on each processor
  pub taken : List ℕ  -- the ticks that each processor has taken, where they are counted, or how many more than another
  pub idled : List ℕ  -- the ticks that each has taken in a row while it was busy, where they are counted
  pub seen : ℕ  -- how many steps of the question were seen

-- where all runs begin
abbrev pub origin : Setup → List Steps → Rules → List Step → Place
origin c scripts rules question = record {
  config = c;
  scripts = scripts;
  rules = rules;
  question = question;
  machine = boot listed (no_queues c) c;
  tasks = replicate 64 0;
  handlers = replicate 8 0;
  taken = replicate 8 0;
  idled = replicate 8 0;
  seen = 0;
}

-- where the script of who runs on a processor has come to
abbrev pub position_at : Place → Proc → Runner → ℕ
position_at w p (runner.Task t) = slice_index w.tasks (t.number - 1)
position_at w p other = slice_index w.handlers (p.number - 1)

-- a request to a processor is pending, and nothing holds it back
abbrev pub is_asked_at : Place → Proc → Bool
is_asked_at w p = (processor w.machine p).latch && not (is_held w.machine p)

-- it has something to do: a call of who runs there, or the interrupt of such a request
abbrev pub is_busy_at : Place → Proc → Bool
is_busy_at w p = is_some (runner_of w.machine p) || is_asked_at w p

-- the three events that may happen on a processor
abbrev pub call_of : Place → Proc → Option Runner → Option Event
call_of w p None = None
call_of w p (Some r) =
    if w.rules.prompt && is_asked_at w p then None else Some (event.Call p (asked_at w.config w.scripts r (position_at w p r)))

abbrev pub ipi_of : Place → Proc → Option Event
ipi_of w p = if w.rules.spurious || is_asked_at w p then Some (event.Ipi p) else None

abbrev pub count_at : Place → ℕ → ℕ
count_at w n = slice_index w.taken (n - 1)

abbrev pub tick_of : Place → Proc → Option Event
tick_of w p =
    if may_tick w.config w.rules (count_at w) p && keeps_pace w.rules.pace (is_busy_at w p) (slice_index w.idled (p.number - 1))
    then Some (event.Tick p)
    else None

abbrev pub event_at : Place → Proc → ℕ → Option Event
event_at w p zero = call_of w p (runner_of w.machine p)
event_at w p (suc zero) = ipi_of w p
event_at w p (suc (suc k)) = tick_of w p

-- the event of a step: the steps 6 i to 6 i + 5 are those of processor i + 1, its three events without a mark and the three with one
abbrev pub event_of : Place → ℕ → Option Event
event_of w s = if nat_lt (s / 6) w.config.processors then event_at w (as_proc (s / 6 + 1)) (s % 6 % 3) else None

abbrev pub is_marked : ℕ → Bool
is_marked s = nat_le 3 (s % 6)

abbrev pub moved_taken : Rules → List ℕ → Event → Answer → List ℕ
moved_taken rules ns (event.Tick p) a =
    if counts_ticks rules && is_taken a then slice_set ns (p.number - 1) (slice_index ns (p.number - 1) + 1) else ns
moved_taken rules ns other a = ns

-- without a limit only the differences of counts matter: where each processor whose ticks count has taken a tick, one is taken from each
abbrev pub lowered : Setup → Rules → List ℕ → List ℕ
lowered c rules ns =
    if is_none rules.ticks && each (λ q. not (has_time c.timer q) || nat_lt 0 (slice_index ns (q.number - 1))) c.processors then map (λ n. n - 1) ns else ns

-- where the processor of the event was busy before it, or was not
abbrev pub moved_idled : Rules → Bool → List ℕ → Record → List ℕ
moved_idled rules busy ns r =
    let at : ℕ = (processor_of r.event).number - 1 in
    if is_some rules.pace then slice_set ns at (idled_next busy r.event r.answer (slice_index ns at)) else ns

-- the place after an event, which led to this state, was told so and was marked or not
abbrev pub went : Place → Bool → World Queues × Record → Place
went w mark did = record w {
  machine = did.0;
  tasks = moved_tasks w.config w.scripts w.tasks did.1;
  handlers = moved_handlers w.config w.scripts w.handlers did.1;
  taken = lowered w.config w.rules (moved_taken w.rules w.taken did.1.event did.1.answer);
  idled = moved_idled w.rules (is_busy_at w (processor_of did.1.event)) w.idled did.1;
  seen = if mark then w.seen + 1 else w.seen;
}

-- what is seen of the event that led to a place
abbrev pub sight_at : Place → Record → Sight
sight_at w r = sight w.config w.rules (count_at w) w.machine r

-- the same place, if its event may be marked so
abbrev pub allowed : Place → Bool → World Queues × Record → Option Place
allowed w mark did = if allows w.question w.seen mark (sight_at (went w mark did) did.1) then Some (went w mark did) else None

abbrev pub next_place : Place → Bool → Option Event → Option Place
next_place w mark None = None
next_place w mark (Some e) = allowed w mark (step listed w.machine e)

-- the place to which a step leads. It is told by the place alone
unfoldable pub after : Place → ℕ → Option Place
after w s = next_place w (is_marked s) (event_of w s)

-- ---- what is told

abbrev pub report_of : Place → Option Event → List Record
report_of w None = []
report_of w (Some e) = (step listed w.machine e).1 ∷ []

-- what the event of a step is told to have done, if there is one
unfoldable pub report : Place → ℕ → List Record
report w s = report_of w (event_of w s)

-- and so along a run
abbrev pub records : Place → List ℕ → List Record
records w [] = []
records w (s ∷ steps) = report w s ++ option_map_or (λ r. records r steps) (after w s) []
