-- Runs over places are these histories.
use Rattle.std.specs.Prelude.{◌≡◌, ℕ, ◌+◌, ◌-◌, ◌<◌, ◌≤◌, ◌==◌, Bool, true, is_some, List, length, Some, slice_index}
use Rattle.fmp_codes.specs.declared.numbers.Proc.{Proc}
use Rattle.fmp_codes.specs.declared.records.Record.{Record}
use Rattle.fmp_text_scripts.specs.Scripts.{Steps}
use Rattle.fmp_setup.specs.Setup.{Setup, has_time}
use Rattle.fmp_law_lists.specs.Stands.{Stands}
use Rattle.fmp_smp_histories.specs.Histories.{state_after}
use Rattle.fmp_smp_histories.specs.Counted.{TasksAre, HandlersAre}
use Rattle.fmp_search.specs.Runs.{run}
use Rattle.fmp_search.specs.Answers.{NoneWithin, NoneEver, IsShortest}
use Rattle.fmp_search_pattern.specs.declared.question.Step.{Step}
use Rattle.fmp_search_pattern.specs.Questions.{seen}
use Rattle.fmp_search_orders.specs.declared.rules.Rules.{Rules}
use Rattle.fmp_search_orders.specs.Orders.{counted, idled, IsOrder}
use Rattle.fmp_search_orders.specs.Shown.{IsMarked, NoneShows, NoneShowsWithin, IsShortestShow}
use Rattle.fmp_search_orders.specs.Places.{Place, origin, after, records}

abbrev pub TakenAre : Rules → List ℕ → List Record → Type 0
TakenAre rules ns h = (i : ℕ) → i < 8 → slice_index ns i ≡ counted rules h (i + 1)

-- the counts of a place are those of a history, or, without a limit, so many less for each processor whose ticks count
pub record TicksAre (c : Setup) (rules : Rules) (ns : List ℕ) (h : List Record) : Type 0 where
  pub less : ℕ
  pub limited : is_some rules.ticks ≡ true → less ≡ 0
  pub are : (p : Proc) → p.number ≤ c.processors → has_time c.timer p ≡ true → slice_index ns (p.number - 1) + less ≡ counted rules h p.number

abbrev pub IdledAre : Setup → Rules → List ℕ → List Record → Type 0
IdledAre c rules ns h = (i : ℕ) → i < 8 → slice_index ns i ≡ idled c rules h (i + 1)

-- the place to which a history with these marks leads
pub record LeadsTo (c : Setup) (scripts : List Steps) (rules : Rules) (question : List Step) (w : Place) (h : List Record) (marks : List Bool) : Type 0 where
  pub config_is : w.config ≡ c
  pub scripts_are : w.scripts ≡ scripts
  pub rules_are : w.rules ≡ rules
  pub question_is : w.question ≡ question
  pub order : IsOrder c scripts rules h
  pub marked : IsMarked c rules question h marks
  pub stands : Stands w.machine (state_after c h)
  pub tasks_placed : TasksAre c scripts w.tasks h
  pub handlers_placed : HandlersAre c scripts w.handlers h
  pub taken_are : TicksAre c rules w.taken h
  pub idled_are : IdledAre c rules w.idled h
  pub seen_is : w.seen ≡ seen marks
  pub sized : (length w.tasks ≡ 64) × (length w.handlers ≡ 8) × (length w.taken ≡ 8) × (length w.idled ≡ 8)

-- each run over places is one of all orders, the one that is told along it, and each of these is a run over places, of as many steps
pub record RunsAreOrders (c : Setup) (scripts : List Steps) (rules : Rules) (question : List Step) : Type 0 where
  pub order : (steps : List ℕ) (w : Place) → run after (origin c scripts rules question) steps ≡ Some w →
      (h : List Record) × (marks : List Bool) × (length h ≡ length steps) × (h ≡ records (origin c scripts rules question) steps)
      × LeadsTo c scripts rules question w h marks
  pub steps : (h : List Record) (marks : List Bool) → IsOrder c scripts rules h → IsMarked c rules question h marks →
      (steps : List ℕ) × (w : Place) × (length steps ≡ length h) × (run after (origin c scripts rules question) steps ≡ Some w)
      × LeadsTo c scripts rules question w h marks

-- ---- what an answer over places says of all orders

-- all steps of the question were seen
abbrev pub is_seen : Place → Bool
is_seen w = w.seen == length w.question

pub record PlacesAnswer (c : Setup) (scripts : List Steps) (rules : Rules) (question : List Step) : Type 0 where
  pub never : NoneEver after is_seen (origin c scripts rules question) → NoneShows c scripts rules question
  pub within : (n : ℕ) → NoneWithin after is_seen (origin c scripts rules question) n → NoneShowsWithin c scripts rules question n
  pub found : (steps : List ℕ) → IsShortest after is_seen (origin c scripts rules question) steps →
      (h : List Record) × (length h ≡ length steps) × (h ≡ records (origin c scripts rules question) steps) × IsShortestShow c scripts rules question h
