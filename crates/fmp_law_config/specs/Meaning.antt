-- believed: see docs/PROOF.md, "What has to be believed"
-- What statements say: how a configuration grows by them, and which may follow it.
use Rattle.std.specs.Prelude.{ℕ, ◌≡◌, ◌<◌, ◌⊎◌, Bool, true, false, not, ◌&&◌, ◌||◌, List, [], ◌∷◌, length, map, Some, None, is_some, ◌==◌, All, Contains}
use Rattle.std.specs.List.{list_all, list_any}
use Rattle.fmp_codes.specs.Numbers.{as_proc}
use Rattle.fmp_codes.specs.declared.kinds.NameKind.TheVariants.{Object}
use Rattle.fmp_codes.specs.declared.kinds.ObjectKind.{ObjectKind}
use Rattle.fmp_names.specs.Names.{has_room}
use Rattle.fmp_config_statements.specs.declared.attributes.Attribute.{Attribute}
use Rattle.fmp_config_statements.specs.declared.attributes.Attributes.{Attributes}
use Rattle.fmp_config_statements.specs.declared.table.StatementName.{StatementName}
use Rattle.fmp_config_statements.specs.declared.table.StatementName.TheVariants as statements
use Rattle.fmp_config_statements.specs.Attributes.{text_of, no_attributes, with_attribute}
use Rattle.fmp_config_statements.specs.Table.{allowed_of}
use Rattle.fmp_config.specs.declared.draft.Phase.TheVariants as phases
use Rattle.fmp_config.specs.declared.numbers.Numbers.{Numbers}
use Rattle.fmp_config.specs.Drafts.{is_start}
use Rattle.fmp_config.specs.Objects.{counts_fit, is_handled, fields_of}
use Rattle.fmp_setup.specs.declared.setup.Class.{Class}
use Rattle.fmp_setup.specs.declared.setup.Timer.TheVariants as timer
use Rattle.fmp_setup.specs.Building.{class_named, is_refused, with_class, with_object, with_timer, with_limits, with_processors}
use Rattle.fmp_law_config.specs.Phrases.{Phrase}
use Rattle.fmp_law_config.specs.Clauses.{Clause, Statement, EndOfClass, Defining, Skipping}
use Rattle.fmp_law_config.specs.Stages.{Stage, is_head, Adds, AddsAll, SpellsNumber, SayNumbers, SpellNumbers, is_processor}

-- ---- classes

-- which of the eight processors are among these
abbrev pub members_of : List ℕ → List Bool
members_of numbers = map (λ p. list_any (λ n. n == p) numbers) (1 ∷ 2 ∷ 3 ∷ 4 ∷ 5 ∷ 6 ∷ 7 ∷ 8 ∷ [])

-- a class may follow: its name is new, it is one of at most 32, its processors are of this machine, and it begins on one of them
pub record DefinesClass (s : Stage) (phrase : Phrase) (next : Stage) : Type 0 where
  pub initial : ℕ
  pub members : List ℕ
  pub name_is_new : is_refused s.setup phrase.name ≡ false
  pub few : length s.setup.classes < 32
  pub initial_is : SpellsNumber s.setup.names phrase.first initial
  pub members_are : SpellNumbers s.setup.names phrase.series members
  pub initial_within : is_processor s.setup.processors initial ≡ true
  pub members_within : list_all (is_processor s.setup.processors) members ≡ true
  pub begins_within : list_any (λ n. n == initial) members ≡ true
  pub says : next ≡ record s { setup = with_class s.setup phrase.name (record { initial = as_proc initial; members = members_of members }) }

-- ---- objects

-- what attributes say together
abbrev pub together : Attributes → List Attribute → Attributes
together found [] = found
together found (a ∷ attributes) = together (with_attribute found a) attributes

-- an object may follow in a class: its name is new and within its kind's limit, a handler is of the processor whose ticks count, its attributes are
-- allowed, its numbers are in their ranges
pub record CreatesObject (s : Stage) (kind : ObjectKind) (phrase : Phrase) (next : Stage) : Type 0 where
  pub class : Class
  pub attributes : List Attribute
  pub numbers : Numbers
  pub class_is : s.class ≡ Some class
  pub name_is_new : is_refused s.setup phrase.name ≡ false
  pub room : has_room s.setup.names (Object kind) ≡ true
  pub handled : is_handled s.setup.timer class kind ≡ true
  pub attributes_are : map text_of attributes ≡ phrase.series
  pub allowed : All (λ a. Contains (allowed_of kind) a) attributes
  pub numbers_are : SayNumbers s.setup (statements.Create kind) phrase numbers
  pub counts : counts_fit kind numbers ≡ true
  pub says : next ≡ record s { setup = with_object s.setup class phrase.name phrase.function (fields_of kind (together no_attributes attributes) numbers) }

-- ---- statements

-- after the number of processors a statement other than `INCLUDE` stands in a class where it creates an object, and else outside;
-- there is one number of processors, one timer and one statement of limits, the two before the first class is opened
abbrev pub may_stand : Stage → StatementName → Bool
may_stand s statements.Include = true
may_stand s statements.Processors = is_start s.phase
may_stand s statements.Timer = is_head s.phase && not (s.timer_stood || is_some s.class)
may_stand s statements.Limits = is_head s.phase && not (s.limits_stood || is_some s.class)
may_stand s statements.DefClass = not (is_start s.phase || is_some s.class)
may_stand s statements.Class = not (is_start s.phase || is_some s.class)
may_stand s (statements.Create kind) = not (is_start s.phase) && is_some s.class

-- `LOCAL`, or the processor whose ticks count
abbrev pub ChoosesTimer : Stage → Phrase → Stage → Type 0
ChoosesTimer s phrase next =
    ((phrase.first ≡ []) × (next ≡ record s { setup = with_timer s.setup timer.Local; timer_stood = true }))
    ⊎ ((n : ℕ) × SpellsNumber s.setup.names phrase.first n × (is_processor s.setup.processors n ≡ true)
    × (next ≡ record s { setup = with_timer s.setup (timer.Global (as_proc n)); timer_stood = true }))

-- what a statement says where these words are its words
abbrev pub Says : Stage → StatementName → Phrase → Stage → Type 0
Says s statements.Include phrase next = next ≡ s
Says s statements.Processors phrase next =
    (n : Numbers) × SayNumbers s.setup statements.Processors phrase n × (next ≡ record s { setup = with_processors s.setup n.first; phase = phases.Head })
Says s statements.Timer phrase next = ChoosesTimer s phrase next
Says s statements.Limits phrase next =
    (n : Numbers) × SayNumbers s.setup statements.Limits phrase n
    × (next ≡ record s { setup = with_limits s.setup (record { wakeups = n.first; priorities = n.second }); limits_stood = true })
Says s statements.DefClass phrase next = DefinesClass s phrase next
Says s statements.Class phrase next =
    (class : Class) × (class_named s.setup phrase.name ≡ Some class) × (next ≡ record s { class = Some class; phase = phases.Body })
Says s (statements.Create kind) phrase next = CreatesObject s kind phrase next

-- a statement may stand where it begins, and says what it says after the definitions among its words
abbrev pub SaysClause : Stage → Clause → Stage → Type 0
SaysClause s (Statement name phrase definitions) next = (between : Stage) × (may_stand s name ≡ true) × AddsAll s definitions between × Says between name phrase next
SaysClause s EndOfClass next = (is_some s.class ≡ true) × (next ≡ record s { class = None })
SaysClause s (Defining d) next = Adds s d next
SaysClause s Skipping next = next ≡ s

-- clauses lead from one stage to the other
abbrev pub SayClauses : Stage → List Clause → Stage → Type 0
SayClauses s [] next = next ≡ s
SayClauses s (clause ∷ clauses) next = (between : Stage) × SaysClause s clause between × SayClauses between clauses next
