-- How much there can be of what facts ask for.
use Rattle.std.specs.Prelude.{ℕ, ◌-◌, nat_lt, List, [], ◌∷◌, Option, None, Some, slice_get, option_map, if◌then◌else◌}
use Rattle.std.specs.Option.{option_or}
use Rattle.fmp_facts.specs.Asking.{Asked}
use Rattle.fmp_facts.specs.declared.facts.Fact.{Fact}
use Rattle.fmp_facts.specs.declared.facts.Fact.TheVariants as fact
use Rattle.fmp_facts.specs.declared.facts.Subject.{Subject}
use Rattle.fmp_facts.specs.declared.facts.Subject.TheVariants as subject
use Rattle.fmp_facts.specs.declared.facts.Thing.{Thing}
use Rattle.fmp_facts.specs.declared.facts.Thing.TheVariants as thing
use Rattle.fmp_search_pattern.specs.declared.items.Wanted.{Wanted}
use Rattle.fmp_search_pattern.specs.declared.items.Wanted.TheVariants as wanted
use Rattle.fmp_setup.specs.Setup.{Setup}

-- how much there can be of what a fact asks for: the greatest count of a semaphore, the blocks of a pool, and of what a task has
abbrev pub most_of_semaphore : Setup → ℕ → Fact → Option ℕ
most_of_semaphore c s (fact.Count n) = option_map (λ it. it.most) (slice_get c.semaphores (s - 1))
most_of_semaphore c s other = None

abbrev pub most_of_pool : Setup → ℕ → Fact → Option ℕ
most_of_pool c m (fact.FreeBlocks n) = option_map (λ it. it.blocks) (slice_get c.pools (m - 1))
most_of_pool c m other = None

abbrev pub most_of_task : Setup → Fact → Option ℕ
most_of_task c (fact.Wakeups n) = Some c.limits.wakeups
most_of_task c (fact.Priority n) = Some c.limits.priorities
most_of_task c (fact.Activations n) = Some 1
most_of_task c other = None

abbrev pub most_of : Setup → Thing → Fact → Option ℕ
most_of c (thing.Semaphore s) fact = most_of_semaphore c s.number fact
most_of c (thing.Pool m) fact = most_of_pool c m.number fact
most_of c (thing.Task t) fact = most_of_task c fact
most_of c other fact = None

-- the number that it asks for, where there may be a most for it
abbrev pub number_of : Fact → Option ℕ
number_of (fact.Count n) = Some n
number_of (fact.FreeBlocks n) = Some n
number_of (fact.Wakeups n) = Some n
number_of (fact.Priority n) = Some n
number_of (fact.Activations n) = Some n
number_of other = None

-- the most, where more is asked for
abbrev pub passed : Option ℕ → Option ℕ → Option ℕ
passed (Some number) (Some most) = if nat_lt most number then Some most else None
passed (Some number) None = None
passed None most = None

-- that of the first of some facts about one thing which asks for more
abbrev pub first_passed : Setup → Thing → List Fact → Option ℕ
first_passed c thing [] = None
first_passed c thing (f ∷ facts) = option_or (passed (number_of f) (most_of c thing f)) (first_passed c thing facts)

abbrev pub passed_of : Setup → Subject → List Fact → Option ℕ
passed_of c (subject.One thing) facts = first_passed c thing facts
passed_of c (subject.Any kind) facts = None

abbrev pub exceeded_by : Setup → Asked → Option ℕ
exceeded_by c asked = passed_of c asked.subject asked.facts

-- likewise of what a pattern asks for, where that is one thing
abbrev pub exceeded_only : Setup → List Asked → Option ℕ
exceeded_only c [] = None
exceeded_only c (only ∷ []) = exceeded_by c only
exceeded_only c (one ∷ other ∷ choice) = None

abbrev pub exceeded : Setup → Wanted → Option ℕ
exceeded c wanted.Refused = None
exceeded c wanted.End = None
exceeded c (wanted.Line pattern) = None
exceeded c (wanted.State pattern choice) = exceeded_only c choice
