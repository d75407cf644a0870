-- The command line of a search through all orders, and what it gives.
use Rattle.std.specs.Prelude.{◌≡◌, ◌⊎◌, ◌≤◌, ◌*◌, ◌^◌, ℕ, Bool, ◌&&◌, ◌||◌, is_some, List, [], ◌∷◌, ◌++◌, Option, Some, None, codes, option_map, if◌then◌else◌}
use Rattle.std.specs.Option.{SomeIff}
use Rattle.std.specs.Str.Parse.{IsNumeral, without_leading_plus}
use Rattle.clap.specs.Words.{App, Row, Text, first_of, matches_of, one_of}
use Rattle.fmp_cli.specs.Found.{IsFlag, text_of}
use Rattle.fmp_cli.specs.Numbers.{number_of}
use Rattle.fmp_cli.specs.Parts.{flag_rule, line_of, path_rule, value_rule}
use Rattle.fmp_search_question.specs.Lasting.{is_lasting}
use Rattle.fmp_cli.specs.declared.rooms.Memory.{Memory}
use Rattle.fmp_cli.specs.declared.rooms.Memory.TheVariants as memory
use Rattle.fmp_cli.specs.declared.explore.ExploreRequest.{ExploreRequest}

-- the whole command line, as a parse reads it
abbrev pub explore_line : App
explore_line = line_of (codes "explore") (
    path_rule (codes "CFG") ∷ path_rule (codes "SCRIPTS") ∷ value_rule (codes "ticks") ∷ value_rule (codes "turns") ∷ value_rule (codes "find")
    ∷ flag_rule (codes "most") ∷ flag_rule (codes "prompt") ∷ value_rule (codes "drift") ∷ value_rule (codes "pace") ∷ flag_rule (codes "spurious")
    ∷ value_rule (codes "places") ∷ value_rule (codes "memory") ∷ value_rule (codes "from") ∷ value_rule (codes "seconds")
    ∷ value_rule (codes "questions") ∷ flag_rule (codes "tap") ∷ value_rule (codes "junit") ∷ value_rule (codes "traces")
    ∷ flag_rule (codes "progress") ∷ flag_rule (codes "context") ∷ [])

-- what clap finds in the words of that command line, by the ids of the arguments
unfoldable pub found_in : List Text → List Row
found_in words = matches_of explore_line words

-- the number that a text writes, where it is one within these limits
abbrev pub IsNumberWithin : ℕ → ℕ → Text → Option ℕ → Type 0
IsNumberWithin low high t n =
    SomeIff n (IsNumeral 10 (without_leading_plus t) × (low ≤ number_of t) × (number_of t ≤ high)) (number_of t)

-- no limit for `any`, or the number of a text
abbrev pub IsTicks : Text → Option ℕ → Type 0
IsTicks t None = t ≡ codes "any"
IsTicks t (Some n) = IsNumberWithin 0 1000000 t (Some n)

-- no limit without a text either
abbrev pub IsTickLimit : Option Text → Option ℕ → Type 0
IsTickLimit None n = n ≡ None
IsTickLimit (Some t) n = IsTicks t n

-- 1,000,000 without a text, or its number
abbrev pub IsTurns : Option Text → ℕ → Type 0
IsTurns None n = n ≡ 1000000
IsTurns (Some t) n = IsNumberWithin 1 1000000 t (Some n)

-- no limit without a text, or its number
abbrev pub IsBound : Option Text → Option ℕ → Type 0
IsBound None n = n ≡ None
IsBound (Some t) n = (k : ℕ) × (n ≡ Some k) × IsNumberWithin 1 1000000 t (Some k)

-- 10,000,000 without a text, or its number
abbrev pub IsPlaces : Option Text → ℕ → Type 0
IsPlaces None n = n ≡ 10000000
IsPlaces (Some t) n = IsNumberWithin 1 100000000 t (Some n)

-- a text ends in the letter of a unit, which has so many bytes
abbrev pub EndsInUnit : Text → Text → ℕ → Type 0
EndsInUnit t digits unit =
    ((t ≡ digits ++ codes "K") × (unit ≡ 2 ^ 10)) ⊎ (((t ≡ digits ++ codes "M") × (unit ≡ 2 ^ 20)) ⊎ ((t ≡ digits ++ codes "G") × (unit ≡ 2 ^ 30)))

-- it is a number of units, and writes so many bytes, which are within these limits
pub record IsSize (t : Text) (n : ℕ) : Type 0 where
  pub digits : Text
  pub unit : ℕ
  pub written : EndsInUnit t digits unit
  pub numeral : IsNumeral 10 (without_leading_plus digits)
  pub bytes : n ≡ number_of digits * unit
  pub least : 2 ^ 20 ≤ n
  pub most : n ≤ 2 ^ 40

abbrev pub IsGiven : Text → Memory → Type 0
IsGiven t (memory.Given n) = IsSize t n
IsGiven t (memory.Free n) = ⊥
IsGiven t memory.Unknown = ⊥

-- nothing is said of memory without a text, or what it writes
abbrev pub IsMemory : Option Text → Memory → Type 0
IsMemory None m = m ≡ memory.Unknown
IsMemory (Some t) m = IsGiven t m

-- `deadlock` without a text, or the text
abbrev pub IsQuestion : Option Text → Text → Type 0
IsQuestion None question = question ≡ codes "deadlock"
IsQuestion (Some t) question = question ≡ t

-- the request is what was found: each of its parts is that of one id
pub record Asks (rows : List Row) (r : ExploreRequest) : Type 0 where
  pub config : r.config.now ≡ text_of (codes "CFG") rows
  pub scripts : r.scripts.now ≡ text_of (codes "SCRIPTS") rows
  pub question : IsQuestion (first_of (codes "find") rows) r.question.now
  pub find : option_map (λ t. t.now) r.find ≡ first_of (codes "find") rows
  pub most : IsFlag (one_of (codes "most") rows) r.most
  pub ticks : IsTickLimit (first_of (codes "ticks") rows) r.ticks
  pub says_ticks : r.says_ticks ≡ is_some (first_of (codes "ticks") rows)
  pub prompt : IsFlag (one_of (codes "prompt") rows) r.prompt
  pub drift : IsBound (first_of (codes "drift") rows) r.drift
  pub pace : IsBound (first_of (codes "pace") rows) r.pace
  pub spurious : IsFlag (one_of (codes "spurious") rows) r.spurious
  pub turns : IsTurns (first_of (codes "turns") rows) r.bounds.turns.count
  pub says_turns : r.says_turns ≡ is_some (first_of (codes "turns") rows)
  pub places : IsPlaces (first_of (codes "places") rows) r.bounds.places.count
  pub says_places : r.says_places ≡ is_some (first_of (codes "places") rows)
  pub memory : IsMemory (first_of (codes "memory") rows) r.memory
  pub from : option_map (λ t. t.now) r.from ≡ first_of (codes "from") rows
  pub seconds : IsBound (first_of (codes "seconds") rows) r.seconds
  pub questions : option_map (λ t. t.now) r.questions ≡ first_of (codes "questions") rows
  pub tap : IsFlag (one_of (codes "tap") rows) r.tap
  pub junit : option_map (λ t. t.now) r.junit ≡ first_of (codes "junit") rows
  pub traces : option_map (λ t. t.now) r.traces ≡ first_of (codes "traces") rows
  pub progress : IsFlag (one_of (codes "progress") rows) r.progress
  pub context : IsFlag (one_of (codes "context") rows) r.context

-- parts of a request with one question that do not go together: there are no answers of many to tell, and what stays for ever is asked of all orders,
-- which no number of ticks ends
abbrev pub has_conflict_of_one : ExploreRequest → Bool
has_conflict_of_one r =
    (r.tap || (is_some r.junit || is_some r.traces))
    || (is_lasting r.question.now && (is_some r.ticks || is_some r.from))

-- a question, or what it is asked of that are not all orders
abbrev pub asks_more : ExploreRequest → Bool
asks_more r = is_some r.find || is_some r.from

-- and of any request: where it is told how far everything goes there is no question and no answer to one. Many questions are those of their text, and each is asked
-- of all orders
abbrev pub has_conflict : ExploreRequest → Bool
has_conflict r =
    if r.most then ((is_some r.questions || asks_more r) || (r.tap || (is_some r.junit || is_some r.traces)))
    else (if is_some r.questions then asks_more r else has_conflict_of_one r)
