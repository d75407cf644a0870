-- Which calls of the scripts are made in some order.
use Rattle.std.specs.Prelude.{◌≡◌, ℕ, ◌+◌, ◌*◌, ◌<◌, nat_lt, Bool, true, List, [], ◌∷◌, ◌++◌, length, Option, None, Some, is_none, if◌then◌else◌}
use Rattle.fmp_codes.specs.declared.numbers.Proc.{Proc}
use Rattle.fmp_codes.specs.declared.records.Event.{Event}
use Rattle.fmp_codes.specs.declared.records.Event.TheVariants as event
use Rattle.fmp_codes.specs.declared.records.Record.{Record}
use Rattle.fmp_codes.specs.declared.records.Runner.{Runner}
use Rattle.fmp_text_scripts.specs.Scripts.{Steps}
use Rattle.fmp_setup.specs.Setup.{Setup}
use Rattle.fmp_rules.specs.World.{runner_of}
use Rattle.fmp_smp_histories.specs.Histories.{state_after}
use Rattle.fmp_smp_histories.specs.Positions.{function_of}
use Rattle.fmp_smp_histories.specs.Scripted.{position_of}
use Rattle.fmp_search.specs.Meeting.{IsReported, IsReportedWithin}
use Rattle.fmp_search_pattern.specs.declared.question.Step.{Step}
use Rattle.fmp_search_pattern.specs.Lasting.{Lasting}
use Rattle.fmp_search_pattern.specs.Matching.{every}
use Rattle.fmp_search_orders.specs.declared.rules.Rules.{Rules}
use Rattle.fmp_search_orders.specs.Orders.{IsOrder}
use Rattle.fmp_search_orders.specs.Places.{Place, after, event_of, origin, position_at}
use Rattle.fmp_search_orders.specs.Watched.{Watched, watched, watched_after}

-- what is told of a step that is no call of one of the first 256 positions of a script
abbrev pub no_number : ℕ
no_number = 256 * 256

-- the number of the call at a position of a function's script
abbrev pub number_of_call : Option ℕ → ℕ → ℕ
number_of_call None at = no_number
number_of_call (Some f) at = if nat_lt at 256 then f * 256 + at else no_number

-- ---- over orders

-- the number of the call that a runner on a processor makes after a history
abbrev pub number_by : Setup → List Steps → List Record → Proc → Option Runner → ℕ
number_by c scripts h p None = no_number
number_by c scripts h p (Some r) = number_of_call (function_of c r) (position_of c scripts r p h)

-- the number of the call that an event after a history is, in the script of who makes it
abbrev pub number_after : Setup → List Steps → List Record → Event → ℕ
number_after c scripts h (event.Call p call) = number_by c scripts h p (runner_of (state_after c h) p)
number_after c scripts h other = no_number

-- an order ends with the call of this number
pub record EndsWithCall (c : Setup) (scripts : List Steps) (rules : Rules) (n : ℕ) (before : List Record) : Type 0 where
  pub last : Record
  pub order : IsOrder c scripts rules (before ++ last ∷ [])
  pub makes : number_after c scripts before last.event ≡ n

-- the call of a number is made in some order, and in one of at most so many lines
abbrev pub IsMade : Setup → List Steps → Rules → ℕ → Type 0
IsMade c scripts rules n = (before : List Record) × EndsWithCall c scripts rules n before

abbrev pub IsMadeWithin : Setup → List Steps → Rules → ℕ → ℕ → Type 0
IsMadeWithin c scripts rules turns n = (before : List Record) × (length before < turns) × EndsWithCall c scripts rules n before

-- ---- over places

abbrev pub number_at_of : Place → Proc → Option Runner → ℕ
number_at_of w p None = no_number
number_at_of w p (Some r) = number_of_call (function_of w.config r) (position_at w p r)

abbrev pub number_reported : Place → Option Event → ℕ
number_reported w (Some (event.Call p call)) = number_at_of w p (runner_of w.machine p)
number_reported w other = no_number

-- the number of the call that a step from a place makes
abbrev pub number_at : Place → ℕ → ℕ
number_at w s = number_reported w (event_of w s)

-- the same where something is asked of every event from one on
abbrev pub watched_number : Watched → ℕ → ℕ
watched_number w s = number_at w.place s

-- a question lets every event be passed by: nothing must not come before one of its moments
abbrev pub lets_pass : List Step → Bool
lets_pass question = every (λ (s : Step). is_none s.without) question

-- what is told of the steps of runs over places is made in orders, and the other way round
pub record MadeAnswer {P : Type 0} (after : P → ℕ → Option P) (tells : P → ℕ → ℕ) (q : P) (c : Setup) (scripts : List Steps) (rules : Rules) : Type 0 where
  pub made : (n : ℕ) → IsReported after tells q n → IsMade c scripts rules n
  pub report : (n : ℕ) → IsMade c scripts rules n → IsReported after tells q n
  pub made_within : (turns n : ℕ) → IsReportedWithin after tells q turns n → IsMadeWithin c scripts rules turns n
  pub report_within : (turns n : ℕ) → IsMadeWithin c scripts rules turns n → IsReportedWithin after tells q turns n

-- so it is of places where something is asked, if every event may be passed by, and of places with what is asked of every event from one on
pub record MadeAnswers (c : Setup) (scripts : List Steps) (rules : Rules) : Type 0 where
  pub asked : (question : List Step) → lets_pass question ≡ true → MadeAnswer after number_at (origin c scripts rules question) c scripts rules
  pub watched_so : (lasting : List Lasting) → MadeAnswer watched_after watched_number (watched lasting (origin c scripts rules [])) c scripts rules
