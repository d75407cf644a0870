-- What is answered of a partial trace: whether its lines are what the machine answers to their events.
use Rattle.std.specs.Prelude.{◌≡◌, ℕ, ◌+◌, ◌<◌, ◌≤◌, Bool, true, false, List, [], ◌∷◌, ◌++◌, length, map, All, Option, None, Some, Ok}
use Rattle.std.specs.List.{list_all}
use Rattle.fmp_calls.specs.Arguments.{EventInBits}
use Rattle.fmp_codes.specs.Records.{AreOn}
use Rattle.fmp_codes.specs.declared.records.Event.{Event}
use Rattle.fmp_codes.specs.declared.records.Record.{Record}
use Rattle.fmp_trace_check.specs.declared.checking.Verdict.{Verdict}
use Rattle.fmp_trace_check.specs.declared.checking.Verdict.TheVariants.{Yes, No}
use Rattle.fmp_rules.specs.Arrivals.{numbered}
use Rattle.fmp_rules.specs.Boot.{booted}
use Rattle.fmp_rules.specs.Step.{answers}
use Rattle.fmp_kernel_order.specs.Queues.{listed}
use Rattle.fmp_names.specs.Names.{NameLists}
use Rattle.fmp_search_lines.specs.Lasts.{last_at, must_at}
use Rattle.fmp_search_lines.specs.Orders.{IsFirstWithout, IsRight}
use Rattle.fmp_search_lines.specs.Places.{HasMorePlaces}
use Rattle.fmp_setup.specs.Setup.{Setup}
use Rattle.fmp_run_partial.specs.Endings.{IsBody}
use Rattle.fmp_run_partial.specs.Following.{is_plain}
use Rattle.fmp_run_partial.specs.declared.following.Followed.{Followed}
use Rattle.fmp_run_partial.specs.declared.following.Followed.TheVariants as followed
use Rattle.fmp_run_partial.specs.declared.verdict.Found.{Found}
use Rattle.fmp_run_partial.specs.declared.verdict.Found.TheVariants as found
use Rattle.fmp_run_partial.specs.declared.showing.PartialShown.{PartialShown}
use Rattle.fmp_run_partial.specs.declared.showing.Shown.{Shown}
use Rattle.fmp_run_partial.specs.Showing.{events_of, IsShown}
use Rattle.fmp_run_partial.specs.Written.{verdict_to}
use Rattle.fmp_trace_orders.specs.Lines.{is_open, lasts_from, lines_of, must_of}
use Rattle.fmp_trace_orders.specs.Playing.{at_boot, at_booted, plays}
use Rattle.fmp_trace.specs.Fits.{FitsNames}
use Rattle.fmp_text.specs.Limits.{most_bytes, most_events}
use Rattle.fmp_trace_partial.specs.Partial.{kept_text}
use Rattle.fmp_trace_partial.specs.Saying.{said_in}
use Rattle.fmp_trace_partial.specs.declared.kept.Kept.{Kept}
use Rattle.fmp_trace_partial.specs.declared.telling.Said.{Said}
use Rattle.fmp_trace_partial.specs.Partly.{BeginsWith, PartlyPrints, PartlyPrintsFrom, PartlyPrintsWithin}

-- what the machine answers to the events of these records
abbrev pub own_answers : Setup → List Record → List Record
own_answers c records = answers numbered (booted c) (map (λ r. r.event) records)

-- line k of the text is the first that does not partly print the record in its place
pub record IsFirstOther (names : NameLists) (text : List ℕ) (own : List Record) (k : ℕ) : Type 0 where
  pub before : List Record
  pub answer : Record
  pub later : List Record
  pub lines : List ℕ
  pub from : List ℕ
  pub line : List ℕ
  pub rest : List ℕ
  pub answers : own ≡ before ++ (answer ∷ later)
  pub parts : text ≡ lines ++ from
  pub begins : BeginsWith from line rest
  pub prints : PartlyPrintsFrom names 1 lines before
  pub number : k ≡ 1 + length before
  pub other : PartlyPrints names k line answer → ⊥

-- the lines of the text partly print the machine's own answers, or line k is the first that does not
abbrev pub Compares : Setup → List ℕ → List Record → Verdict → Type 0
Compares c text records Yes = PartlyPrintsFrom c.names 1 text (own_answers c records)
Compares c text records (No k) = IsFirstOther c.names text (own_answers c records) k

-- the verdict on a text that partly prints records, by the answers to their events
pub record JudgesPartly (c : Setup) (text : List ℕ) (verdict : Verdict) : Type 0 where
  pub records : List Record
  pub prints : PartlyPrintsWithin c.names text records
  pub compares : Compares c text records verdict

-- line n partly prints the record, and says nothing of the order of lines
pub record PlainlyPrints (names : NameLists) (n : ℕ) (line : List ℕ) (r : Record) : Type 0 where
  pub kept : Kept
  pub printed : line ≡ kept_text names n kept r
  pub taken : is_open kept.answer ≡ false
  pub fits : FitsNames names r

-- so do the lines of the text, from line n on
abbrev pub PlainlyPrintsFrom : NameLists → ℕ → List ℕ → List Record → Type 0
PlainlyPrintsFrom names n text [] = text ≡ []
PlainlyPrintsFrom names n text (r ∷ rs) =
    (line : List ℕ) × (rest : List ℕ) × BeginsWith text line rest × PlainlyPrints names n line r × PlainlyPrintsFrom names (n + 1) rest rs

-- the text partly prints what the machine answers to these events, which are on its processors, within the limits of texts, and says nothing of orders
pub record PartlyPrintsAnswers (c : Setup) (text : List ℕ) (events : List Event) : Type 0 where
  pub on : AreOn c.processors events
  pub in_bits : All EventInBits events
  pub prints : PlainlyPrintsFrom c.names 1 text (answers numbered (booted c) events)
  pub few : length (answers numbered (booted c) events) ≤ most_events
  pub short : length text ≤ most_bytes

-- ---- texts whose lines stand in their order, and others

-- whether no line of a text says something of the order of lines
pub record StandsSo (c : Setup) (text : List ℕ) (plain : Bool) : Type 0 where
  pub said : List Said
  pub read : said_in c.names text ≡ Ok said
  pub are_plain : list_all is_plain said ≡ plain

-- what was found of the lines as they stand
abbrev pub FollowedSays : Setup → List ℕ → Followed → Type 0
FollowedSays c text followed.Yes = StandsSo c text true × JudgesPartly c text Yes
FollowedSays c text (followed.No k) = StandsSo c text true × JudgesPartly c text (No k)
FollowedSays c text followed.Ordered = StandsSo c text false

-- for how many places of a search for an order there is room besides the first
abbrev pub most_places : ℕ
most_places = 4000000

-- what was found of the orders of the lines, which say this, and an order that bears it out: within their bounds it has each line that has to be taken, and
-- each of its lines is the machine's own for the events of that order; or it has those of the first lines, so many less one, and with the next there is none
abbrev pub SaysOfOrders : Setup → List ℕ → List Said → Found → List ℕ → Type 0
SaysOfOrders c text said found.Yes order =
    IsRight (plays numbered) (last_at (lasts_from 0 said)) (length said) (must_at (map must_of said)) (length said) (at_booted c (lines_of text)) order
SaysOfOrders c text said (found.No k) order = (n : ℕ) × (k ≡ n + 1) × (n < length said)
    × IsFirstWithout (plays numbered) (last_at (lasts_from 0 said)) (length said) (must_at (map must_of said)) (at_booted c (lines_of text)) n
    × IsRight (plays numbered) (last_at (lasts_from 0 said)) (length said) (must_at (map must_of said)) n (at_booted c (lines_of text)) order
SaysOfOrders c text said found.NotKnown order =
    (order ≡ []) × HasMorePlaces (plays listed) (last_at (lasts_from 0 said)) (length said) (at_boot c (lines_of text)) most_places

-- the verdict on lines of which some say something of orders, by an order of them
pub record JudgesOrders (c : Setup) (text : List ℕ) (v : Found) (order : List ℕ) : Type 0 where
  pub said : List Said
  pub read : said_in c.names text ≡ Ok said
  pub ordered : list_all is_plain said ≡ false
  pub says : SaysOfOrders c text said v order

-- the verdict on other lines
abbrev pub JudgesStanding : Setup → List ℕ → Found → Type 0
JudgesStanding c text found.Yes = FollowedSays c text followed.Yes
JudgesStanding c text (found.No k) = FollowedSays c text (followed.No k)
JudgesStanding c text found.NotKnown = ⊥

-- the verdict on lines: as they stand, or by an order of them
abbrev pub JudgesLines : Setup → List ℕ → Found → Option (List ℕ) → Type 0
JudgesLines c text v None = JudgesStanding c text v
JudgesLines c text v (Some order) = JudgesOrders c text v order

-- the verdict on a text and what is shown of it: that on its lines, but for the last one where that says at which line of its log the text ends
pub record JudgesText (asked : PartialShown) (c : Setup) (text : List ℕ) (shown : Shown) : Type 0 where
  pub short : length text ≤ most_bytes
  pub body : List ℕ
  pub ends : Option ℕ
  pub is_body : IsBody text body ends
  pub found : Found
  pub order : Option (List ℕ)
  pub judges : JudgesLines c body found order
  pub said : List Said
  pub read : said_in c.names body ≡ Ok said
  pub is_shown : IsShown asked c body (lines_of body) (events_of said) order found (verdict_to found ends) shown
