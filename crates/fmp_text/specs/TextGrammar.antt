-- believed: see docs/PROOF.md, "What has to be believed"
-- The grammar of event texts, apart from how they are read: which texts spell which list of events.
use Rattle.std.specs.Prelude.{◌≡◌, ℕ, ◌≤◌, ◌⊎◌, ◌==◌, not, true, List, [], ◌∷◌, ◌++◌, length, decimal, codes}
use Rattle.std.specs.List.{list_all, join_with_byte}
use Rattle.fmp_bytes.specs.Bytes.{carriage_return, letter_p, line_feed, number_sign}
use Rattle.fmp_codes.specs.Numbers.{as_proc}
use Rattle.fmp_codes.specs.declared.numbers.Proc.{Proc}
use Rattle.fmp_codes.specs.declared.records.Event.{Event}
use Rattle.fmp_codes.specs.declared.records.Event.TheVariants as events
use Rattle.fmp_text.specs.Limits.{most_bytes, most_events}
use Rattle.fmp_names.specs.Names.{NameLists}
use Rattle.fmp_text.specs.Grammar.{AreBlank, SpellsCall}

-- a word with blanks after it
pub record IsAlone (word text : List ℕ) : Type 0 where
  pub following : List ℕ
  pub after_blank : AreBlank following
  pub parts : text ≡ word ++ following

-- blanks, `P` and the processor's number, at least one blank, and what happens there
pub record OnProcessor (names : NameLists) (processor : Proc) (Happens : List ℕ → Type 0) (text : List ℕ) : Type 0 where
  pub before : List ℕ
  pub number : ℕ
  pub between : List ℕ
  pub rest : List ℕ
  pub before_blank : AreBlank before
  pub least : 1 ≤ number
  pub most : number ≤ names.processors
  pub is_number : processor ≡ as_proc number
  pub apart : 1 ≤ length between
  pub between_blank : AreBlank between
  pub happens : Happens rest
  pub parts : text ≡ before ++ (letter_p ∷ (decimal number ++ (between ++ rest)))

-- an event's line, without its end
abbrev pub SpellsEvent : NameLists → List ℕ → Event → Type 0
SpellsEvent names text (events.Tick processor) = OnProcessor names processor (IsAlone (codes "tick")) text
SpellsEvent names text (events.Ipi processor) = OnProcessor names processor (IsAlone (codes "ipi")) text
SpellsEvent names text (events.Call processor call) = OnProcessor names processor (λ rest. SpellsCall names rest call) text

-- blanks, `#`, and any bytes
pub record IsComment (line : List ℕ) : Type 0 where
  pub before : List ℕ
  pub rest : List ℕ
  pub before_blank : AreBlank before
  pub parts : line ≡ before ++ (number_sign ∷ rest)

-- a line as it is, or with a carriage return at its end
abbrev pub Ended : List ℕ → List ℕ → Type 0
Ended core line = (line ≡ core) ⊎ (line ≡ core ++ (carriage_return ∷ []))

-- a line with no event: blanks, or a comment
abbrev pub SpellsNothing : List ℕ → Type 0
SpellsNothing line = ((core : List ℕ) × Ended core line × AreBlank core) ⊎ IsComment line

-- a line with this event
abbrev pub SpellsOne : NameLists → List ℕ → Event → Type 0
SpellsOne names line event = (core : List ℕ) × Ended core line × SpellsEvent names core event

-- what stands after the last line feed: blanks without a carriage return, or a comment
abbrev pub IsRest : List ℕ → Type 0
IsRest last = AreBlank last ⊎ IsComment last

-- the lines spell the events, each line one event or none
abbrev pub SpellsLines : NameLists → List (List ℕ) → List Event → Type 0
SpellsLines names [] events = ⊥
SpellsLines names (last ∷ []) events = IsRest last × (events ≡ [])
SpellsLines names (line ∷ next ∷ lines) events =
    (SpellsNothing line × SpellsLines names (next ∷ lines) events)
    ⊎ ((event : Event) × (others : List Event) × SpellsOne names line event × (events ≡ event ∷ others) × SpellsLines names (next ∷ lines) others)

-- a whole text: lines with line feeds between them, within the limits
pub record SpellsText (names : NameLists) (text : List ℕ) (events : List Event) : Type 0 where
  pub lines : List (List ℕ)
  pub parts : text ≡ join_with_byte line_feed lines
  pub cut : list_all (list_all (λ b. not (b == line_feed))) lines ≡ true
  pub spelled : SpellsLines names lines events
  pub few : length events ≤ most_events
  pub short : length text ≤ most_bytes
