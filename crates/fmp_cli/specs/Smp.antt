-- The command line of a run with scripts, and what it gives.
use Rattle.std.specs.Prelude.{◌≡◌, ℕ, pos, true, List, [], ◌∷◌, Option, Some, None, codes, is_some, option_map, if◌then◌else◌}
use Rattle.std.specs.Borrow.{Bor}
use Rattle.std.specs.Str.{bytes_eq}
use Rattle.clap.specs.Words.{AddsArg, AddsInTurn, IsSignedIn, found_of, one_text, without_minus, App, Kinds, Row, Text, app_of, fault_of, first_of, first_value}
use Rattle.clap.specs.Words.{matches_of, one_of}
use Rattle.clap.specs.declared.builder.arg.Arg.{Arg}
use Rattle.clap.specs.declared.builder.command.Command.{Command}
use Rattle.clap.specs.declared.parser.matches.ArgMatches.{ArgMatches}
use Rattle.fmp_cli.specs.declared.colours.Colour.{Colour}
use Rattle.fmp_cli.specs.declared.colours.Colour.TheVariants.{Auto, Always, Never, Other}
use Rattle.fmp_ranges.specs.declared.Limits.{Limits}
use Rattle.fmp_cli.specs.declared.smp.SmpRequest.{SmpRequest}
use Rattle.fmp_cli.specs.Found.{IsFlag}
use Rattle.fmp_cli.specs.Numbers.{IsNumberIn, number_of}
use Rattle.fmp_cli.specs.Parts.{IsNumber, IsOptional, IsRequired, IsStart, flag_rule, line_of, number_rule, path_rule, seed_rule, value_rule}
use Rattle.fmp_cli.specs.Seeds.{AreSeeds}

-- when a trace is coloured, by the word for that, which may be missing
abbrev pub colour_by : Option Text → Colour
colour_by None = Auto
colour_by (Some word) =
    if bytes_eq word (codes "auto") then Auto
    else if bytes_eq word (codes "always") then Always
    else if bytes_eq word (codes "never") then Never
    else Other

-- the whole command line, as a parse reads it
abbrev pub smp_line : App
smp_line = line_of (codes "smp") (
    path_rule (codes "CFG") ∷ path_rule (codes "SCRIPTS") ∷ number_rule (codes "ticks") 0 1000000 ∷ number_rule (codes "turns") 1 1000000
    ∷ seed_rule (codes "seed") ∷ value_rule (codes "seeds") ∷ value_rule (codes "find") ∷ flag_rule (codes "late") ∷ flag_rule (codes "stalls")
    ∷ seed_rule (codes "seconds") ∷ flag_rule (codes "strict") ∷ flag_rule (codes "progress") ∷ flag_rule (codes "context") ∷ value_rule (codes "color") ∷ [])

-- what clap finds in the words of that command line, by the ids of the arguments
unfoldable pub found_in : List Text → List Row
found_in words = matches_of smp_line words

-- what it finds wrong in them: the kinds of error of which one is told, and none where the words are right
unfoldable pub faults_in : List Text → Kinds
faults_in words = fault_of smp_line words

-- the command line: two paths, two numbers, and ten that may be left out
pub record IsSmp (c : Command) : Type 0 where
  pub start : Command
  pub config : Arg
  pub scripts : Arg
  pub ticks : Arg
  pub turns : Arg
  pub seed : Arg
  pub seeds : Arg
  pub find : Arg
  pub late : Arg
  pub stalls : Arg
  pub seconds : Arg
  pub strict : Arg
  pub progress : Arg
  pub context : Arg
  pub colour : Arg
  pub chain : AddsInTurn AddsArg start (config ∷ scripts ∷ ticks ∷ turns ∷ seed ∷ seeds ∷ find ∷ late ∷ stalls ∷ seconds ∷ strict ∷ progress ∷ context ∷ colour ∷ []) c
  pub is_start : IsStart (codes "smp") start
  pub is_config : IsRequired config (codes "CFG")
  pub is_scripts : IsRequired scripts (codes "SCRIPTS")
  pub is_ticks : IsNumber ticks (codes "ticks") 0 1000000
  pub is_turns : IsNumber turns (codes "turns") 1 1000000
  pub is_seed : IsOptional seed (codes "seed")
  pub is_seeds : IsOptional seeds (codes "seeds")
  pub is_find : IsOptional find (codes "find")
  pub is_late : IsOptional late (codes "late")
  pub is_stalls : IsOptional stalls (codes "stalls")
  pub is_seconds : IsOptional seconds (codes "seconds")
  pub is_strict : IsOptional strict (codes "strict")
  pub is_progress : IsOptional progress (codes "progress")
  pub is_context : IsOptional context (codes "context")
  pub is_colour : IsOptional colour (codes "color")
  pub line : app_of c ≡ smp_line

-- the value of this id is a number from low to high
abbrev pub Gives : ArgMatches → List ℕ → ℕ → ℕ → Type 0
Gives m id low high = (t : List ℕ) × (one_text (found_of m) id ≡ Some (without_minus t)) × IsSignedIn (pos low) (pos high) t

-- both numbers are given and within their limits
pub record GivesLimits (m : ArgMatches) : Type 0 where
  pub ticks : Gives m (codes "ticks") 0 1000000
  pub turns : Gives m (codes "turns") 1 1000000

-- and both paths are given
pub record GivesAll (m : ArgMatches) : Type 0 where
  pub limits : GivesLimits m
  pub config : is_some (first_value (found_of m) (codes "CFG")) ≡ true
  pub scripts : is_some (first_value (found_of m) (codes "SCRIPTS")) ≡ true

-- the limits are the numbers of these two ids, each its own
pub record AsksLimits (rows : List Row) (l : Limits) : Type 0 where
  pub ticks : option_map number_of (one_of (codes "ticks") rows) ≡ Some l.ticks.count
  pub turns : option_map number_of (one_of (codes "turns") rows) ≡ Some l.turns.count

-- the request is what was found: each of its parts is that of one id
pub record Asks (rows : List Row) (r : SmpRequest) : Type 0 where
  pub config : first_of (codes "CFG") rows ≡ Some r.config.now
  pub scripts : first_of (codes "SCRIPTS") rows ≡ Some r.scripts.now
  pub limits : AsksLimits rows r.limits
  pub seed : IsNumberIn (one_of (codes "seed") rows) r.seed
  pub seeds : AreSeeds (first_of (codes "seeds") rows) r.seeds
  pub find : option_map (λ (text : Bor Text). text.now) r.find ≡ first_of (codes "find") rows
  pub late : IsFlag (one_of (codes "late") rows) r.late
  pub stalls : IsFlag (one_of (codes "stalls") rows) r.stalls
  pub seconds : IsNumberIn (one_of (codes "seconds") rows) r.seconds
  pub strict : IsFlag (one_of (codes "strict") rows) r.strict
  pub progress : IsFlag (one_of (codes "progress") rows) r.progress
  pub context : IsFlag (one_of (codes "context") rows) r.context
  pub colour : r.colour ≡ colour_by (first_of (codes "color") rows)
