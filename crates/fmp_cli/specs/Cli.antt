-- The command lines of the program, and what their words ask for.
use Rattle.std.specs.Prelude.{◌≡◌, ℕ, ◌||◌, Bool, false, true, List, [], ◌∷◌, IsSomeAnd, Option, None, Some, codes, if◌then◌else◌, option_map, unwrap_or}
use Rattle.std.specs.Bool.{then_some}
use Rattle.std.specs.Borrow.{Bor}
use Rattle.clap.specs.Words.{App, Row, Text, first_of, one_of}
use Rattle.fmp_cli_hints.specs.declared.text.TextForm.{TextForm}
use Rattle.fmp_cli_hints.specs.declared.text.TextForm.TheVariants as form
use Rattle.fmp_cli.specs.Found.{IsFlag, found_by, text_of}
use Rattle.fmp_cli.specs.Parts.{choice_rule, flag_rule, line_of, name_rule, path_rule, value_rule}
use Rattle.fmp_cli.specs.Smp.{Asks, colour_by, found_in}
use Rattle.fmp_cli.specs.declared.colours.Colour.{Colour}
use Rattle.fmp_cli.specs.Explore as explore
use Rattle.fmp_cli.specs.Shrink.Shrink as shrink
use Rattle.fmp_cli.specs.declared.Asked.{Asked}
use Rattle.fmp_cli.specs.declared.Asked.TheVariants.{Waveform}
use Rattle.fmp_cli.specs.declared.Partly.{Partly}
use Rattle.fmp_cli.specs.declared.Paths.{Paths}
use Rattle.fmp_cli.specs.declared.Request.{Request}
use Rattle.fmp_cli.specs.declared.Request.TheVariants as request
use Rattle.fmp_cli.specs.declared.Subcommand.{Subcommand}
use Rattle.fmp_cli.specs.declared.Subcommand.TheVariants as subcommand
use Rattle.fmp_cli.specs.declared.Report.{Report}
use Rattle.fmp_cli.specs.Flags.{report_by, asked_by, is_path, page_by, partly_by, partly_page_by, subcommand_by}

-- each command line, as a parse reads it
abbrev pub calls_line : App
calls_line = line_of (codes "calls") (
    path_rule (codes "CFG") ∷ path_rule (codes "EVENTS") ∷ choice_rule (codes "state") ∷ choice_rule (codes "changes") ∷ value_rule (codes "of") ∷ flag_rule (codes "context")
    ∷ value_rule (codes "color") ∷ [])

abbrev pub check_line : App
check_line = line_of (codes "check") (
    path_rule (codes "CFG") ∷ path_rule (codes "TRACE") ∷ choice_rule (codes "show") ∷ choice_rule (codes "all") ∷ flag_rule (codes "partial")
    ∷ choice_rule (codes "order") ∷ flag_rule (codes "context") ∷ [])

abbrev pub wave_line : App
wave_line = line_of (codes "wave") (
    path_rule (codes "CFG") ∷ path_rule (codes "TRACE") ∷ choice_rule (codes "gtkw") ∷ flag_rule (codes "context") ∷ [])

abbrev pub view_line : App
view_line = line_of (codes "view") (
    path_rule (codes "CFG") ∷ path_rule (codes "TRACE") ∷ flag_rule (codes "differences") ∷ flag_rule (codes "partial") ∷ flag_rule (codes "context") ∷ [])

abbrev pub list_line : App
list_line = line_of (codes "list") (name_rule (codes "NAME") ∷ flag_rule (codes "context") ∷ [])

-- the configuration is that of CFG, the other text that of this id, and it is shown beside a fault where that is asked for
pub record NamesPaths (rows : List Row) (id : Text) (text_form : TextForm) (p : Paths) : Type 0 where
  pub config : p.config.now ≡ text_of (codes "CFG") rows
  pub text : p.text.now ≡ text_of id rows
  pub context : (b : Bool) × IsFlag (one_of (codes "context") rows) b × (p.context ≡ then_some b text_form)

-- the state, or what of it changed, is told where that is asked for, and the trace coloured as the word says
pub record AsksCalls (rows : List Row) (p : Paths) (t : Report) (c : Colour) : Type 0 where
  pub paths : NamesPaths rows (codes "EVENTS") form.Events p
  pub names : first_of (codes "of") rows ≡ None
  pub state : Bool
  pub changes : Bool
  pub state_flag : IsFlag (one_of (codes "state") rows) state
  pub changes_flag : IsFlag (one_of (codes "changes") rows) changes
  pub report : t ≡ report_by state changes
  pub colour : c ≡ colour_by (first_of (codes "color") rows)

-- of the things with these names it is told what changes, and the lines are coloured as the word says
pub record AsksLife (rows : List Row) (p : Paths) (things : Bor (List ℕ)) (c : Colour) : Type 0 where
  pub paths : NamesPaths rows (codes "EVENTS") form.Events p
  pub names : first_of (codes "of") rows ≡ Some things.now
  pub colour : c ≡ colour_by (first_of (codes "color") rows)

-- of a whole trace what the flags say is asked
pub record AsksCheck (rows : List Row) (p : Paths) (a : Asked) : Type 0 where
  pub show : Bool
  pub all : Bool
  pub whole : IsFlag (one_of (codes "partial") rows) false
  pub unordered : IsFlag (one_of (codes "order") rows) false
  pub show_flag : IsFlag (one_of (codes "show") rows) show
  pub all_flag : IsFlag (one_of (codes "all") rows) all
  pub paths : NamesPaths rows (codes "TRACE") form.Trace p
  pub asked : a ≡ asked_by show all

-- of a partial trace what the flags say is asked, where one of two stands
pub record AsksPartial (rows : List Row) (p : Paths) (a : Partly) : Type 0 where
  pub partial : Bool
  pub show : Bool
  pub all : Bool
  pub order : Bool
  pub partial_flag : IsFlag (one_of (codes "partial") rows) partial
  pub show_flag : IsFlag (one_of (codes "show") rows) show
  pub all_flag : IsFlag (one_of (codes "all") rows) all
  pub order_flag : IsFlag (one_of (codes "order") rows) order
  pub either : (partial || order) ≡ true
  pub paths : NamesPaths rows (codes "TRACE") form.Partial p
  pub asked : a ≡ partly_by show all order

-- the waveform is asked for
pub record AsksWave (rows : List Row) (p : Paths) (a : Asked) : Type 0 where
  pub paths : NamesPaths rows (codes "TRACE") form.Trace p
  pub drawn : IsFlag (one_of (codes "gtkw") rows) false
  pub asked : a ≡ Waveform

-- the save file is asked for
pub record AsksSave (rows : List Row) (p : Paths) : Type 0 where
  pub paths : NamesPaths rows (codes "TRACE") form.Trace p
  pub saved : IsFlag (one_of (codes "gtkw") rows) true

-- the page is asked for, with the lines that differ where the flag stands
pub record AsksView (rows : List Row) (p : Paths) (a : Asked) : Type 0 where
  pub whole : IsFlag (one_of (codes "partial") rows) false
  pub paths : NamesPaths rows (codes "TRACE") form.Trace p
  pub asked : (b : Bool) × IsFlag (one_of (codes "differences") rows) b × (a ≡ page_by b)

-- the same of a partial trace
pub record AsksPartialView (rows : List Row) (p : Paths) (a : Partly) : Type 0 where
  pub partial : IsFlag (one_of (codes "partial") rows) true
  pub paths : NamesPaths rows (codes "TRACE") form.Partial p
  pub asked : (b : Bool) × IsFlag (one_of (codes "differences") rows) b × (a ≡ partly_page_by b)

-- what the word after `list` asks for, if there is one: of a path what was read of that configuration, with what stands beside a fault
-- where the flag asks for it, and else what is called so, or all that may be written
abbrev pub IsListedBy : Option Text → Bool → Request → Type 0
IsListedBy word context (request.List id) = (option_map (λ s. s.now) id ≡ word) × (unwrap_or (option_map is_path word) false ≡ false)
IsListedBy word context (request.Describe d) = (word ≡ Some d.config.now) × (is_path d.config.now ≡ true) × (d.context ≡ context)
IsListedBy word context _ = ⊥

abbrev pub AsksList : List Row → Request → Type 0
AsksList rows r = (b : Bool) × IsFlag (one_of (codes "context") rows) b × IsListedBy (first_of (codes "NAME") rows) b r

-- what is asked for by what clap found in the words of one subcommand
abbrev pub IsCalls : List Row → Request → Type 0
IsCalls rows (request.Calls p t c) = AsksCalls rows p t c
IsCalls rows (request.Life p names c) = AsksLife rows p names c
IsCalls rows _ = ⊥

abbrev pub IsCheck : List Row → Request → Type 0
IsCheck rows (request.Trace p a) = AsksCheck rows p a
IsCheck rows (request.Partial p a) = AsksPartial rows p a
IsCheck rows _ = ⊥

abbrev pub IsWave : List Row → Request → Type 0
IsWave rows (request.Trace p a) = AsksWave rows p a
IsWave rows (request.Save p) = AsksSave rows p
IsWave rows _ = ⊥

abbrev pub IsView : List Row → Request → Type 0
IsView rows (request.Trace p a) = AsksView rows p a
IsView rows (request.Partial p a) = AsksPartialView rows p a
IsView rows _ = ⊥

-- what is asked for by the words of each, its name among them
abbrev pub IsAsked : Subcommand → List Text → Request → Type 0
IsAsked subcommand.Calls words r = IsCalls (found_by calls_line words) r
IsAsked subcommand.Check words r = IsCheck (found_by check_line words) r
IsAsked subcommand.Wave words r = IsWave (found_by wave_line words) r
IsAsked subcommand.View words r = IsView (found_by view_line words) r
IsAsked subcommand.Smp words (request.Smp r) = Asks (found_in words) r
IsAsked subcommand.Smp words _ = ⊥
IsAsked subcommand.Explore words (request.Explore r) = explore.Asks (explore.found_in words) r × (explore.has_conflict r ≡ false)
IsAsked subcommand.Explore words _ = ⊥
IsAsked subcommand.Shrink words (request.Shrink r) = shrink.Asks (shrink.found_in words) r
IsAsked subcommand.Shrink words _ = ⊥
IsAsked subcommand.List words r = AsksList (found_by list_line words) r

-- what is asked for by the words after the program's name, of which the first names the subcommand
abbrev pub AsksFor : Option Text → List Text → Request → Type 0
AsksFor name words r = IsSomeAnd (subcommand_by name) (λ s. IsAsked s words r)
