-- A text that says a configuration is read as that configuration, and a text says what is read of it.
use Rattle.std.proofs.Common.{◌≡◌, ℕ, ◌≤◌, true, false, ltb, cond, List, length, map, Option, Some, None, option_map, Ok, Err, refl, sym, ap, subst, ◌∙◌, arith}
use Rattle.std.specs.List.{list_all}
use Rattle.std.specs.Option.{option_map_or}
use Rattle.std.proofs.lemmas.Bool.{le-ltb}
use Rattle.fmp_bytes.proofs.Parsed.{bind_parts}
use Rattle.fmp_config_statements.specs.declared.tokens.End.{End}
use Rattle.fmp_config_statements.specs.declared.tokens.End.TheVariants.{Done, Bad, CutShort}
use Rattle.fmp_config_statements.specs.Lexing.{Lexeme, lexed_text}
use Rattle.fmp_config_statements.specs.declared.fault.ConfigKind.TheVariants as faults
use Rattle.fmp_config_statements.specs.Faults.{fault_of_line}
use Rattle.fmp_config_statements.specs.Folds.{each}
use Rattle.fmp_config_statements.specs.Forms.{Form}
use Rattle.fmp_config.specs.declared.draft.OpenClass.{OpenClass}
use Rattle.fmp_config.specs.Drafts.{Draft, blank_draft, is_start}
use Rattle.fmp_config.specs.Limits.{most_bytes}
use Rattle.fmp_config.specs.Reading.{State, at_start, take_token, closed, finished, setup_in, config_in}
use Rattle.fmp_names.specs.Names.{number_defined}
use Rattle.fmp_setup.specs.Setup.{Setup}
use Rattle.fmp_law_config.specs.Tokens.{Glyph, glyph_of}
use Rattle.fmp_law_config.proofs.TokensRead.{tokens_are_read}
use Rattle.fmp_law_config.proofs.TokensSpelled.{tokens_are_spelled}
use Rattle.fmp_law_config.specs.Elements.{SpellsElements}
use Rattle.fmp_law_config.specs.Grammar.{Configures}
use Rattle.fmp_law_config.specs.Stages.{Stage}
use Rattle.fmp_law_config.proofs.Results.{ok_is, err_is, refused, none_is}
use Rattle.fmp_law_config.proofs.Numerals.{AreNames}
use Rattle.fmp_law_config.proofs.Stages.{stage_of, IsBounded}
use Rattle.fmp_law_config.proofs.Glyphs.{is_glyph}
use Rattle.fmp_law_config.proofs.Nesting.{tokens_nested, blocked}
use Rattle.fmp_law_config.proofs.Steps.{outside}
use Rattle.fmp_law_config.proofs.Entries.{element_of, entries_read}
use Rattle.fmp_law_config.proofs.Given.{entries_of}
use Rattle.fmp_law_config.proofs.Said.{entries_say}
use Rattle.fmp_law_config.proofs.Followed.{clauses_reach}

none_named : AreNames blank_draft.setup.names
unfolding number_defined
none_named word n e = absurd (none_is n e)

bounded : IsBounded blank_draft.setup
bounded = record { processors = omega arith; priorities = omega arith; named = none_named }

-- ---- the end of a text

none_open : (opened : Option OpenClass) → option_map (λ o. o.class) opened ≡ None → opened ≡ None
none_open None e = refl
none_open (Some o) e = absurd cc

all_read : (d : Draft) → (stage_of d).class ≡ None → is_start d.phase ≡ false → finished (outside d None) Done ≡ Ok d.setup
unfolding finished closed
all_read d class counted = let none = none_open d.open_class class in rw none (rw counted refl)

-- what is left at the end
abbrev pub Ends : State → End → Setup → Type 0
Ends s end c = (end ≡ Done) × (s.form ≡ None) × ((stage_of s.draft).class ≡ None) × (is_start s.draft.phase ≡ false) × (s.draft.setup ≡ c)

abbrev pub IsClosed : Draft → Setup → Type 0
IsClosed d c = ((stage_of d).class ≡ None) × (is_start d.phase ≡ false) × (d.setup ≡ c)

was_closed : (d : Draft) (c : Setup) (opened : Option OpenClass) → d.open_class ≡ opened
    → option_map_or (λ o. Err (fault_of_line faults.CutShort o.line)) opened (cond (is_start d.phase) (Err (fault_of_line faults.NoProcessors 1)) (Ok d.setup)) ≡ Ok c → IsClosed d c
was_closed d c None e closed_is =
    let p = refused (is_start d.phase) (Ok d.setup) (fault_of_line faults.NoProcessors 1) c closed_is in
    (ap (λ (x : Option OpenClass). option_map (λ o. o.class) x) e, p.0, ok_is d.setup c p.1)
was_closed d c (Some o) e closed_is = absurd (err_is (fault_of_line faults.CutShort o.line) c closed_is)

is_closed : (d : Draft) (c : Setup) → closed d ≡ Ok c → IsClosed d c
unfolding closed
is_closed d c e = was_closed d c d.open_class refl e

was_done : (s : State) (c : Setup) (form : Option Form) → s.form ≡ form → option_map_or (λ f. Err (fault_of_line faults.CutShort f.line)) form (closed s.draft) ≡ Ok c → Ends s Done c
was_done s c None e end = let p = is_closed s.draft c end in (refl, e, p.0, p.1, p.2)
was_done s c (Some f) e end = absurd (err_is (fault_of_line faults.CutShort f.line) c end)

is_done : (s : State) (end : End) (c : Setup) → finished s end ≡ Ok c → Ends s end c
unfolding finished
is_done s (Bad line) c e = absurd (err_is (fault_of_line faults.Syntax line) c e)
is_done s (CutShort line) c e = absurd (err_is (fault_of_line faults.CutShort line) c e)
is_done s Done c e = was_done s c s.form refl e

-- ---- what is spelled is read

tokens_say : (text : List ℕ) (c : Setup) (tokens : List Lexeme) (s : Configures text c) → map glyph_of tokens ≡ s.glyphs → (d : Draft) × (each take_token at_start tokens ≡ Ok (outside d None)) × (s.last ≡ stage_of d)
tokens_say text c tokens s are =
    let all = subst (λ (gs : List Glyph). list_all is_glyph gs ≡ true) (sym are) (tokens_nested s.glyphs text s.tokens_are).0 in
    let entered = entries_of s.elements tokens (subst (λ (gs : List Glyph). SpellsElements s.elements gs) (sym are) s.elements_are) all in
    let r = clauses_reach s.clauses s.elements entered.entries blank_draft s.last bounded entered.are entered.tokens_are s.clauses_are s.say in
    (r.0, entered.read blank_draft None (outside r.0 None) r.1, r.2)

pub setup_read : (text : List ℕ) (c : Setup) → Configures text c → setup_in (lexed_text text) ≡ Ok c
unfolding setup_in
setup_read text c s =
    let lexed = tokens_are_read text s.glyphs s.tokens_are in
    let done = lexed.0 in
    let r = tokens_say text c (lexed_text text).lexemes s lexed.1 in
    let read = r.1 in
    let closed_is = ap (λ (x : Stage). x.class) (sym r.2) ∙ s.closed in
    let counted = ap (λ (x : Stage). is_start x.phase) (sym r.2) ∙ s.counted in
    let setup = ap (λ (x : Stage). x.setup) (sym r.2) ∙ s.setup in
    rw (read, done) (all_read r.0 closed_is counted ∙ ap (λ (x : Setup). Ok x) setup)

pub config_read : (text : List ℕ) (c : Setup) → Configures text c → length text ≤ most_bytes → config_in text ≡ Ok c
unfolding config_in
config_read text c s short = let long = le-ltb most_bytes (length text) short in rw long (setup_read text c s)

pub one_machine : (text : List ℕ) (a b : Setup) → Configures text a → Configures text b → a ≡ b
one_machine text a b first second = ok_is a b (sym (setup_read text a first) ∙ setup_read text b second)

-- ---- what is read is spelled

configured : (text : List ℕ) (c : Setup) (s : State) → each take_token at_start (lexed_text text).lexemes ≡ Ok s → Ends s (lexed_text text).end c → Configures text c
configured text c s e ends =
    let tokens = (lexed_text text).lexemes in
    let spelled = tokens_are_spelled text ends.0 in
    let nested = tokens_nested (map glyph_of tokens) text spelled in
    let blocks = blocked tokens nested.0 nested.1 in
    let all = subst (λ (ts : List Lexeme). list_all is_glyph (map glyph_of ts) ≡ true) blocks.1 nested.0 in
    let r = entries_read blocks.0 blank_draft None s blocks.2 all (ap (λ (ts : List Lexeme). each take_token at_start ts) (sym blocks.1) ∙ e) in
    let said = entries_say r.entries r.tokens_are blank_draft s bounded r.reads ends.1 in
    record {
      glyphs = map glyph_of tokens;
      elements = map element_of r.entries;
      clauses = said.clauses;
      last = stage_of s.draft;
      tokens_are = spelled;
      elements_are = subst (λ (ts : List Lexeme). SpellsElements (map element_of r.entries) (map glyph_of ts)) (sym blocks.1) r.spelled;
      clauses_are = said.spelled;
      say = said.say;
      closed = ends.2;
      counted = ends.3;
      setup = ends.4;
    }

setup_was : (text : List ℕ) (c : Setup) → setup_in (lexed_text text) ≡ Ok c → Configures text c
unfolding setup_in
setup_was text c e =
    let p = bind_parts (each take_token at_start (lexed_text text).lexemes) (λ s. finished s (lexed_text text).end) c e in
    configured text c p.0 p.1 (is_done p.0 (lexed_text text).end c p.2)

pub config_was : (text : List ℕ) (c : Setup) → config_in text ≡ Ok c → Configures text c
unfolding config_in
config_was text c e = setup_was text c (refused (ltb most_bytes (length text)) (setup_in (lexed_text text)) (fault_of_line faults.TooMany 0) c e).1
