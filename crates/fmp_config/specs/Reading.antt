-- Reading a configuration token by token, with the first fault.
use Rattle.std.specs.Prelude.{ℕ, Bool, ◌&&◌, List, length, Option, Some, None, is_some, Result, Ok, Err, nat_lt, if◌then◌else◌}
use Rattle.std.specs.Option.{ok_or, option_map_or}
use Rattle.fmp_bytes.specs.Bytes.{close_brace}
use Rattle.fmp_bytes.specs.Results.{◌>>=◌}
use Rattle.fmp_config_statements.specs.Lexing.{Lexeme, Lexed, lexed_text}
use Rattle.fmp_config_statements.specs.declared.tokens.End.{End}
use Rattle.fmp_config_statements.specs.declared.tokens.End.TheVariants as ends
use Rattle.fmp_config_statements.specs.declared.directive.Directive.{Directive}
use Rattle.fmp_config_statements.specs.declared.directive.Directive.TheVariants as directives
use Rattle.fmp_config_statements.specs.declared.fault.ConfigKind.TheVariants as faults
use Rattle.fmp_config_statements.specs.declared.table.StatementName.{StatementName}
use Rattle.fmp_config_statements.specs.Directives.{next_directive}
use Rattle.fmp_config_statements.specs.Faults.{Fault, fault_at, fault_of_line}
use Rattle.fmp_config_statements.specs.Folds.{each}
use Rattle.fmp_config_statements.specs.Forms.{Form, begun, form_step, is_complete}
use Rattle.fmp_config_statements.specs.Parts.{depth_of}
use Rattle.fmp_config_statements.specs.Table.{statement_of}
use Rattle.fmp_config_statements.specs.Words.{word_of, is_mark, is_identifier_kind, is_directive_kind, is_end_kind}
use Rattle.fmp_config.specs.Drafts.{Draft, blank_draft, is_start}
use Rattle.fmp_config.specs.Places.{place_fault}
use Rattle.fmp_config.specs.Judging.{ended, judged}
use Rattle.fmp_config.specs.Limits.{most_bytes}
use Rattle.fmp_setup.specs.Setup.{Setup}

-- what was read, the statement and the directive whose tokens follow
pub record State : Type 0 where
  pub draft : Draft
  pub form : Option Form
  pub directive : Directive

abbrev pub at_start : State
at_start = record { draft = blank_draft; form = None; directive = directives.Outside }

-- the open parentheses of the statement whose tokens follow
abbrev pub depth_of_form : Option Form → ℕ
depth_of_form None = 0
depth_of_form (Some f) = depth_of f.scan

abbrev pub depth_in : State → ℕ
depth_in s = depth_of_form s.form

-- the statement that begins with a token
unfoldable pub statement_at : Lexeme → Result StatementName Fault
statement_at t =
    if is_identifier_kind t.kind then ok_or (statement_of t.text) (fault_at faults.Unsupported (word_of t)) else Err (fault_at faults.Syntax (word_of t))

-- a statement that may stand where it stands
unfoldable pub placed : Draft → Lexeme → StatementName → Result StatementName Fault
placed d t name = option_map_or (λ kind. Err (fault_at kind (word_of t))) (place_fault d name) (Ok name)

-- the end of the open class
unfoldable pub ends_class : Draft → Lexeme → Bool
ends_class d t = is_some d.open_class && is_mark close_brace t

-- a token between statements
unfoldable pub first_token : State → Lexeme → Result State Fault
first_token s t =
    if ends_class s.draft t then Ok (record s { draft = record s.draft { open_class = None } })
    else (statement_at t >>= λ name. placed s.draft t name >>= λ name. Ok (record s { form = Some (begun name t.line) }))

-- a statement with one token more, which may be its last
unfoldable pub form_read : State → Form → Result State Fault
form_read s f = if is_complete f then (judged s.draft f.name f >>= λ d. Ok (record s { draft = d; form = None })) else Ok (record s { form = Some f })

unfoldable pub form_token : State → Form → Lexeme → Result State Fault
form_token s f t = form_step f t >>= λ next. form_read s next

-- a token outside directives
unfoldable pub code_token : State → Lexeme → Result State Fault
code_token s t =
    if is_directive_kind t.kind then Ok (record s { directive = directives.Marked t.line })
    else option_map_or (λ f. form_token s f t) s.form (first_token s t)

-- a token of a directive
unfoldable pub directive_token : State → Directive → Lexeme → Result State Fault
directive_token s directive t =
    if is_end_kind t.kind then (ended s.draft directive >>= λ d. Ok (record s { draft = d; directive = directives.Outside }))
    else (next_directive directive t >>= λ next. Ok (record s { directive = next }))

-- a token
abbrev pub token_in : State → Directive → Lexeme → Result State Fault
token_in s directives.Outside t = code_token s t
token_in s directive t = directive_token s directive t

unfoldable pub take_token : State → Lexeme → Result State Fault
take_token s t = token_in s s.directive t

-- ---- the end

-- a class that is open, or no number of processors
unfoldable pub closed : Draft → Result Setup Fault
closed d =
    option_map_or (λ o. Err (fault_of_line faults.CutShort o.line)) d.open_class
    (if is_start d.phase then Err (fault_of_line faults.NoProcessors 1) else Ok d.setup)

-- the tokens end
unfoldable pub finished : State → End → Result Setup Fault
finished s (ends.Bad line) = Err (fault_of_line faults.Syntax line)
finished s (ends.CutShort line) = Err (fault_of_line faults.CutShort line)
finished s ends.Done = option_map_or (λ f. Err (fault_of_line faults.CutShort f.line)) s.form (closed s.draft)

unfoldable pub setup_in : Lexed → Result Setup Fault
setup_in lexed = each take_token at_start lexed.lexemes >>= λ s. finished s lexed.end

-- the configuration of a text, or its first fault
unfoldable pub config_in : List ℕ → Result Setup Fault
config_in text = if nat_lt most_bytes (length text) then Err (fault_of_line faults.TooMany 0) else setup_in (lexed_text text)
