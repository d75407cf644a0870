-- The parts of statements, token by token.
use Rattle.std.specs.Prelude.{ℕ, ◌+◌, ◌-◌, Bool, true, false, not, ◌&&◌, ◌||◌, Option, Some, None, ◌==◌, codes, if◌then◌else◌}
use Rattle.std.specs.Str.{bytes_eq}
use Rattle.fmp_bytes.specs.Bytes.{close_brace, close_parenthesis, comma, open_brace, open_parenthesis}
use Rattle.fmp_names.specs.Names.{is_name}
use Rattle.fmp_config_statements.specs.declared.tokens.TokenKind.{TokenKind}
use Rattle.fmp_config_statements.specs.declared.tokens.TokenKind.TheVariants as kinds
use Rattle.fmp_config_statements.specs.Lexing.{Lexeme}
use Rattle.fmp_config_statements.specs.declared.parts.Item.{Item}
use Rattle.fmp_config_statements.specs.declared.parts.Item.TheVariants as items
use Rattle.fmp_config_statements.specs.declared.parts.Part.{Part}
use Rattle.fmp_config_statements.specs.declared.parts.Part.TheVariants as parts
use Rattle.fmp_config_statements.specs.declared.parts.Scan.{Scan}
use Rattle.fmp_config_statements.specs.declared.parts.Scan.TheVariants.{Mark, One, Next, More, Free, Method, Master, Nothing}
use Rattle.fmp_config_statements.specs.Words.{is_mark, is_digits_kind, is_text_kind}

-- digits, or an identifier that can be a name
abbrev pub is_number_word : Lexeme → Bool
is_number_word t = is_digits_kind t.kind || is_name t.text

-- the token can be such a word
unfoldable pub is_item : Item → Lexeme → Bool
is_item items.Name t = is_name t.text
is_item items.Function t = is_name t.text
is_item items.Attribute t = is_name t.text
is_item items.First t = is_number_word t
is_item items.Second t = is_number_word t
is_item items.Member t = is_number_word t
is_item items.Text t = is_text_kind t.kind

-- an identifier that is too long, or a brace
abbrev pub is_barred_as : TokenKind → Lexeme → Bool
is_barred_as kinds.Identifier t = not (is_name t.text)
is_barred_as _ t = is_mark open_brace t || is_mark close_brace t

-- a token that cannot stand in a free field
unfoldable pub is_barred : Lexeme → Bool
is_barred t = is_barred_as t.kind t

-- a comma or a closing parenthesis, which ends a free field outside parentheses
unfoldable pub is_stop : Lexeme → Bool
is_stop t = is_mark comma t || is_mark close_parenthesis t

-- what has to follow in a free field, in so many open parentheses
unfoldable pub next_free : ℕ → Lexeme → Option Scan
next_free depth t =
    if is_barred t || (depth == 0 && is_stop t) then None
    else (if is_mark open_parenthesis t then Some (Free (depth + 1) true) else
    (if is_mark close_parenthesis t then Some (Free (depth - 1) true) else Some (Free depth true)))

-- what has to follow after the word of a timer
unfoldable pub next_method : Lexeme → Option Scan
next_method t = if bytes_eq t.text (codes "LOCAL") then Some Nothing else (if bytes_eq t.text (codes "GLOBAL") then Some Master else None)

-- what has to follow at the beginning of a part
abbrev pub scan_of : Part → Scan
scan_of (parts.Mark byte) = Mark byte
scan_of (parts.One item) = One item
scan_of (parts.Series byte item) = Next byte item
scan_of parts.Free = Free 0 false
scan_of parts.Method = Method

-- what has to follow after a token that goes on with the part
unfoldable pub next_of : Scan → Lexeme → Option Scan
next_of (Mark byte) t = if is_mark byte t then Some Nothing else None
next_of (One item) t = if is_item item t then Some Nothing else None
next_of (Next byte item) t = if is_item item t then Some (More byte item) else None
next_of (More byte item) t = if is_mark byte t then Some (Next byte item) else None
next_of (Free depth taken) t = next_free depth t
next_of Method t = next_method t
next_of Master t = if is_mark comma t then Some (One items.First) else None
next_of Nothing t = None

-- the part can end so
abbrev pub may_end : Scan → Bool
may_end (More byte item) = true
may_end (Free depth taken) = (depth == 0) && taken
may_end Nothing = true
may_end _ = false

abbrev pub is_nothing : Scan → Bool
is_nothing Nothing = true
is_nothing _ = false

-- the open parentheses
abbrev pub depth_of : Scan → ℕ
depth_of (Free depth taken) = depth
depth_of _ = 0
