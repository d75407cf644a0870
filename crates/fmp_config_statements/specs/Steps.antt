-- believed: see docs/PROOF.md, "What has to be believed"
-- What each byte of a text does, by what stands before it and what follows it.
use Rattle.std.specs.Prelude.{ℕ, ◌+◌, Bool, false, ◌&&◌, List, [], ◌∷◌, ◌==◌, if◌then◌else◌}
use Rattle.std.specs.Char.{is_ascii_graphic}
use Rattle.fmp_bytes.specs.declared.classes.Class.TheVariants as class
use Rattle.fmp_bytes.specs.Bytes.{is_of, asterisk, backslash, line_feed, number_sign, quotation_mark, slash}
use Rattle.fmp_config_statements.specs.declared.tokens.TokenKind.TheVariants as kinds
use Rattle.fmp_config_statements.specs.declared.tokens.End.TheVariants as ends
use Rattle.fmp_config_statements.specs.declared.modes.Place.{Place}
use Rattle.fmp_config_statements.specs.declared.modes.Place.TheVariants as places
use Rattle.fmp_config_statements.specs.declared.modes.Mode.{Mode}
use Rattle.fmp_config_statements.specs.declared.modes.Mode.TheVariants as modes
use Rattle.fmp_config_statements.specs.declared.modes.Step.{Step}
use Rattle.fmp_config_statements.specs.declared.modes.Step.TheVariants.{Pass, Give, Stop}

-- the text begins with this byte
abbrev pub is_next : ℕ → List ℕ → Bool
is_next c [] = false
is_next c (b ∷ bytes) = b == c

-- where a token leaves the reader
abbrev pub following : Place → Place
following places.LineStart = places.Code
following places.Code = places.Code
following places.Directive = places.Directive

-- a line end outside comments and strings ends a directive
unfoldable pub at_line_end : Place → ℕ → Step
at_line_end places.LineStart line = Pass (modes.Gap places.LineStart)
at_line_end places.Code line = Pass (modes.Gap places.LineStart)
at_line_end places.Directive line = Give kinds.DirectiveEnd line (modes.Gap places.LineStart)

-- outside directives a byte of no word begins a string, is a token, or may not stand there
unfoldable pub single_in_code : ℕ → ℕ → Step
single_in_code line b =
    if b == quotation_mark then Pass (modes.Quoted line)
    else (if is_ascii_graphic b then Give kinds.Symbol line (modes.Gap places.Code) else Stop (ends.Bad line))

-- a byte of no word: `#` begins a directive at the start of a line, and `\` before a line feed makes one go on
unfoldable pub single : Place → ℕ → ℕ → List ℕ → Step
single places.LineStart line b rest = if b == number_sign then Give kinds.Directive line (modes.Gap places.Directive) else single_in_code line b
single places.Code line b rest = single_in_code line b
single places.Directive line b rest = if b == backslash && is_next line_feed rest then Pass modes.Continued else Give kinds.Symbol line (modes.Gap places.Directive)

-- a byte that is no blank and begins no comment
unfoldable pub begun : Place → ℕ → ℕ → List ℕ → Step
begun place line b rest =
    if is_of class.Letter b then Give kinds.Identifier line (modes.Word (following place))
    else (if is_of class.Digit b then Give kinds.Digits line (modes.Word (following place)) else single place line b rest)

-- a byte between tokens
unfoldable pub in_gap : Place → ℕ → ℕ → List ℕ → Step
in_gap place line b rest =
    if b == line_feed then at_line_end place line
    else (if is_of class.Space b then Pass (modes.Gap place)
    else (if b == slash && is_next slash rest then Pass (modes.LineComment place)
    else (if b == slash && is_next asterisk rest then Pass (modes.Opening place line) else begun place line b rest)))

-- a byte of a string that began in this line
abbrev pub in_string : ℕ → ℕ → Step
in_string began b =
    if b == quotation_mark then Give kinds.Text began (modes.Gap places.Code)
    else (if b == backslash then Pass (modes.Escaped began) else Pass (modes.Quoted began))

-- in a directive a `\` before the line feed ends a comment `// ..`, and not the directive
abbrev pub goes_on : Place → ℕ → List ℕ → Bool
goes_on places.LineStart b rest = false
goes_on places.Code b rest = false
goes_on places.Directive b rest = b == backslash && is_next line_feed rest

-- a byte of a comment `// ..`
unfoldable pub in_line_comment : Place → ℕ → ℕ → List ℕ → Step
in_line_comment place line b rest =
    if b == line_feed then at_line_end place line
    else (if goes_on place b rest then Pass modes.Continued else Pass (modes.LineComment place))

-- a byte of a comment `/* .. */`, and one after a `*` of it
abbrev pub in_block : Place → ℕ → ℕ → Step
in_block place began b = if b == asterisk then Pass (modes.Star place began) else Pass (modes.Block place began)

abbrev pub after_star : Place → ℕ → ℕ → Step
after_star place began b = if b == slash then Pass (modes.Gap place) else in_block place began b

-- what a byte does, by what stands before it and what follows it
unfoldable pub step_of : Mode → ℕ → ℕ → List ℕ → Step
step_of (modes.Gap place) line b rest = in_gap place line b rest
step_of (modes.Word place) line b rest = if is_of class.Word b then Pass (modes.Word place) else in_gap place line b rest
step_of (modes.Quoted began) line b rest = in_string began b
step_of (modes.Escaped began) line b rest = Pass (modes.Quoted began)
step_of (modes.LineComment place) line b rest = in_line_comment place line b rest
step_of (modes.Opening place began) line b rest = Pass (modes.Block place began)
step_of (modes.Block place began) line b rest = in_block place began b
step_of (modes.Star place began) line b rest = after_star place began b
step_of modes.Continued line b rest = Pass (modes.Gap places.Directive)

-- a line feed begins a line
abbrev pub line_after : ℕ → ℕ → ℕ
line_after line b = if b == line_feed then line + 1 else line
