-- believed: see docs/PROOF.md, "What has to be believed"
-- The parts of a text, apart from how they are read: how each is written, and where it may stand.
use Rattle.std.specs.Prelude.{ℕ, Bool, true, false, not, ◌&&◌, ◌||◌, List, [], ◌∷◌, ◌++◌, ◌==◌}
use Rattle.std.specs.Char.{is_ascii_graphic}
use Rattle.std.specs.List.{list_all}
use Rattle.fmp_bytes.specs.declared.classes.Class.{Class}
use Rattle.fmp_bytes.specs.declared.classes.Class.TheVariants.{Space, Digit, Word}
use Rattle.fmp_bytes.specs.Bytes.{is_of, is_identifier, asterisk, backslash, line_feed, number_sign, quotation_mark, slash}
use Rattle.fmp_config_statements.specs.declared.modes.Place.{Place}
use Rattle.fmp_config_statements.specs.declared.modes.Place.TheVariants.{LineStart, Code, Directive}
use Rattle.fmp_config_statements.specs.Steps.{is_next}

-- what a text is made of. The bytes of a comment are those between `/*` and `*/` or after `//`, those of a string the
-- ones between its quotes
pub data Part : Type 0 where
  Blank : ℕ → Part
  BlockComment : List ℕ → Part
  LineComment : List ℕ → Part
  JoinedLine : Part  -- a `\` and a line feed, by which a directive goes on
  Identifier : List ℕ → Part
  Digits : List ℕ → Part
  Symbol : ℕ → Part
  Quoted : List ℕ → Part
  Hash : Part  -- the `#` that begins a directive
  LineEnd : Part  -- the line feed that ends one
  TextEnd : Part  -- the end of the text that ends one

-- a part as it is written
abbrev pub written : Part → List ℕ
written (Blank b) = b ∷ []
written (BlockComment inner) = slash ∷ asterisk ∷ (inner ++ (asterisk ∷ slash ∷ []))
written (LineComment inner) = slash ∷ slash ∷ inner
written JoinedLine = backslash ∷ line_feed ∷ []
written (Identifier word) = word
written (Digits word) = word
written (Symbol b) = b ∷ []
written (Quoted inner) = quotation_mark ∷ (inner ++ (quotation_mark ∷ []))
written Hash = number_sign ∷ []
written LineEnd = line_feed ∷ []
written TextEnd = []

-- inside of a directive
abbrev pub is_directive : Place → Bool
is_directive Directive = true
is_directive _ = false

-- where nothing but blanks and comments stands before in the line
abbrev pub is_line_start : Place → Bool
is_line_start LineStart = true
is_line_start _ = false

-- a text begins with a byte of the class, or with none
abbrev pub begins_with : Class → List ℕ → Bool
begins_with class [] = false
begins_with class (b ∷ bytes) = is_of class b

-- nothing follows
abbrev pub is_empty : List ℕ → Bool
is_empty [] = true
is_empty (b ∷ bytes) = false

-- somewhere in it the first byte stands directly before the second
abbrev pub has_pair : ℕ → ℕ → List ℕ → Bool
has_pair first second [] = false
has_pair first second (b ∷ bytes) = (b == first && is_next second bytes) || has_pair first second bytes

-- what follows ends a comment `// ..`: a line feed or the end of the text, in a directive also a `\` before a line feed
abbrev pub ends_comment : Place → List ℕ → Bool
ends_comment place [] = true
ends_comment place (b ∷ bytes) = b == line_feed || (is_directive place && (b == backslash && is_next line_feed bytes))

-- such a comment ends after these bytes, and not in them
abbrev pub ends_after : Place → List ℕ → List ℕ → Bool
ends_after place [] rest = ends_comment place rest
ends_after place (b ∷ inner) rest = not (ends_comment place (b ∷ (inner ++ rest))) && ends_after place inner rest

-- bytes of a string, after a `\` or not: a `\` takes the next byte along, and a quote stands only so
abbrev pub is_inner : Bool → List ℕ → Bool
is_inner true [] = false
is_inner false [] = true
is_inner true (b ∷ bytes) = is_inner false bytes
is_inner false (b ∷ bytes) = not (b == quotation_mark) && is_inner (b == backslash) bytes

-- a digit, then letters, digits and `_`
abbrev pub is_number : List ℕ → Bool
is_number [] = false
is_number (b ∷ bytes) = is_of Digit b && list_all (is_of Word) bytes

-- a `/` before `/` or `*`
abbrev pub opens_comment : ℕ → List ℕ → Bool
opens_comment b rest = b == slash && (is_next slash rest || is_next asterisk rest)

-- a byte that is a token by itself, in this place and before this text. In a directive any byte is that is no blank,
-- elsewhere those from `!` to `~`
abbrev pub stands_alone : Place → ℕ → List ℕ → Bool
stands_alone LineStart b rest = is_ascii_graphic b && not (b == quotation_mark || b == number_sign)
stands_alone Code b rest = is_ascii_graphic b && not (b == quotation_mark)
stands_alone Directive b rest = not (is_of Space b || (b == backslash && is_next line_feed rest))

-- a part may stand in this place, before this text, and nothing of the text goes on with it: a comment `/* .. */` is not
-- closed before its end, and no letter, digit or `_` follows a word
abbrev pub may_stand : Place → Part → List ℕ → Bool
may_stand place (Blank b) rest = is_of Space b && not (is_directive place && b == line_feed)
may_stand place (BlockComment inner) rest = not (has_pair asterisk slash (inner ++ (asterisk ∷ [])))
may_stand place (LineComment inner) rest = ends_after place inner rest
may_stand place JoinedLine rest = is_directive place
may_stand place (Identifier word) rest = is_identifier word && not (begins_with Word rest)
may_stand place (Digits word) rest = is_number word && not (begins_with Word rest)
may_stand place (Symbol b) rest = stands_alone place b rest && not (is_of Word b || opens_comment b rest)
may_stand place (Quoted inner) rest = not (is_directive place) && is_inner false inner
may_stand place Hash rest = is_line_start place
may_stand place LineEnd rest = is_directive place
may_stand place TextEnd rest = is_directive place && is_empty rest
