-- When an item of a moment, or a part of it, is at an event.
use Rattle.std.specs.Prelude.{ℕ, Bool, not, ◌&&◌, List, if◌then◌else◌, codes}
use Rattle.std.specs.List.{list_any}
use Rattle.std.specs.Str.{bytes_eq}
use Rattle.fmp_codes.specs.Codes.{all_codes, name_of}
use Rattle.fmp_bytes.specs.Bytes.{pieces_of, space}
use Rattle.fmp_search_pattern.specs.declared.items.Wanted.{Wanted}
use Rattle.fmp_search_pattern.specs.declared.items.Wanted.TheVariants as wanted
use Rattle.fmp_search_pattern.specs.Matching.{any, every, stand}
use Rattle.fmp_search_pattern.specs.Sights.{Sight}

-- what is asked for, and whether it must not be there
pub record Item : Type 0 where
  pub negated : Bool
  pub wanted : Wanted

-- the name of a code, such as `E_OK`
abbrev pub is_code : List ℕ → Bool
is_code word = list_any (λ c. bytes_eq (name_of c) word) all_codes

-- the code of a refused call
unfoldable pub is_refusal : List ℕ → Bool
is_refusal word = is_code word && not (bytes_eq word (codes "E_OK"))

-- some word of a line is one
abbrev pub is_refused : List ℕ → Bool
is_refused line = list_any is_refusal (pieces_of space line)

-- a refused call, the end, a pattern of the line, or one of some facts of the state
abbrev pub has_wanted : Sight → Wanted → Bool
has_wanted s wanted.Refused = is_refused s.line
has_wanted s wanted.End = s.over
has_wanted s (wanted.Line pattern) = stand pattern s.line
has_wanted s (wanted.State words asked) = any s.is_so asked

-- an item is there
unfoldable pub has_item : Sight → Item → Bool
has_item s i = if i.negated then not (has_wanted s i.wanted) else has_wanted s i.wanted

-- and each item of a part
abbrev pub has_part : Sight → List Item → Bool
has_part s part = every (has_item s) part
