-- What is looked for in the line of an event.
use Rattle.std.specs.Prelude.{Bool, true, false, List, Option, None, Some}
use Rattle.fmp_search_pattern.specs.declared.items.Wanted.{Wanted}
use Rattle.fmp_search_pattern.specs.declared.items.Wanted.TheVariants as wanted
use Rattle.fmp_search_pattern.specs.declared.question.Step.{Step}
use Rattle.fmp_search_pattern.specs.Items.{Item}
use Rattle.fmp_search_pattern.specs.Matching.{any}

-- this is looked for in the line of an event
abbrev pub is_in_line : Wanted → Bool
is_in_line wanted.Refused = true
is_in_line wanted.End = false
is_in_line (wanted.Line pattern) = true
is_in_line (wanted.State words asked) = false

abbrev pub part_reads : List Item → Bool
part_reads part = any (λ (i : Item). is_in_line i.wanted) part

-- a part of a moment has an item that is
abbrev pub moment_reads : List (List Item) → Bool
moment_reads moment = any part_reads moment

abbrev pub unwanted_reads : Option (List (List Item)) → Bool
unwanted_reads None = false
unwanted_reads (Some moment) = moment_reads moment

-- the moment that a step waits for, or the one that must not come before it, has one
abbrev pub step_reads : Option Step → Bool → Bool
step_reads None marked = false
step_reads (Some s) true = moment_reads s.moment
step_reads (Some s) false = unwanted_reads s.without
